use Rattle.std.proofs.Common.{◌≡◌, ℕ, ap, ◌∙◌}
use Rattle.jet_base.specs.ByteHash.{hash_with, mixed}
use Rattle.jet_base.proofs.small_bytes.hash_of.Goals as goal

more : (hash hash' word word' made : ℕ) → made ≡ mixed hash word → hash ≡ hash' → word ≡ word' → made ≡ mixed hash' word'
more hash hash' word word' made e h w = e ∙ (λ i. mixed (h i) (w i))

pub returns : goal.returns
unfolding hash_with
returns c =
    let first = c.mixed-first.ensures ∙ ap (mixed 0) c.word_at.ensures in
    let second = more _ _ _ _ _ c.mixed-second.ensures first c.word_at-2.ensures in
    more _ _ _ _ _ c.mixed.ensures second c.word_at-3.ensures

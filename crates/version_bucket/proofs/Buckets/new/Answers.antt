-- Nothing is held.
use Rattle.std.proofs.Common.{◌≡◌, List, [], refl, sym, subst, arith}
use Rattle.version_bucket.specs.Held.{Keeps}
use Rattle.version_bucket.specs.declared.held.Held.{Held}
use Rattle.version_bucket.specs.declared.Place.{Place}
use Rattle.version_bucket.proofs.Buckets.new.Goals as goal

pub invariant_of-result : goal.invariant_of-result
invariant_of-result c =
    let none : Keeps 0 0 0 [] [] = record { start = 0; places_in = []; pieces_in = []; are_places = refl; holds = tt; words = 0; is_words = refl; is_room = refl; is_freed = omega arith; fits = omega arith } in
    let places : c.new.result.items ≡ [] = c.new.ensures.items in let held : c.new-2.result.items ≡ [] = c.new-2.ensures.items in
    subst (λ (qs : List Place). Keeps 0 0 0 qs c.new-2.result.items) (sym places) (subst (λ (hs : List Held). Keeps 0 0 0 [] hs) (sym held) none)

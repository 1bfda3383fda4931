use Rattle.std.proofs.Common.{ℕ, length, ap, ◌∙◌}
use Rattle.std.specs.Prelude.{nat_lt}
use Rattle.std.proofs.lemmas.List.Filters.{dedup_is}
use Rattle.index_derive.proofs.DoubleKeys.{fewer_once}
use Rattle.index_derive.proofs.doubles.has_double.Goals as goal

pub returns : goal.returns
returns c =
    let once = fewer_once c.args.keys.items c.sort_unstable.new.self.items c.dedup.new.self.items c.sort_unstable.ensures.permutation c.sort_unstable.ensures.sorted (dedup_is _ _ _ c.dedup.ensures.filtered) in
    ap (λ (n : ℕ). nat_lt n c.len-count.result) (c.len.ensures ∙ c.dedup.new.self.ok.0)
    ∙ ap (λ (n : ℕ). nat_lt (length c.dedup.new.self.items) n) (c.len-count.ensures ∙ c.args.keys.ok.0)
    ∙ once

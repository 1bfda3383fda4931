use Rattle.std.proofs.Common.{◌≡◌, ◌+◌, ◌≤◌, ℕ, List, length, ap, arith}
use Rattle.common_lemmas.proofs.Booleans.{impossible}
use Rattle.variant_trees.proofs.rewriting.copy_row.Goals as goal

within : (n m : ℕ) → n ≡ 0 → m ≤ 1700 → n + m ≤ 1700
within n m none low = omega arith

pub unreachable-requires : goal.unreachable-requires
unreachable-requires c =
    let none : length c.clear.new.self.items ≡ 0 = ap (λ (items : List ℕ). length items) c.clear.ensures in
    impossible (c.in-Err.ensures.variant.1 (within (length c.clear.new.self.items) (length c.args.row.now) none c.requires))

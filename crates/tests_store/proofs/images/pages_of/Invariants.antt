use Rattle.std.proofs.Common.{◌≡◌, ℕ, length}
use Rattle.checkpoint.specs.Shape.{HasOwnNumber}
use Rattle.tests_store.proofs.images.pages_of.Given as goal

abbrev pub invariant-loop-number : goal.invariant-loop-number
invariant-loop-number l = record {
  count : length l.pages.items ≡ l.number;
  own : (p : ℕ) → HasOwnNumber l.pages.items p;
}

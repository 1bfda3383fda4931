use Rattle.std.proofs.Common.{◌≡◌, ◌-◌, ℕ, Bool, List}
use Rattle.log_record.specs.EntryCuts.{pairs_cut}
use Rattle.log_record.proofs.schemas.skip_pairs.Given as goal

abbrev pub invariant-loop-index : goal.invariant-loop-index
invariant-loop-index l = (test : List ℕ → ℕ → Bool) → pairs_cut (l.count - l.index) test l.rest l.left ≡ pairs_cut l.count test l.bytes l.missing

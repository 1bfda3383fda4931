use Rattle.std.proofs.Common.{◌≡◌, ◌-◌}
use Rattle.log_record.specs.EntryCuts.{values_cut}
use Rattle.log_record.proofs.records.may_be_values.Given as goal

abbrev pub invariant-loop-index : goal.invariant-loop-index
invariant-loop-index l = values_cut (l.count - l.index) l.least l.rest l.left ≡ values_cut l.count 0 l.bytes l.missing

use Rattle.std.proofs.Common.{◌≡◌, take, true}
use Rattle.column_set.specs.Rows.{is_all_here}
use Rattle.column_set.proofs.encoding_records.is_all_here.Given as goal

abbrev pub invariant-loop-field : goal.invariant-loop-field
invariant-loop-field l = is_all_here (take l.field-index l.field-items) ≡ true

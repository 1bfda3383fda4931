use Rattle.std.proofs.Common.{◌≡◌, ◌-◌, ◌^◌, take, min}
use Rattle.column_set.specs.RecordValues.{record_size, remove_by_number}
use Rattle.column_set.proofs.field_list.FieldList.size_anew_but.Given as goal

abbrev pub invariant-loop-field : goal.invariant-loop-field
invariant-loop-field l = l.total ≡ min (record_size (remove_by_number l.column.0 (take l.field-index l.field-items))) (2 ^ 64 - 1)

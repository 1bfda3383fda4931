use Rattle.std.proofs.Common.{◌≡◌, ◌-◌, ◌^◌, take, min}
use Rattle.log_record.specs.EntrySizes.{size_of_fields}
use Rattle.log_record.proofs.spelling.size_of_fields.Given as goal

abbrev pub invariant-loop-field : goal.invariant-loop-field
invariant-loop-field l = l.size ≡ min (size_of_fields (take l.field-index l.fields)) (2 ^ 64 - 1)

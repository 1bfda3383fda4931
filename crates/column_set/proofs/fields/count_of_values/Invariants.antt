use Rattle.std.proofs.Common.{◌≡◌, length, take}
use Rattle.std.specs.Prelude.{sum_by}
use Rattle.column_set.proofs.fields.count_of_values.Given as goal

abbrev pub invariant-loop-field : goal.invariant-loop-field
invariant-loop-field l = l.count ≡ sum_by (λ field. length field.1) (take l.field-index l.fields)

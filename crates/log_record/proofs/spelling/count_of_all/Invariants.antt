use Rattle.std.proofs.Common.{◌≡◌, ◌-◌, ◌^◌, length, take, min}
use Rattle.std.specs.Prelude.{sum_by}
use Rattle.log_record.proofs.spelling.count_of_all.Given as goal

abbrev pub invariant-loop-field : goal.invariant-loop-field
invariant-loop-field l = l.count ≡ min (sum_by (λ field. length field.1) (take l.field-index l.fields)) (2 ^ 64 - 1)

use Rattle.std.proofs.Common.{◌≡◌, take, true}
use Rattle.std.specs.List.{list_all}
use Rattle.log_record.specs.EntrySizes.{field_fits}
use Rattle.log_record.proofs.spelling.fields_fit.Given as goal

abbrev pub invariant-loop-field : goal.invariant-loop-field
invariant-loop-field l = list_all field_fits (take l.field-index l.fields) ≡ true

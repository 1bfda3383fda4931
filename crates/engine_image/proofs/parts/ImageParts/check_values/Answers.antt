use Rattle.std.proofs.Common.{None, Some, sym, ap, ◌∙◌}
use Rattle.std.specs.Prelude.{option_map}
use Rattle.image_contents.specs.ValueFaults.{finding_of}
use Rattle.engine_image.proofs.TableChecks.{values_ready, values_told}
use Rattle.engine_image.proofs.parts.ImageParts.check_values.Goals as goal

pub table-table-requires-clause-place : goal.table-table-requires-clause-place
table-table-requires-clause-place c = c.requires.place

pub table-table-requires-clause-parts : goal.table-table-requires-clause-parts
table-table-requires-clause-parts c = (c.requires.may.image, c.requires.may.are_parts)

pub missing_or_broken_value-requires : goal.missing_or_broken_value-requires
missing_or_broken_value-requires c = values_ready c.requires.may.image c.args.place c.table-table.result (c.table-table.ensures c.requires.may.image c.requires.may.are_parts)

pub returns-in-Ok-None : goal.returns-in-Ok-None
returns-in-Ok-None c image is =
    sym
    (values_told image c.args.place c.table-table.result c.args.self.now.number None is.number (c.table-table.ensures image is)
    (λ t has. ap (option_map finding_of) (sym c.in-Ok-None.field-0-is) ∙ c.in-Ok-None.ensures t has))

pub returns-in-Ok-Some : goal.returns-in-Ok-Some
returns-in-Ok-Some c image is =
    sym
    (values_told image c.args.place c.table-table.result c.args.self.now.number (Some (finding_of c.in-Ok-Some.value)) is.number (c.table-table.ensures image is)
    (λ t has. ap (option_map finding_of) (sym c.in-Ok-Some.field-0-is) ∙ c.in-Ok-Some.ensures t has))

pub returns-in-Err : goal.returns-in-Err
returns-in-Err c image is = tt

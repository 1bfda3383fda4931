use Rattle.std.proofs.Common.{None, Some, sym, ap, ◌∙◌}
use Rattle.std.specs.Prelude.{option_map}
use Rattle.image_findings.specs.Images.Finding.{Row}
use Rattle.engine_image.specs.Checks.{finding_at}
use Rattle.engine_image.specs.declared.checks.TableCheck.TheVariants as check
use Rattle.engine_image.proofs.FirstOf.{refuses_same}
use Rattle.engine_image.proofs.TableChecks.{rows_ready, rows_told}
use Rattle.engine_image.proofs.parts.ImageParts.check_rows.Goals as goal

pub table-table-requires-clause-place : goal.table-table-requires-clause-place
table-table-requires-clause-place c = c.requires.place

pub table-table-requires-clause-parts : goal.table-table-requires-clause-parts
table-table-requires-clause-parts c = (c.requires.may.image, c.requires.may.are_parts)

pub unsound_row-requires : goal.unsound_row-requires
unsound_row-requires c =
    rows_ready c.tables_without_broken_or_missing_values_have_readable_rows.ensures.finding c.requires.may.image c.args.place c.table-table.result (c.table-table.ensures c.requires.may.image c.requires.may.are_parts)
    (c.requires.may.ready c.requires.may.image c.requires.may.are_parts)

pub returns-in-Ok-None : goal.returns-in-Ok-None
returns-in-Ok-None c image is =
    sym
    (rows_told image c.args.place c.table-table.result c.args.self.now.number None is.number (c.table-table.ensures image is)
    (λ t has same. ap (option_map (λ key. key.now)) (sym c.in-Ok-None.field-0-is) ∙ c.in-Ok-None.ensures t has same))

pub returns-in-Ok-Some : goal.returns-in-Ok-Some
returns-in-Ok-Some c image is =
    refuses_same (Some (Row c.table-table.result.table.now.name c.in-Ok-Some.bookmark.now)) (finding_at check.Rows image c.args.place) c.fault_of_row.result
    (rows_told image c.args.place c.table-table.result c.args.self.now.number (Some c.in-Ok-Some.bookmark.now) is.number (c.table-table.ensures image is)
    (λ t has same. ap (option_map (λ key. key.now)) (sym c.in-Ok-Some.field-0-is) ∙ c.in-Ok-Some.ensures t has same))
    c.fault_of_row.ensures

pub returns-in-Err : goal.returns-in-Err
returns-in-Err c image is = tt

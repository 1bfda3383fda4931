use Rattle.std.proofs.Common.{None, Some, sym, ap, ◌∙◌}
use Rattle.std.specs.Prelude.{option_map}
use Rattle.image_contents.specs.FoundEntries.{finding_in}
use Rattle.engine_image.specs.Checks.{finding_at}
use Rattle.engine_image.specs.declared.checks.TableCheck.TheVariants as check
use Rattle.engine_image.proofs.FirstOf.{refuses_same}
use Rattle.engine_image.proofs.TableChecks.{entries_told, variants_ready}
use Rattle.engine_image.proofs.parts.ImageParts.check_entries.Goals as goal

pub table-table-requires-clause-place : goal.table-table-requires-clause-place
table-table-requires-clause-place c = c.requires.place

pub table-table-requires-clause-parts : goal.table-table-requires-clause-parts
table-table-requires-clause-parts c = (c.requires.may.image, c.requires.may.are_parts)

pub differing_entry-requires-clause-readable : goal.differing_entry-requires-clause-readable
differing_entry-requires-clause-readable c =
    let ready = c.requires.may.ready c.requires.may.image c.requires.may.are_parts in
    variants_ready c.variants_of_a_table_without_a_finding_are_readable.ensures c.requires.may.image c.args.place c.table-table.result (c.table-table.ensures c.requires.may.image c.requires.may.are_parts) ready.0 ready.1 ready.2

pub differing_entry-requires-clause-shown : goal.differing_entry-requires-clause-shown
differing_entry-requires-clause-shown c = let s = c.table-table.ensures c.requires.may.image c.requires.may.are_parts in (s.t, s.shown)

pub returns-in-Ok-None : goal.returns-in-Ok-None
returns-in-Ok-None c image is =
    sym
    (entries_told image c.args.place c.table-table.result None (c.table-table.ensures image is) (λ t shown. ap (option_map (finding_in t.table)) (sym c.in-Ok-None.field-0-is) ∙ c.in-Ok-None.ensures t shown))

pub returns-in-Ok-Some : goal.returns-in-Ok-Some
returns-in-Ok-Some c image is =
    refuses_same (Some (finding_in c.table-table.result.table.now c.in-Ok-Some.entry)) (finding_at check.Entries image c.args.place) c.fault_of_entry.result
    (entries_told image c.args.place c.table-table.result (Some c.in-Ok-Some.entry) (c.table-table.ensures image is) (λ t shown. ap (option_map (finding_in t.table)) (sym c.in-Ok-Some.field-0-is) ∙ c.in-Ok-Some.ensures t shown))
    c.fault_of_entry.ensures

pub returns-in-Err : goal.returns-in-Err
returns-in-Err c image is = tt

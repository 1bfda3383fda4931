use Rattle.std.proofs.Common.{None, Some, sym, ap, ◌∙◌}
use Rattle.std.specs.Prelude.{option_map}
use Rattle.image_live.specs.FoundKeys.{finding_in}
use Rattle.engine_image.specs.Checks.{finding_at}
use Rattle.engine_image.specs.declared.checks.TableCheck.TheVariants as check
use Rattle.engine_image.proofs.FirstOf.{refuses_same}
use Rattle.engine_image.proofs.TableChecks.{changes_ready, keys_told, variants_ready}
use Rattle.engine_image.proofs.parts.ImageParts.check_keys.Goals as goal

pub table-table-requires-clause-place : goal.table-table-requires-clause-place
table-table-requires-clause-place c = c.requires.place

pub table-table-requires-clause-parts : goal.table-table-requires-clause-parts
table-table-requires-clause-parts c = (c.requires.may.image, c.requires.may.are_parts)

pub duplicate_key-requires-clause-readable : goal.duplicate_key-requires-clause-readable
duplicate_key-requires-clause-readable c =
    let ready = c.requires.may.ready c.requires.may.image c.requires.may.are_parts in
    variants_ready c.variants_of_a_table_without_a_finding_are_readable.ensures c.requires.may.image c.args.place c.table-table.result (c.table-table.ensures c.requires.may.image c.requires.may.are_parts) ready.0 ready.1 ready.2

pub duplicate_key-requires-clause-changes : goal.duplicate_key-requires-clause-changes
duplicate_key-requires-clause-changes c =
    changes_ready c.requires.may.image c.args.self.now c.args.place c.table-table.result c.requires.may.are_parts (c.table-table.ensures c.requires.may.image c.requires.may.are_parts) (c.requires.may.ready c.requires.may.image c.requires.may.are_parts).1

pub returns-in-Ok-None : goal.returns-in-Ok-None
returns-in-Ok-None c image is =
    sym
    (keys_told image c.args.self.now c.args.place c.table-table.result None is (c.table-table.ensures image is) (c.requires.may.ready image is).1
    (λ kept. ap (option_map (finding_in kept.contents.table)) (sym c.in-Ok-None.field-0-is) ∙ c.in-Ok-None.ensures kept))

pub returns-in-Ok-Some : goal.returns-in-Ok-Some
returns-in-Ok-Some c image is =
    refuses_same (Some (finding_in c.table-table.result.table.now c.in-Ok-Some.duplicate)) (finding_at check.Keys image c.args.place) c.fault_of_key.result
    (keys_told image c.args.self.now c.args.place c.table-table.result (Some c.in-Ok-Some.duplicate) is (c.table-table.ensures image is) (c.requires.may.ready image is).1
    (λ kept. ap (option_map (finding_in kept.contents.table)) (sym c.in-Ok-Some.field-0-is) ∙ c.in-Ok-Some.ensures kept))
    c.fault_of_key.ensures

pub returns-in-Err : goal.returns-in-Err
returns-in-Err c image is = tt

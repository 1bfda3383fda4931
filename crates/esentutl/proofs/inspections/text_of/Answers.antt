use Rattle.std.proofs.Common.{ℕ, sym, subst, ◌∙◌}
use Rattle.tool_dump.specs.DumpTexts.{IsLogText}
use Rattle.esentutl.specs.declared.words.Inspection.{Inspection}
use Rattle.esentutl.specs.Inspections.{IsTextOf}
use Rattle.esentutl.proofs.FoundTexts.{checkpoint_told, for_ok, number_fits}
use Rattle.esentutl.proofs.inspections.text_of.Goals as goal

pub log-requires : goal.log-requires
log-requires c = number_fits c.requires.found.0 c.args.bytes.now c.args.standing.now c.args.database.now c.requires.found.1 c.requires.found.2

pub space_of-requires-clause-holds : goal.space_of-requires-clause-holds
space_of-requires-clause-holds c = (c.requires.found.0, c.args.bytes.now, c.requires.found.2.holds)

pub space_of-requires-clause-room : goal.space_of-requires-clause-room
space_of-requires-clause-room c = c.requires.room

pub returns-in-Header : goal.returns-in-Header
returns-in-Header c =
    for_ok c.header_of.result (λ text told checkpoint stands found. subst (λ (a : Inspection). IsTextOf a checkpoint c.args.bytes.now found.holds.state text.items) (sym c.in-Header.is) (told checkpoint stands c.args.bytes.now found))
    c.header_of.ensures

pub returns-in-Checkpoint : goal.returns-in-Checkpoint
returns-in-Checkpoint c =
    for_ok c.checkpoint.result (λ text is checkpoint stands found. subst (λ (a : Inspection). IsTextOf a checkpoint c.args.bytes.now found.holds.state text.items) (sym c.in-Checkpoint.is)
    (is ∙ checkpoint_told checkpoint c.args.standing.now stands.copy)) c.checkpoint.ensures

pub returns-in-Log : goal.returns-in-Log
returns-in-Log c =
    for_ok c.log.result (λ text is checkpoint stands found. subst (λ (a : Inspection). IsTextOf a checkpoint c.args.bytes.now found.holds.state text.items) (sym c.in-Log.is)
    (subst (λ (n : ℕ). IsLogText n c.args.bytes.now text.items) found.number is)) c.log.ensures

pub returns-in-Space : goal.returns-in-Space
returns-in-Space c =
    for_ok c.space_of.result (λ text told checkpoint stands found. subst (λ (a : Inspection). IsTextOf a checkpoint c.args.bytes.now found.holds.state text.items) (sym c.in-Space.is) (told checkpoint stands c.args.bytes.now found.holds))
    c.space_of.ensures

pub returns-in-Integrity : goal.returns-in-Integrity
returns-in-Integrity c =
    for_ok c.clean_line_of.result (λ text told checkpoint stands found. subst (λ (a : Inspection). IsTextOf a checkpoint c.args.bytes.now found.holds.state text.items) (sym c.in-Integrity.is) (told checkpoint c.args.bytes.now found.holds))
    c.clean_line_of.ensures

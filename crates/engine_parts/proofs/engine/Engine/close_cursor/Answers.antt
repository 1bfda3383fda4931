use Rattle.std.proofs.Common.{◌≡◌, None, false, sym, ap, subst, ◌∙◌}
use Rattle.index_derive.specs.declared.log.EntryKind.TheVariants as entry
use Rattle.index_derive.specs.declared.log.Step.{Step}
use Rattle.cursor_nav.specs.Navigation.{CursorState}
use Rattle.session_local.specs.declared.request.Request.TheVariants as call
use Rattle.engine_parts.specs.Deciding.{Decides, IsDecision}
use Rattle.engine_parts.proofs.CursorCallsClosed.{close_table-done, close_table-lawful, shut-as}
use Rattle.laws_engine.proofs.EngineLemmas.Decisions.{stepped_with, one_by}
use Rattle.engine_parts.proofs.engine.Engine.close_cursor.Goals as goal

pub returns-clause-answer : goal.returns-clause-answer
returns-clause-answer c =
    let engine = c.args.self.now in
    let side = c.args.local.now in
    let found = c.in-Some.found.now in
    let step = shut-as c.one.result c.session.result c.table-table.result side.session found.cursor.table c.one.ensures c.session.ensures (c.table-table.ensures ∙ ap (λ (s : CursorState). s.table) c.cursor-2.ensures) in
    let decision : c.done.result ≡ stepped_with (one_by side.session (entry.Shut (record { 0 = found.cursor.table }))) None false = c.done.ensures ∙ ap (λ (s : Step). stepped_with s None false) step in
    subst (Decides engine side (call.CloseTable c.args.cursor) side) (sym decision) (close_table-done engine side c.args.cursor found c.requires.shared c.in-Some.ensures)

pub returns-clause-decided : goal.returns-clause-decided
returns-clause-decided c =
    let engine = c.args.self.now in
    let side = c.args.local.now in
    let found = c.in-Some.found.now in
    let step = shut-as c.one.result c.session.result c.table-table.result side.session found.cursor.table c.one.ensures c.session.ensures (c.table-table.ensures ∙ ap (λ (s : CursorState). s.table) c.cursor-2.ensures) in
    let decision : c.done.result ≡ stepped_with (one_by side.session (entry.Shut (record { 0 = found.cursor.table }))) None false = c.done.ensures ∙ ap (λ (s : Step). stepped_with s None false) step in
    subst (IsDecision engine side (call.CloseTable c.args.cursor) side) (sym decision)
    (close_table-lawful c.the_step_of_a_close_is_lawful.ensures engine side c.args.cursor found c.requires.shared c.in-Some.ensures)

use Rattle.std.proofs.Common.{◌≡◌, ℕ, List, length, option_map, sym, ap, subst, ◌∙◌, arith}
use Rattle.jet_base.specs.declared.ids.CursorId.{CursorId}
use Rattle.jet_catalog.specs.Catalog.{without_rows}
use Rattle.database_state.specs.Table.{table_named}
use Rattle.session_local.specs.declared.decision.Decision.{Decision}
use Rattle.session_local.specs.declared.request.Request.TheVariants as call
use Rattle.session_local.specs.SessionSide.{SessionSide}
use Rattle.stored_variants.specs.StoredVersions.{StoredVersions}
use Rattle.laws_engine.specs.EngineState.{EngineState}
use Rattle.engine_parts.specs.Deciding.{Decides, IsDecision}
use Rattle.engine_parts.specs.Parts.{tables_of}
use Rattle.engine_parts.proofs.CursorCallsOpened.{open_table-full, open_table-unknown, open_table-late, open_table-done, open_table-lawful, opened-as}
use Rattle.engine_parts.proofs.engine.Engine.open_cursor.Goals as goal

abbrev Answers : EngineState → SessionSide → CursorId → List ℕ → Decision → Type 0
Answers engine side cursor name decision = Decides engine side (call.OpenTable cursor name) side decision

same_found : (text name : List ℕ) (tables stored : StoredVersions) → text ≡ name → tables ≡ stored → option_map without_rows (table_named tables.store.tables text) ≡ option_map without_rows (table_named stored.store.tables name)
same_found text name tables stored same held =
    ap (λ n. option_map without_rows (table_named tables.store.tables n)) same ∙ ap (λ (v : StoredVersions). option_map without_rows (table_named v.store.tables name)) held

pub returns-then-cursors-ge-MOST_CURSORS-clause-answer :
    goal.returns-then-cursors-ge-MOST_CURSORS-clause-answer
returns-then-cursors-ge-MOST_CURSORS-clause-answer c =
    subst (Answers c.args.self.now c.args.local.now c.args.cursor c.args.table.now) (sym c.refused.ensures)
    (open_table-full c.args.self.now c.args.local.now c.args.cursor c.args.table.now c.requires.shared (omega (arith, ap length c.cursors.ensures.cursors, c.if-cursors-ge-MOST_CURSORS.true)))

pub returns-in_default-clause-answer : goal.returns-in_default-clause-answer
returns-in_default-clause-answer c =
    subst (Answers c.args.self.now c.args.local.now c.args.cursor c.args.table.now) (sym c.refused-in_default.ensures)
    (open_table-unknown c.args.self.now c.args.local.now c.args.cursor c.args.table.now c.requires.shared (omega (arith, ap length c.cursors.ensures.cursors, c.if-cursors-ge-MOST_CURSORS.false))
    (c.in_default.ensures ∙ same_found c.as_bytes.result.now c.args.table.now c.self.inside.tables (tables_of c.args.self.now) c.as_bytes.ensures (ap tables_of c.self.view_is)))

pub returns-then-self-ge-LOG_LIMIT-clause-answer :
    goal.returns-then-self-ge-LOG_LIMIT-clause-answer
returns-then-self-ge-LOG_LIMIT-clause-answer c =
    subst (Answers c.args.self.now c.args.local.now c.args.cursor c.args.table.now) (sym c.refused-then-self-ge-LOG_LIMIT.ensures)
    (open_table-late c.args.self.now c.args.local.now c.args.cursor c.args.table.now c.in-Some.found.now c.requires.shared (omega (arith, ap length c.cursors.ensures.cursors, c.if-cursors-ge-MOST_CURSORS.false))
    (c.in-Some.ensures ∙ same_found c.as_bytes.result.now c.args.table.now c.self.inside.tables (tables_of c.args.self.now) c.as_bytes.ensures (ap tables_of c.self.view_is)) (omega (arith, ap (λ (e : EngineState). e.number) c.self.view_is, c.if-self-ge-LOG_LIMIT.true)))

pub returns-in-Ok-clause-answer : goal.returns-in-Ok-clause-answer
returns-in-Ok-clause-answer c =
    subst (Answers c.args.self.now c.args.local.now c.args.cursor c.args.table.now)
    (sym (opened-as c.opened.result c.session.result c.id.result c.in-Ok.schema c.args.local.now.session c.in-Some.found.now
    c.opened.ensures c.session.ensures c.id.ensures (c.in-Ok.ensures ∙ c.schema.ensures)))
    (open_table-done c.args.self.now c.args.local.now c.args.cursor c.args.table.now c.in-Some.found.now c.requires.shared (omega (arith, ap length c.cursors.ensures.cursors, c.if-cursors-ge-MOST_CURSORS.false))
    (c.in-Some.ensures ∙ same_found c.as_bytes.result.now c.args.table.now c.self.inside.tables (tables_of c.args.self.now) c.as_bytes.ensures (ap tables_of c.self.view_is))
    (omega (arith, ap (λ (e : EngineState). e.number) c.self.view_is, c.if-self-ge-LOG_LIMIT.false)))

pub returns-in-Ok-clause-decided : goal.returns-in-Ok-clause-decided
returns-in-Ok-clause-decided c =
    subst (IsDecision c.args.self.now c.args.local.now (call.OpenTable c.args.cursor c.args.table.now) c.args.local.now)
    (sym (opened-as c.opened.result c.session.result c.id.result c.in-Ok.schema c.args.local.now.session c.in-Some.found.now
    c.opened.ensures c.session.ensures c.id.ensures (c.in-Ok.ensures ∙ c.schema.ensures)))
    (open_table-lawful c.the_step_of_an_open_is_lawful.ensures c.args.self.now c.args.local.now c.args.cursor c.args.table.now c.in-Some.found.now c.requires.shared (omega (arith, ap length c.cursors.ensures.cursors, c.if-cursors-ge-MOST_CURSORS.false))
    (c.in-Some.ensures ∙ same_found c.as_bytes.result.now c.args.table.now c.self.inside.tables (tables_of c.args.self.now) c.as_bytes.ensures (ap tables_of c.self.view_is))
    (omega (arith, ap (λ (e : EngineState). e.number) c.self.view_is, c.if-self-ge-LOG_LIMIT.false)))

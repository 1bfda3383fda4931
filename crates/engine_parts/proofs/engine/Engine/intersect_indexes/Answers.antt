use Rattle.std.proofs.Common.{◌≡◌, List, length, Ok, Err, sym, ap, subst, arith}
use Rattle.jet_base.specs.declared.ids.CursorId.{CursorId}
use Rattle.session_local.specs.declared.decision.Decision.{Decision}
use Rattle.session_local.specs.declared.request.Request.TheVariants as call
use Rattle.session_local.specs.IntersectCalls.{table_of_bookmarks}
use Rattle.session_local.specs.SessionSide.{SessionSide}
use Rattle.stored_variants.specs.StoredVersions.{StoredVersions}
use Rattle.laws_engine.specs.EngineState.{EngineState}
use Rattle.engine_parts.specs.Deciding.{Decides, IsDecision}
use Rattle.engine_parts.specs.Intersecting.{filled_decision}
use Rattle.engine_parts.proofs.Intersections.{common-viewed, decision-filled, if_ok, intersect-filled, intersect-full, intersect-refused}
use Rattle.engine_parts.proofs.engine.Engine.intersect_indexes.Goals as goal

abbrev Answers : EngineState → SessionSide → CursorId → List CursorId → Decision → Type 0
Answers engine side temp cursors decision = Decides engine side (call.IntersectIndexes temp cursors) side decision

pub returns-then-open_temps-ge-MOST_TEMPS-clause-answer : goal.returns-then-open_temps-ge-MOST_TEMPS-clause-answer
returns-then-open_temps-ge-MOST_TEMPS-clause-answer c =
    subst (Answers c.args.self.now c.args.local.now c.args.temp c.args.cursors.now) (sym c.refused.ensures)
    (intersect-full c.args.self.now c.args.local.now c.args.temp c.args.cursors.now c.requires.shared (omega (arith, c.open_temps.ensures, c.if-open_temps-ge-MOST_TEMPS.true)))

pub returns-in-Ok-Err-clause-answer : goal.returns-in-Ok-Err-clause-answer
returns-in-Ok-Err-clause-answer c =
    let engine = c.args.self.now in
    let side = c.args.local.now in
    let store = c.view-view.result.tables.now.store in
    let reader = c.view-view.result.reader in
    let told = rw c.in-Ok-Err.field-0-is at c.in-Ok-Err.ensures in
    subst (Answers engine side c.args.temp c.args.cursors.now) (sym c.refused-in-Ok-Err.ensures)
    (intersect-refused (record { entries = c.a_session_reads_its_view.ensures.entries; records = c.a_session_reads_its_view.ensures.records }) engine side c.args.temp c.args.cursors.now c.in-Ok-Err.jet c.requires.shared
    (omega (arith, c.open_temps.ensures, c.if-open_temps-ge-MOST_TEMPS.false))
    (common-viewed engine store reader side c.args.cursors.now c.as_slice.result.now (Err c.in-Ok-Err.jet) (ap (λ (v : StoredVersions). v.store) c.view-view.ensures.tables) c.view-view.ensures.reader c.as_slice.ensures told))

pub returns-in-Ok-Ok-clause-answer : goal.returns-in-Ok-Ok-clause-answer
returns-in-Ok-Ok-clause-answer c =
    let engine = c.args.self.now in
    let side = c.args.local.now in
    let store = c.view-view.result.tables.now.store in
    let reader = c.view-view.result.reader in
    let bookmarks = c.in-Ok-Ok.bookmarks.items in
    let told = rw c.in-Ok-Ok.field-0-is at c.in-Ok-Ok.ensures in
    if_ok c.filled.result (λ (decision : Decision). decision ≡ filled_decision (table_of_bookmarks bookmarks) (length bookmarks)) (Answers engine side c.args.temp c.args.cursors.now)
    (λ (decision : Decision) e. subst (Answers engine side c.args.temp c.args.cursors.now) (sym e)
    (intersect-filled (record { entries = c.a_session_reads_its_view.ensures.entries; records = c.a_session_reads_its_view.ensures.records }) engine side c.args.temp c.args.cursors.now bookmarks c.requires.shared
    (omega (arith, c.open_temps.ensures, c.if-open_temps-ge-MOST_TEMPS.false))
    (common-viewed engine store reader side c.args.cursors.now c.as_slice.result.now (Ok bookmarks) (ap (λ (v : StoredVersions). v.store) c.view-view.ensures.tables) c.view-view.ensures.reader c.as_slice.ensures told)))
    c.filled.ensures

pub returns-in-Ok-Ok-clause-decided : goal.returns-in-Ok-Ok-clause-decided
returns-in-Ok-Ok-clause-decided c =
    let engine = c.args.self.now in
    let side = c.args.local.now in
    let bookmarks = c.in-Ok-Ok.bookmarks.items in
    if_ok c.filled.result (λ (decision : Decision). decision ≡ filled_decision (table_of_bookmarks bookmarks) (length bookmarks)) (IsDecision engine side (call.IntersectIndexes c.args.temp c.args.cursors.now) side)
    (λ (decision : Decision) e. subst (IsDecision engine side (call.IntersectIndexes c.args.temp c.args.cursors.now) side) (sym e) (decision-filled engine side c.args.temp c.args.cursors.now (table_of_bookmarks bookmarks) (length bookmarks)))
    c.filled.ensures

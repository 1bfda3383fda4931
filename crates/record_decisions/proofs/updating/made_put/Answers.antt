use Rattle.std.proofs.Common.{◌≤◌, sym, ap, subst}
use Rattle.std.specs.Prelude.{length}
use Rattle.session_local.specs.Preparing.{update_of}
use Rattle.stored_variants.specs.StoredVersions.{StoredVersions}
use Rattle.record_decisions.specs.Updating.{HasLegalRules, IsSchemaOf, bookmark_by}
use Rattle.record_decisions.proofs.PutSteps.{made-prepared, made-short, made-unprepared, rules-legal}
use Rattle.record_decisions.proofs.updating.made_put.Goals as goal
use Rattle.record_decisions.proofs.updating.made_put.Goals.{After-session}

-- the schema of the cursor
named : (c : After-session) → IsSchemaOf c.args.engine.now c.in-Some.found.now.cursor.table c.in-Some.found.now.schema
named c =
    let beside = c.requires.beside in
    let side = c.args.local.now in
    c.schemas_are_those_of_tables.ensures c.args.engine.now beside.held.state side.session side.state c.args.cursor.0 c.in-Some.found.now beside.held.holds beside.held.in_step c.in-Some.ensures

legal : (c : After-session) → HasLegalRules c.in-Some.found.now.schema
legal c =
    let found = c.in-Some.found.now in
    rules-legal c.args.engine.now c.tables.result.now.store found.cursor.table found.schema (ap (λ (tables : StoredVersions). tables.store) c.tables.ensures) c.rules_are_legal.ensures.found c.rules_are_legal.ensures.legal (named c)

pub put_or_refusal-requires-clause-named : goal.put_or_refusal-requires-clause-named
put_or_refusal-requires-clause-named c = named c

pub put_or_refusal-requires-clause-rules : goal.put_or_refusal-requires-clause-rules
put_or_refusal-requires-clause-rules c = legal c

pub returns-in-Some-prepared-clause-made : goal.returns-in-Some-prepared-clause-made
returns-in-Some-prepared-clause-made c =
    made-prepared c.args.engine.now c.args.local.now.session c.session.result.0 _ c.in-Some.found.now _ c.put_or_refusal.result c.in-Some.ensures c.in-Some-prepared.ensures.0 c.session.ensures c.put_or_refusal.ensures

pub returns-in-Some-prepared-clause-short : goal.returns-in-Some-prepared-clause-short
returns-in-Some-prepared-clause-short c =
    let beside = c.requires.beside in
    let side = c.args.local.now in
    let found = c.in-Some.found.now in
    let update = update_of c.in-Some-prepared.prepared.now in
    made-short c.args.engine.now c.session.result.0 found update c.put_or_refusal.result c.put_or_refusal.ensures
    (λ same. subst (λ n. length (bookmark_by c.args.engine.now n found.schema update.for update.values) ≤ 255) (sym c.session.ensures)
    (c.bookmarks_are_short.ensures c.args.engine.now beside.held.state side.session side.state c.args.cursor.0 found update beside.held.holds beside.held.in_step c.in-Some.ensures c.in-Some-prepared.ensures.0 (legal (goal.at.returns-in-Some-prepared-clause-short c).After-session) same))

pub returns-in-None-clause-made : goal.returns-in-None-clause-made
returns-in-None-clause-made c = made-unprepared c.args.engine.now c.args.local.now.session _ c.in-Some.found.now c.in-Some.ensures c.in-None.ensures

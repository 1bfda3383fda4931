use Rattle.std.proofs.Common.{◌≡◌, ℕ, sym, subst}
use Rattle.std.specs.Prelude.{Result, Ok, Err, OnOk}
use Rattle.index_derive.specs.declared.log.EntryKind.{EntryKind}
use Rattle.index_derive.specs.declared.log.EntryKind.TheVariants as entry
use Rattle.laws_engine.specs.EngineSteps.{effect_on}
use Rattle.engine_core.specs.Steps.{MayCome}
use Rattle.engine_core.proofs.applying.apply_entry.Goals as goal
use Rattle.database_state.specs.Step.{entry_by}

pub enter-requires-clause-few : goal.enter-requires-clause-few
enter-requires-clause-few c =
    c.lawful_entries_fit_the_sessions.ensures.few c.args.engine.now c.args.session.0
    (subst (λ (kind : EntryKind). MayCome c.args.engine.now (entry_by c.args.session.0 kind)) c.in-Enter.is c.requires.lawful)

pub change-requires-clause-newest : goal.change-requires-clause-newest
change-requires-clause-newest c = c.requires.lawful.holds.newest

pub change-requires-clause-can : goal.change-requires-clause-can
change-requires-clause-can c =
    c.lawful_changes_can_be_made.ensures c.args.engine.now c.args.session.0 c.in-Change.made
    (subst (λ (kind : EntryKind). MayCome c.args.engine.now (entry_by c.args.session.0 kind)) c.in-Change.is c.requires.lawful) c.changes_are_formed.ensures

pub make-requires-clause-can : goal.make-requires-clause-can
make-requires-clause-can c =
    c.lawful_schema_steps_can_be_made.ensures c.args.engine.now c.args.session.0 c.in-Schema.made
    (subst (λ (kind : EntryKind). MayCome c.args.engine.now (entry_by c.args.session.0 kind)) c.in-Schema.is c.requires.lawful) c.numbers_fit_their_types.ensures

-- a schema step does the same for every session
of_session : {X E : Type 0} (result : Result X E) (A : ℕ → Type 0) (session : ℕ) → OnOk result ((session : ℕ) → A session) → OnOk result (A session)
of_session (Ok x) A session f = f session
of_session (Err e) A session f = tt

pub returns-in-Schema-clause-done : goal.returns-in-Schema-clause-done
returns-in-Schema-clause-done c =
    subst (λ (kind : EntryKind). OnOk c.make.result (c.make.new.engine ≡ effect_on c.args.engine.now c.args.session.0 kind)) (sym c.in-Schema.is)
    (of_session c.make.result (λ session. c.make.new.engine ≡ effect_on c.args.engine.now session (entry.Schema c.in-Schema.made)) c.args.session.0 c.make.ensures.done)

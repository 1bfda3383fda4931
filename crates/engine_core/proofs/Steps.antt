-- What a step leaves to end.
use Rattle.std.proofs.Common.{◌≡◌, ℕ, ◌+◌, ◌≤◌, Bool, true, false, List, Some, refl, subst, arith}
use Rattle.index_derive.specs.declared.log.Entry.{Entry}
use Rattle.index_derive.specs.declared.log.EntryKind.TheVariants as entry
use Rattle.index_derive.specs.declared.log.Step.{Step}
use Rattle.index_derive.specs.declared.log.Step.TheVariants.{One, Alone}
use Rattle.index_derive.specs.Steps.{entries_of_step}
use Rattle.database_state.specs.State.{DatabaseState}
use Rattle.database_state.specs.Step.{state_after}
use Rattle.database_state.specs.Lawful.{is_lawful}
use Rattle.version_cleanup.specs.LiveSessions.{LiveState}
use Rattle.laws_engine.specs.EntryTypes.{AreOfTheirTypes}
use Rattle.laws_engine.specs.LawfulSteps.{AreLawful}
use Rattle.session_local.specs.BuiltTables.{AllMakeBuilt}
use Rattle.laws_engine.specs.EngineState.{EngineState}
use Rattle.laws_engine.specs.EngineSteps.{cleaned_for, cleans_first, engine_after, engine_after_step}
use Rattle.laws_engine.specs.HoldsState.{HoldsState}
use Rattle.laws_engine.proofs.EngineLemmas.Cleans.{CleanHolds, clean_for_holds}
use Rattle.laws_engine.proofs.EngineLemmas.Room.{EntryHolds}
use Rattle.loggable_steps.specs.Loggable.{made_by}
use Rattle.loggable_steps.proofs.Spelled.{kind_of}
use Rattle.engine_core.specs.Ends.{Follows, begun_bytes, end_bytes, ended_bytes}
use Rattle.laws_engine.proofs.EngineLemmas.SessionTotals.{rise_told}
use Rattle.engine_core.proofs.Ends.{entry_keeps}
use Rattle.engine_core.proofs.Follows.{between, kind_follows}

pub same_sessions : (b : Bool) (engine : EngineState) → end_bytes (cleaned_for b engine).sessions ≡ end_bytes engine.sessions
same_sessions true engine = refl
same_sessions false engine = refl

together : (d b e0 e1 e2 e3 : ℕ) → 0 + e1 ≤ e0 + 9 → d + e2 ≤ e1 + b → 9 + e3 ≤ e2 + 0 → d + e3 ≤ e0 + b
together d b e0 e1 e2 e3 p q r = omega (arith, p, q, r)

pub step_keeps : EntryHolds → CleanHolds → (engine : EngineState) (state : DatabaseState) (step : Step) → HoldsState engine state → AreLawful state (entries_of_step (Some step)) → AllMakeBuilt (entries_of_step (Some step)) → AreOfTheirTypes (entries_of_step (Some step))
    → ended_bytes (made_by step).kind + end_bytes (engine_after_step engine step).sessions ≤ end_bytes engine.sessions + begun_bytes (made_by step).kind
step_keeps holds cleans engine state (One made) h lawful built typed =
    let first = cleaned_for (cleans_first made.kind) engine in
    let held : HoldsState first state = clean_for_holds cleans (cleans_first made.kind) engine state h in
    subst (λ (n : ℕ). ended_bytes made.kind + end_bytes (engine_after first made).sessions ≤ n + begun_bytes made.kind) (same_sessions (cleans_first made.kind) engine) (entry_keeps first state made held lawful.0)
step_keeps holds cleans engine state (Alone made) h lawful built typed =
    let first = cleaned_for (cleans_first made.kind) engine in
    let begin : Entry = record { session = made.session; kind = entry.Begin } in
    let commit : Entry = record { session = made.session; kind = entry.Commit } in
    let second = engine_after first begin in
    let third = engine_after second made in
    let held : HoldsState first state = clean_for_holds cleans (cleans_first made.kind) engine state h in
    let held_second : HoldsState second (state_after state begin) = holds first state begin held lawful.0 built.0 typed.0 in
    let held_third : HoldsState third (state_after (state_after state begin) made) = holds second (state_after state begin) made held_second lawful.1.0 built.1.0 typed.1.0 in
    subst (λ (n : ℕ). ended_bytes made.kind + end_bytes (engine_after third commit).sessions ≤ n + begun_bytes made.kind) (same_sessions (cleans_first made.kind) engine)
    (together (ended_bytes made.kind) (begun_bytes made.kind) (end_bytes first.sessions) (end_bytes second.sessions) (end_bytes third.sessions) (end_bytes (engine_after third commit).sessions)
    (entry_keeps first state begin held lawful.0) (entry_keeps second (state_after state begin) made held_second lawful.1.0) (entry_keeps third (state_after (state_after state begin) made) commit held_third lawful.1.1.0))

-- ---- of each session

entry_follows : (engine : EngineState) (state : DatabaseState) (made : Entry) → HoldsState engine state → is_lawful state made ≡ true → Follows made.session.0 made.kind engine.sessions (engine_after engine made).sessions
entry_follows engine state made h e = kind_follows engine state made.session.0 made.kind h (kind_of state made e) (rise_told engine state h)

cleaned_sessions : (b : Bool) (engine : EngineState) → (cleaned_for b engine).sessions ≡ engine.sessions
cleaned_sessions true engine = refl
cleaned_sessions false engine = refl

pub step_follows : EntryHolds → CleanHolds → (engine : EngineState) (state : DatabaseState) (step : Step) → HoldsState engine state → AreLawful state (entries_of_step (Some step)) → AllMakeBuilt (entries_of_step (Some step)) → AreOfTheirTypes (entries_of_step (Some step))
    → Follows (made_by step).session.0 (made_by step).kind engine.sessions (engine_after_step engine step).sessions
step_follows holds cleans engine state (One made) h lawful built typed =
    let first = cleaned_for (cleans_first made.kind) engine in
    let held : HoldsState first state = clean_for_holds cleans (cleans_first made.kind) engine state h in
    subst (λ (sessions : List LiveState). Follows made.session.0 made.kind sessions (engine_after first made).sessions) (cleaned_sessions (cleans_first made.kind) engine) (entry_follows first state made held lawful.0)
step_follows holds cleans engine state (Alone made) h lawful built typed =
    let first = cleaned_for (cleans_first made.kind) engine in
    let begin : Entry = record { session = made.session; kind = entry.Begin } in
    let commit : Entry = record { session = made.session; kind = entry.Commit } in
    let second = engine_after first begin in
    let third = engine_after second made in
    let held : HoldsState first state = clean_for_holds cleans (cleans_first made.kind) engine state h in
    let held_second : HoldsState second (state_after state begin) = holds first state begin held lawful.0 built.0 typed.0 in
    let held_third : HoldsState third (state_after (state_after state begin) made) = holds second (state_after state begin) made held_second lawful.1.0 built.1.0 typed.1.0 in
    subst (λ (sessions : List LiveState). Follows made.session.0 made.kind sessions (engine_after third commit).sessions) (cleaned_sessions (cleans_first made.kind) engine)
    (between made.session.0 made.kind first.sessions second.sessions third.sessions (engine_after third commit).sessions
    (entry_follows first state begin held lawful.0) (entry_follows second (state_after state begin) made held_second lawful.1.0) (entry_follows third (state_after (state_after state begin) made) commit held_third lawful.1.1.0))

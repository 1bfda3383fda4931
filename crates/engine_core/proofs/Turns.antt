-- Entries that come one after the other, and a begin that is taken back.
use Rattle.std.proofs.Common.{◌≡◌, ℕ, ◌+◌, ◌-◌, ◌<◌, Bool, true, false, cond, List, [], ◌∷◌, map, Option, Some, None, refl, sym, ap, subst, ◌∙◌, arith}
use Rattle.std.specs.Prelude.{◌==◌, find, option_and_then, option_map}
use Rattle.std.specs.List.{AllByRecursion}
use Rattle.std.proofs.lemmas.Bool.Decides.{nat_tests}
use Rattle.std.proofs.lemmas.Bool.{eqb-true}
use Rattle.common_lemmas.proofs.Booleans.{and_right}
use Rattle.index_derive.specs.declared.log.Entry.{Entry}
use Rattle.index_derive.specs.declared.log.EntryKind.{EntryKind}
use Rattle.index_derive.specs.declared.log.EntryKind.TheVariants as entry
use Rattle.index_derive.specs.declared.log.Step.{Step}
use Rattle.index_derive.specs.declared.log.Step.TheVariants.{Alone}
use Rattle.database_state.specs.State.{DatabaseState, LiveSession, levels}
use Rattle.database_state.specs.Step.{entry_by, state_after}
use Rattle.database_state.specs.Lawful.{is_lawful, is_live as is_live_in}
use Rattle.session_local.specs.Local.{LocalState}
use Rattle.laws_versions.specs.History.{EachTwo, LabelsRise}
use Rattle.laws_versions.proofs.HistoryLemmas.LawfulEntries.{outside}
use Rattle.version_cleanup.specs.declared.live.Transaction.{Transaction}
use Rattle.version_cleanup.specs.LiveSessions.{LiveState, began, ended, live_state, with_session, without_snapshot}
use Rattle.laws_engine.specs.EngineState.{EngineState, HasRoomForEnds}
use Rattle.laws_engine.specs.EngineSteps.{cleaned_for, effect_on, engine_after, step_cleans}
use Rattle.laws_engine.specs.HoldsState.{HoldsAllInStep, HoldsState}
use Rattle.laws_engine.proofs.EngineLemmas.Cleans.{CleanHolds, clean_for_holds}
use Rattle.laws_engine.proofs.EngineLemmas.Room.{EntryHolds}
use Rattle.engine_core.specs.Steps.{MayCome, MayTake, begin_taken_back}
use Rattle.engine_core.proofs.Fitting.{lawful_by_kind}

-- ---- the sessions after a begin that is taken back

abbrev one : ℕ → (LiveState → LiveState) → LiveState → LiveState
one label change x = cond (x.label == label) (change x) x

pub apart : (a b : ℕ) → b < a → (a == b) ≡ false
apart a b lt = grind (arith, nat_tests)

-- what has other labels stays
untouched : (label : ℕ) (change : LiveState → LiveState) (sessions : List LiveSession) → AllByRecursion (λ s. label < s.label) sessions → with_session label change (map live_state sessions) ≡ map live_state sessions
untouched label change [] h = refl
untouched label change (s ∷ sessions) h = λ i. cond (apart s.label label h.0 i) (change (live_state s)) (live_state s) ∷ untouched label change sessions h.1 i

twice_untouched : (label number : ℕ) (sessions : List LiveSession) → AllByRecursion (λ s. label < s.label) sessions → with_session label ended (with_session label (began number) (map live_state sessions)) ≡ map live_state sessions
twice_untouched label number sessions h = ap (with_session label ended) (untouched label (began number) sessions h) ∙ untouched label ended sessions h

-- its own session, which had no transaction
own_back : (label number : ℕ) (x : LiveState) → (x.label == label) ≡ true → x.transaction ≡ None → one label ended (one label (began number) x) ≡ x
own_back label number x e none =
    ap (λ (b : Bool). one label ended (cond b (began number x) x)) e
    ∙ ap (λ (b : Bool). cond b (ended (began number x)) (began number x)) e
    ∙ ap (λ (t : Option Transaction). record x { transaction = t }) (sym none)

other_back : (label number : ℕ) (x : LiveState) → (x.label == label) ≡ false → one label ended (one label (began number) x) ≡ x
other_back label number x e = ap (λ (b : Bool). one label ended (cond b (began number x) x)) e ∙ ap (λ (b : Bool). cond b (ended x) x) e

taken_back : (label number : ℕ) (sessions : List LiveSession) → EachTwo LabelsRise sessions → option_and_then (λ (s : LiveSession). s.transaction) (find (λ s. s.label == label) sessions) ≡ None
    → with_session label ended (with_session label (began number) (map live_state sessions)) ≡ map live_state sessions
taken_back label number [] rise none = refl
taken_back label number (s ∷ sessions) rise none =
    elim (s.label == label) as (λ b. (s.label == label) ≡ b → option_and_then (λ (s : LiveSession). s.transaction) (cond b (Some s) (find (λ s. s.label == label) sessions)) ≡ None
    → with_session label ended (with_session label (began number) (live_state s ∷ map live_state sessions)) ≡ live_state s ∷ map live_state sessions) [
      | true ↦ λ e f.
          let head = own_back label number (live_state s) e (ap (option_map without_snapshot) f) in
          let rest = twice_untouched label number sessions (subst (λ (k : ℕ). AllByRecursion (λ (x : LiveSession). k < x.label) sessions) (eqb-true s.label label e) rise.0) in
          λ i. head i ∷ rest i
      | false ↦ λ e f.
          let head = other_back label number (live_state s) e in
          let rest = taken_back label number sessions rise.1 f in
          λ i. head i ∷ rest i
    ] refl none

less_one : (n : ℕ) → (n + 1) - 1 ≡ n
less_one n = omega arith

pub begin_back : (engine : EngineState) (session : ℕ) (kind : EntryKind) → MayTake engine (Alone (entry_by session kind)) → begin_taken_back session (effect_on engine session entry.Begin) ≡ engine
begin_back engine session kind may =
    let none = outside may.holds.base may.holds.dropped may.holds.kept may.state may.holds.reached.history session (and_right (is_live_in may.state session) (levels may.state session == 0) (lawful_by_kind may.state session entry.Begin may.lawful.0)) in
    let sessions : with_session session ended (with_session session (began (engine.number + 1)) engine.sessions) ≡ engine.sessions =
    subst (λ (l : List LiveState). with_session session ended (with_session session (began (engine.number + 1)) l) ≡ l) may.holds.sessions (taken_back session (engine.number + 1) may.state.sessions may.holds.labels none) in
    λ i. record engine { number = less_one engine.number i; sessions = sessions i }

-- ---- each entry in its turn

-- the law that a lawful entry leaves room for all ends
abbrev pub EntryHasRoom : Type 0
EntryHasRoom = (engine : EngineState) (state : DatabaseState) (made : Entry) → HoldsState engine state → is_lawful state made ≡ true → HasRoomForEnds engine → HasRoomForEnds (engine_after engine made)

pub first_comes : (engine : EngineState) (session : ℕ) (kind : EntryKind) → MayTake engine (Alone (entry_by session kind)) → MayCome engine (entry_by session entry.Begin)
first_comes engine session kind may = record { state = may.state; holds = may.holds; lawful = may.lawful.0; built = may.built.0; typed = may.typed.0 }

pub next_comes : EntryHolds → (engine : EngineState) (session : ℕ) (kind : EntryKind) → MayTake engine (Alone (entry_by session kind)) → MayCome (effect_on engine session entry.Begin) (entry_by session kind)
next_comes hold engine session kind may = record {
  state = state_after may.state (entry_by session entry.Begin);
  holds = hold engine may.state (entry_by session entry.Begin) may.holds may.lawful.0 may.built.0 may.typed.0;
  lawful = may.lawful.1.0;
  built = may.built.1.0;
  typed = may.typed.1.0;
}

pub room_begun : EntryHasRoom → (engine : EngineState) (session : ℕ) (kind : EntryKind) → MayTake engine (Alone (entry_by session kind)) → HasRoomForEnds engine → HasRoomForEnds (effect_on engine session entry.Begin)
room_begun room engine session kind may is = room engine may.state (entry_by session entry.Begin) may.holds may.lawful.0 is

pub room_last : EntryHolds → EntryHasRoom → (engine : EngineState) (session : ℕ) (kind : EntryKind) → MayTake engine (Alone (entry_by session kind)) → HasRoomForEnds engine → HasRoomForEnds (effect_on (effect_on engine session entry.Begin) session kind)
room_last hold room engine session kind may is =
    let next = next_comes hold engine session kind may in
    room (effect_on engine session entry.Begin) next.state (entry_by session kind) next.holds next.lawful (room_begun room engine session kind may is)

-- ---- after a clean

-- the law that an engine holds its state after a clean for a step
abbrev pub StepCleanHolds : Type 0
StepCleanHolds = (engine : EngineState) (state : DatabaseState) (step : Step) → HoldsState engine state → HoldsState (cleaned_for (step_cleans step) engine) state

pub cleaned_holds : CleanHolds → (engine : EngineState) (state : DatabaseState) (step : Step) → HoldsState engine state → HoldsState (cleaned_for (step_cleans step) engine) state
cleaned_holds cleans engine state step h = clean_for_holds cleans (step_cleans step) engine state h

pub cleaned_in_step : CleanHolds → (engine : EngineState) (locals : ℕ → LocalState) (step : Step) → HoldsAllInStep engine locals → HoldsAllInStep (cleaned_for (step_cleans step) engine) locals
cleaned_in_step cleans engine locals step h = record { state = h.state; holds = cleaned_holds cleans engine h.state step h.holds; in_step = h.in_step }

pub cleaned_room : (engine : EngineState) (step : Step) → HasRoomForEnds engine → HasRoomForEnds (cleaned_for (step_cleans step) engine)
cleaned_room engine step is = by (step_cleans step)
  where
    by : (b : Bool) → HasRoomForEnds (cleaned_for b engine)
    by true = record { begun = is.begun; room = is.room }
    by false = is

pub cleaned_lawful : StepCleanHolds → (engine : EngineState) (step : Step) → MayTake engine step → MayTake (cleaned_for (step_cleans step) engine) step
cleaned_lawful holds engine step may = record { state = may.state; holds = holds engine may.state step may.holds; lawful = may.lawful; built = may.built; typed = may.typed }

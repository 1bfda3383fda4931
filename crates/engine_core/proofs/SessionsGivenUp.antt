-- All sessions are given up.
use Rattle.std.proofs.Common.{◌≡◌, ℕ, ◌+◌, ◌<◌, ◌≤◌, suc, Bool, true, false, not, cond, List, [], ◌∷◌, length, Some, None, refl, sym, ap, subst, ◌∙◌, arith}
use Rattle.std.specs.Prelude.{◌==◌, drop, is_some, nat_le}
use Rattle.std.specs.List.{AllByRecursion}
use Rattle.std.proofs.lemmas.Bool.Decides.{nat_tests}
use Rattle.common_lemmas.proofs.Booleans.{and_left, and_right, impossible}
use Rattle.index_derive.specs.declared.log.EntryKind.TheVariants as entry
use Rattle.database_state.specs.State.{DatabaseState}
use Rattle.database_state.specs.Step.{entry_by, state_after}
use Rattle.database_state.specs.Lawful.{is_lawful}
use Rattle.version_store.specs.HeldChanges.{is_kept_status}
use Rattle.version_cleanup.specs.LiveSessions.{LiveState, is_live, left, oldest_begin, session_in}
use Rattle.laws_engine.specs.HeldRecords.{HeldRecord, from_oldest_kept}
use Rattle.stored_variants.specs.StoredVersions.{next_to_forget}
use Rattle.laws_engine.specs.EngineState.{EngineState, cleaned, engine_of}
use Rattle.laws_engine.specs.HoldsState.{HoldsState}
use Rattle.laws_engine.proofs.EngineLemmas.Room.{EntryHolds}
use Rattle.laws_engine.proofs.EngineLemmas.Sessions.{live_alike}
use Rattle.loggable_steps.specs.Loggable.{is_label}
use Rattle.loggable_steps.specs.Replays.{closed}
use Rattle.engine_core.specs.Closing.{HaveLabels, HoldsTables, IsGivenUpTo, without_live, without_session}

-- ---- labels

abbrev pub IsLeft : ℕ → LiveState → Type 0
IsLeft label s = (label ≤ s.label) × (s.label ≤ 99)

label_parts : (n : ℕ) → is_label n ≡ true → (1 ≤ n) × (n ≤ 99)
label_parts n h = (above n (and_left (nat_le 1 n) (nat_le n 99) h), below n (and_right (nat_le 1 n) (nat_le n 99) h))
  where
    above : (n : ℕ) → nat_le 1 n ≡ true → 1 ≤ n
    above n h = grind (arith, nat_tests)

    below : (n : ℕ) → nat_le n 99 ≡ true → n ≤ 99
    below n h = grind (arith, nat_tests)

labels_left : (sessions : List LiveState) → HaveLabels sessions → AllByRecursion (IsLeft 1) sessions
labels_left [] h = tt
labels_left (s ∷ sessions) h = (label_parts s.label h.0, labels_left sessions h.1)

next_label : (label n : ℕ) → (n == label) ≡ false → label ≤ n → label + 1 ≤ n
next_label label n e h = grind (arith, nat_tests)

-- once the session of the label has left
left_behind : (label : ℕ) (sessions : List LiveState) → AllByRecursion (IsLeft label) sessions → AllByRecursion (IsLeft (label + 1)) (left label sessions)
left_behind label [] h = tt
left_behind label (s ∷ sessions) h =
    elim (s.label == label) as (λ b. (s.label == label) ≡ b → AllByRecursion (IsLeft (label + 1)) (cond (not b) (s ∷ left label sessions) (left label sessions))) [
      | true ↦ λ e. left_behind label sessions h.1
      | false ↦ λ e. ((next_label label s.label e h.0.0, h.0.1), left_behind label sessions h.1)
    ] refl

-- where no session has the label
none_behind : (label : ℕ) (sessions : List LiveState) → AllByRecursion (IsLeft label) sessions → is_live label sessions ≡ false → AllByRecursion (IsLeft (label + 1)) sessions
none_behind label [] h none = tt
none_behind label (s ∷ sessions) h none =
    elim (s.label == label) as (λ b. (s.label == label) ≡ b → is_some (cond b (Some s) (session_in label sessions)) ≡ false → AllByRecursion (IsLeft (label + 1)) (s ∷ sessions)) [
      | true ↦ λ e other. impossible (sym other)
      | false ↦ λ e other. ((next_label label s.label e h.0.0, h.0.1), none_behind label sessions h.1 other)
    ] refl none

pub all_left : (sessions : List LiveState) → AllByRecursion (IsLeft 100) sessions → sessions ≡ []
all_left [] h = refl
all_left (s ∷ sessions) h = absurd (never s.label h.0.0 h.0.1)
  where
    never : (n : ℕ) → 100 ≤ n → n ≤ 99 → ⊥
    never n p q = omega (arith, p, q)

-- ---- counting the labels

pub one_further : (n : ℕ) → n ≤ 99 → n + 1 ≤ 100
one_further n h = omega (arith, h)

pub last_label : (n : ℕ) → 99 < n → n ≤ 100 → n ≡ 100
last_label n h most = omega (arith, h, most)

-- ---- a session is given up

leave_lawful : (engine : EngineState) (state : DatabaseState) (label : ℕ) → HoldsState engine state → is_live label engine.sessions ≡ true → is_lawful state (entry_by label entry.Leave) ≡ true
unfolding is_lawful
leave_lawful engine state label h live = sym (live_alike label state.sessions) ∙ ap (λ (sessions : List LiveState). is_live label sessions) h.sessions ∙ live

tables_stay : (state : DatabaseState) (label : ℕ) → (state_after state (entry_by label entry.Leave)).tables ≡ state.tables
unfolding state_after
tables_stay state label = refl

greatest_stays : (state : DatabaseState) (label : ℕ) → (state_after state (entry_by label entry.Leave)).greatest_table ≡ state.greatest_table
unfolding state_after
greatest_stays state label = refl

given_up_holds : EntryHolds → (state : DatabaseState) (engine : EngineState) (label : ℕ) → HoldsTables state engine → is_live label engine.sessions ≡ true → HoldsTables state (without_session label engine)
given_up_holds next state engine label h live = record {
  number = h.number + 1;
  held = state_after h.held (entry_by label entry.Leave);
  holds = next (record engine { number = h.number }) h.held (entry_by label entry.Leave) h.holds (leave_lawful (record engine { number = h.number }) h.held label h.holds live) refl tt;
  tables = tables_stay h.held label ∙ h.tables;
  greatest = greatest_stays h.held label ∙ h.greatest;
}

pub first_given_up : (engine : EngineState) → HaveLabels engine.sessions → IsGivenUpTo 1 engine engine
first_given_up engine labels = record {
  limit = refl;
  number = refl;
  newest = refl;
  sessions = labels_left engine.sessions labels;
  holds = λ state h. record { number = engine.number; held = state; holds = h; tables = refl; greatest = refl };
}

pub next_given_up : EntryHolds → (label : ℕ) (old engine : EngineState) → IsGivenUpTo label old engine → IsGivenUpTo (label + 1) old (without_live label engine)
next_given_up next label old engine is =
    elim (is_live label engine.sessions) as (λ b. is_live label engine.sessions ≡ b → IsGivenUpTo (label + 1) old (cond b (without_session label engine) engine)) [
      | true ↦ λ live. record {
        limit = is.limit;
        number = is.number;
        newest = is.newest;
        sessions = left_behind label engine.sessions is.sessions;
        holds = λ state h. given_up_holds next state engine label (is.holds state h) live;
      }
      | false ↦ λ none. record {
        limit = is.limit;
        number = is.number;
        newest = is.newest;
        sessions = none_behind label engine.sessions is.sessions none;
        holds = is.holds;
      }
    ] refl

-- ---- held changes are forgotten

pub some_held : (held : List HeldRecord) → is_some (next_to_forget None held) ≡ true → 0 < length held
some_held [] s = impossible s
some_held (h ∷ held) s = above (length held)
  where
    above : (n : ℕ) → 0 < suc n
    above n = omega arith

pub fewer_held : (held : List HeldRecord) → is_some (next_to_forget None held) ≡ true → length (drop 1 held) < length held
fewer_held [] s = impossible s
fewer_held (h ∷ held) s = above (length held)
  where
    above : (n : ℕ) → n < suc n
    above n = omega arith

none_there : (h : HeldRecord) (held : List HeldRecord) → h ∷ held ≡ [] → false ≡ true
none_there h held e = ap is_there e
  where
    is_there : List HeldRecord → Bool
    is_there [] = true
    is_there (x ∷ xs) = false

-- where none is needed, none is needed behind the first
pub rest_unneeded : (held : List HeldRecord) → from_oldest_kept None held ≡ [] → from_oldest_kept None (drop 1 held) ≡ []
rest_unneeded [] e = refl
rest_unneeded (h ∷ held) e = by (is_kept_status None h.status) e
  where
    by : (b : Bool) → cond b (h ∷ held) (from_oldest_kept None held) ≡ [] → from_oldest_kept None held ≡ []
    by true e = impossible (none_there h held e)
    by false e = e

pub none_left : (held : List HeldRecord) → from_oldest_kept None held ≡ [] → is_some (next_to_forget None held) ≡ false → held ≡ []
none_left [] e s = refl
none_left (h ∷ held) e s = by (is_kept_status None h.status) e s
  where
    by : (b : Bool) → cond b (h ∷ held) (from_oldest_kept None held) ≡ [] → is_some (cond b None (Some h.number)) ≡ false → h ∷ held ≡ []
    by true e s = e
    by false e s = impossible (sym s)

-- ---- all are given up

abbrev pub CleanedTells : Type 0
CleanedTells = (engine : EngineState) (state : DatabaseState) → HoldsState engine state → engine.sessions ≡ [] → cleaned engine ≡ engine_of engine.limit engine.newest_put (closed state)

pub none_needed : CleanedTells → (state : DatabaseState) (engine : EngineState) → HoldsTables state engine → engine.sessions ≡ [] → from_oldest_kept None engine.store.held ≡ []
none_needed tells state engine h none =
    subst (λ (sessions : List LiveState). from_oldest_kept (oldest_begin sessions) engine.store.held ≡ []) none
    (ap (λ (e : EngineState). e.store.held) (tells (record engine { number = h.number }) h.held h.holds none))

pub closed_told : CleanedTells → (old engine : EngineState) → IsGivenUpTo 100 old engine → (state : DatabaseState) → HoldsState old state → record engine { store = record engine.store { held = [] } } ≡ engine_of old.limit old.newest_put (closed state)
closed_told tells old engine is state h =
    let there : HoldsTables state engine = is.holds state h in
    let none : engine.sessions ≡ [] = all_left engine.sessions is.sessions in
    let told = tells (record engine { number = there.number }) there.held there.holds none in
    let number : engine.number ≡ state.number = is.number ∙ sym h.number in
    let greatest : engine.greatest_table ≡ state.greatest_table = ap (λ (e : EngineState). e.greatest_table) told ∙ there.greatest in
    let tables = ap (λ (e : EngineState). e.store.tables) told ∙ there.tables in
    λ i. record {
      limit = is.limit i;
      number = number i;
      greatest_table = greatest i;
      newest_put = is.newest i;
      sessions = none i;
      store = record { tables = tables i; held = [] };
    }

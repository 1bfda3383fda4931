-- The number of the log has room for all that is to end.
use Rattle.std.proofs.Common.{◌≡◌, ℕ, ◌+◌, ◌-◌, ◌^◌, ◌<◌, ◌≤◌, Bool, true, false, cond, List, [], ◌∷◌, map, length, Option, Some, None, sym, ap, subst, ◌∙◌, arith}
use Rattle.std.specs.Prelude.{◌==◌, nat_le, nat_lt, find, is_some, option_map}
use Rattle.std.proofs.lemmas.Bool.Decides.{nat_tests}
use Rattle.common_lemmas.proofs.Booleans.{and_left, and_right, impossible}
use Rattle.index_derive.specs.declared.log.Entry.{Entry}
use Rattle.index_derive.specs.declared.log.EntryKind.{EntryKind}
use Rattle.index_derive.specs.declared.log.EntryKind.TheVariants as entry
use Rattle.index_derive.specs.declared.log.Step.{Step}
use Rattle.index_derive.specs.declared.log.Step.TheVariants.{One, Alone}
use Rattle.index_derive.specs.Steps.{entries_of_step}
use Rattle.database_state.specs.State.{DatabaseState, LiveSession, levels}
use Rattle.database_state.specs.Step.{state_after, with_one, without_one}
use Rattle.database_state.specs.Lawful.{has_number, has_open as has_open_in, is_lawful, is_lawful_kind, log_limit}
use Rattle.laws_versions.specs.History.{EachTwo}
use Rattle.version_cleanup.specs.declared.live.Transaction.{Transaction}
use Rattle.version_cleanup.specs.LiveSessions.{LiveState, at_levels, began, ended, entered, left, levels_in, levels_of, live_state, lowered, new_session, opened, saved, session_in, sessions_after, shut, with_session}
use Rattle.version_cleanup.specs.NeededLaws.{needed-kept}
use Rattle.laws_engine.specs.LawfulSteps.{AreLawful}
use Rattle.laws_versions.specs.RecordNumbers.{HasItsType}
use Rattle.laws_engine.specs.EntryTypes.{AreOfTheirTypes}
use Rattle.session_local.specs.BuiltTables.{AllMakeBuilt, makes_built}
use Rattle.laws_engine.specs.EngineState.{EngineState, HasRoomForEnds, ends_in, ends_of}
use Rattle.laws_engine.specs.EngineSteps.{cleaned_for, engine_after, engine_after_all, engine_after_step, step_cleans}
use Rattle.laws_engine.specs.HoldsState.{HoldsState}
use Rattle.laws_engine.proofs.EngineLemmas.AfterEntries.{entry_holds}
use Rattle.laws_engine.proofs.EngineLemmas.Cleans.{clean_for_holds, clean_holds}
use Rattle.laws_engine.proofs.EngineLemmas.SessionTotals.{EndsBy, RisesTo, ends_by, grows, in_levels, inserted, le_self, left_fewer, level_of, levels_there, one_level, one_more_open, rise_told, shut_fewer, shut_no_more, two_levels}
use Rattle.laws_engine.proofs.EngineLemmas.Sessions.{live_alike, session_alike}

-- ---- one more

opened_grows : (table : ℕ) (s : LiveState) → ends_of (opened table s) ≤ ends_of s + 1
opened_grows table s = by (length (with_one table s.open_tables)) (length s.open_tables) (levels_of s.transaction) (one_more_open table s.open_tables)
  where
    by : (a b c : ℕ) → a ≡ b + 1 → 1 + a + c ≤ (1 + b + c) + 1
    by a b c e = omega (arith, e)

began_grows : (number : ℕ) (s : LiveState) → ends_of (began number s) ≤ ends_of s + 1
began_grows number s = by (length s.open_tables) (levels_of s.transaction)
  where
    by : (a b : ℕ) → 1 + a + 1 ≤ (1 + a + b) + 1
    by a b = omega arith

saved_grows : (s : LiveState) → ends_of (saved s) ≤ ends_of s + 1
saved_grows s = by (length s.open_tables) s.transaction
  where
    none : (a : ℕ) → 1 + a + 0 ≤ (1 + a + 0) + 1
    none a = omega arith

    some : (a b : ℕ) → 1 + a + (b + 1) ≤ (1 + a + b) + 1
    some a b = omega arith

    by : (a : ℕ) (t : Option Transaction) → 1 + a + levels_of (at_levels (λ n. n + 1) t) ≤ (1 + a + levels_of t) + 1
    by a None = none a
    by a (Some t) = some a t.levels

-- ---- one less

lowered_keeps : (s : LiveState) → ends_of (lowered s) ≤ ends_of s
lowered_keeps s = by (length s.open_tables) s.transaction
  where
    some : (a b : ℕ) → 1 + a + (b - 1) ≤ 1 + a + b
    some a b = omega arith

    by : (a : ℕ) (t : Option Transaction) → 1 + a + levels_of (at_levels (λ n. n - 1) t) ≤ 1 + a + levels_of t
    by a None = le_self (1 + a + 0)
    by a (Some t) = some a t.levels

ended_keeps : (s : LiveState) → ends_of (ended s) ≤ ends_of s
ended_keeps s = by (length s.open_tables) (levels_of s.transaction)
  where
    by : (a b : ℕ) → 1 + a + 0 ≤ 1 + a + b
    by a b = omega arith

lowered_ends : (s : LiveState) → 1 ≤ levels_of s.transaction → 1 + ends_of (lowered s) ≤ ends_of s
lowered_ends s h = by (length s.open_tables) s.transaction h
  where
    none : (a : ℕ) → 1 ≤ 0 → 1 + (1 + a + 0) ≤ 1 + a + 0
    none a h = omega (arith, h)

    some : (a b : ℕ) → 1 ≤ b → 1 + (1 + a + (b - 1)) ≤ 1 + a + b
    some a b h = omega (arith, h)

    by : (a : ℕ) (t : Option Transaction) → 1 ≤ levels_of t → 1 + (1 + a + levels_of (at_levels (λ n. n - 1) t)) ≤ 1 + a + levels_of t
    by a None h = none a h
    by a (Some t) h = some a t.levels h

ended_ends : (s : LiveState) → 1 ≤ levels_of s.transaction → 1 + ends_of (ended s) ≤ ends_of s
ended_ends s h = by (length s.open_tables) (levels_of s.transaction) h
  where
    by : (a b : ℕ) → 1 ≤ b → 1 + (1 + a + 0) ≤ 1 + a + b
    by a b h = omega (arith, h)

shut_keeps : (table : ℕ) (s : LiveState) → ends_of (shut table s) ≤ ends_of s
shut_keeps table s = by (length (without_one table s.open_tables)) (length s.open_tables) (levels_of s.transaction) (shut_no_more table s.open_tables)
  where
    by : (a b c : ℕ) → a ≤ b → 1 + a + c ≤ 1 + b + c
    by a b c h = omega (arith, h)

shut_ends : (table label : ℕ) (sessions : List LiveSession) → has_open_in (find (λ s. s.label == label) sessions) table ≡ true → EndsBy ends_of 1 (shut table) (session_in label (map live_state sessions))
shut_ends table label sessions h = subst (EndsBy ends_of 1 (shut table)) (sym (session_alike label sessions)) (by (find (λ s. s.label == label) sessions) h)
  where
    less : (a b c : ℕ) → a + 1 ≡ b → 1 + (1 + a + c) ≤ 1 + b + c
    less a b c e = omega (arith, e)

    by : (o : Option LiveSession) → has_open_in o table ≡ true → EndsBy ends_of 1 (shut table) (option_map live_state o)
    by None h = impossible h
    by (Some s) h = less (length (without_one table s.open_tables)) (length s.open_tables) (levels_of (live_state s).transaction) (shut_fewer table s.open_tables h)

-- a session is one to end
ends_count : (s : LiveState) → 1 ≤ ends_of s
ends_count s = by (length s.open_tables) (levels_of s.transaction)
  where
    by : (a b : ℕ) → 1 ≤ 1 + a + b
    by a b = omega arith

-- ---- the room

-- what an entry does to the number and to what is to end
begins_room : (n e e' l : ℕ) → nat_lt n l ≡ true → e' ≤ e + 1 → e ≤ n → (e' ≤ n + 1) × ((n + 1) + e' ≤ (l + l) + 1)
begins_room n e e' l h g k = (first n e e' g k, second n e e' l (less n l h) g k)
  where
    less : (n l : ℕ) → nat_lt n l ≡ true → n < l
    less n l h = grind (arith, nat_tests)

    first : (n e e' : ℕ) → e' ≤ e + 1 → e ≤ n → e' ≤ n + 1
    first n e e' g k = omega (arith, g, k)

    second : (n e e' l : ℕ) → n < l → e' ≤ e + 1 → e ≤ n → (n + 1) + e' ≤ (l + l) + 1
    second n e e' l h g k = omega (arith, h, g, k)

changes_room : (n e l : ℕ) → nat_le n l ≡ true → e ≤ n → (e ≤ n + 1) × ((n + 1) + e ≤ (l + l) + 1)
changes_room n e l h k = (first n e k, second n e l (less n l h) k)
  where
    less : (n l : ℕ) → nat_le n l ≡ true → n ≤ l
    less n l h = grind (arith, nat_tests)

    first : (n e : ℕ) → e ≤ n → e ≤ n + 1
    first n e k = omega (arith, k)

    second : (n e l : ℕ) → n ≤ l → e ≤ n → (n + 1) + e ≤ (l + l) + 1
    second n e l h k = omega (arith, h, k)

ends_room : (n e e' b : ℕ) → 1 + e' ≤ e → e ≤ n → n + e ≤ b → (e' ≤ n + 1) × ((n + 1) + e' ≤ b)
ends_room n e e' b h k r = (first n e e' h k, second n e e' b h r)
  where
    first : (n e e' : ℕ) → 1 + e' ≤ e → e ≤ n → e' ≤ n + 1
    first n e e' h k = omega (arith, h, k)

    second : (n e e' b : ℕ) → 1 + e' ≤ e → n + e ≤ b → (n + 1) + e' ≤ b
    second n e e' b h r = omega (arith, h, r)

abbrev HasRoom : ℕ → ℕ → Type 0
HasRoom number ends = (ends ≤ number) × (number + ends ≤ 2 ^ 35 + 1)

less_le : (n l : ℕ) → nat_lt n l ≡ true → nat_le n l ≡ true
less_le n l h = grind (arith, nat_tests)

room_by_kind : (engine : EngineState) (state : DatabaseState) (session : ℕ) (kind : EntryKind) → HoldsState engine state → has_number engine.number kind ≡ true → is_lawful_kind state session kind ≡ true → EachTwo RisesTo engine.sessions → HasRoom engine.number (ends_in engine.sessions)
    → HasRoom (engine.number + 1) (ends_in (sessions_after (engine.number + 1) session kind engine.sessions))
room_by_kind engine state session entry.Enter h number e rise room =
    begins_room engine.number (ends_in engine.sessions) (ends_in (entered session engine.sessions)) log_limit number (by (ends_in (entered session engine.sessions)) (ends_in engine.sessions) (inserted ends_of (new_session session) engine.sessions)) room.0
  where
    by : (a b : ℕ) → a ≡ (1 + 0 + 0) + b → a ≤ b + 1
    by a b e = omega (arith, e)
room_by_kind engine state session (entry.Open table) h number e rise room =
    begins_room engine.number (ends_in engine.sessions) (ends_in (with_session session (opened table.0) engine.sessions)) log_limit number (grows ends_of 1 session (opened table.0) (opened_grows table.0) engine.sessions rise) room.0
room_by_kind engine state session entry.Begin h number e rise room =
    begins_room engine.number (ends_in engine.sessions) (ends_in (with_session session (began (engine.number + 1)) engine.sessions)) log_limit number (grows ends_of 1 session (began (engine.number + 1)) (began_grows (engine.number + 1)) engine.sessions rise) room.0
room_by_kind engine state session entry.Save h number e rise room =
    begins_room engine.number (ends_in engine.sessions) (ends_in (with_session session saved engine.sessions)) log_limit number (grows ends_of 1 session saved saved_grows engine.sessions rise) room.0
room_by_kind engine state session (entry.Change change) h number e rise room = changes_room engine.number (ends_in engine.sessions) log_limit number room.0
room_by_kind engine state session (entry.Schema made) h number e rise room = changes_room engine.number (ends_in engine.sessions) log_limit (less_le engine.number log_limit number) room.0
room_by_kind engine state session entry.Leave h number e rise room =
    ends_room engine.number (ends_in engine.sessions) (ends_in (left session engine.sessions)) (2 ^ 35 + 1)
    (left_fewer ends_of 1 ends_count session engine.sessions (ap (λ (sessions : List LiveState). is_some (session_in session sessions)) (sym h.sessions) ∙ live_alike session state.sessions ∙ e)) room.0 room.1
room_by_kind engine state session (entry.Shut table) h number e rise room =
    ends_room engine.number (ends_in engine.sessions) (ends_in (with_session session (shut table.0) engine.sessions)) (2 ^ 35 + 1)
    (ends_by ends_of 1 session (shut table.0) (shut_keeps table.0) engine.sessions (subst (λ (sessions : List LiveState). EndsBy ends_of 1 (shut table.0) (session_in session sessions)) h.sessions (shut_ends table.0 session state.sessions e))) room.0 room.1
room_by_kind engine state session entry.Release h number e rise room =
    ends_room engine.number (ends_in engine.sessions) (ends_in (with_session session lowered engine.sessions)) (2 ^ 35 + 1)
    (ends_by ends_of 1 session lowered lowered_keeps engine.sessions (in_levels ends_of 1 lowered lowered_ends session engine.sessions (levels_there engine state session h (two_levels (levels state session) e)))) room.0 room.1
room_by_kind engine state session entry.UndoAll h number e rise room =
    ends_room engine.number (ends_in engine.sessions) (ends_in (with_session session ended engine.sessions)) (2 ^ 35 + 1)
    (ends_by ends_of 1 session ended ended_keeps engine.sessions (in_levels ends_of 1 ended ended_ends session engine.sessions (levels_there engine state session h (level_of (levels state session) e)))) room.0 room.1
room_by_kind engine state session entry.Commit h number e rise room =
    ends_room engine.number (ends_in engine.sessions) (ends_in (with_session session ended engine.sessions)) (2 ^ 35 + 1)
    (ends_by ends_of 1 session ended ended_keeps engine.sessions (in_levels ends_of 1 ended ended_ends session engine.sessions (levels_there engine state session h (one_level (levels state session) (and_left _ _ e))))) room.0 room.1
room_by_kind engine state session entry.Undo h number e rise room =
    let is_in : 1 ≤ levels_in session engine.sessions = levels_there engine state session h (level_of (levels state session) e) in
    elim (nat_lt 1 (levels_in session engine.sessions)) as (λ b. HasRoom (engine.number + 1) (ends_in (cond b (with_session session lowered engine.sessions) (with_session session ended engine.sessions)))) [
      | true ↦ ends_room engine.number (ends_in engine.sessions) (ends_in (with_session session lowered engine.sessions)) (2 ^ 35 + 1)
          (ends_by ends_of 1 session lowered lowered_keeps engine.sessions (in_levels ends_of 1 lowered lowered_ends session engine.sessions is_in)) room.0 room.1
      | false ↦ ends_room engine.number (ends_in engine.sessions) (ends_in (with_session session ended engine.sessions)) (2 ^ 35 + 1)
          (ends_by ends_of 1 session ended ended_keeps engine.sessions (in_levels ends_of 1 ended ended_ends session engine.sessions is_in)) room.0 room.1
    ]

number_of : (state : DatabaseState) (made : Entry) → is_lawful state made ≡ true → (has_number state.number made.kind ≡ true) × (is_lawful_kind state made.session.0 made.kind ≡ true)
unfolding is_lawful
number_of state made e = (and_left (has_number state.number made.kind) (is_lawful_kind state made.session.0 made.kind) e, and_right (has_number state.number made.kind) (is_lawful_kind state made.session.0 made.kind) e)

pub entry_has_room : (engine : EngineState) (state : DatabaseState) (made : Entry) → HoldsState engine state → is_lawful state made ≡ true → HasRoomForEnds engine → HasRoomForEnds (engine_after engine made)
entry_has_room engine state made h e room =
    let both = number_of state made e in
    let after = room_by_kind engine state made.session.0 made.kind h (ap (λ (n : ℕ). has_number n made.kind) (sym h.number) ∙ both.0) both.1 (rise_told engine state h) (room.begun, room.room) in
    record { begun = after.0; room = after.1 }

-- ---- where no session is live

number_below : (n : ℕ) → nat_lt n log_limit ≡ true → n ≤ 2 ^ 34
number_below n h = by n (2 ^ 34) h
  where
    by : (n l : ℕ) → nat_lt n l ≡ true → n ≤ l
    by n l h = grind (arith, nat_tests)

number_up_to : (n : ℕ) → nat_le n log_limit ≡ true → n ≤ 2 ^ 34
number_up_to n h = by n (2 ^ 34) h
  where
    by : (n l : ℕ) → nat_le n l ≡ true → n ≤ l
    by n l h = grind (arith, nat_tests)

no_level : (session : ℕ) (sessions : List LiveState) → sessions ≡ [] → 1 ≤ levels_in session sessions → ⊥
no_level session sessions none h = never (subst (λ (s : List LiveState). 1 ≤ levels_in session s) none h)
  where
    never : 1 ≤ 0 → ⊥
    never h = omega (arith, h)

-- what ends something cannot come, and the others only while the log is not full
fresh_number : (engine : EngineState) (state : DatabaseState) (session : ℕ) (kind : EntryKind) → HoldsState engine state → has_number engine.number kind ≡ true → is_lawful_kind state session kind ≡ true → engine.sessions ≡ [] → engine.number ≤ 2 ^ 34
fresh_number engine state session entry.Enter h number e none = number_below engine.number number
fresh_number engine state session (entry.Open table) h number e none = number_below engine.number number
fresh_number engine state session entry.Begin h number e none = number_below engine.number number
fresh_number engine state session entry.Save h number e none = number_below engine.number number
fresh_number engine state session (entry.Change change) h number e none = number_up_to engine.number number
fresh_number engine state session (entry.Schema made) h number e none = number_below engine.number number
fresh_number engine state session entry.Leave h number e none =
    impossible (ap (λ (sessions : List LiveState). is_some (session_in session sessions)) (sym none ∙ sym h.sessions) ∙ live_alike session state.sessions ∙ e)
fresh_number engine state session (entry.Shut table) h number e none =
    absurd (subst (λ (sessions : List LiveState). EndsBy ends_of 1 (shut table.0) (session_in session sessions)) (h.sessions ∙ none) (shut_ends table.0 session state.sessions e))
fresh_number engine state session entry.Release h number e none = absurd (no_level session engine.sessions none (levels_there engine state session h (two_levels (levels state session) e)))
fresh_number engine state session entry.Undo h number e none = absurd (no_level session engine.sessions none (levels_there engine state session h (level_of (levels state session) e)))
fresh_number engine state session entry.UndoAll h number e none = absurd (no_level session engine.sessions none (levels_there engine state session h (level_of (levels state session) e)))
fresh_number engine state session entry.Commit h number e none = absurd (no_level session engine.sessions none (levels_there engine state session h (one_level (levels state session) (and_left _ _ e))))

fresh_room : (engine : EngineState) (state : DatabaseState) (made : Entry) → HoldsState engine state → is_lawful state made ≡ true → engine.sessions ≡ [] → HasRoomForEnds engine
fresh_room engine state made h e none =
    let both = number_of state made e in
    let few = fresh_number engine state made.session.0 made.kind h (ap (λ (n : ℕ). has_number n made.kind) (sym h.number) ∙ both.0) both.1 none in
    record {
      begun = begun (ends_in engine.sessions) engine.number (ap ends_in none);
      room = room (ends_in engine.sessions) engine.number (ap ends_in none) few;
    }
  where
    begun : (e n : ℕ) → e ≡ 0 → e ≤ n
    begun e n p = omega (arith, p)

    room : (e n : ℕ) → e ≡ 0 → n ≤ 2 ^ 34 → n + e ≤ 2 ^ 35 + 1
    room e n p q = omega (arith, p, q)

pub step_finds_room : (engine : EngineState) (state : DatabaseState) (step : Step) → HoldsState engine state → AreLawful state (entries_of_step (Some step)) → engine.sessions ≡ [] → HasRoomForEnds engine
step_finds_room engine state (One made) h lawful none = fresh_room engine state made h lawful.0 none
step_finds_room engine state (Alone made) h lawful none = fresh_room engine state (record { session = made.session; kind = entry.Begin }) h lawful.0 none

abbrev pub EntryHolds : Type 0
EntryHolds = (engine : EngineState) (state : DatabaseState) (made : Entry) → HoldsState engine state → is_lawful state made ≡ true → makes_built made.kind ≡ true → HasItsType made.kind → HoldsState (engine_after engine made) (state_after state made)

pub entries_have_room : (engine : EngineState) (state : DatabaseState) (entries : List Entry) → HoldsState engine state → AreLawful state entries → AllMakeBuilt entries → AreOfTheirTypes entries → HasRoomForEnds engine → HasRoomForEnds (engine_after_all engine entries)
entries_have_room engine state [] h lawful built types room = room
entries_have_room engine state (made ∷ entries) h lawful built types room =
    entries_have_room (engine_after engine made) (state_after state made) entries (entry_holds engine state made h lawful.0 built.0 types.0) lawful.1 built.1 types.1 (entry_has_room engine state made h lawful.0 room)

clean_has_room : (b : Bool) (engine : EngineState) → HasRoomForEnds engine → HasRoomForEnds (cleaned_for b engine)
clean_has_room true engine room = record { begun = room.begun; room = room.room }
clean_has_room false engine room = room

pub step_has_room : (engine : EngineState) (state : DatabaseState) (step : Step) → HoldsState engine state → AreLawful state (entries_of_step (Some step)) → AllMakeBuilt (entries_of_step (Some step)) → AreOfTheirTypes (entries_of_step (Some step)) → HasRoomForEnds engine
    → HasRoomForEnds (engine_after_step engine step)
step_has_room engine state step h lawful built types room =
    entries_have_room (cleaned_for (step_cleans step) engine) state (entries_of_step (Some step)) (clean_for_holds (clean_holds needed-kept) (step_cleans step) engine state h) lawful built types (clean_has_room (step_cleans step) engine room)

pub number_at_most : (engine : EngineState) → HasRoomForEnds engine → engine.number ≤ 2 ^ 35 + 1
number_at_most engine room = by engine.number (ends_in engine.sessions) (2 ^ 35 + 1) room.room
  where
    by : (n e b : ℕ) → n + e ≤ b → n ≤ b
    by n e b h = omega (arith, h)

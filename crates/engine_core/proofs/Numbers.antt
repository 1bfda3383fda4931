-- How many entries an engine has at most.
use Rattle.std.proofs.Common.{◌≡◌, ℕ, ◌+◌, ◌^◌, ◌≤◌, ◌⊎◌, inl, inr, Bool, true, false, [], max, Some, refl, sym, ap, ◌∙◌, arith}
use Rattle.std.specs.Prelude.{nat_le, nat_lt}
use Rattle.std.proofs.lemmas.Bool.Decides.{nat_tests}
use Rattle.common_lemmas.proofs.Booleans.{and_left, impossible}
use Rattle.index_derive.specs.declared.log.Entry.{Entry}
use Rattle.index_derive.specs.declared.log.EntryKind.{EntryKind}
use Rattle.index_derive.specs.declared.log.EntryKind.TheVariants as entry
use Rattle.index_derive.specs.declared.log.Step.{Step}
use Rattle.index_derive.specs.declared.log.Step.TheVariants.{One, Alone}
use Rattle.index_derive.specs.Steps.{entries_of_step}
use Rattle.database_state.specs.State.{DatabaseState}
use Rattle.database_state.specs.Lawful.{has_number, is_lawful, is_lawful_kind, log_limit}
use Rattle.laws_engine.specs.LawfulSteps.{AreLawful}
use Rattle.laws_engine.specs.EngineState.{EngineState, HasRoomForEnds, ends_in}
use Rattle.laws_engine.specs.EngineSteps.{cleaned_for, engine_after_step}
use Rattle.laws_engine.specs.HoldsState.{HoldsState}
use Rattle.laws_engine.proofs.EngineLemmas.Answering.{StepHasRoom}
use Rattle.engine_core.specs.Steps.{MayTake}
use Rattle.engine_core.specs.Bounds.{IsBounded}
use Rattle.engine_core.specs.Ends.{begun_bytes, end_bytes, ended_bytes, ends_something}
use Rattle.engine_core.proofs.Ends.{entry_keeps}

below : (n : ℕ) → nat_lt n log_limit ≡ true → n ≤ 2 ^ 34
below n h = by n (2 ^ 34) h
  where
    by : (n l : ℕ) → nat_lt n l ≡ true → n ≤ l
    by n l h = grind (arith, nat_tests)

up_to : (n : ℕ) → nat_le n log_limit ≡ true → n ≤ 2 ^ 34
up_to n h = by n (2 ^ 34) h
  where
    by : (n l : ℕ) → nat_le n l ≡ true → n ≤ l
    by n l h = grind (arith, nat_tests)

few_or_ends : (n : ℕ) (k : EntryKind) → has_number n k ≡ true → (ends_something k ≡ true) ⊎ (n ≤ 2 ^ 34)
few_or_ends n entry.Enter h = inr (below n h)
few_or_ends n entry.Leave h = inl refl
few_or_ends n (entry.Open table) h = inr (below n h)
few_or_ends n (entry.Shut table) h = inl refl
few_or_ends n entry.Begin h = inr (below n h)
few_or_ends n entry.Save h = inr (below n h)
few_or_ends n (entry.Change change) h = inr (up_to n h)
few_or_ends n entry.Release h = inl refl
few_or_ends n entry.Undo h = inl refl
few_or_ends n entry.UndoAll h = inl refl
few_or_ends n entry.Commit h = inl refl
few_or_ends n (entry.Schema step) h = inr (below n h)

-- an entry that ends something has bytes, and begins nothing
ends_alone : (k : EntryKind) → ends_something k ≡ true → (9 ≤ ended_bytes k) × (begun_bytes k ≡ 0)
ends_alone entry.Enter h = impossible h
ends_alone entry.Leave h = (omega arith, refl)
ends_alone (entry.Open table) h = impossible h
ends_alone (entry.Shut table) h = (omega arith, refl)
ends_alone entry.Begin h = impossible h
ends_alone entry.Save h = impossible h
ends_alone (entry.Change change) h = impossible h
ends_alone entry.Release h = (omega arith, refl)
ends_alone entry.Undo h = (omega arith, refl)
ends_alone entry.UndoAll h = (omega arith, refl)
ends_alone entry.Commit h = (omega arith, refl)
ends_alone (entry.Schema step) h = impossible h

number_of : (state : DatabaseState) (made : Entry) → is_lawful state made ≡ true → has_number state.number made.kind ≡ true
unfolding is_lawful
number_of state made e = and_left (has_number state.number made.kind) (is_lawful_kind state made.session.0 made.kind) e

-- so a lawful entry ends something, where the number is beyond the limit of others
pub lawful_or_ends : (engine : EngineState) (state : DatabaseState) (made : Entry) → HoldsState engine state → is_lawful state made ≡ true → (ends_something made.kind ≡ true) ⊎ (engine.number ≤ 2 ^ 34)
lawful_or_ends engine state made h e = few_or_ends engine.number made.kind (ap (λ (n : ℕ). has_number n made.kind) (sym h.number) ∙ number_of state made e)

-- where no session is live, an entry comes only where there is room for all
fresh_room : (engine : EngineState) (state : DatabaseState) (made : Entry) → HoldsState engine state → is_lawful state made ≡ true → engine.sessions ≡ [] → HasRoomForEnds engine
fresh_room engine state made h e none =
    elim (lawful_or_ends engine state made h e) [
      | inl last ↦ absurd (never (ended_bytes made.kind) (begun_bytes made.kind) (end_bytes engine.sessions) _ (ends_alone made.kind last).0 (ends_alone made.kind last).1 (ap end_bytes none) (entry_keeps engine state made h e))
      | inr few ↦ record {
        begun = begun (ends_in engine.sessions) engine.number (ap ends_in none);
        room = room (ends_in engine.sessions) engine.number (ap ends_in none) few;
      }
    ]
  where
    never : (d b e e' : ℕ) → 9 ≤ d → b ≡ 0 → e ≡ 0 → d + e' ≤ e + b → ⊥
    never d b e e' p q r s = omega (arith, p, q, r, s)

    begun : (e n : ℕ) → e ≡ 0 → e ≤ n
    begun e n p = omega (arith, p)

    room : (e n : ℕ) → e ≡ 0 → n ≤ 2 ^ 34 → n + e ≤ 2 ^ 35 + 1
    room e n p q = omega (arith, p, q)

step_fresh : (engine : EngineState) (state : DatabaseState) (step : Step) → HoldsState engine state → AreLawful state (entries_of_step (Some step)) → engine.sessions ≡ [] → HasRoomForEnds engine
step_fresh engine state (One made) h lawful none = fresh_room engine state made h lawful.0 none
step_fresh engine state (Alone made) h lawful none = fresh_room engine state (record { session = made.session; kind = entry.Begin }) h lawful.0 none

pub room_now : (opening : ℕ) (engine : EngineState) (step : Step) → IsBounded opening engine → MayTake engine step → HasRoomForEnds engine
room_now opening engine step (inl room) may = room
room_now opening engine step (inr fresh) may = step_fresh engine may.state step may.holds may.lawful fresh.1

pub bounded_after : StepHasRoom → (opening : ℕ) (engine : EngineState) (step : Step) → IsBounded opening engine → MayTake engine step → IsBounded opening (engine_after_step engine step)
bounded_after goes_on opening engine step bounded may = inl (goes_on engine may.state step may.holds may.lawful may.built may.typed (room_now opening engine step bounded may))

pub bounded_cleaned : (opening : ℕ) (cleans : Bool) (engine : EngineState) → IsBounded opening engine → IsBounded opening (cleaned_for cleans engine)
bounded_cleaned opening true engine (inl room) = inl (record { begun = room.begun; room = room.room })
bounded_cleaned opening true engine (inr fresh) = inr (fresh.0, fresh.1)
bounded_cleaned opening false engine bounded = bounded

pub at_most : ((engine : EngineState) → HasRoomForEnds engine → engine.number ≤ 2 ^ 35 + 1) → (opening : ℕ) (engine : EngineState) → IsBounded opening engine → engine.number ≤ max opening (2 ^ 35 + 1)
at_most most opening engine (inl room) = by engine.number opening (2 ^ 35 + 1) (most engine room)
  where
    by : (n o b : ℕ) → n ≤ b → n ≤ max o b
    by n o b h = omega (arith, h)
at_most most opening engine (inr fresh) = by engine.number opening (2 ^ 35 + 1) fresh.0
  where
    by : (n o b : ℕ) → n ≡ o → n ≤ max o b
    by n o b h = omega (arith, h)

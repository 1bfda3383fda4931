-- How many bytes a log has at most.
use Rattle.std.proofs.Common.{◌≡◌, ℕ, ◌+◌, ◌^◌, ◌<◌, ◌≤◌, ◌⊎◌, inl, inr, Bool, true, false, [], ◌∷◌, length, Some, refl, sym, ap, subst, ◌∙◌, arith}
use Rattle.common_lemmas.proofs.Booleans.{impossible}
use Rattle.jet_base.specs.declared.ids.Session.{Session}
use Rattle.index_derive.specs.declared.log.Entry.{Entry}
use Rattle.index_derive.specs.declared.log.EntryKind.{EntryKind}
use Rattle.index_derive.specs.declared.log.EntryKind.TheVariants as entry
use Rattle.index_derive.specs.declared.log.Step.{Step}
use Rattle.index_derive.specs.declared.log.Step.TheVariants.{One, Alone}
use Rattle.index_derive.specs.Steps.{entries_of_step, step_length}
use Rattle.laws_engine.specs.EngineState.{EngineState}
use Rattle.laws_engine.specs.EngineSteps.{cleaned_for, cleans_first, engine_after_step}
use Rattle.engine_core.specs.Steps.{MayTake}
use Rattle.log_grammar.specs.EntryBytes.{entry_bytes}
use Rattle.log_grammar.specs.EntryStreams.{stream_bytes}
use Rattle.loggable_steps.specs.Loggable.{is_loggable, made_by}
use Rattle.engine_core.specs.Bounds.{most_bytes}
use Rattle.engine_core.specs.Ends.{ended_bytes, ends_something}
use Rattle.engine_core.proofs.Numbers.{lawful_or_ends}
use Rattle.engine_core.proofs.StepBytes.{alone_size, begin_by, loggable_parts, one_size}

-- ---- numbers

same_number : (b : Bool) (engine : EngineState) → (cleaned_for b engine).number ≡ engine.number
same_number true engine = refl
same_number false engine = refl

pub number_after : (engine : EngineState) (step : Step) → (engine_after_step engine step).number ≡ engine.number + step_length step
number_after engine (One made) = ap (λ (n : ℕ). n + 1) (same_number (cleans_first made.kind) engine)
number_after engine (Alone made) = by (cleaned_for (cleans_first made.kind) engine).number engine.number (same_number (cleans_first made.kind) engine)
  where
    by : (a b : ℕ) → a ≡ b → ((a + 1) + 1) + 1 ≡ b + 3
    by a b e = omega (arith, e)

-- ---- what ends something

pub end_size : (session : Session) (k : EntryKind) → ends_something k ≡ true → length (entry_bytes (record { session = session; kind = k })) ≡ ended_bytes k
unfolding entry_bytes
end_size session entry.Enter h = impossible h
end_size session entry.Leave h = omega arith
end_size session (entry.Open table) h = impossible h
end_size session (entry.Shut table) h = omega arith
end_size session entry.Begin h = impossible h
end_size session entry.Save h = impossible h
end_size session (entry.Change change) h = impossible h
end_size session entry.Release h = omega arith
end_size session entry.Undo h = omega arith
end_size session entry.UndoAll h = omega arith
end_size session entry.Commit h = omega arith
end_size session (entry.Schema step) h = impossible h

few_ended : (k : EntryKind) → ends_something k ≡ true → ended_bytes k ≤ 13
few_ended entry.Enter h = impossible h
few_ended entry.Leave h = omega arith
few_ended (entry.Open table) h = impossible h
few_ended (entry.Shut table) h = omega arith
few_ended entry.Begin h = impossible h
few_ended entry.Save h = impossible h
few_ended (entry.Change change) h = impossible h
few_ended entry.Release h = omega arith
few_ended entry.Undo h = omega arith
few_ended entry.UndoAll h = omega arith
few_ended entry.Commit h = omega arith
few_ended (entry.Schema step) h = impossible h

-- ---- all bytes

one_more : (size number : ℕ) → (size ≤ 13) ⊎ ((number ≤ 2 ^ 34) × (size < 2 ^ 27)) → number + 1 ≤ 2 ^ 35 + 1 → size + most_bytes number ≤ most_bytes (number + 1)
unfolding most_bytes
one_more size number (inl short) within = omega (arith, short, within)
one_more size number (inr few) within = omega (arith, few.0, few.1, within)

three_more : (size number : ℕ) → size < 18 + 2 ^ 27 → number ≤ 2 ^ 34 → number + 3 ≤ 2 ^ 35 + 1 → size + most_bytes number ≤ most_bytes (number + 3)
unfolding most_bytes
three_more size number short few within = omega (arith, short, few, within)

pub few_bytes : (number : ℕ) → most_bytes number < 2 ^ 61 + 2 ^ 41
unfolding most_bytes
few_bytes number = omega arith

-- an entry is short or comes early
one_short : (engine : EngineState) (made : Entry) → MayTake engine (One made) → is_loggable made ≡ true → (length (stream_bytes (made ∷ [])) ≤ 13) ⊎ ((engine.number ≤ 2 ^ 34) × (length (stream_bytes (made ∷ [])) < 2 ^ 27))
one_short engine made may loggable =
    elim (lawful_or_ends engine may.state made may.holds may.lawful.0) [
      | inl last ↦ inl (subst (λ (n : ℕ). n ≤ 13) (sym (one_size made ∙ end_size made.session made.kind last)) (few_ended made.kind last))
      | inr few ↦ inr (few, subst (λ (n : ℕ). n < 2 ^ 27) (sym (one_size made)) (loggable_parts made loggable).1)
    ]

-- a begin comes early
begin_early : (engine : EngineState) (made : Entry) → MayTake engine (Alone made) → engine.number ≤ 2 ^ 34
begin_early engine made may =
    elim (lawful_or_ends engine may.state (begin_by made.session) may.holds may.lawful.0) [
      | inl last ↦ impossible last
      | inr few ↦ few
    ]

-- a step writes no more bytes than its numbers allow
pub step_short : (engine : EngineState) (step : Step) → MayTake engine step → is_loggable (made_by step) ≡ true → (engine_after_step engine step).number ≤ 2 ^ 35 + 1
    → length (stream_bytes (entries_of_step (Some step))) + most_bytes engine.number ≤ most_bytes (engine_after_step engine step).number
step_short engine (One made) may loggable within =
    let is = number_after engine (One made) in
    subst (λ (n : ℕ). length (stream_bytes (made ∷ [])) + most_bytes engine.number ≤ most_bytes n) (sym is)
    (one_more (length (stream_bytes (made ∷ []))) engine.number (one_short engine made may loggable) (subst (λ (n : ℕ). n ≤ 2 ^ 35 + 1) is within))
step_short engine (Alone made) may loggable within =
    let is = number_after engine (Alone made) in
    subst (λ (n : ℕ). length (stream_bytes (entries_of_step (Some (Alone made)))) + most_bytes engine.number ≤ most_bytes n) (sym is)
    (three_more (length (stream_bytes (entries_of_step (Some (Alone made))))) engine.number (short (length (entry_bytes made)) (length (stream_bytes (entries_of_step (Some (Alone made))))) (alone_size made) (loggable_parts made loggable).1)
    (begin_early engine made may) (subst (λ (n : ℕ). n ≤ 2 ^ 35 + 1) is within))
  where
    short : (a b : ℕ) → b ≡ 18 + a → a < 2 ^ 27 → b < 18 + 2 ^ 27
    short a b e h = omega (arith, e, h)

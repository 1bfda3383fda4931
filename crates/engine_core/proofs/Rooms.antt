-- Room is kept for all that is to end.
use Rattle.std.proofs.Common.{◌≡◌, ℕ, ◌+◌, ◌-◌, ◌*◌, ◌^◌, ◌<◌, ◌≤◌, inl, inr, true, false, not, cond, List, [], ◌∷◌, length, Some, refl, sym, ap, subst, ◌∙◌, arith}
use Rattle.std.specs.Prelude.{◌==◌}
use Rattle.std.proofs.lemmas.Bool.Decides.{nat_tests}
use Rattle.common_lemmas.proofs.Booleans.{impossible}
use Rattle.index_derive.specs.declared.log.EntryKind.{EntryKind}
use Rattle.index_derive.specs.declared.log.EntryKind.TheVariants as entry
use Rattle.index_derive.specs.declared.log.Step.{Step}
use Rattle.index_derive.specs.declared.log.Step.TheVariants.{One, Alone}
use Rattle.index_derive.specs.Steps.{entries_of_step, step_length}
use Rattle.version_cleanup.specs.LiveSessions.{LiveState}
use Rattle.laws_engine.specs.EngineState.{EngineState}
use Rattle.laws_engine.specs.EngineSteps.{engine_after_step}
use Rattle.engine_core.specs.Steps.{may_lack_memory}
use Rattle.entry_log.specs.LogState.{LogState, appended, empty_stream, stream_end}
use Rattle.log_grammar.specs.EntryStreams.{stream_bytes}
use Rattle.loggable_steps.specs.Loggable.{is_label, made_by}
use Rattle.engine_core.specs.Bounds.{most_bytes}
use Rattle.engine_core.specs.Closing.{HaveLabels}
use Rattle.engine_core.specs.Ends.{CountsEnds, EndsState, Follows, IsCountedAnew, begun_bytes, count_of, end_bytes, ended_bytes, ends_something, open_after, open_count, session_bytes, with_count}
use Rattle.engine_core.specs.LoggedState.{HasRoom, MayLackMemory, logged_step_may_lack_memory}
use Rattle.engine_core.proofs.Follows.{open_within}
use Rattle.engine_core.proofs.LogBytes.{end_size, few_bytes, number_after}
use Rattle.engine_core.proofs.StepBytes.{end_appended, one_size}

-- ---- steps

step_counts : (step : Step) → 1 ≤ step_length step
step_counts (One made) = omega arith
step_counts (Alone made) = omega arith

few_begun : (k : EntryKind) → begun_bytes k ≤ 13
few_begun entry.Enter = omega arith
few_begun entry.Leave = omega arith
few_begun (entry.Open table) = omega arith
few_begun (entry.Shut table) = omega arith
few_begun entry.Begin = omega arith
few_begun entry.Save = omega arith
few_begun (entry.Change change) = omega arith
few_begun entry.Release = omega arith
few_begun entry.Undo = omega arith
few_begun entry.UndoAll = omega arith
few_begun entry.Commit = omega arith
few_begun (entry.Schema step) = omega arith

-- ---- positions

pub end_few : (engine : EngineState) (log : LogState) (ends : EndsState) → HasRoom engine log ends → stream_end log.stream < 2 ^ 61 + 2 ^ 41
end_few engine log ends has = by (stream_end log.stream) (most_bytes engine.number) has.short (few_bytes engine.number)
  where
    by : (n m : ℕ) → n ≤ m → m < 2 ^ 61 + 2 ^ 41 → n < 2 ^ 61 + 2 ^ 41
    by n m p q = omega (arith, p, q)

-- ---- after a step

-- so many bytes were enough for the step, and the bytes of all ends are no more
no_more_ends : (d b e e' n : ℕ) → d + e' ≤ e + b → n + d ≡ e + b → e' ≤ n
no_more_ends d b e e' n p q = omega (arith, p, q)

few_after : (d b e e' number number' k : ℕ) → e ≤ 16 * number → b ≤ 13 → d + e' ≤ e + b → number' ≡ number + k → 1 ≤ k → e' ≤ 16 * number'
few_after d b e e' number number' k p q r s t = omega (arith, p, q, r, s, t)

short_after : (end size most most' : ℕ) → end ≤ most → size + most ≤ most' → end + size ≤ most'
short_after end size most most' p q = omega (arith, p, q)

-- ---- the ends as they are counted

pub counted_after : (label : ℕ) (kind : EntryKind) (old new : List LiveState) (ends ends' : EndsState) (own : ℕ) → Follows label kind old new → CountsEnds old ends → own ≡ session_bytes label old
    → IsCountedAnew label (open_after kind (count_of ends label)) ((ends.bytes + session_bytes label new) - own) ends ends' → CountsEnds new ends'
counted_after label kind old new ends ends' own follows exact is_own told = record {
  bytes = told.bytes_are ∙ by ends.bytes (end_bytes old) (end_bytes new) own (session_bytes label new) exact.bytes (subst (λ (n : ℕ). end_bytes new + n ≡ end_bytes old + session_bytes label new) (sym is_own) follows.sum);
  cursors = λ other. told.cursors_are other ∙ count other;
}
  where
    by : (n e e' b l : ℕ) → n ≡ e → e' + b ≡ e + l → (n + l) - b ≡ e'
    by n e e' b l p q = omega (arith, p, q)

    same : (a b : ℕ) → (a == b) ≡ true → a ≡ b
    same a b e = grind (arith, nat_tests)

    count : (other : ℕ) → with_count label (open_after kind (count_of ends label)) (count_of ends) other ≡ open_count other new
    count other = elim (other == label) as (λ b. (other == label) ≡ b → cond b (open_after kind (count_of ends label)) (count_of ends other) ≡ open_count other new) [
      | true ↦ λ e. ap (open_after kind) (exact.cursors label) ∙ sym follows.own ∙ ap (λ (n : ℕ). open_count n new) (sym (same other label e))
      | false ↦ λ e. exact.cursors other ∙ sym (follows.others other e)
    ] refl

pub bytes_few : (engine : EngineState) (log : LogState) (ends : EndsState) → HasRoom engine log ends → engine.number ≤ 2 ^ 35 + 1 → ends.bytes < 2 ^ 40
bytes_few engine log ends has few = by ends.bytes (end_bytes engine.sessions) engine.number has.exact.bytes has.few few
  where
    by : (b e n : ℕ) → b ≡ e → e ≤ 16 * n → n ≤ 2 ^ 35 + 1 → b < 2 ^ 40
    by b e n p q r = omega (arith, p, q, r)

pub bytes_within : (engine : EngineState) (log : LogState) (ends : EndsState) → HasRoom engine log ends → ends.bytes ≤ log.room
bytes_within engine log ends has = subst (λ (n : ℕ). n ≤ log.room) (sym has.exact.bytes) has.room

pub ends_there : (step : Step) (engine : EngineState) (log : LogState) (ends : EndsState) → HasRoom engine log ends
    → ended_bytes (made_by step).kind + end_bytes (engine_after_step engine step).sessions ≤ end_bytes engine.sessions + begun_bytes (made_by step).kind
    → ended_bytes (made_by step).kind ≤ ends.bytes + begun_bytes (made_by step).kind
ends_there step engine log ends has law = by (ended_bytes (made_by step).kind) (begun_bytes (made_by step).kind) ends.bytes (end_bytes engine.sessions) (end_bytes (engine_after_step engine step).sessions) has.exact.bytes law
  where
    by : (d b n e e' : ℕ) → n ≡ e → d + e' ≤ e + b → d ≤ n + b
    by d b n e e' p q = omega (arith, p, q)

pub cursors_few : (label : ℕ) (engine : EngineState) (log : LogState) (ends : EndsState) → HasRoom engine log ends → engine.number ≤ 2 ^ 35 + 1 → count_of ends label < 2 ^ 40
cursors_few label engine log ends has few = by (count_of ends label) (open_count label engine.sessions) (end_bytes engine.sessions) engine.number (has.exact.cursors label) (open_within label engine.sessions) has.few few
  where
    by : (c o e n : ℕ) → c ≡ o → o ≤ e → e ≤ 16 * n → n ≤ 2 ^ 35 + 1 → c < 2 ^ 40
    by c o e n p q r s = omega (arith, p, q, r, s)

pub own_open : (label : ℕ) (kind : EntryKind) (engine : EngineState) (new : List LiveState) (log : LogState) (ends : EndsState) → HasRoom engine log ends → Follows label kind engine.sessions new → open_after kind (count_of ends label) ≡ open_count label new
own_open label kind engine new log ends has follows = ap (open_after kind) (has.exact.cursors label) ∙ sym follows.own

pub own_within : (label : ℕ) (kind : EntryKind) (engine : EngineState) (new : List LiveState) (log : LogState) (ends : EndsState) (own : ℕ) → HasRoom engine log ends → Follows label kind engine.sessions new → own ≡ session_bytes label engine.sessions → own ≤ ends.bytes + session_bytes label new
own_within label kind engine new log ends own has follows is_own =
    by own (session_bytes label engine.sessions) ends.bytes (end_bytes engine.sessions) (end_bytes new) (session_bytes label new) is_own has.exact.bytes follows.sum
  where
    by : (o s b e e' s' : ℕ) → o ≡ s → b ≡ e → e' + s ≡ e + s' → o ≤ b + s'
    by o s b e e' s' p q r = omega (arith, p, q, r)

-- ---- room after a step

pub room_after : (engine : EngineState) (old new : LogState) (ends : EndsState) (enough : ℕ) (ends' : EndsState) (step : Step) → HasRoom engine old ends
    → length (stream_bytes (entries_of_step (Some step))) + most_bytes engine.number ≤ most_bytes (engine_after_step engine step).number → is_label (made_by step).session.0 ≡ true
    → ended_bytes (made_by step).kind + end_bytes (engine_after_step engine step).sessions ≤ end_bytes engine.sessions + begun_bytes (made_by step).kind
    → Follows (made_by step).session.0 (made_by step).kind engine.sessions (engine_after_step engine step).sessions
    → enough + ended_bytes (made_by step).kind ≡ ends.bytes + begun_bytes (made_by step).kind
    → new.stream ≡ appended (stream_bytes (entries_of_step (Some step))) old.stream → enough ≤ new.room → CountsEnds (engine_after_step engine step).sessions ends' → HasRoom (engine_after_step engine step) new ends'
room_after engine old new ends enough ends' step has short label law follows counted stream room exact =
    let counted_now : enough + ended_bytes (made_by step).kind ≡ end_bytes engine.sessions + begun_bytes (made_by step).kind = subst (λ (n : ℕ). enough + ended_bytes (made_by step).kind ≡ n + begun_bytes (made_by step).kind) has.exact.bytes counted in
    record {
      exact = exact;
      labels = follows.labels has.labels label;
      room = within (end_bytes (engine_after_step engine step).sessions) enough new.room (no_more_ends (ended_bytes (made_by step).kind) (begun_bytes (made_by step).kind) (end_bytes engine.sessions) (end_bytes (engine_after_step engine step).sessions) enough law counted_now) room;
      few = few_after (ended_bytes (made_by step).kind) (begun_bytes (made_by step).kind) (end_bytes engine.sessions) (end_bytes (engine_after_step engine step).sessions) engine.number (engine_after_step engine step).number (step_length step) has.few (few_begun (made_by step).kind) law (number_after engine step) (step_counts step);
      short = subst (λ (n : ℕ). n ≤ most_bytes (engine_after_step engine step).number) (sym (end_appended (stream_bytes (entries_of_step (Some step))) old.stream new.stream stream))
          (short_after (stream_end old.stream) (length (stream_bytes (entries_of_step (Some step)))) (most_bytes engine.number) (most_bytes (engine_after_step engine step).number) has.short short);
    }
  where
    within : (a b c : ℕ) → a ≤ b → b ≤ c → a ≤ c
    within a b c p q = omega (arith, p, q)

pub room_counted : (engine made : EngineState) (old new : LogState) (ends ends' : EndsState) (enough own : ℕ) (step : Step) → HasRoom engine old ends
    → length (stream_bytes (entries_of_step (Some step))) + most_bytes engine.number ≤ most_bytes (engine_after_step engine step).number → is_label (made_by step).session.0 ≡ true
    → ended_bytes (made_by step).kind + end_bytes (engine_after_step engine step).sessions ≤ end_bytes engine.sessions + begun_bytes (made_by step).kind
    → Follows (made_by step).session.0 (made_by step).kind engine.sessions (engine_after_step engine step).sessions
    → own ≡ session_bytes (made_by step).session.0 engine.sessions → enough + ended_bytes (made_by step).kind ≡ ends.bytes + begun_bytes (made_by step).kind
    → made ≡ engine_after_step engine step → new.stream ≡ appended (stream_bytes (entries_of_step (Some step))) old.stream → enough ≤ new.room
    → IsCountedAnew (made_by step).session.0 (open_after (made_by step).kind (count_of ends (made_by step).session.0)) ((ends.bytes + session_bytes (made_by step).session.0 made.sessions) - own) ends ends' → HasRoom made new ends'
room_counted engine made old new ends ends' enough own step has short label law follows is_own counted is_made stream room told =
    let after = engine_after_step engine step in
    let by = made_by step in
    let told_after = subst (λ (e : EngineState). IsCountedAnew by.session.0 (open_after by.kind (count_of ends by.session.0)) ((ends.bytes + session_bytes by.session.0 e.sessions) - own) ends ends') is_made told in
    subst (λ (e : EngineState). HasRoom e new ends') (sym is_made)
    (room_after engine old new ends enough ends' step has short label law follows counted stream room
    (counted_after by.session.0 by.kind engine.sessions after.sessions ends ends' own follows has.exact is_own told_after))

-- ---- after want of memory

-- where no session is live
pub room_closed : (engine : EngineState) (log : LogState) (ends : EndsState) → engine.sessions ≡ [] → log.stream ≡ empty_stream → CountsEnds [] ends → HasRoom engine log ends
room_closed engine log ends none stream told = record {
  exact = subst (λ (sessions : List LiveState). CountsEnds sessions ends) (sym none) told;
  labels = subst HaveLabels (sym none) tt;
  room = nothing (end_bytes engine.sessions) log.room (ap end_bytes none);
  few = nothing (end_bytes engine.sessions) (16 * engine.number) (ap end_bytes none);
  short = nothing (stream_end log.stream) (most_bytes engine.number) (ap stream_end stream);
}
  where
    nothing : (a b : ℕ) → a ≡ 0 → a ≤ b
    nothing a b e = omega (arith, e)

-- ---- what ends something

no_begin : (k : EntryKind) → ends_something k ≡ true → (begun_bytes k ≡ 0) × (may_lack_memory k ≡ false)
no_begin entry.Enter h = impossible h
no_begin entry.Leave h = (refl, refl)
no_begin (entry.Open table) h = impossible h
no_begin (entry.Shut table) h = (refl, refl)
no_begin entry.Begin h = impossible h
no_begin entry.Save h = impossible h
no_begin (entry.Change change) h = impossible h
no_begin entry.Release h = (refl, refl)
no_begin entry.Undo h = (refl, refl)
no_begin entry.UndoAll h = (refl, refl)
no_begin entry.Commit h = (refl, refl)
no_begin (entry.Schema step) h = impossible h

pub lacking : (step : Step) (ends ends' room : ℕ) → ends ≤ room → ends' + ended_bytes (made_by step).kind ≡ ends + begun_bytes (made_by step).kind
    → MayLackMemory step (length (stream_bytes (entries_of_step (Some step))) + ends') room → logged_step_may_lack_memory step ≡ true
lacking (Alone made) ends ends' room le counted lack = refl
lacking (One made) ends ends' room le counted lack =
    elim (ends_something made.kind) as (λ b. ends_something made.kind ≡ b → not b ≡ true) [
      | false ↦ λ e. refl
      | true ↦ λ e.
          let last = no_begin made.kind e in
          elim lack [
            | inl short ↦ absurd (never (ended_bytes made.kind) (begun_bytes made.kind) ends ends' room (length (stream_bytes (made ∷ []))) le counted last.0 (one_size made ∙ end_size made.session made.kind e) short)
            | inr lacks ↦ impossible (sym last.1 ∙ lacks)
          ]
    ] refl
  where
    never : (d b n n' room size : ℕ) → n ≤ room → n' + d ≡ n + b → b ≡ 0 → size ≡ d → room < size + n' → ⊥
    never d b n n' room size p q r s t = omega (arith, p, q, r, s, t)

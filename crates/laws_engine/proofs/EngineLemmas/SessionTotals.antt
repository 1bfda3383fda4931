-- What the sessions of an engine come to, by a count of each, when one of them changes.
use Rattle.std.proofs.Common.{◌≡◌, ℕ, suc, ◌+◌, ◌<◌, ◌≤◌, true, false, not, ◌||◌, cond, List, [], ◌∷◌, length, Option, Some, None, refl, sym, ap, subst, ◌∙◌, arith}
use Rattle.std.specs.Prelude.{◌==◌, nat_le, nat_lt, is_some, option_and_then}
use Rattle.std.specs.List.{AllByRecursion, list_any, sum_by}
use Rattle.std.proofs.lemmas.Bool.Decides.{nat_tests}
use Rattle.std.proofs.lemmas.List.Sums.{sum_by-cons}
use Rattle.common_lemmas.proofs.Lists.{all_each}
use Rattle.common_lemmas.proofs.Booleans.{impossible}
use Rattle.database_state.specs.State.{DatabaseState, LiveSession, levels}
use Rattle.database_state.specs.Step.{with_one, without_one}
use Rattle.laws_versions.specs.History.{EachTwo, LabelsRise}
use Rattle.laws_versions.proofs.HistoryLemmas.Lists.{each_map}
use Rattle.version_cleanup.specs.LiveSessions.{LiveState, insert_session, left, levels_in, levels_of, live_state, session_in, with_session}
use Rattle.laws_engine.specs.EngineState.{EngineState}
use Rattle.laws_engine.specs.HoldsState.{HoldsState}
use Rattle.laws_engine.proofs.EngineLemmas.AfterEntries.{levels_told}

-- ---- numbers

more : (k a b c d x y : ℕ) → x ≡ a + c → y ≡ b + d → a ≤ b + k → c ≡ d → x ≤ y + k
more k a b c d x y p q h e = omega (arith, p, q, h, e)

more_later : (k s a b x y : ℕ) → x ≡ s + a → y ≡ s + b → a ≤ b + k → x ≤ y + k
more_later k s a b x y p q h = omega (arith, p, q, h)

fewer : (k a b c d x y : ℕ) → x ≡ a + c → y ≡ b + d → k + a ≤ b → c ≤ d → k + x ≤ y
fewer k a b c d x y p q h g = omega (arith, p, q, h, g)

fewer_later : (k s a b x y : ℕ) → x ≡ s + a → y ≡ s + b → k + a ≤ b → k + x ≤ y
fewer_later k s a b x y p q h = omega (arith, p, q, h)

no_more : (a b c d x y : ℕ) → x ≡ a + c → y ≡ b + d → a ≤ b → c ≤ d → x ≤ y
no_more a b c d x y p q h g = omega (arith, p, q, h, g)

pub le_self : (n : ℕ) → n ≤ n
le_self n = omega arith

-- ---- more

abbrev pub LabelBelow : ℕ → LiveState → Type 0
LabelBelow label s = label < s.label

abbrev pub RisesTo : LiveState → LiveState → Type 0
RisesTo one other = one.label < other.label

-- no session has a label below all of theirs
pub untouched : (label : ℕ) (change : LiveState → LiveState) (sessions : List LiveState) → AllByRecursion (LabelBelow label) sessions → with_session label change sessions ≡ sessions
untouched label change [] h = refl
untouched label change (s ∷ sessions) h = λ i. cond (apart s.label label h.0 i) (change s) s ∷ untouched label change sessions h.1 i
  where
    apart : (a b : ℕ) → b < a → (a == b) ≡ false
    apart a b lt = grind (arith, nat_tests)

pub grows : (count : LiveState → ℕ) (k label : ℕ) (change : LiveState → LiveState) → ((s : LiveState) → count (change s) ≤ count s + k) → (sessions : List LiveState) → EachTwo RisesTo sessions → sum_by count (with_session label change sessions) ≤ sum_by count sessions + k
grows count k label change more_of [] h = omega arith
grows count k label change more_of (s ∷ sessions) h =
    let after = with_session label change sessions in
    elim (s.label == label) as (λ b. (s.label == label) ≡ b → sum_by count (cond b (change s) s ∷ after) ≤ sum_by count (s ∷ sessions) + k) [
      | true ↦ λ e. more k (count (change s)) (count s) (sum_by count after) (sum_by count sessions) (sum_by count (change s ∷ after)) (sum_by count (s ∷ sessions)) (sum_by-cons count (change s) after) (sum_by-cons count s sessions) (more_of s)
          (ap (sum_by count) (untouched label change sessions (subst (λ (n : ℕ). AllByRecursion (LabelBelow n) sessions) (same s.label label e) h.0)))
      | false ↦ λ e. more_later k (count s) (sum_by count after) (sum_by count sessions) (sum_by count (s ∷ after)) (sum_by count (s ∷ sessions)) (sum_by-cons count s after) (sum_by-cons count s sessions) (grows count k label change more_of sessions h.1)
    ] refl
  where
    same : (a b : ℕ) → (a == b) ≡ true → a ≡ b
    same a b e = grind (arith, nat_tests)

pub inserted : (count : LiveState → ℕ) (s : LiveState) (sessions : List LiveState) → sum_by count (insert_session s sessions) ≡ count s + sum_by count sessions
inserted count s [] = sum_by-cons count s []
inserted count s (other ∷ sessions) =
    elim (nat_lt s.label other.label) as (λ b. sum_by count (cond b (s ∷ other ∷ sessions) (other ∷ insert_session s sessions)) ≡ count s + sum_by count (other ∷ sessions)) [
      | true ↦ sum_by-cons count s (other ∷ sessions)
      | false ↦ swap (count other) (count s) (sum_by count sessions) (sum_by count (insert_session s sessions)) (sum_by count (other ∷ insert_session s sessions)) (sum_by count (other ∷ sessions))
          (sum_by-cons count other (insert_session s sessions)) (sum_by-cons count other sessions) (inserted count s sessions)
    ]
  where
    swap : (a b c d x y : ℕ) → x ≡ a + d → y ≡ a + c → d ≡ b + c → x ≡ b + y
    swap a b c d x y p q r = omega (arith, p, q, r)

pub one_more_open : (table : ℕ) (tables : List ℕ) → length (with_one table tables) ≡ length tables + 1
one_more_open table [] = refl
one_more_open table (other ∷ tables) =
    elim (nat_lt table other) as (λ b. length (cond b (table ∷ other ∷ tables) (other ∷ with_one table tables)) ≡ suc (length tables) + 1) [
      | true ↦ up (length tables)
      | false ↦ ap (λ (n : ℕ). suc n) (one_more_open table tables) ∙ turn (length tables)
    ]
  where
    up : (n : ℕ) → suc (suc n) ≡ suc n + 1
    up n = omega arith

    turn : (n : ℕ) → suc (n + 1) ≡ suc n + 1
    turn n = omega arith

-- ---- less

no_more_all : (count : LiveState → ℕ) (label : ℕ) (change : LiveState → LiveState) → ((s : LiveState) → count (change s) ≤ count s) → (sessions : List LiveState) → sum_by count (with_session label change sessions) ≤ sum_by count sessions
no_more_all count label change keeps [] = omega arith
no_more_all count label change keeps (s ∷ sessions) =
    let changed = cond (s.label == label) (change s) s in
    let after = with_session label change sessions in
    no_more (count changed) (count s) (sum_by count after) (sum_by count sessions) (sum_by count (changed ∷ after)) (sum_by count (s ∷ sessions)) (sum_by-cons count changed after) (sum_by-cons count s sessions)
    (elim (s.label == label) as (λ b. count (cond b (change s) s) ≤ count s) [ true ↦ keeps s | false ↦ le_self (count s) ]) (no_more_all count label change keeps sessions)

abbrev pub EndsBy : (LiveState → ℕ) → ℕ → (LiveState → LiveState) → Option LiveState → Type 0
EndsBy count k change None = ⊥
EndsBy count k change (Some s) = k + count (change s) ≤ count s

pub ends_by : (count : LiveState → ℕ) (k label : ℕ) (change : LiveState → LiveState) → ((s : LiveState) → count (change s) ≤ count s) → (sessions : List LiveState) → EndsBy count k change (session_in label sessions) → k + sum_by count (with_session label change sessions) ≤ sum_by count sessions
ends_by count k label change keeps [] h = absurd h
ends_by count k label change keeps (s ∷ sessions) h =
    let after = with_session label change sessions in
    elim (s.label == label) as (λ b. EndsBy count k change (cond b (Some s) (session_in label sessions)) → k + sum_by count (cond b (change s) s ∷ after) ≤ sum_by count (s ∷ sessions)) [
      | true ↦ λ g. fewer k (count (change s)) (count s) (sum_by count after) (sum_by count sessions) (sum_by count (change s ∷ after)) (sum_by count (s ∷ sessions)) (sum_by-cons count (change s) after) (sum_by-cons count s sessions) g (no_more_all count label change keeps sessions)
      | false ↦ λ g. fewer_later k (count s) (sum_by count after) (sum_by count sessions) (sum_by count (s ∷ after)) (sum_by count (s ∷ sessions)) (sum_by-cons count s after) (sum_by-cons count s sessions) (ends_by count k label change keeps sessions g)
    ] h

-- of a session in a transaction
pub in_levels : (count : LiveState → ℕ) (k : ℕ) (change : LiveState → LiveState) → ((s : LiveState) → 1 ≤ levels_of s.transaction → k + count (change s) ≤ count s) → (label : ℕ) (sessions : List LiveState) → 1 ≤ levels_in label sessions → EndsBy count k change (session_in label sessions)
in_levels count k change one label sessions h = by (session_in label sessions) h
  where
    never : 1 ≤ 0 → ⊥
    never h = omega (arith, h)

    by : (o : Option LiveState) → 1 ≤ levels_of (option_and_then (λ (s : LiveState). s.transaction) o) → EndsBy count k change o
    by None h = never h
    by (Some s) h = one s h

-- of a table that is open
pub shut_fewer : (table : ℕ) (tables : List ℕ) → list_any (λ id. id == table) tables ≡ true → length (without_one table tables) + 1 ≡ length tables
shut_fewer table [] h = impossible h
shut_fewer table (id ∷ tables) h =
    elim (id == table) as (λ b. (b || list_any (λ id. id == table) tables) ≡ true → length (cond b tables (id ∷ without_one table tables)) + 1 ≡ suc (length tables)) [
      | true ↦ λ g. up (length tables)
      | false ↦ λ g. turn (length (without_one table tables)) ∙ ap (λ (n : ℕ). suc n) (shut_fewer table tables g)
    ] h
  where
    up : (n : ℕ) → n + 1 ≡ suc n
    up n = omega arith

    turn : (n : ℕ) → suc n + 1 ≡ suc (n + 1)
    turn n = omega arith

pub shut_no_more : (table : ℕ) (tables : List ℕ) → length (without_one table tables) ≤ length tables
shut_no_more table [] = omega arith
shut_no_more table (id ∷ tables) = elim (id == table) as (λ b. length (cond b tables (id ∷ without_one table tables)) ≤ suc (length tables)) [
  | true ↦ up (length tables)
  | false ↦ both (length (without_one table tables)) (length tables) (shut_no_more table tables)
]
  where
    up : (n : ℕ) → n ≤ suc n
    up n = omega arith

    both : (a b : ℕ) → a ≤ b → suc a ≤ suc b
    both a b h = omega (arith, h)

-- of a session that leaves
left_no_more : (count : LiveState → ℕ) (label : ℕ) (sessions : List LiveState) → sum_by count (left label sessions) ≤ sum_by count sessions
left_no_more count label [] = omega arith
left_no_more count label (s ∷ sessions) =
    let after = left label sessions in
    elim (s.label == label) as (λ b. sum_by count (cond (not b) (s ∷ after) after) ≤ sum_by count (s ∷ sessions)) [
      | true ↦ over (count s) (sum_by count after) (sum_by count sessions) (sum_by count (s ∷ sessions)) (sum_by-cons count s sessions) (left_no_more count label sessions)
      | false ↦ no_more (count s) (count s) (sum_by count after) (sum_by count sessions) (sum_by count (s ∷ after)) (sum_by count (s ∷ sessions)) (sum_by-cons count s after) (sum_by-cons count s sessions) (le_self (count s)) (left_no_more count label sessions)
    ]
  where
    over : (a b c y : ℕ) → y ≡ a + c → b ≤ c → b ≤ y
    over a b c y q h = omega (arith, q, h)

pub left_fewer : (count : LiveState → ℕ) (k : ℕ) → ((s : LiveState) → k ≤ count s) → (label : ℕ) (sessions : List LiveState) → is_some (session_in label sessions) ≡ true → k + sum_by count (left label sessions) ≤ sum_by count sessions
left_fewer count k least label [] h = impossible h
left_fewer count k least label (s ∷ sessions) h =
    let after = left label sessions in
    elim (s.label == label) as (λ b. is_some (cond b (Some s) (session_in label sessions)) ≡ true → k + sum_by count (cond (not b) (s ∷ after) after) ≤ sum_by count (s ∷ sessions)) [
      | true ↦ λ g. over k (count s) (sum_by count after) (sum_by count sessions) (sum_by count (s ∷ sessions)) (sum_by-cons count s sessions) (least s) (left_no_more count label sessions)
      | false ↦ λ g. fewer_later k (count s) (sum_by count after) (sum_by count sessions) (sum_by count (s ∷ after)) (sum_by count (s ∷ sessions)) (sum_by-cons count s after) (sum_by-cons count s sessions) (left_fewer count k least label sessions g)
    ] h
  where
    over : (k a b c y : ℕ) → y ≡ a + c → k ≤ a → b ≤ c → k + b ≤ y
    over k a b c y q low h = omega (arith, q, low, h)

-- ---- the levels

pub level_of : (n : ℕ) → nat_le 1 n ≡ true → 1 ≤ n
level_of n h = grind (arith, nat_tests)

pub two_levels : (n : ℕ) → nat_le 2 n ≡ true → 1 ≤ n
two_levels n h = grind (arith, nat_tests)

pub one_level : (n : ℕ) → (n == 1) ≡ true → 1 ≤ n
one_level n h = grind (arith, nat_tests)

-- the levels of a session in a transaction
pub levels_there : (engine : EngineState) (state : DatabaseState) (session : ℕ) → HoldsState engine state → 1 ≤ levels state session → 1 ≤ levels_in session engine.sessions
levels_there engine state session h e = subst (λ (n : ℕ). 1 ≤ n) (sym (levels_told engine state h session)) e

pub rise_told : (engine : EngineState) (state : DatabaseState) → HoldsState engine state → EachTwo RisesTo engine.sessions
rise_told engine state h =
    subst (EachTwo RisesTo) h.sessions (each_map (λ (s : LiveSession). Unit {0}) LabelsRise RisesTo live_state (λ x y p q lt. lt) state.sessions (all_each (λ (s : LiveSession). Unit {0}) (λ s. tt) state.sessions) h.labels)

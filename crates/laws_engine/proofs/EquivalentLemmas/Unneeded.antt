-- The changes that are not needed.
use Rattle.std.proofs.Common.{◌≡◌, ℕ, ◌<◌, Bool, true, false, ◌||◌, cond, List, [], ◌∷◌, Option, Some, None, refl, sym, ap, subst, ◌∙◌, arith}
use Rattle.std.specs.Prelude.{map, IfSome}
use Rattle.std.specs.List.{AllByRecursion, list_any}
use Rattle.std.proofs.lemmas.Bool.Decides.{nat_tests}
use Rattle.common_lemmas.proofs.Lists.{all_weaker}
use Rattle.database_state.specs.State.{DatabaseState, LiveSession, PastChange, Status, Transaction, uncommitted, committed, undone, transaction_of}
use Rattle.database_state.specs.Conflicts.{is_after_begin}
use Rattle.database_state.specs.VersionStore.{is_needed, is_needed_status, from_oldest_needed}
use Rattle.database_state.specs.Equivalence.{AreEquivalent, essential_change}
use Rattle.laws_versions.specs.Records.{Records}
use Rattle.laws_versions.specs.History.{EachTwo, IsHistory, IsPassed, IsPassedBy, LabelsRise}
use Rattle.laws_versions.proofs.HistoryLemmas.Labels.{are_labelled}
use Rattle.laws_versions.proofs.HistoryLemmas.Span.{skipped}

pub passed_unneeded : (number : ℕ) (transactions : ℕ → Option Transaction) (sessions : List LiveSession) → AllByRecursion (λ s. transactions s.label ≡ s.transaction) sessions
    → (item : PastChange) → IsPassed number transactions item → is_needed sessions item ≡ false
passed_unneeded number transactions sessions labels item h = by item.status h
  where
    before : (t : Option Transaction) (at : ℕ) → IfSome t (λ t. at < t.begin) → is_after_begin t at ≡ false
    before None at lt = refl
    before (Some t) at lt = grind (arith, nat_tests)

    none : (sessions : List LiveSession) → AllByRecursion (λ s. transactions s.label ≡ s.transaction) sessions → (at : ℕ) → ((session : ℕ) → IfSome (transactions session) (λ t. at < t.begin))
        → list_any (λ s. is_after_begin s.transaction at) sessions ≡ false
    none [] l at f = refl
    none (s ∷ sessions) l at f =
        ap (λ b. b || list_any (λ s. is_after_begin s.transaction at) sessions) (before s.transaction at (subst (λ u. IfSome u (λ t. at < t.begin)) l.0 (f s.label)))
        ∙ none sessions l.1 at f

    by : (s : Status) → IsPassedBy number transactions s → is_needed_status sessions s ≡ false
    by uncommitted h = absurd h
    by (committed at) h = none sessions labels at h.1
    by undone h = refl

pub needed_kept : (base : Records) (dropped kept : List PastChange) (state : DatabaseState) → IsHistory base dropped kept state → EachTwo LabelsRise state.sessions
    → from_oldest_needed state.sessions state.past ≡ from_oldest_needed state.sessions kept
needed_kept base dropped kept state h rise =
    ap (from_oldest_needed state.sessions) h.past
    ∙ skipped state.sessions dropped kept
    (all_weaker (IsPassed state.number (transaction_of state)) (λ item. is_needed state.sessions item ≡ false) (passed_unneeded state.number (transaction_of state) state.sessions (are_labelled state rise)) dropped h.passed)

-- a past of which nothing that is needed was taken away
same_needed : (state : DatabaseState) (past : List PastChange) → from_oldest_needed state.sessions state.past ≡ from_oldest_needed state.sessions past → AreEquivalent state (record state { past = past })
same_needed state past e = λ i. record { number = state.number; greatest_table = state.greatest_table; tables = state.tables; sessions = state.sessions; past = map (essential_change state.tables) (e i) }

pub kept_equivalent : (base : Records) (dropped kept : List PastChange) (state : DatabaseState) → IsHistory base dropped kept state → EachTwo LabelsRise state.sessions → AreEquivalent state (record state { past = kept })
kept_equivalent base dropped kept state h rise = same_needed state kept (needed_kept base dropped kept state h rise)

pub kept_history : (base : Records) (dropped kept : List PastChange) (state : DatabaseState) → IsHistory base dropped kept state → IsHistory base [] kept (record state { past = kept })
kept_history base dropped kept state h = record { past = refl; passed = tt; keeps = h.keeps }

needed_again : (sessions : List LiveSession) (items : List PastChange) → from_oldest_needed sessions (from_oldest_needed sessions items) ≡ from_oldest_needed sessions items
needed_again sessions [] = refl
needed_again sessions (x ∷ xs) = by (needed_again sessions xs) (is_needed sessions x) refl
  where
    by : from_oldest_needed sessions (from_oldest_needed sessions xs) ≡ from_oldest_needed sessions xs → (b : Bool) → is_needed sessions x ≡ b
        → from_oldest_needed sessions (cond b (x ∷ xs) (from_oldest_needed sessions xs)) ≡ cond b (x ∷ xs) (from_oldest_needed sessions xs)
    by rest true e = ap (λ b. cond b (x ∷ xs) (from_oldest_needed sessions xs)) e
    by rest false e = rest

pub needed_equivalent : (state : DatabaseState) → AreEquivalent state (record state { past = from_oldest_needed state.sessions state.past })
needed_equivalent state = same_needed state (from_oldest_needed state.sessions state.past) (sym (needed_again state.sessions state.past))

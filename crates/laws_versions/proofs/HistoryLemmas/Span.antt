-- The span of the version store, by the changes that are kept.
use Rattle.std.proofs.Common.{◌≡◌, ℕ, ◌<◌, false, ◌||◌, cond, List, [], ◌∷◌, ◌++◌, Option, Some, None, refl, ap, subst, ◌∙◌, arith}
use Rattle.std.specs.Prelude.{IfSome, sum_by}
use Rattle.std.specs.List.{AllByRecursion, list_any}
use Rattle.std.proofs.lemmas.Bool.Decides.{nat_tests}
use Rattle.common_lemmas.proofs.Lists.{all_weaker}
use Rattle.database_state.specs.State.{DatabaseState, LiveSession, PastChange, Transaction, Status, uncommitted, committed, undone, transaction_of}
use Rattle.database_state.specs.Conflicts.{is_after_begin}
use Rattle.database_state.specs.VersionStore.{is_needed, is_needed_status, from_oldest_needed, cost_of, version_span}
use Rattle.laws_versions.specs.Records.{Records}
use Rattle.laws_versions.specs.History.{EachTwo, IsHistory, IsPassed, IsPassedBy, LabelsRise}
use Rattle.laws_versions.proofs.HistoryLemmas.Labels.{AreLabelled, are_labelled}

passed_unneeded : (state : DatabaseState) → AreLabelled state → (item : PastChange) → IsPassed state.number (transaction_of state) item → is_needed state.sessions item ≡ false
passed_unneeded state labels item h = by item.status h
  where
    before : (t : Option Transaction) (at : ℕ) → IfSome t (λ t. at < t.begin) → is_after_begin t at ≡ false
    before None at lt = refl
    before (Some t) at lt = grind (arith, nat_tests)

    none : (sessions : List LiveSession) → AllByRecursion (λ s. transaction_of state s.label ≡ s.transaction) sessions → (at : ℕ) → ((session : ℕ) → IfSome (transaction_of state session) (λ t. at < t.begin)) → list_any (λ s. is_after_begin s.transaction at) sessions ≡ false
    none [] l at f = refl
    none (s ∷ sessions) l at f =
        ap (λ b. b || list_any (λ s. is_after_begin s.transaction at) sessions) (before s.transaction at (subst (λ u. IfSome u (λ t. at < t.begin)) l.0 (f s.label)))
        ∙ none sessions l.1 at f

    by : (s : Status) → IsPassedBy state.number (transaction_of state) s → is_needed_status state.sessions s ≡ false
    by uncommitted h = absurd h
    by (committed at) h = none state.sessions labels at h.1
    by undone h = refl

pub skipped : (sessions : List LiveSession) (dropped kept : List PastChange) → AllByRecursion (λ item. is_needed sessions item ≡ false) dropped → from_oldest_needed sessions (dropped ++ kept) ≡ from_oldest_needed sessions kept
skipped sessions [] kept h = refl
skipped sessions (item ∷ dropped) kept h = ap (λ b. cond b (item ∷ dropped ++ kept) (from_oldest_needed sessions (dropped ++ kept))) h.0 ∙ skipped sessions dropped kept h.1

pub span_kept : (base : Records) (dropped kept : List PastChange) (state : DatabaseState) → IsHistory base dropped kept state → EachTwo LabelsRise state.sessions
    → version_span state ≡ sum_by (λ item. cost_of item.change item.before) (from_oldest_needed state.sessions kept)
unfolding version_span
span_kept base dropped kept state h rise =
    ap (λ items. sum_by (λ (item : PastChange). cost_of item.change item.before) (from_oldest_needed state.sessions items)) h.past
    ∙ ap (sum_by (λ (item : PastChange). cost_of item.change item.before)) (skipped state.sessions dropped kept (all_weaker (IsPassed state.number (transaction_of state)) (λ item. is_needed state.sessions item ≡ false) (passed_unneeded state (are_labelled state rise)) dropped h.passed))

-- What a session finds has the keys of the record that it sees, and is that record where no escrow column was changed.
use Rattle.std.proofs.Common.{◌≡◌, ℕ, Bool, true, false, ◌&&◌, cond, List, [], ◌∷◌, refl, sym, ap, ◌∙◌}
use Rattle.std.specs.Prelude.{filter, fold, Option}
use Rattle.std.specs.List.{AllByRecursion}
use Rattle.column_set.specs.declared.changes.Change.{Change}
use Rattle.column_set.specs.declared.changes.Change.TheVariants.{Put, Drop, Hold, Add}
use Rattle.column_set.specs.RecordValues.{RecordFields}
use Rattle.common_lemmas.proofs.Lists.{all_weaker}
use Rattle.common_lemmas.proofs.Booleans.{impossible}
use Rattle.index_derive.specs.declared.rules.IndexRule.{IndexRule}
use Rattle.index_derive.specs.declared.rules.Schema.{Schema}
use Rattle.database_state.specs.Changes.{is_sum}
use Rattle.column_set.specs.ChangedRecords.{changed_table}
use Rattle.database_state.specs.State.{DatabaseState, PastChange, transaction_of}
use Rattle.database_state.specs.View.{newest, view}
use Rattle.database_state.specs.Conflicts.{yields_key}
use Rattle.laws_versions.specs.Records.{Records, after_item, is_change_of, record_after, records_after_items, records_of}
use Rattle.laws_versions.specs.History.{IsHistory}
use Rattle.laws_versions.specs.Readers.{found_record, hides, is_rewrite, is_unseen, until}
use Rattle.laws_versions.proofs.HistoryLemmas.Lists.{all_both, all_until}
use Rattle.laws_versions.proofs.HistoryLemmas.Viewing.{found_in}
use Rattle.laws_versions.proofs.SumLemmas.StoredRecord.{unhidden}
use Rattle.laws_versions.specs.KeySums.{HasSameKeys, SeesNoSum, adds_to_index}
use Rattle.laws_versions.specs.Variants.{HasNoSums}
use Rattle.laws_versions.proofs.KeyLemmas.KeySums.{left_alone}

-- a lock leaves its record
held : (c : Change) → is_rewrite c ≡ false → is_sum c ≡ false → (r : Option RecordFields) → record_after c r ≡ r
held (Put t b copied values) h g r = impossible (sym h)
held (Drop t b) h g r = impossible (sym h)
held (Hold t b) h g r = refl
held (Add t b c a) h g r = impossible (sym g)

-- ---- what a session finds

locks_only : (test : PastChange → Bool) (t : ℕ) (b : List ℕ) (items : List PastChange) → AllByRecursion (λ q. (test q ≡ true → is_change_of t b q.change ≡ true → is_rewrite q.change ≡ false) × is_sum q.change ≡ false) items → (base : Records)
    → records_after_items test base items t b ≡ base t b
locks_only test t b [] h base = refl
locks_only test t b (q ∷ items) h base =
    elim (test q) as (λ x. test q ≡ x → fold after_item base (cond x (q ∷ filter test items) (filter test items)) t b ≡ base t b) [
      | true ↦ λ e. locks_only test t b items h.1 (after_item base q)
          ∙ elim (is_change_of t b q.change) as (λ x. is_change_of t b q.change ≡ x → cond x (record_after q.change (base t b)) (base t b) ≡ base t b) [
            | true ↦ λ f. held q.change (h.0.0 e f) h.0.1 (base t b)
            | false ↦ λ f. refl
          ] refl
      | false ↦ λ e. locks_only test t b items h.1 base
    ] refl

only : (a b c : Bool) → a ≡ true → c ≡ true → ((a && b) && c) ≡ false → b ≡ false
only true true true e f g = g
only true true false e f g = impossible f
only true false c e f g = refl
only false b c e f g = impossible e

pub found_without_sums : (base : Records) (dropped kept : List PastChange) (state : DatabaseState) → IsHistory base dropped kept state → HasNoSums kept → (session table : ℕ) (bookmark : List ℕ)
    → found_record session (transaction_of state session) table bookmark (records_of (newest state) table bookmark) kept ≡ records_of (view state session) table bookmark
found_without_sums base dropped kept state h none session table bookmark =
    found_in base dropped kept state h session table bookmark
    ∙ locks_only (is_unseen session (transaction_of state session)) table bookmark (until (hides session (transaction_of state session) table bookmark) kept)
    (all_both (λ q. hides session (transaction_of state session) table bookmark q ≡ false) (λ q. is_sum q.change ≡ false)
    (λ q. (is_unseen session (transaction_of state session) q ≡ true → is_change_of table bookmark q.change ≡ true → is_rewrite q.change ≡ false) × is_sum q.change ≡ false)
    (λ q miss sum. ((λ unseen mine. only (is_change_of table bookmark q.change) (is_rewrite q.change) (is_unseen session (transaction_of state session) q) mine unseen miss), sum))
    (until (hides session (transaction_of state session) table bookmark) kept) (unhidden (hides session (transaction_of state session) table bookmark) kept) (all_until (λ q. is_sum q.change ≡ false) (hides session (transaction_of state session) table bookmark) kept none))
    (records_of (view state session))

-- the keys, where the index sees no sum
pub found_keys : (base : Records) (dropped kept : List PastChange) (state : DatabaseState) → IsHistory base dropped kept state → (session table : ℕ) (rule : IndexRule) (schema : Schema) → SeesNoSum rule table kept → (bookmark : List ℕ)
    → HasSameKeys rule schema (found_record session (transaction_of state session) table bookmark (records_of (newest state) table bookmark) kept) (records_of (view state session) table bookmark)
found_keys base dropped kept state h session table rule schema plain bookmark key =
    ap (yields_key rule schema key) (found_in base dropped kept state h session table bookmark)
    ∙ left_alone rule schema (is_unseen session (transaction_of state session)) table bookmark (until (hides session (transaction_of state session) table bookmark) kept)
    (all_weaker (λ q. hides session (transaction_of state session) table bookmark q ≡ false) (λ q. is_unseen session (transaction_of state session) q ≡ true → is_change_of table bookmark q.change ≡ true → is_rewrite q.change ≡ false)
    (λ q miss unseen mine. only (is_change_of table bookmark q.change) (is_rewrite q.change) (is_unseen session (transaction_of state session) q) mine unseen miss)
    (until (hides session (transaction_of state session) table bookmark) kept) (unhidden (hides session (transaction_of state session) table bookmark) kept))
    (all_until (λ item. changed_table item.change ≡ table → adds_to_index rule item.change ≡ false) (hides session (transaction_of state session) table bookmark) kept plain)
    (records_of (view state session)) key

-- The record that a session finds has the sums that the session does not see.
use Rattle.std.proofs.Common.{◌≡◌, ℕ, Bool, true, false, ◌&&◌, cond, List, [], ◌∷◌, ◌++◌, Option, Some, None, refl, sym, ap, ◌∙◌}
use Rattle.std.specs.Prelude.{ℤ, filter, flat_map, fold, is_some, option_map}
use Rattle.std.specs.List.{AllByRecursion}
use Rattle.common_lemmas.proofs.Lists.{all_weaker}
use Rattle.common_lemmas.proofs.Booleans.{impossible}
use Rattle.column_set.specs.declared.changes.Change.{Change}
use Rattle.column_set.specs.declared.changes.Change.TheVariants.{Put, Drop, Hold, Add}
use Rattle.column_set.specs.RecordValues.{RecordFields}
use Rattle.database_state.specs.State.{DatabaseState, PastChange, transaction_of}
use Rattle.database_state.specs.View.{newest, view}
use Rattle.laws_versions.specs.Records.{Records, after_item, is_change_of, record_after, records_after_items, records_of}
use Rattle.laws_versions.specs.History.{IsHistory}
use Rattle.laws_versions.specs.Readers.{found_record, hides, is_rewrite, is_unseen, until}
use Rattle.laws_versions.proofs.HistoryLemmas.Viewing.{found_in}
use Rattle.laws_versions.specs.EscrowSums.{sums_by, sums_where, unseen_sums, with_sums}

-- a change that does not set its record makes its sum, if it has one
summed : (c : Change) → is_rewrite c ≡ false → (rest : List (ℕ × ℤ)) (r : Option RecordFields) → option_map (λ values. with_sums values rest) (record_after c r) ≡ option_map (λ values. with_sums values (sums_by c ++ rest)) r
summed (Put t b copied values) h rest r = impossible (sym h)
summed (Drop t b) h rest r = impossible (sym h)
summed (Hold t b) h rest r = refl
summed (Add t b c a) h rest None = refl
summed (Add t b c a) h rest (Some values) = refl

unchanged : (r : Option RecordFields) → r ≡ option_map (λ values. with_sums values []) r
unchanged None = refl
unchanged (Some values) = refl

pub sums_made : (test : PastChange → Bool) (t : ℕ) (b : List ℕ) (items : List PastChange) → AllByRecursion (λ q. test q ≡ true → is_change_of t b q.change ≡ true → is_rewrite q.change ≡ false) items → (base : Records)
    → records_after_items test base items t b ≡ option_map (λ values. with_sums values (sums_where test t b items)) (base t b)
sums_made test t b [] h base = unchanged (base t b)
sums_made test t b (q ∷ items) h base =
    elim (test q) as (λ x. test q ≡ x → fold after_item base (cond x (q ∷ filter test items) (filter test items)) t b
    ≡ option_map (λ values. with_sums values (flat_map (λ item. sums_by item.change) (cond (x && is_change_of t b q.change) (q ∷ filter mine items) (filter mine items)))) (base t b)) [
      | true ↦ λ e. sums_made test t b items h.1 (after_item base q)
          ∙ elim (is_change_of t b q.change) as (λ y. is_change_of t b q.change ≡ y → option_map (λ values. with_sums values (sums_where test t b items)) (cond y (record_after q.change (base t b)) (base t b))
          ≡ option_map (λ values. with_sums values (flat_map (λ item. sums_by item.change) (cond y (q ∷ filter mine items) (filter mine items)))) (base t b)) [
            | true ↦ λ f. summed q.change (h.0 e f) (sums_where test t b items) (base t b)
            | false ↦ λ f. refl
          ] refl
      | false ↦ λ e. sums_made test t b items h.1 base
    ] refl
  where
    mine : PastChange → Bool
    mine item = test item && is_change_of t b item.change

pub unhidden : (test : PastChange → Bool) (items : List PastChange) → AllByRecursion (λ q. test q ≡ false) (until test items)
unhidden test [] = tt
unhidden test (x ∷ xs) = elim (test x) as (λ b. test x ≡ b → AllByRecursion (λ q. test q ≡ false) (cond b [] (x ∷ until test xs))) [ true ↦ λ e. tt | false ↦ λ e. (e, unhidden test xs) ] refl

pub found_with_sums : (base : Records) (dropped kept : List PastChange) (state : DatabaseState) → IsHistory base dropped kept state → (session table : ℕ) (bookmark : List ℕ)
    → found_record session (transaction_of state session) table bookmark (records_of (newest state) table bookmark) kept
    ≡ option_map (λ values. with_sums values (unseen_sums session (transaction_of state session) table bookmark kept)) (records_of (view state session) table bookmark)
found_with_sums base dropped kept state h session table bookmark =
    found_in base dropped kept state h session table bookmark
    ∙ sums_made (is_unseen session (transaction_of state session)) table bookmark (until (hides session (transaction_of state session) table bookmark) kept)
    (all_weaker (λ q. hides session (transaction_of state session) table bookmark q ≡ false) (λ q. is_unseen session (transaction_of state session) q ≡ true → is_change_of table bookmark q.change ≡ true → is_rewrite q.change ≡ false)
    (λ q miss unseen mine. only (is_change_of table bookmark q.change) (is_rewrite q.change) (is_unseen session (transaction_of state session) q) mine unseen miss)
    (until (hides session (transaction_of state session) table bookmark) kept) (unhidden (hides session (transaction_of state session) table bookmark) kept))
    (records_of (view state session))
  where
    only : (a b c : Bool) → a ≡ true → c ≡ true → ((a && b) && c) ≡ false → b ≡ false
    only true true true e f g = g
    only true true false e f g = impossible f
    only true false c e f g = refl
    only false b c e f g = impossible e

pub found_there : (base : Records) (dropped kept : List PastChange) (state : DatabaseState) → IsHistory base dropped kept state → (session table : ℕ) (bookmark : List ℕ)
    → is_some (records_of (view state session) table bookmark) ≡ is_some (found_record session (transaction_of state session) table bookmark (records_of (newest state) table bookmark) kept)
found_there base dropped kept state h session table bookmark =
    there (unseen_sums session (transaction_of state session) table bookmark kept) (records_of (view state session) table bookmark)
    ∙ sym (ap is_some (found_with_sums base dropped kept state h session table bookmark))
  where
    there : (sums : List (ℕ × ℤ)) (r : Option RecordFields) → is_some r ≡ is_some (option_map (λ values. with_sums values sums) r)
    there sums None = refl
    there sums (Some values) = refl

-- the stored record of a session's record
pub stored_is : (base : Records) (dropped kept : List PastChange) (state : DatabaseState) → IsHistory base dropped kept state → (session table : ℕ) (bookmark : List ℕ) (stored seen : RecordFields)
    → found_record session (transaction_of state session) table bookmark (records_of (newest state) table bookmark) kept ≡ Some stored → records_of (view state session) table bookmark ≡ Some seen
    → stored ≡ with_sums seen (unseen_sums session (transaction_of state session) table bookmark kept)
stored_is base dropped kept state h session table bookmark stored seen found view_has =
    same stored (with_sums seen (unseen_sums session (transaction_of state session) table bookmark kept))
    (sym found ∙ found_with_sums base dropped kept state h session table bookmark ∙ ap (option_map (λ values. with_sums values (unseen_sums session (transaction_of state session) table bookmark kept))) view_has)
  where
    same : (x y : RecordFields) → Some x ≡ Some y → x ≡ y
    same x y e = cc

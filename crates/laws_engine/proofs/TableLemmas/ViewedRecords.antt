-- What a reader is shown, without the sums that it does not see, is what it sees.
use Rattle.std.proofs.Common.{◌≡◌, ℕ, ◌+◌, ◌-◌, ◌^◌, ◌%◌, ◌<◌, ◌≤◌, Bool, true, false, ◌&&◌, cond, zero, suc, List, [], ◌∷◌, ◌++◌, Option, Some, None, refl, sym, ap, subst, ◌∙◌, arith}
use Rattle.std.specs.Prelude.{ℤ, pos, negsuc, neg_ℤ, ◌==◌, filter, flat_map, fold, is_some, map, option_map, FitsSigned, IfSome}
use Rattle.std.specs.Int.{w32, cast_signed, cast_unsigned, from_le_bytes}
use Rattle.std.specs.List.{AllByRecursion}
use Rattle.std.proofs.lemmas.Bool.{eqb-true}
use Rattle.common_lemmas.proofs.Booleans.{and_left, and_right, impossible}
use Rattle.column_set.specs.declared.changes.Change.{Change}
use Rattle.column_set.specs.declared.changes.Change.TheVariants.{Put, Drop, Hold, Add}
use Rattle.column_set.specs.RecordValues.{RecordFields, values_of}
use Rattle.index_derive.specs.declared.rules.Schema.{Schema}
use Rattle.index_derive.specs.Entries.{is_escrow_column}
use Rattle.database_state.specs.Table.{Table, record_in, schema_of, table_with_id}
use Rattle.database_state.specs.Changes.{escrow_bytes, with_sum}
use Rattle.column_set.specs.ChangedRecords.{changed_table}
use Rattle.database_state.specs.State.{DatabaseState, PastChange, Transaction, transaction_of}
use Rattle.database_state.specs.View.{newest, view}
use Rattle.laws_versions.specs.Records.{Records, is_change_of, records_of}
use Rattle.laws_versions.proofs.ChangeLemmas.Sums.{sums_commute}
use Rattle.laws_versions.specs.Readers.{hides as hides_record, is_unseen as is_unseen_change, until}
use Rattle.laws_versions.proofs.HistoryLemmas.Viewing.{same_there}
use Rattle.laws_versions.specs.EscrowNumbers.{ColumnsRise, holds_number}
use Rattle.laws_versions.specs.EscrowSums.{amounts_to, escrow_value, seen_value, sums_by as sums_by_change, unseen_sums as unseen_kept, with_sums}
use Rattle.laws_versions.proofs.SumLemmas.StoredRecord.{found_with_sums}
use Rattle.laws_versions.proofs.SumLemmas.StoredSums.{all_sums, minus, number_in, other_columns, plus, signed_minus}
use Rattle.laws_versions.proofs.SumLemmas.VeryRecords.{very_record}
use Rattle.laws_versions.specs.RecordNumbers.{AddsToEscrow, HasEscrowNumbers, HoldsNumbers}
use Rattle.laws_versions.proofs.RecordLemmas.EscrowRecords.{numbers_seen}
use Rattle.version_store.specs.declared.calls.Reader.{Reader}
use Rattle.laws_engine.specs.HeldRecords.{seen_record}
use Rattle.laws_engine.specs.HeldSums.{unseen_sums}
use Rattle.laws_engine.specs.VersionedTables.{VersionedTables}
use Rattle.laws_engine.specs.ViewedRecords.{viewed_record, without_sums}
use Rattle.laws_engine.specs.Holding.{Holds, begin_of}
use Rattle.laws_engine.proofs.TableLemmas.FoundRecords.{seen_is_found}
use Rattle.laws_engine.proofs.TableLemmas.HeldSums.{same_sums}
use Rattle.laws_engine.proofs.TableLemmas.Views.{no_record, view_defined}

-- ---- there and back

-- a sum after others is one before them
moved : (sums : List (ℕ × ℤ)) (values : RecordFields) (c : ℕ) (a : ℤ) → with_sum (with_sums values sums) c a ≡ with_sums (with_sum values c a) sums
moved [] values c a = refl
moved (sum ∷ sums) values c a = moved sums (with_sum values sum.0 sum.1) c a ∙ ap (λ v. with_sums v sums) (sums_commute values sum.0 c sum.1 a)

-- sums on escrow columns, each of 32 bits
abbrev pub AreAdded : Schema → List (ℕ × ℤ) → Type 0
AreAdded schema sums = AllByRecursion (λ sum. (is_escrow_column schema sum.0 ≡ true) × FitsSigned w32 sum.1) sums

pub there_and_back : (schema : Schema) (sums : List (ℕ × ℤ)) → AreAdded schema sums → (values : RecordFields) → ColumnsRise values → ((column : ℕ) → is_escrow_column schema column ≡ true → holds_number values column ≡ true)
    → without_sums (with_sums values sums) sums ≡ values
there_and_back schema [] adds values rise holds = refl
there_and_back schema (sum ∷ sums) adds values rise holds =
    ap (λ v. without_sums v sums) (moved sums (with_sum values sum.0 sum.1) sum.0 (neg_ℤ sum.1) ∙ ap (λ v. with_sums v sums) (very_record values sum.0 sum.1 adds.0.1 rise (holds sum.0 adds.0.0)))
    ∙ there_and_back schema sums adds.1 values rise holds

-- ---- the sums that a session does not see are on escrow columns

all_until : (P : PastChange → Type 0) (test : PastChange → Bool) (items : List PastChange) → AllByRecursion P items → AllByRecursion P (until test items)
all_until P test [] h = tt
all_until P test (x ∷ items) h = elim (test x) as (λ b. AllByRecursion P (cond b [] (x ∷ until test items))) [ true ↦ tt | false ↦ (h.0, all_until P test items h.1) ]

abbrev AddsIn : List Table → PastChange → Type 0
AddsIn tables item = IfSome (table_with_id tables (changed_table item.change)) (λ t. AddsToEscrow (schema_of t) item.change)

added_by : (schema : Schema) (change : Change) → AddsToEscrow schema change → (rest : List (ℕ × ℤ)) → AreAdded schema rest → AreAdded schema (sums_by_change change ++ rest)
added_by schema (Put table bookmark copied values) h rest adds = adds
added_by schema (Drop table bookmark) h rest adds = adds
added_by schema (Hold table bookmark) h rest adds = adds
added_by schema (Add table bookmark column amount) h rest adds = (h, adds)

are_added : (tables : List Table) (id : ℕ) (found : Table) → table_with_id tables id ≡ Some found → (test : PastChange → Bool) (bookmark : List ℕ) (items : List PastChange) → AllByRecursion (AddsIn tables) items
    → AreAdded (schema_of found) (flat_map (λ item. sums_by_change item.change) (filter (λ item. test item && is_change_of id bookmark item.change) items))
are_added tables id found e test bookmark [] h = tt
are_added tables id found e test bookmark (item ∷ items) h =
    elim (mine item) as (λ b. mine item ≡ b → AreAdded (schema_of found) (flat_map (λ x. sums_by_change x.change) (cond b (item ∷ filter mine items) (filter mine items)))) [
      | true ↦ λ hit. added_by (schema_of found) item.change
          (subst (λ o. IfSome o (λ t. AddsToEscrow (schema_of t) item.change)) (ap (table_with_id tables) (eqb-true (changed_table item.change) id (and_left _ _ (and_right (test item) _ hit))) ∙ e) h.0)
          (flat_map (λ x. sums_by_change x.change) (filter mine items)) (are_added tables id found e test bookmark items h.1)
      | false ↦ λ miss. are_added tables id found e test bookmark items h.1
    ] refl
  where
    mine : PastChange → Bool
    mine x = test x && is_change_of id bookmark x.change

pub unseen_added : (base : Records) (kept : List PastChange) (state : DatabaseState) → HasEscrowNumbers base kept state → (session : ℕ) (transaction : Option Transaction) (id : ℕ) (found : Table) → table_with_id state.tables id ≡ Some found → (bookmark : List ℕ)
    → AreAdded (schema_of found) (unseen_kept session transaction id bookmark kept)
unseen_added base kept state numbers session transaction id found e bookmark =
    are_added state.tables id found e (is_unseen_change session transaction) bookmark (until (hides_record session transaction id bookmark) kept)
    (all_until (AddsIn state.tables) (hides_record session transaction id bookmark) kept numbers.sums)

-- ---- the very record

-- a record of a table that is there
viewed_there : (schema : Schema) (number : ℕ) (bookmark : List ℕ) (sums : List (ℕ × ℤ)) → AreAdded schema sums → (seen : Option RecordFields) → IfSome seen (HoldsNumbers number schema bookmark)
    → option_map (λ values. without_sums values sums) (option_map (λ values. with_sums values sums) seen) ≡ seen
viewed_there schema number bookmark sums adds None h = refl
viewed_there schema number bookmark sums adds (Some values) h = ap Some (there_and_back schema sums adds values h.0 h.1)

pub very_viewed : (base : Records) (dropped kept : List PastChange) (store : VersionedTables) (state : DatabaseState) → Holds base dropped kept store state → HasEscrowNumbers base kept state
    → (reader : Reader) → reader.begin ≡ begin_of (transaction_of state reader.session.0) → (id : ℕ) (bookmark : List ℕ)
    → viewed_record id bookmark reader (record_in store.tables id bookmark) store.held ≡ record_in (view state reader.session.0) id bookmark
very_viewed base dropped kept store state h numbers reader e id bookmark =
    ap (λ sums. option_map (λ values. without_sums values sums) (seen_record id bookmark reader (record_in store.tables id bookmark) store.held)) (same_sums reader transaction e id bookmark kept store.held h.held)
    ∙ ap (option_map (λ values. without_sums values sums))
    (ap (λ (r : Records). seen_record id bookmark reader (r id bookmark) store.held) h.newest
    ∙ seen_is_found reader transaction e id bookmark (records_of (newest state) id bookmark) kept store.held h.held
    ∙ found_with_sums base dropped kept state h.history reader.session.0 id bookmark)
    ∙ by (table_with_id state.tables id) refl (numbers_seen base dropped kept state h.history numbers reader.session.0 id)
  where
    transaction : Option Transaction
    transaction = transaction_of state reader.session.0

    sums : List (ℕ × ℤ)
    sums = unseen_kept reader.session.0 transaction id bookmark kept

    seen : Option RecordFields
    seen = records_of (view state reader.session.0) id bookmark

    nothing : (o : Option RecordFields) → o ≡ None → option_map (λ values. without_sums values sums) (option_map (λ values. with_sums values sums) o) ≡ o
    nothing None f = refl
    nothing (Some values) f = cc

    by : (found : Option Table) → table_with_id state.tables id ≡ found → IfSome found (λ table. (bookmark : List ℕ) → IfSome (records_of (view state reader.session.0) id bookmark) (HoldsNumbers state.number (schema_of table) bookmark))
        → option_map (λ values. without_sums values sums) (option_map (λ values. with_sums values sums) seen) ≡ seen
    by None f held = nothing seen (no_record (view state reader.session.0) id bookmark (same_there (view state reader.session.0) state.tables (view_defined base dropped kept store state h reader.session.0) id ∙ ap is_some f))
    by (Some t) f held =
        viewed_there (schema_of t) state.number bookmark sums (unseen_added base kept state numbers reader.session.0 transaction id t f bookmark) seen (held bookmark)

-- ---- what is viewed of a record that is shown

pub none_unseen : (shown : Option RecordFields) (sums : List (ℕ × ℤ)) → sums ≡ [] → option_map (λ values. without_sums values sums) shown ≡ shown
none_unseen None sums e = refl
none_unseen (Some values) sums e = ap (λ s. Some (without_sums values s)) e

-- the opposite sums of a column have the opposite amounts
opposite_amounts : (column : ℕ) (sums : List (ℕ × ℤ)) → amounts_to column (map (λ sum. (sum.0, neg_ℤ sum.1)) sums) ≡ map neg_ℤ (amounts_to column sums)
opposite_amounts column [] = refl
opposite_amounts column (sum ∷ sums) =
    elim (sum.0 == column) as (λ b. map (λ (one : ℕ × ℤ). one.1) (cond b ((sum.0, neg_ℤ sum.1) ∷ filter (λ one. one.0 == column) (map (λ one. (one.0, neg_ℤ one.1)) sums)) (filter (λ one. one.0 == column) (map (λ one. (one.0, neg_ℤ one.1)) sums)))
    ≡ map neg_ℤ (map (λ (one : ℕ × ℤ). one.1) (cond b (sum ∷ filter (λ one. one.0 == column) sums) (filter (λ one. one.0 == column) sums)))) [
      | true ↦ ap (λ rest. neg_ℤ sum.1 ∷ rest) (opposite_amounts column sums)
      | false ↦ opposite_amounts column sums
    ]

pub values_without : (values : RecordFields) (column : ℕ) (sums : List (ℕ × ℤ)) → amounts_to column sums ≡ [] → values_of (without_sums values sums) column ≡ values_of values column
values_without values column sums e = other_columns values column (map (λ sum. (sum.0, neg_ℤ sum.1)) sums) (opposite_amounts column sums ∙ ap (map neg_ℤ) e)

small : (n : ℕ) → n % 4294967296 < 4294967296
small n = omega arith

whole : (n : ℕ) → n < 4294967296 → (n + 0) % 4294967296 ≡ (n + (4294967296 - 0 % 4294967296)) % 4294967296
whole n h = omega arith

below_zero : (n u : ℕ) → n < 4294967296 → u < 4294967296 → (n + (4294967296 - u)) % 4294967296 ≡ (n + (4294967296 - u % 4294967296)) % 4294967296
below_zero n u h g = omega arith

above_zero : (n u : ℕ) → n < 4294967296 → 0 < u → u ≤ 4294967296 → (n + u) % 4294967296 ≡ (n + (4294967296 - (4294967296 - u) % 4294967296)) % 4294967296
above_zero n u h p g = omega arith

-- the opposite amount added is the amount taken away
one_taken : (n : ℕ) (a : ℤ) → n < 2 ^ 32 → FitsSigned w32 a → plus n (neg_ℤ a) ≡ minus n a
one_taken n (pos zero) h f = whole n h
one_taken n (pos (suc k)) h f = below_zero n (suc k) h (fits k f.sfits)
  where
    fits : (k : ℕ) → suc k < 2147483648 → suc k < 4294967296
    fits k g = omega arith
one_taken n (negsuc k) h f = above_zero n (suc k) h (over k) (fits k f.sfits)
  where
    over : (k : ℕ) → 0 < suc k
    over k = omega arith

    fits : (k : ℕ) → k < 2147483648 → suc k ≤ 4294967296
    fits k g = omega arith

all_taken : (n : ℕ) (amounts : List ℤ) → n < 2 ^ 32 → AllByRecursion (FitsSigned w32) amounts → fold plus n (map neg_ℤ amounts) ≡ fold minus n amounts
all_taken n [] h f = refl
all_taken n (a ∷ amounts) h f =
    ap (λ m. fold plus m (map neg_ℤ amounts)) (one_taken n a h f.0)
    ∙ all_taken (minus n a) amounts (small (n + (2 ^ 32 - cast_unsigned w32 a % 2 ^ 32))) f.1

pub number_without : (values : RecordFields) (column : ℕ) (sums : List (ℕ × ℤ)) → AllByRecursion (FitsSigned w32) (amounts_to column sums) → escrow_value (without_sums values sums) column ≡ seen_value (escrow_value values column) (amounts_to column sums)
number_without values column sums fits =
    ap (cast_signed w32)
    (all_sums values column (map (λ sum. (sum.0, neg_ℤ sum.1)) sums)
    ∙ ap (fold plus (number_in values column)) (opposite_amounts column sums)
    ∙ all_taken (number_in values column) (amounts_to column sums) below fits)
    ∙ sym (signed_minus (number_in values column) (amounts_to column sums) below)
  where
    below : number_in values column < 2 ^ 32
    below = small (from_le_bytes w32 (escrow_bytes values column))

-- ---- the amounts of a reader

amounts_fit : (schema : Schema) (column : ℕ) (sums : List (ℕ × ℤ)) → AreAdded schema sums → AllByRecursion (FitsSigned w32) (amounts_to column sums)
amounts_fit schema column [] adds = tt
amounts_fit schema column (sum ∷ sums) adds =
    elim (sum.0 == column) as (λ b. AllByRecursion (FitsSigned w32) (map (λ (one : ℕ × ℤ). one.1) (cond b (sum ∷ filter (λ one. one.0 == column) sums) (filter (λ one. one.0 == column) sums)))) [
      | true ↦ (adds.0.1, amounts_fit schema column sums adds.1)
      | false ↦ amounts_fit schema column sums adds.1
    ]

pub unseen_fit : (base : Records) (dropped kept : List PastChange) (store : VersionedTables) (state : DatabaseState) → Holds base dropped kept store state → HasEscrowNumbers base kept state
    → (reader : Reader) → reader.begin ≡ begin_of (transaction_of state reader.session.0) → (id : ℕ) → is_some (table_with_id store.tables id) ≡ true → (bookmark : List ℕ) (column : ℕ)
    → AllByRecursion (FitsSigned w32) (amounts_to column (unseen_sums id bookmark reader store.held))
unseen_fit base dropped kept store state h numbers reader e id there bookmark column =
    subst (λ sums. AllByRecursion (FitsSigned w32) (amounts_to column sums)) (sym (same_sums reader (transaction_of state reader.session.0) e id bookmark kept store.held h.held))
    (by (table_with_id state.tables id) refl (sym (same_there store.tables state.tables h.defined id) ∙ there))
  where
    by : (found : Option Table) → table_with_id state.tables id ≡ found → is_some found ≡ true → AllByRecursion (FitsSigned w32) (amounts_to column (unseen_kept reader.session.0 (transaction_of state reader.session.0) id bookmark kept))
    by None f g = impossible g
    by (Some t) f g = amounts_fit (schema_of t) column (unseen_kept reader.session.0 (transaction_of state reader.session.0) id bookmark kept) (unseen_added base kept state numbers reader.session.0 (transaction_of state reader.session.0) id t f bookmark)

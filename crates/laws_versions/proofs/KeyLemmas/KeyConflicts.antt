-- Key conflicts are told by variants.
use Rattle.std.proofs.Common.{◌≡◌, ℕ, Bool, true, false, not, ◌&&◌, ◌||◌, cond, List, [], ◌∷◌, Option, Some, refl, sym, ap, subst, ◌∙◌}
use Rattle.std.specs.Prelude.{◌==◌, find, filter, fold}
use Rattle.std.specs.List.{AllByRecursion, list_any}
use Rattle.std.proofs.lemmas.Bool.{and_from, eqb-true}
use Rattle.common_lemmas.proofs.Booleans.{and_left, and_right, impossible}
use Rattle.common_lemmas.proofs.Numbers.{equal_bytes, same_bytes, self_equal}
use Rattle.column_set.specs.declared.changes.Change.{Change}
use Rattle.index_derive.specs.declared.rules.IndexRule.{IndexRule}
use Rattle.index_derive.specs.declared.rules.Schema.{Schema}
use Rattle.database_state.specs.Table.{Table}
use Rattle.database_state.specs.Changes.{is_sum}
use Rattle.column_set.specs.ChangedRecords.{changed_table, changed_bookmark}
use Rattle.database_state.specs.State.{DatabaseState, PastChange, Transaction, Status, uncommitted, committed, undone, is_undone, transaction_of}
use Rattle.database_state.specs.View.{newest}
use Rattle.database_state.specs.Conflicts.{is_concurrent, is_concurrent_status, has_key_conflict, yields_key}
use Rattle.laws_versions.specs.Records.{Records, after_item, is_change_of, record_after, records_after_items, records_of}
use Rattle.laws_versions.specs.History.{HasBefores, IsHistory, IsPlaced}
use Rattle.laws_versions.specs.Readers.{before_or, is_rewrite, is_standing}
use Rattle.laws_versions.proofs.HistoryLemmas.Concurrent.{key_conflict_kept}
use Rattle.laws_versions.proofs.HistoryLemmas.SeenRecords.{newest_records}
use Rattle.laws_versions.proofs.HistoryLemmas.FoundRecord.{no_sum}
use Rattle.laws_versions.specs.KeySums.{HasKeyBefores, HasSameKeys, SeesNoSum}
use Rattle.laws_versions.specs.Variants.{is_key_held, is_standing_rewrite, next_variant}
use Rattle.laws_versions.proofs.KeyLemmas.KeySums.{after_same, keys_stay}

-- ---- variants

-- the records so far have the keys of those before the next put or drop
pub variant_next : (rule : IndexRule) (schema : Schema) (t : ℕ) (b : List ℕ) (newest : Records) (items : List PastChange) (r : Records) → HasBefores r items → SeesNoSum rule t items → newest t b ≡ records_after_items is_standing r items t b
    → HasSameKeys rule schema (r t b) (next_variant newest t b items)
variant_next rule schema t b newest [] r h plain e key = ap (yields_key rule schema key) (sym e)
variant_next rule schema t b newest (item ∷ items) r h plain e key =
    elim (is_standing_rewrite t b item) as (λ x. is_standing_rewrite t b item ≡ x → yields_key rule schema key (r t b) ≡ yields_key rule schema key (before_or (newest t b) (cond x (Some item) (find (is_standing_rewrite t b) items)))) [
      | true ↦ λ hit.
          let touched : (is_change_of t b item.change && is_rewrite item.change) ≡ true = and_left _ _ hit in
          let mine : is_change_of t b item.change ≡ true = and_left _ _ touched in
          let live : is_standing item ≡ true = and_right (is_change_of t b item.change && is_rewrite item.change) _ hit in
          ap (yields_key rule schema key) (sym (h.0 live (no_sum item.change (and_right (is_change_of t b item.change) _ touched))
          ∙ ap (λ (n : ℕ). r n (changed_bookmark item.change)) (eqb-true (changed_table item.change) t (and_left _ _ mine))
          ∙ ap (λ (k : List ℕ). r t k) (same_bytes (changed_bookmark item.change) b (and_right (changed_table item.change == t) _ mine))))
      | false ↦ λ miss. elim (is_standing item) as (λ x. is_standing item ≡ x → HasBefores (cond x (after_item r item) r) items → newest t b ≡ fold after_item r (cond x (item ∷ filter is_standing items) (filter is_standing items)) t b
          → yields_key rule schema key (r t b) ≡ yields_key rule schema key (next_variant newest t b items)) [
            | true ↦ λ live g d.
                sym (elim (is_change_of t b item.change) as (λ x. is_change_of t b item.change ≡ x → yields_key rule schema key (cond x (record_after item.change (r t b)) (r t b)) ≡ yields_key rule schema key (r t b)) [
                  | true ↦ λ f. keys_stay rule schema item.change (only (is_change_of t b item.change) (is_rewrite item.change) (is_standing item) f live miss) (plain.0 (eqb-true (changed_table item.change) t (and_left _ _ f))) (r t b) key
                  | false ↦ λ f. refl
                ] refl)
                ∙ variant_next rule schema t b newest items (after_item r item) g plain.1 d key
            | false ↦ λ live g d. variant_next rule schema t b newest items r g plain.1 d key
          ] refl h.1 e
    ] refl
  where
    only : (a b c : Bool) → a ≡ true → c ≡ true → ((a && b) && c) ≡ false → b ≡ false
    only true true true e f g = g
    only true true false e f g = impossible f
    only true false c e f g = refl
    only false b c e f g = impossible e

-- ---- key conflicts

concurrent_live : (session : ℕ) (t : Option Transaction) (item : PastChange) → is_concurrent session t item ≡ true → is_standing item ≡ true
concurrent_live session t item h = by item.status (and_right (not (item.session == session)) _ h)
  where
    by : (s : Status) → is_concurrent_status t s ≡ true → not (is_undone s) ≡ true
    by uncommitted e = refl
    by (committed n) e = refl
    by undone e = impossible e

-- the record before a change of the table that stands, by its keys
before_keys : (rule : IndexRule) (schema : Schema) (table : ℕ) (item : PastChange) (items : List PastChange) (r : Records) → HasBefores r (item ∷ items) → HasKeyBefores rule schema table r (item ∷ items) → is_standing item ≡ true
    → changed_table item.change ≡ table → HasSameKeys rule schema item.before (r (changed_table item.change) (changed_bookmark item.change))
before_keys rule schema table item items r h sums live own key =
    elim (is_sum item.change) as (λ b. is_sum item.change ≡ b → yields_key rule schema key item.before ≡ yields_key rule schema key (r (changed_table item.change) (changed_bookmark item.change))) [
      | true ↦ λ sum. sums.0 live sum own key
      | false ↦ λ plain. ap (yields_key rule schema key) (h.0 live plain)
    ] refl

by_variants : (n : ℕ) (tables : List Table) (transactions : ℕ → Option Transaction) (newest : Records) (session table : ℕ) (u : Option Transaction) (schema : Schema) (rule : IndexRule) (key : List ℕ) (items : List PastChange) (r : Records)
    → HasBefores r items → HasKeyBefores rule schema table r items → SeesNoSum rule table items → AllByRecursion (IsPlaced n tables transactions) items → newest ≡ records_after_items is_standing r items
    → list_any (λ item. (changed_table item.change == table) && (yields_key rule schema key item.before || yields_key rule schema key item.after)) (filter (is_concurrent session u) items)
    ≡ is_key_held (is_concurrent session u) newest table rule schema key items
by_variants n tables transactions newest session table u schema rule key [] r h sums plain placed e = refl
by_variants n tables transactions newest session table u schema rule key (item ∷ items) r h sums plain placed e =
    elim (is_concurrent session u item) as (λ x. is_concurrent session u item ≡ x
    → list_any found (cond x (item ∷ filter (is_concurrent session u) items) (filter (is_concurrent session u) items))
    ≡ ((x && ((changed_table item.change == table) && (yields_key rule schema key (next_variant newest (changed_table item.change) (changed_bookmark item.change) (item ∷ items))
    || yields_key rule schema key (next_variant newest (changed_table item.change) (changed_bookmark item.change) items)))) || is_key_held (is_concurrent session u) newest table rule schema key items)) [
      | true ↦ λ c.
          let live = concurrent_live session u item c in
          let g : HasBefores (after_item r item) items = subst (λ (x : Records). HasBefores x items) (ap (λ b. cond b (after_item r item) r) live) h.1 in
          let s : HasKeyBefores rule schema table (after_item r item) items = subst (λ (x : Records). HasKeyBefores rule schema table x items) (ap (λ b. cond b (after_item r item) r) live) sums.1 in
          let d : newest ≡ records_after_items is_standing (after_item r item) items = e ∙ ap (λ b. fold after_item r (cond b (item ∷ filter is_standing items) (filter is_standing items))) live in
          λ i. here live g d i || by_variants n tables transactions newest session table u schema rule key items (after_item r item) g s plain.1 placed.1 d i
      | false ↦ λ c. elim (is_standing item) as (λ b. HasBefores (cond b (after_item r item) r) items → HasKeyBefores rule schema table (cond b (after_item r item) r) items → newest ≡ fold after_item r (cond b (item ∷ filter is_standing items) (filter is_standing items))
          → list_any found (filter (is_concurrent session u) items) ≡ is_key_held (is_concurrent session u) newest table rule schema key items) [
            | true ↦ λ g s d. by_variants n tables transactions newest session table u schema rule key items (after_item r item) g s plain.1 placed.1 d
            | false ↦ λ g s d. by_variants n tables transactions newest session table u schema rule key items r g s plain.1 placed.1 d
          ] h.1 sums.1 e
    ] refl
  where
    found : PastChange → Bool
    found item = (changed_table item.change == table) && (yields_key rule schema key item.before || yields_key rule schema key item.after)

    itself : (c : Change) → is_change_of (changed_table c) (changed_bookmark c) c ≡ true
    itself c = and_from _ _ (self_equal (changed_table c)) (equal_bytes (changed_bookmark c) (changed_bookmark c) refl)

    here : is_standing item ≡ true → HasBefores (after_item r item) items → newest ≡ records_after_items is_standing (after_item r item) items → found item
        ≡ ((changed_table item.change == table) && (yields_key rule schema key (next_variant newest (changed_table item.change) (changed_bookmark item.change) (item ∷ items))
        || yields_key rule schema key (next_variant newest (changed_table item.change) (changed_bookmark item.change) items)))
    here live g d =
        elim (changed_table item.change == table) as (λ x. (changed_table item.change == table) ≡ x → (x && (yields_key rule schema key item.before || yields_key rule schema key item.after))
        ≡ (x && (yields_key rule schema key (next_variant newest (changed_table item.change) (changed_bookmark item.change) (item ∷ items)) || yields_key rule schema key (next_variant newest (changed_table item.change) (changed_bookmark item.change) items)))) [
          | true ↦ λ is. let own : changed_table item.change ≡ table = eqb-true (changed_table item.change) table is in
              λ i. before own i || after own i
          | false ↦ λ is. refl
        ] refl
      where
        of_own : (xs : List PastChange) → changed_table item.change ≡ table → SeesNoSum rule table xs → SeesNoSum rule (changed_table item.change) xs
        of_own xs own p = subst (λ (k : ℕ). SeesNoSum rule k xs) (sym own) p

        before : changed_table item.change ≡ table → yields_key rule schema key item.before ≡ yields_key rule schema key (next_variant newest (changed_table item.change) (changed_bookmark item.change) (item ∷ items))
        before own =
            before_keys rule schema table item items r h sums live own key
            ∙ variant_next rule schema (changed_table item.change) (changed_bookmark item.change) newest (item ∷ items) r h (of_own (item ∷ items) own plain)
            (ap (λ (x : Records). x (changed_table item.change) (changed_bookmark item.change)) e) key

        after : changed_table item.change ≡ table → yields_key rule schema key item.after ≡ yields_key rule schema key (next_variant newest (changed_table item.change) (changed_bookmark item.change) items)
        after own =
            ap (yields_key rule schema key) placed.0.3
            ∙ after_same rule schema item.change (plain.0 own) item.before (r (changed_table item.change) (changed_bookmark item.change)) (before_keys rule schema table item items r h sums live own) key
            ∙ ap (yields_key rule schema key) (sym (ap (λ b. cond b (record_after item.change (r (changed_table item.change) (changed_bookmark item.change))) (r (changed_table item.change) (changed_bookmark item.change))) (itself item.change)))
            ∙ variant_next rule schema (changed_table item.change) (changed_bookmark item.change) newest items (after_item r item) g (of_own items own plain.1)
            (ap (λ (x : Records). x (changed_table item.change) (changed_bookmark item.change)) d) key

pub key_conflict_by_variants : (base : Records) (dropped kept : List PastChange) (state : DatabaseState) → IsHistory base dropped kept state → (session table : ℕ) (schema : Schema) (rule : IndexRule)
    → SeesNoSum rule table kept → HasKeyBefores rule schema table base kept → (key : List ℕ)
    → has_key_conflict state session table schema rule key ≡ is_key_held (is_concurrent session (transaction_of state session)) (records_of (newest state)) table rule schema key kept
key_conflict_by_variants base dropped kept state h session table schema rule plain sums key =
    key_conflict_kept base dropped kept state h session table schema rule key
    ∙ by_variants state.number state.tables (transaction_of state) (records_of (newest state)) session table (transaction_of state session) schema rule key kept base h.keeps.befores sums plain h.keeps.placed (newest_records base dropped kept state h)

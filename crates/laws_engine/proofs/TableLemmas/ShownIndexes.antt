-- What a reader is shown has the indexes of its view.
use Rattle.std.proofs.Common.{◌≡◌, ℕ, Bool, true, false, ◌&&◌, cond, List, [], ◌∷◌, Option, Some, None, find, map, option_map, refl, sym, ap, subst, ◌∙◌}
use Rattle.std.specs.Prelude.{◌==◌, ℤ, T, is_some, IfSome}
use Rattle.std.specs.List.{AllByRecursion}
use Rattle.std.specs.Ordering.{eq_by_cmp, is_lt, nat_cmp}
use Rattle.std.specs.Cmp.Lexicographic.{slice_cmp, nat_list_cmp_total}
use Rattle.std.specs.FinMap.Entries.{below_all, is_sorted, same_entries}
use Rattle.std.proofs.lemmas.Map.Lookups.{exact_bytes}
use Rattle.column_set.specs.RecordValues.{RecordFields, lookup_by_key}
use Rattle.index_derive.specs.declared.rules.IndexRule.{IndexRule}
use Rattle.index_derive.specs.declared.rules.Schema.{Schema}
use Rattle.index_derive.specs.Entries.{derive, own_order}
use Rattle.database_state.specs.State.{DatabaseState, PastChange, transaction_of}
use Rattle.database_state.specs.Table.{Rows, entries_of_rule, index_entries, record_in, row_at, rows_of, table_with_id}
use Rattle.index_derive.specs.Schemas.{rule_with_id}
use Rattle.database_state.specs.View.{view}
use Rattle.laws_versions.specs.Records.{Records}
use Rattle.laws_versions.specs.EscrowSums.{with_sums}
use Rattle.laws_versions.specs.KeySums.{SeesNoSum}
use Rattle.version_store.specs.declared.calls.Reader.{Reader}
use Rattle.laws_engine.specs.HeldSums.{unseen_sums}
use Rattle.laws_engine.specs.VersionedTables.{VersionedTables, seen_tables}
use Rattle.laws_engine.specs.Holding.{Holds, RowsRise, begin_of}
use Rattle.laws_engine.proofs.TableLemmas.HeldSums.{rise_at, same_index, shown_with_sums}
use Rattle.laws_engine.proofs.TableLemmas.Rising.{all_seen_rise}
use Rattle.laws_engine.proofs.TableLemmas.Views.{view_rises}
use Rattle.laws_engine.proofs.TableLemmas.ShownEntries.{Derived}

-- ---- bookmarks alone

abbrev bare : Rows → List (List ℕ × Unit {0})
bare rows = map (λ row. (row.0, tt)) rows

below_same : (bookmark : List ℕ) (rows : Rows) → below_all (slice_cmp nat_cmp) bookmark (bare rows) ≡ below_all (slice_cmp nat_cmp) bookmark rows
below_same bookmark [] = refl
below_same bookmark (row ∷ rows) = ap (λ b. is_lt (slice_cmp nat_cmp bookmark row.0) && b) (below_same bookmark rows)

sorted_same : (rows : Rows) → is_sorted (slice_cmp nat_cmp) (bare rows) ≡ is_sorted (slice_cmp nat_cmp) rows
sorted_same [] = refl
sorted_same (row ∷ rows) = λ i. below_same row.0 rows i && sorted_same rows i

abbrev there_or_not : Bool → Option (Unit {0})
there_or_not there = cond there (Some tt) None

found_same : (bookmark : List ℕ) (rows : Rows) → lookup_by_key bookmark (bare rows) ≡ there_or_not (is_some (row_at rows bookmark))
found_same bookmark [] = refl
found_same bookmark (row ∷ rows) =
    elim (eq_by_cmp (slice_cmp nat_cmp) bookmark row.0) as (λ b. cond b (Some tt) (lookup_by_key bookmark (bare rows)) ≡ there_or_not (is_some (cond b (Some row.1) (row_at rows bookmark)))) [
      | true ↦ refl
      | false ↦ found_same bookmark rows
    ]

order_same : (rows : Rows) → own_order (bare rows) ≡ own_order rows
order_same [] = refl
order_same (row ∷ rows) = ap (λ l. (row.0, row.0) ∷ l) (order_same rows)

-- records under the same bookmarks have the same order
same_order : (one other : Rows) → RowsRise one → RowsRise other → ((bookmark : List ℕ) → is_some (row_at one bookmark) ≡ is_some (row_at other bookmark)) → own_order one ≡ own_order other
same_order one other one_rises other_rises same =
    sym (order_same one)
    ∙ ap (λ (l : List (List ℕ × Unit {0})). own_order l)
    (same_entries (slice_cmp nat_cmp) nat_list_cmp_total exact_bytes (bare one) (bare other) (subst (λ b. T b) (sym (sorted_same one)) one_rises) (subst (λ b. T b) (sym (sorted_same other)) other_rises)
    (λ bookmark. found_same bookmark one ∙ ap there_or_not (same bookmark) ∙ sym (found_same bookmark other)))
    ∙ order_same other

-- ---- what is shown

same_some : (sums : List (ℕ × ℤ)) (o : Option RecordFields) → is_some (option_map (λ values. with_sums values sums) o) ≡ is_some o
same_some sums None = refl
same_some sums (Some values) = refl

pub shown_order : (base : Records) (dropped kept : List PastChange) (store : VersionedTables) (state : DatabaseState) → Holds base dropped kept store state → (reader : Reader) → reader.begin ≡ begin_of (transaction_of state reader.session.0) → (id : ℕ)
    → own_order (rows_of (table_with_id (seen_tables reader store) id)) ≡ own_order (rows_of (table_with_id (view state reader.session.0) id))
shown_order base dropped kept store state h reader e id =
    same_order (rows_of (table_with_id (seen_tables reader store) id)) (rows_of (table_with_id (view state reader.session.0) id))
    (rise_at (seen_tables reader store) id (all_seen_rise reader store.held store.tables h.in_order))
    (rise_at (view state reader.session.0) id (view_rises state h.rise reader.session.0))
    (λ bookmark. ap is_some (shown_with_sums base dropped kept store state h reader e id bookmark)
    ∙ same_some (unseen_sums id bookmark reader store.held) (record_in (view state reader.session.0) id bookmark))

-- what each has, one that is found has
found_has : {X : Type 0} (P : X → Type 0) (test : X → Bool) (xs : List X) → AllByRecursion P xs → IfSome (find test xs) P
found_has P test [] all = tt
found_has P test (x ∷ xs) all = elim (test x) as (λ b. IfSome (cond b (Some x) (find test xs)) P) [ true ↦ all.0 | false ↦ found_has P test xs all.1 ]

rule_same : (schema : Schema) (one other : Rows) (found : Option IndexRule) → own_order one ≡ own_order other → IfSome found (λ rule. derive rule schema one ≡ derive rule schema other) → entries_of_rule schema one found ≡ entries_of_rule schema other found
rule_same schema one other None order derived = order
rule_same schema one other (Some rule) order derived =
    elim rule.flags.primary as (λ b. cond b (own_order one) (derive rule schema one) ≡ cond b (own_order other) (derive rule schema other)) [ true ↦ order | false ↦ derived ]

if_some : {X : Type 0} (P Q : X → Type 0) (o : Option X) → ((x : X) → P x → Q x) → IfSome o P → IfSome o Q
if_some P Q None f h = tt
if_some P Q (Some x) f h = f x h

pub shown_index : Derived → (base : Records) (dropped kept : List PastChange) (store : VersionedTables) (state : DatabaseState) → Holds base dropped kept store state → (reader : Reader) → reader.begin ≡ begin_of (transaction_of state reader.session.0)
    → (id : ℕ) (schema : Schema) → AllByRecursion (λ rule. SeesNoSum rule id kept) schema.indexes → (index : ℕ)
    → index_entries schema (rows_of (table_with_id (seen_tables reader store) id)) index ≡ index_entries schema (rows_of (table_with_id (view state reader.session.0) id)) index
unfolding index_entries
shown_index derived base dropped kept store state h reader e id schema plain index =
    let shown : Rows = rows_of (table_with_id (seen_tables reader store) id) in
    let viewed : Rows = rows_of (table_with_id (view state reader.session.0) id) in
    rule_same schema shown viewed (rule_with_id schema index) (shown_order base dropped kept store state h reader e id)
    (if_some (λ rule. SeesNoSum rule id kept) (λ rule. derive rule schema shown ≡ derive rule schema viewed) (rule_with_id schema index)
    (λ rule sees. same_index derived base dropped kept store state h reader e id rule schema sees)
    (found_has (λ rule. SeesNoSum rule id kept) (λ rule. rule.id.0 == index) schema.indexes plain))

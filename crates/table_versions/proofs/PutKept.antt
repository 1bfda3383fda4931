-- A put, and one that failed, keep what trees, catalog and held changes keep of one another.
use Rattle.std.proofs.Common.{◌≡◌, ◌≢◌, ℕ, ◌≤◌, Bool, true, false, not, ◌&&◌, ◌||◌, cond, List, [], ◌∷◌, ◌++◌, length, Option, Some, None, find, map, option_map, refl, sym, ap, subst, ◌∙◌, arith}
use Rattle.std.proofs.lemmas.Bool.Decides.{nat_tests}
use Rattle.std.specs.Prelude.{◌==◌, All, IfSome, IsSomeAnd, bytes_eq, is_some, nat_lt, option_and_then, unwrap_or}
use Rattle.std.specs.List.{AllByRecursion, list_any}
use Rattle.std.specs.Ordering.{nat_cmp}
use Rattle.std.specs.Cmp.Lexicographic.{slice_cmp, nat_list_cmp_total, texts_ties}
use Rattle.std.specs.FinMap.Entries.{find-put, is_sorted-put}
use Rattle.std.proofs.lemmas.List.Folds.{list_any-append}
use Rattle.std.proofs.lemmas.Bool.{eqb-true}
use Rattle.common_lemmas.proofs.Booleans.{and_left, and_right, impossible}
use Rattle.common_lemmas.proofs.Numbers.{bytes_turned, equal_turned, same_bytes, self_equal}
use Rattle.common_lemmas.proofs.Lists.{all_append}
use Rattle.btree_inplace.specs.Order.{extent_in, get_in}
use Rattle.column_set.specs.declared.changes.Change.TheVariants.{Put}
use Rattle.column_set.specs.RecordValues.{RecordFields}
use Rattle.database_state.specs.Changes.{tables_after}
use Rattle.database_state.specs.Conflicts.{yields_key}
use Rattle.database_state.specs.Table.{Rows, Table, record_in, row_at, schema_of, table_with_id, with_row}
use Rattle.index_derive.specs.Schemas.{rule_with_id}
use Rattle.laws_versions.specs.KeptEntries.{has_entry}
use Rattle.index_derive.specs.declared.rules.IndexRule.{IndexRule}
use Rattle.index_derive.specs.declared.rules.Schema.{Schema}
use Rattle.jet_base.specs.declared.ids.TableId.{TableId}
use Rattle.jet_catalog.specs.Catalog.{ids_rise}
use Rattle.table_trees.specs.StoredNodes.{IsShortNode}
use Rattle.table_trees.specs.StoredTables.{StoredIndex, StoredTable, index_entries, is_table, table_nodes}
use Rattle.version_store.specs.declared.calls.By.{By}
use Rattle.version_store.specs.declared.calls.ChangeKind.TheVariants as kind
use Rattle.version_store.specs.HeldChanges.{HeldChange, new_change}
use Rattle.laws_engine.specs.HeldRecords.{HeldRecord, is_standing_rewrite, new_change as new_record}
use Rattle.laws_engine.specs.Holding.{RowsRise}
use Rattle.laws_engine.specs.VersionedTables.{with_change}
use Rattle.laws_engine.specs.Variants.{HoldsVariants, has_variant, is_variant_key}
use Rattle.stored_variants.specs.PutRecords.{HasKeysOf, record_keys}
use Rattle.stored_variants.specs.RecordRows.{TableValues, IsRecordRow, held_record_in, record_of, row_in_node, row_under, rows_of_nodes}
use Rattle.variant_trees.specs.GoneKeys.{index_numbers, table_numbers}
use Rattle.variant_trees.specs.PutStages.{AreWidened, IsPut, IsSame, IsWidened, is_place}
use Rattle.stored_variants.specs.VersionsKept.{AreKeptWith, IsKeptChange, IsKeptTable, IsRowUnder, needed_trees, only_secondary, secondary_rule, tree_numbers}
use Rattle.stored_variants.specs.VersionsView.{with_newest_by}
use Rattle.stored_variants.proofs.Dropped.{room_in}
use Rattle.table_versions.proofs.Held.{appended, no_sum, is_drop, variants}
use Rattle.stored_variants.proofs.FoundRules.{secondary_found, record_yields}
use Rattle.stored_variants.proofs.NodeRecords.{record_at}
use Rattle.stored_variants.proofs.RisingRows.{rows_rise, same_rows}
use Rattle.table_versions.proofs.Span.{RowSizes, same_cost}
use Rattle.stored_variants.proofs.Tables.{found_number, newest_at, newest_is_row}
use Rattle.long_value.specs.Values.{Values}
use Rattle.stored_variants.proofs.SameRecords.{AreInOrder}

-- ---- numbers of trees

rising : ℕ → List ℕ → Bool
rising low [] = true
rising low (n ∷ ns) = nat_lt low n && rising n ns

abbrev numbers_of : List StoredIndex → List ℕ
numbers_of indexes = map (λ (x : StoredIndex). x.0) indexes

abbrev indexes_of : Option StoredTable → List ℕ
indexes_of o = numbers_of (unwrap_or (option_map (λ (x : StoredTable). x.indexes) o) [])

none_above : (n low : ℕ) (trees : List StoredTable) → rising low (table_numbers trees) ≡ true → n ≤ low → index_numbers trees n ≡ []
unfolding rising
none_above n low [] rise least = refl
none_above n low (x ∷ trees) rise least =
    ap (λ b. indexes_of (cond b (Some x) (find (is_table n) trees))) (unlike x.number (and_left (nat_lt low x.number) _ rise))
    ∙ none_above n x.number trees (and_right (nat_lt low x.number) _ rise) (less x.number (and_left (nat_lt low x.number) _ rise))
  where
    less : (m : ℕ) → nat_lt low m ≡ true → n ≤ m
    less m e = grind (arith, nat_tests, e, least)

    unlike : (m : ℕ) → nat_lt low m ≡ true → (m == n) ≡ false
    unlike m e = grind (arith, nat_tests, e, least)

first_indexes : (x : StoredTable) (trees : List StoredTable) → index_numbers (x ∷ trees) x.number ≡ numbers_of x.indexes
first_indexes x trees = ap (λ b. indexes_of (cond b (Some x) (find (is_table x.number) trees))) (self_equal x.number)

abbrev first_of : List ℕ → ℕ
first_of [] = 0
first_of (n ∷ ns) = n

abbrev rest_of : List ℕ → List ℕ
rest_of [] = []
rest_of (n ∷ ns) = ns

abbrev is_none_of : List ℕ → Bool
is_none_of [] = true
is_none_of (n ∷ ns) = false

same_tree_numbers : (low : ℕ) (new old : List StoredTable) → table_numbers new ≡ table_numbers old → rising low (table_numbers old) ≡ true → ((n : ℕ) → index_numbers new n ≡ index_numbers old n) → map tree_numbers new ≡ map tree_numbers old
unfolding rising
same_tree_numbers low [] [] same rise indexes = refl
same_tree_numbers low [] (y ∷ old) same rise indexes = impossible (sym (ap is_none_of same))
same_tree_numbers low (x ∷ new) [] same rise indexes = impossible (ap is_none_of same)
same_tree_numbers low (x ∷ new) (y ∷ old) same rise indexes =
    λ i. (number i, (sym (first_indexes x new) ∙ indexes x.number ∙ (λ j. index_numbers (y ∷ old) (number j)) ∙ first_indexes y old) i)
    ∷ same_tree_numbers y.number new old (ap rest_of same) above (λ n. rest n (y.number == n) refl) i
  where
    number : x.number ≡ y.number
    number = ap first_of same

    above : rising y.number (table_numbers old) ≡ true
    above = and_right (nat_lt low y.number) _ rise

    least : (n : ℕ) → (y.number == n) ≡ true → n ≤ y.number
    least n e = grind (arith, nat_tests, e)

    rest : (n : ℕ) (b : Bool) → (y.number == n) ≡ b → index_numbers new n ≡ index_numbers old n
    rest n true e =
        none_above n y.number new (ap (rising y.number) (ap rest_of same) ∙ above) (least n e)
        ∙ sym (none_above n y.number old above (least n e))
    rest n false e =
        sym (ap (λ b. indexes_of (cond b (Some x) (find (is_table n) new))) (ap (λ m. m == n) number ∙ e))
        ∙ indexes n
        ∙ ap (λ b. indexes_of (cond b (Some y) (find (is_table n) old))) e

tree_firsts : (trees : List StoredTable) → map (λ (x : ℕ × List ℕ). x.0) (map tree_numbers trees) ≡ table_numbers trees
tree_firsts [] = refl
tree_firsts (x ∷ trees) = λ i. x.number ∷ tree_firsts trees i

table_firsts : (low high : ℕ) (tables : List Table) → ids_rise low high tables ≡ true → rising low (map (λ (x : ℕ × List ℕ). x.0) (map needed_trees tables)) ≡ true
unfolding rising
table_firsts low high [] rise = refl
table_firsts low high (t ∷ tables) rise = λ i. and_left (nat_lt low t.id) _ rise i && table_firsts t.id high tables (and_right (nat_lt low t.id) _ rise) i

-- the trees are still those that the tables need
pub numbers_kept : (high : ℕ) (tables : List Table) (new old : List StoredTable) → ids_rise 0 high tables ≡ true → map tree_numbers old ≡ map needed_trees tables → table_numbers new ≡ table_numbers old → ((n : ℕ) → index_numbers new n ≡ index_numbers old n)
    → map tree_numbers new ≡ map needed_trees tables
numbers_kept high tables new old rise needed same indexes =
    same_tree_numbers 0 new old same (ap (rising 0) (sym (tree_firsts old) ∙ ap (map (λ (x : ℕ × List ℕ). x.0)) needed) ∙ table_firsts 0 high tables rise) indexes ∙ needed

-- ---- rows by their bookmarks

-- ---- a put that failed

same_under : (table : ℕ) (schema : Schema) (old new : List StoredTable) → IsSame table schema old new → (other : ℕ) (own : List ℕ) → row_under (table_nodes new other) own ≡ row_under (table_nodes old other) own
same_under table schema old new same other own = ap (option_and_then row_in_node) (same.rows other own)

same_record : (longs : TableValues) (table : ℕ) (schema : Schema) (old new : List StoredTable) → IsSame table schema old new → AreInOrder old → AreInOrder new → (other : ℕ) (own : List ℕ)
    → row_at (rows_of_nodes (longs other) (table_nodes new other)) own ≡ row_at (rows_of_nodes (longs other) (table_nodes old other)) own
same_record longs table schema old new same sorted sorted_then other own =
    record_at (longs other) (table_nodes new other) (sorted_then other) own ∙ ap (option_map (record_of (longs other))) (same_under table schema old new same other own) ∙ sym (record_at (longs other) (table_nodes old other) (sorted other) own)

wider_room : (row : List ℕ) (old new : Option ℕ) → IsWidened old new → IsSomeAnd old (λ extent. length row ≤ extent) → IsSomeAnd new (λ extent. length row ≤ extent)
wider_room row None new wide room = absurd room
wider_room row (Some n) None wide room = absurd wide
wider_room row (Some n) (Some m) wide room = omega (arith, wide, room)

wider_rooms : (row : Option (List ℕ)) (old new : Option ℕ) → IsWidened old new → IfSome row (λ row. IsSomeAnd old (λ extent. length row ≤ extent)) → IfSome row (λ row. IsSomeAnd new (λ extent. length row ≤ extent))
wider_rooms None old new wide room = tt
wider_rooms (Some row) old new wide room = wider_room row old new wide room

change_stays : (longs : TableValues) (tables : List Table) (old new : List StoredTable) → AreWidened old new → (h : HeldChange) → IsKeptChange longs tables old h → IsKeptChange longs tables new h
change_stays longs tables old new wide h kept = record {
  named = kept.named;
  before = kept.before;
  drop = kept.drop;
  room = λ uncommitted. wider_rooms h.before (extent_in (table_nodes old h.table) h.bookmark) (extent_in (table_nodes new h.table) h.bookmark) (wide h.table h.bookmark) (kept.room uncommitted);
  other = kept.other;
  sum = kept.sum;
}

changes_stay : (longs : TableValues) (tables : List Table) (old new : List StoredTable) → AreWidened old new → (held : List HeldChange) → AllByRecursion (IsKeptChange longs tables old) held → AllByRecursion (IsKeptChange longs tables new) held
changes_stay longs tables old new wide [] kept = tt
changes_stay longs tables old new wide (h ∷ held) kept = (change_stays longs tables old new wide h kept.0, changes_stay longs tables old new wide held kept.1)

-- what is asked of the entries of a table's indexes
abbrev SameIndex : (old new : List StoredTable) → ℕ → ℕ → Option IndexRule → Type 0
SameIndex old new table index rule = IfSome rule (λ rule. (key own : List ℕ) → has_entry key own (index_entries new table index) ≡ has_entry key own (index_entries old table index))

same_index : (table : ℕ) (schema : Schema) (old new : List StoredTable) → IsSame table schema old new → (t : Table) → (t.id ≡ table → schema ≡ schema_of t) → (index : ℕ) → SameIndex old new t.id index (secondary_rule t index)
same_index table schema old new same t is index = by (t.id == table) refl
  where
    any : (o : Option IndexRule) → t.id ≢ table → SameIndex old new t.id index o
    any None apart = tt
    any (Some rule) apart = λ key own. ap (has_entry key own) (same.others t.id index apart)

    by : (b : Bool) → (t.id == table) ≡ b → SameIndex old new t.id index (secondary_rule t index)
    by true e =
        let found = eqb-true t.id table e in
        subst (λ (n : ℕ). SameIndex old new n index (secondary_rule t index)) (sym found)
        (subst (λ (s : Schema). SameIndex old new table index (only_secondary (rule_with_id s index))) (is found) (same.entries index))
    by false e = any (secondary_rule t index) (λ at. impossible (sym e ∙ ap (λ n. n == table) at ∙ self_equal table))

table_same : (longs : TableValues) (table : ℕ) (schema : Schema) (old new : List StoredTable) → IsSame table schema old new → AreInOrder old → AreInOrder new → (held : List HeldRecord) (t : Table) → (t.id ≡ table → schema ≡ schema_of t)
    → IsKeptTable old (longs t.id) (table_nodes old t.id) held t → IsKeptTable new (longs t.id) (table_nodes new t.id) held t
table_same longs table schema old new same sorted sorted_then held t is kept = record {
  rules = kept.rules;
  rows = λ own. subst (λ (row : Option (List ℕ)). IfSome row (IsRowUnder (longs t.id) t own)) (sym (same_under table schema old new same t.id own)) (kept.rows own);
  stands = λ own. ap is_some (same.rows t.id own) ∙ kept.stands own ∙ ap (λ newest. has_variant newest held t.id own) (sym (record_is own));
  entries = λ index. each index (secondary_rule t index) (same_index table schema old new same t is index) (kept.entries index);
}
  where
    record_is : (own : List ℕ) → row_at (rows_of_nodes (longs t.id) (table_nodes new t.id)) own ≡ row_at (rows_of_nodes (longs t.id) (table_nodes old t.id)) own
    record_is = same_record longs table schema old new same sorted sorted_then t.id

    each : (index : ℕ) (o : Option IndexRule) → SameIndex old new t.id index o
        → IfSome o (λ rule. HoldsVariants (rows_of_nodes (longs t.id) (table_nodes old t.id)) held rule (schema_of t) t.id (index_entries old t.id index))
        → IfSome o (λ rule. HoldsVariants (rows_of_nodes (longs t.id) (table_nodes new t.id)) held rule (schema_of t) t.id (index_entries new t.id index))
    each index None entries holds = tt
    each index (Some rule) entries holds = λ key own. entries key own ∙ holds key own ∙ ap (λ newest. is_variant_key newest held rule (schema_of t) t.id key own) (sym (record_is own))

one_table : (a b : Table) → Some a ≡ Some b → a ≡ b
one_table a b e = ap (λ (o : Option Table). unwrap_or o a) e

pub same_kept : (longs : TableValues) (high : ℕ) (tables : List Table) (old new : List StoredTable) (held : List HeldChange) (own : Table) (table : ℕ) → ids_rise 0 high tables ≡ true → table_with_id tables table ≡ Some own → IsSame table (schema_of own) old new → AreInOrder old → AreInOrder new
    → AreKeptWith longs tables old held → AreKeptWith longs tables new held
same_kept longs high tables old new held own table rise found same sorted sorted_then kept = record {
  plain = kept.plain;
  numbers = numbers_kept high tables new old rise kept.numbers same.numbers same.indexes;
  each = λ other. each other (table_with_id tables other) refl (kept.each other);
  changes = changes_stay longs tables old new same.extents held kept.changes;
}
  where
    each : (other : ℕ) (o : Option Table) → table_with_id tables other ≡ o → IfSome o (IsKeptTable old (longs other) (table_nodes old other) (map (held_record_in longs) held)) → IfSome o (IsKeptTable new (longs other) (table_nodes new other) (map (held_record_in longs) held))
    each other None e is = tt
    each other (Some t) e is =
        let number = found_number other tables t e in
        subst (λ (n : ℕ). IsKeptTable new (longs n) (table_nodes new n) (map (held_record_in longs) held) t) number
        (table_same longs table (schema_of own) old new same sorted sorted_then (map (held_record_in longs) held) t
        (λ at. ap schema_of (one_table own t (sym found ∙ ap (table_with_id tables) (sym (sym number ∙ at)) ∙ e)))
        (subst (λ (n : ℕ). IsKeptTable old (longs n) (table_nodes old n) (map (held_record_in longs) held) t) (sym number) is))

-- and show the same tables
pub same_tables : (longs : TableValues) (table : ℕ) (schema : Schema) (old new : List StoredTable) → IsSame table schema old new → AreInOrder old → AreInOrder new → (tables : List Table) → map (with_newest_by longs new) tables ≡ map (with_newest_by longs old) tables
same_tables longs table schema old new same sorted sorted_then [] = refl
same_tables longs table schema old new same sorted sorted_then (t ∷ tables) =
    λ i. record t { rows = same_rows (rows_of_nodes (longs t.id) (table_nodes new t.id)) (rows_of_nodes (longs t.id) (table_nodes old t.id)) (rows_rise (longs t.id) (table_nodes new t.id) (sorted_then t.id)) (rows_rise (longs t.id) (table_nodes old t.id) (sorted t.id)) (same_record longs table schema old new same sorted sorted_then t.id) i }
    ∷ same_tables longs table schema old new same sorted sorted_then tables i

-- ---- a put that is done

-- the row that was put
pub record IsNewRow (vals : Values) (own : Table) (bookmark row : List ℕ) (values : RecordFields) : Type 0 where
  pub under : IsRowUnder vals own bookmark row
  pub shows : record_of vals row ≡ values
  pub some : row_in_node row ≡ Some row

pub put_under : (table : ℕ) (bookmark row : List ℕ) (given : List (List ℕ × List ℕ)) (keys : ℕ → List ℕ → Bool) (old new : List StoredTable) → IsPut table bookmark row given keys old new → row_in_node row ≡ Some row → (other : ℕ) (own : List ℕ)
    → row_under (table_nodes new other) own ≡ cond (is_place table bookmark other own) (Some row) (row_under (table_nodes old other) own)
put_under table bookmark row given keys old new put some other own = ap (option_and_then row_in_node) (put.rows other own) ∙ by (is_place table bookmark other own)
  where
    by : (b : Bool) → option_and_then row_in_node (cond b (Some row) (get_in (table_nodes old other) own)) ≡ cond b (Some row) (row_under (table_nodes old other) own)
    by true = some
    by false = refl

put_record : (longs : TableValues) (table : ℕ) (bookmark row : List ℕ) (values : RecordFields) (given : List (List ℕ × List ℕ)) (keys : ℕ → List ℕ → Bool) (old new : List StoredTable) → IsPut table bookmark row given keys old new → row_in_node row ≡ Some row → record_of (longs table) row ≡ values → AreInOrder old → AreInOrder new → (other : ℕ) (own : List ℕ)
    → row_at (rows_of_nodes (longs other) (table_nodes new other)) own ≡ cond (is_place table bookmark other own) (Some values) (row_at (rows_of_nodes (longs other) (table_nodes old other)) own)
put_record longs table bookmark row values given keys old new put some shows sorted sorted_then other own =
    record_at (longs other) (table_nodes new other) (sorted_then other) own ∙ ap (option_map (record_of (longs other))) (put_under table bookmark row given keys old new put some other own) ∙ by (is_place table bookmark other own) refl
  where
    by : (b : Bool) → is_place table bookmark other own ≡ b → option_map (record_of (longs other)) (cond b (Some row) (row_under (table_nodes old other) own)) ≡ cond b (Some values) (row_at (rows_of_nodes (longs other) (table_nodes old other)) own)
    by true e = ap (λ (n : ℕ). Some (record_of (longs n) row)) (sym (eqb-true table other (and_left (table == other) _ e))) ∙ ap (λ (fields : RecordFields). Some fields) shows
    by false e = sym (record_at (longs other) (table_nodes old other) (sorted other) own)

-- the put that is held
abbrev pub made_put : By → TableId → List ℕ → Option (List ℕ) → RecordFields → List StoredTable → HeldChange
made_put by table bookmark copied values trees = new_change by (Put table bookmark copied values) (row_under (table_nodes trees table.0) bookmark)

more_variants : (longs : TableValues) (by : By) (table : TableId) (bookmark : List ℕ) (copied : Option (List ℕ)) (values : RecordFields) (old : List StoredTable) → AreInOrder old → (held : List HeldChange) (test : Option RecordFields → Bool) → test None ≡ false → (other : ℕ) (own : List ℕ)
    → variants test (cond (is_place table.0 bookmark other own) (Some values) (row_at (rows_of_nodes (longs other) (table_nodes old other)) own)) other own (map (held_record_in longs) (held ++ made_put by table bookmark copied values old ∷ []))
    ≡ (variants test (row_at (rows_of_nodes (longs other) (table_nodes old other)) own) other own (map (held_record_in longs) held) || (is_place table.0 bookmark other own && test (Some values)))
more_variants longs by table bookmark copied values old sorted held test none other own =
    ap (λ records. variants test (cond hit (Some values) newest) other own records) (appended longs held new)
    ∙ ap (λ b. test (cond hit (Some values) newest) || b) (list_any-append passes (map (held_record_in longs) held) (held_record_in longs new ∷ []))
    ∙ cases hit refl
  where
    new : HeldChange
    new = made_put by table bookmark copied values old

    hit : Bool
    hit = is_place table.0 bookmark other own

    newest : Option RecordFields
    newest = row_at (rows_of_nodes (longs other) (table_nodes old other)) own

    passes : HeldRecord → Bool
    passes change = is_standing_rewrite other own change && test change.before

    before_is : hit ≡ true → (held_record_in longs new).before ≡ newest
    before_is e =
        (λ i. option_map (record_of (longs (eqb-true table.0 other (and_left (table.0 == other) _ e) i))) (row_under (table_nodes old (eqb-true table.0 other (and_left (table.0 == other) _ e) i)) (same_bytes bookmark own (and_right (table.0 == other) _ e) i)))
        ∙ sym (record_at (longs other) (table_nodes old other) (sorted other) own)

    moved : (v a b : Bool) → (v || (b || (((true && true) && true) && a || false))) ≡ ((a || b) || (true && v))
    moved true true true = refl
    moved true true false = refl
    moved true false true = refl
    moved true false false = refl
    moved false true true = refl
    moved false true false = refl
    moved false false true = refl
    moved false false false = refl

    kept : (v a b c : Bool) → (a || (b || (((false && true) && true) && c || false))) ≡ ((a || b) || (false && v))
    kept v true b c = refl
    kept v false true c = refl
    kept v false false c = refl

    cases : (b : Bool) → hit ≡ b → (test (cond b (Some values) newest) || (list_any passes (map (held_record_in longs) held) || (passes (held_record_in longs new) || false))) ≡ ((test newest || list_any passes (map (held_record_in longs) held)) || (b && test (Some values)))
    cases true e =
        (λ i. test (Some values) || (list_any passes (map (held_record_in longs) held) || (((e i && true) && true) && test (before_is e i) || false)))
        ∙ moved (test (Some values)) (test newest) (list_any passes (map (held_record_in longs) held))
    cases false e =
        (λ i. test newest || (list_any passes (map (held_record_in longs) held) || (((e i && true) && true) && test (held_record_in longs new).before || false)))
        ∙ kept (test (Some values)) (test newest) (list_any passes (map (held_record_in longs) held)) (test (held_record_in longs new).before)

-- the keys of a record in one index
own_keys : (schema : Schema) (values : RecordFields) (index : ℕ) (rule : IndexRule) → AllByRecursion (HasKeysOf schema values) schema.indexes → only_secondary (rule_with_id schema index) ≡ Some rule → (key : List ℕ)
    → record_keys schema.indexes schema values index key ≡ yields_key rule schema key (Some values)
own_keys schema values index rule rules e key = by (record_keys schema.indexes schema values index key) (yields_key rule schema key (Some values)) there back
  where
    found : (rule_with_id schema rule.id.0 ≡ Some rule) × (rule.id.0 ≡ index)
    found = secondary_found index schema rule e

    there : record_keys schema.indexes schema values index key ≡ true → yields_key rule schema key (Some values) ≡ true
    there h = record_yields schema values schema.indexes rule rules found.0 key (ap (λ n. record_keys schema.indexes schema values n key) found.1 ∙ h)

    secondary : (o : Option IndexRule) → only_secondary o ≡ Some rule → rule.flags.primary ≡ false
    secondary None h = cc
    secondary (Some r) h = of r.flags.primary refl h
      where
        of : (b : Bool) → r.flags.primary ≡ b → cond b None (Some r) ≡ Some rule → rule.flags.primary ≡ false
        of true p h = cc
        of false p h = ap (λ (o : Option IndexRule). (unwrap_or o rule).flags.primary) (sym h) ∙ p

    last : (a b : Bool) → b ≡ true → (a || b) ≡ true
    last true b h = refl
    last false b h = h

    has : (all : List IndexRule) → find (λ (r : IndexRule). r.id.0 == index) all ≡ Some rule → yields_key rule schema key (Some values) ≡ true → record_keys all schema values index key ≡ true
    has [] h y = cc
    has (r ∷ all) h y = at (r.id.0 == index) refl h (has all)
      where
        at : (b : Bool) → (r.id.0 == index) ≡ b → cond b (Some r) (find (λ (r : IndexRule). r.id.0 == index) all) ≡ Some rule → (find (λ (r : IndexRule). r.id.0 == index) all ≡ Some rule → yields_key rule schema key (Some values) ≡ true → record_keys all schema values index key ≡ true)
            → record_keys (r ∷ all) schema values index key ≡ true
        at true same h rest =
            let is : r ≡ rule = ap (λ (o : Option IndexRule). unwrap_or o r) h in
            (λ i. (not (is i).flags.primary && ((same i) && yields_key (is i) schema key (Some values))) || record_keys all schema values index key)
            ∙ (λ i. (not (secondary (rule_with_id schema index) e i) && (true && y i)) || record_keys all schema values index key)
        at false same h rest = last (not r.flags.primary && ((r.id.0 == index) && yields_key r schema key (Some values))) (record_keys all schema values index key) (rest h y)

    back : yields_key rule schema key (Some values) ≡ true → record_keys schema.indexes schema values index key ≡ true
    back y = has schema.indexes (ap (rule_with_id schema) (sym found.1) ∙ found.0) y

    by : (a b : Bool) → (a ≡ true → b ≡ true) → (b ≡ true → a ≡ true) → a ≡ b
    by true b f g = sym (f refl)
    by false true f g = g refl
    by false false f g = refl

-- a table after the put
table_put : (longs : TableValues) (by : By) (table : TableId) (bookmark : List ℕ) (copied : Option (List ℕ)) (row : List ℕ) (values : RecordFields) (given : List (List ℕ × List ℕ)) (own : Table) → IsNewRow (longs table.0) own bookmark row values → AllByRecursion (HasKeysOf (schema_of own) values) (schema_of own).indexes
    → (old new : List StoredTable) → IsPut table.0 bookmark row given (record_keys (schema_of own).indexes (schema_of own) values) old new → AreInOrder old → AreInOrder new → (held : List HeldChange) (t : Table) → (t.id ≡ table.0 → own ≡ t)
    → IsKeptTable old (longs t.id) (table_nodes old t.id) (map (held_record_in longs) held) t
    → IsKeptTable new (longs t.id) (table_nodes new t.id) (map (held_record_in longs) (held ++ made_put by table bookmark copied values old ∷ [])) t
table_put longs by table bookmark copied row values given own is rules old new put sorted sorted_then held t which kept = record {
  rules = kept.rules;
  rows = λ at.
      subst (λ (r : Option (List ℕ)). IfSome r (IsRowUnder (longs t.id) t at)) (sym (put_under table.0 bookmark row given keys old new put is.some t.id at))
      (under at (is_place table.0 bookmark t.id at) refl);
  stands = λ at.
      ap is_some (put.rows t.id at) ∙ stood (is_place table.0 bookmark t.id at) (get_in (table_nodes old t.id) at)
      ∙ ap (λ b. b || (is_place table.0 bookmark t.id at && true)) (kept.stands at)
      ∙ sym (more_variants longs by table bookmark copied values old sorted held is_some refl t.id at)
      ∙ ap (λ newest. has_variant newest (map (held_record_in longs) (held ++ new_held ∷ [])) t.id at) (sym (record_is at));
  entries = λ index. each index (secondary_rule t index) refl (kept.entries index);
}
  where
    keys : ℕ → List ℕ → Bool
    keys = record_keys (schema_of own).indexes (schema_of own) values

    new_held : HeldChange
    new_held = made_put by table bookmark copied values old

    record_is : (at : List ℕ) → row_at (rows_of_nodes (longs t.id) (table_nodes new t.id)) at ≡ cond (is_place table.0 bookmark t.id at) (Some values) (row_at (rows_of_nodes (longs t.id) (table_nodes old t.id)) at)
    record_is = put_record longs table.0 bookmark row values given keys old new put is.some is.shows sorted sorted_then t.id

    under : (at : List ℕ) (b : Bool) → is_place table.0 bookmark t.id at ≡ b → IfSome (cond b (Some row) (row_under (table_nodes old t.id) at)) (IsRowUnder (longs t.id) t at)
    under at true e =
        let number : table.0 ≡ t.id = eqb-true table.0 t.id (and_left (table.0 == t.id) _ e) in
        subst (λ (x : Table). IsRowUnder (longs t.id) x at row) (which (sym number))
        (subst (λ (n : ℕ). IsRowUnder (longs n) own at row) number (subst (λ (b : List ℕ). IsRowUnder (longs table.0) own b row) (same_bytes bookmark at (and_right (table.0 == t.id) _ e)) is.under))
    under at false e = kept.rows at

    stood : (b : Bool) (o : Option (List ℕ)) → is_some (cond b (Some row) o) ≡ (is_some o || (b && true))
    stood true None = refl
    stood true (Some r) = refl
    stood false None = refl
    stood false (Some r) = refl

    entry : (index : ℕ) (rule : IndexRule) → secondary_rule t index ≡ Some rule → (b : Bool) → (t.id == table.0) ≡ b → (key at : List ℕ)
        → has_entry key at (index_entries new t.id index) ≡ (has_entry key at (index_entries old t.id index) || (is_place table.0 bookmark t.id at && yields_key rule (schema_of t) key (Some values)))
    entry index rule e true same key at =
        let number = eqb-true t.id table.0 same in
        let found : secondary_rule own index ≡ Some rule = ap (λ (x : Table). secondary_rule x index) (which number) ∙ e in
        (λ i. has_entry key at (index_entries new (number i) index)) ∙ put.entries index key at
        ∙ (λ i. has_entry key at (index_entries old (sym number i) index) || (bytes_turned at bookmark i && own_keys (schema_of own) values index rule rules found key i))
        ∙ (λ i. has_entry key at (index_entries old t.id index) || ((sym (self_equal table.0) i && bytes_eq bookmark at) && yields_key rule (schema_of (which number i)) key (Some values)))
        ∙ (λ i. has_entry key at (index_entries old t.id index) || (((table.0 == sym number i) && bytes_eq bookmark at) && yields_key rule (schema_of t) key (Some values)))
    entry index rule e false same key at =
        ap (has_entry key at) (put.others t.id index (λ number. impossible (sym same ∙ ap (λ n. n == table.0) number ∙ self_equal table.0)))
        ∙ none (has_entry key at (index_entries old t.id index))
        ∙ ap (λ b. has_entry key at (index_entries old t.id index) || ((b && bytes_eq bookmark at) && yields_key rule (schema_of t) key (Some values))) (sym (other (table.0 == t.id) refl))
      where
        none : (a : Bool) → a ≡ (a || false)
        none true = refl
        none false = refl

        other : (b : Bool) → (table.0 == t.id) ≡ b → (table.0 == t.id) ≡ false
        other true h = impossible (sym same ∙ ap (λ n. n == table.0) (sym (eqb-true table.0 t.id h)) ∙ self_equal table.0)
        other false h = h

    each : (index : ℕ) (o : Option IndexRule) → secondary_rule t index ≡ o
        → IfSome o (λ rule. HoldsVariants (rows_of_nodes (longs t.id) (table_nodes old t.id)) (map (held_record_in longs) held) rule (schema_of t) t.id (index_entries old t.id index))
        → IfSome o (λ rule. HoldsVariants (rows_of_nodes (longs t.id) (table_nodes new t.id)) (map (held_record_in longs) (held ++ new_held ∷ [])) rule (schema_of t) t.id (index_entries new t.id index))
    each index None e holds = tt
    each index (Some rule) e holds = λ key at.
        entry index rule e (t.id == table.0) refl key at
        ∙ ap (λ b. b || (is_place table.0 bookmark t.id at && yields_key rule (schema_of t) key (Some values))) (holds key at)
        ∙ sym (more_variants longs by table bookmark copied values old sorted held (yields_key rule (schema_of t) key) refl t.id at)
        ∙ ap (λ newest. is_variant_key newest (map (held_record_in longs) (held ++ new_held ∷ [])) rule (schema_of t) t.id key at) (sym (record_is at))

-- ---- the change that is held

made_kept : (longs : TableValues) (by : By) (table : TableId) (bookmark : List ℕ) (copied : Option (List ℕ)) (values : RecordFields) (old new : List StoredTable) → AreWidened old new → All IsShortNode (table_nodes old table.0) → (tables : List Table) (own : Table) → table_with_id tables table.0 ≡ Some own
    → (held : List HeldRecord) → IfSome (table_with_id tables table.0) (IsKeptTable old (longs table.0) (table_nodes old table.0) held) → IsKeptChange longs tables new (made_put by table bookmark copied values old)
made_kept longs by table bookmark copied values old new wide short tables own found held kept = record {
  named = ap is_some found;
  before = λ standing. before_of (table_with_id tables table.0) kept;
  drop = λ standing dropped. impossible (ap is_drop dropped);
  room = λ uncommitted.
      wider_rooms (row_under (table_nodes old table.0) bookmark) (extent_in (table_nodes old table.0) bookmark) (extent_in (table_nodes new table.0) bookmark) (wide table.0 bookmark) (room_in (table_nodes old table.0) short bookmark);
  other = λ e. impossible (sym e);
  sum = no_sum (table_with_id tables table.0) kind.Put refl;
}
  where
    before_of : (o : Option Table) → IfSome o (IsKeptTable old (longs table.0) (table_nodes old table.0) held) → IfSome o (λ t. IfSome (row_under (table_nodes old table.0) bookmark) (IsRowUnder (longs table.0) t bookmark))
    before_of None is = tt
    before_of (Some t) is = is.rows bookmark

pub put_kept : (longs : TableValues) (high : ℕ) (tables : List Table) (by : By) (table : TableId) (bookmark : List ℕ) (copied : Option (List ℕ)) (row : List ℕ) (values : RecordFields) (given : List (List ℕ × List ℕ)) (own : Table) → ids_rise 0 high tables ≡ true → table_with_id tables table.0 ≡ Some own
    → IsNewRow (longs table.0) own bookmark row values → AllByRecursion (HasKeysOf (schema_of own) values) (schema_of own).indexes
    → (old new : List StoredTable) → IsPut table.0 bookmark row given (record_keys (schema_of own).indexes (schema_of own) values) old new → AreInOrder old → AreInOrder new → All IsShortNode (table_nodes old table.0)
    → (held : List HeldChange) → AreKeptWith longs tables old held → AreKeptWith longs tables new (held ++ made_put by table bookmark copied values old ∷ [])
put_kept longs high tables by table bookmark copied row values given own rise found is rules old new put sorted sorted_then short held kept = record {
  plain = kept.plain;
  numbers = numbers_kept high tables new old rise kept.numbers put.numbers put.indexes;
  each = λ other. each other (table_with_id tables other) refl (kept.each other);
  changes =
      all_append (IsKeptChange longs tables new) held (made_put by table bookmark copied values old ∷ []) (changes_stay longs tables old new put.extents held kept.changes)
      (made_kept longs by table bookmark copied values old new put.extents short tables own found (map (held_record_in longs) held) (kept.each table.0), tt);
}
  where
    each : (other : ℕ) (o : Option Table) → table_with_id tables other ≡ o → IfSome o (IsKeptTable old (longs other) (table_nodes old other) (map (held_record_in longs) held))
        → IfSome o (IsKeptTable new (longs other) (table_nodes new other) (map (held_record_in longs) (held ++ made_put by table bookmark copied values old ∷ [])))
    each other None e is_kept = tt
    each other (Some t) e is_kept =
        let number = found_number other tables t e in
        subst (λ (n : ℕ). IsKeptTable new (longs n) (table_nodes new n) (map (held_record_in longs) (held ++ made_put by table bookmark copied values old ∷ [])) t) number
        (table_put longs by table bookmark copied row values given own is rules old new put sorted sorted_then held t
        (λ at. one_table own t (sym found ∙ ap (table_with_id tables) (sym (sym number ∙ at)) ∙ e))
        (subst (λ (n : ℕ). IsKeptTable old (longs n) (table_nodes old n) (map (held_record_in longs) held) t) (sym number) is_kept))

-- ---- what it shows

rows_put : (longs : TableValues) (table : ℕ) (bookmark row : List ℕ) (values : RecordFields) (given : List (List ℕ × List ℕ)) (keys : ℕ → List ℕ → Bool) (old new : List StoredTable) → IsPut table bookmark row given keys old new → row_in_node row ≡ Some row → record_of (longs table) row ≡ values → AreInOrder old → AreInOrder new → (other : ℕ)
    → rows_of_nodes (longs other) (table_nodes new other) ≡ cond (other == table) (with_row (rows_of_nodes (longs other) (table_nodes old other)) bookmark values) (rows_of_nodes (longs other) (table_nodes old other))
rows_put longs table bookmark row values given keys old new put some shows sorted sorted_then other =
    same_rows (rows_of_nodes (longs other) (table_nodes new other)) (cond (other == table) (with_row rows bookmark values) rows) (rows_rise (longs other) (table_nodes new other) (sorted_then other)) (rises (other == table))
    (λ at. put_record longs table bookmark row values given keys old new put some shows sorted sorted_then other at ∙ ap (λ b. cond (b && bytes_eq bookmark at) (Some values) (row_at rows at)) (equal_turned table other) ∙ by at (other == table))
  where
    rows : Rows
    rows = rows_of_nodes (longs other) (table_nodes old other)

    rises : (b : Bool) → RowsRise (cond b (with_row rows bookmark values) rows)
    rises true = is_sorted-put (slice_cmp nat_cmp) nat_list_cmp_total bookmark values rows (rows_rise (longs other) (table_nodes old other) (sorted other))
    rises false = rows_rise (longs other) (table_nodes old other) (sorted other)

    by : (at : List ℕ) (b : Bool) → cond (b && bytes_eq bookmark at) (Some values) (row_at rows at) ≡ row_at (cond b (with_row rows bookmark values) rows) at
    by at true =
        ap (λ t. cond t (Some values) (row_at rows at)) (bytes_turned bookmark at ∙ texts_ties at bookmark)
        ∙ sym (find-put (slice_cmp nat_cmp) nat_list_cmp_total at bookmark values rows)
    by at false = refl

tables_put : (longs : TableValues) (table : TableId) (bookmark : List ℕ) (copied : Option (List ℕ)) (row : List ℕ) (values : RecordFields) (given : List (List ℕ × List ℕ)) (keys : ℕ → List ℕ → Bool) (old new : List StoredTable) → IsPut table.0 bookmark row given keys old new → row_in_node row ≡ Some row → record_of (longs table.0) row ≡ values → AreInOrder old → AreInOrder new
    → (tables : List Table) → map (with_newest_by longs new) tables ≡ tables_after (map (with_newest_by longs old) tables) (Put table bookmark copied values)
tables_put longs table bookmark copied row values given keys old new put some shows sorted sorted_then [] = refl
tables_put longs table bookmark copied row values given keys old new put some shows sorted sorted_then (t ∷ tables) =
    λ i. (ap (λ (rows : Rows). record t { rows = rows }) (rows_put longs table.0 bookmark row values given keys old new put some shows sorted sorted_then t.id) ∙ by (t.id == table.0)) i
    ∷ tables_put longs table bookmark copied row values given keys old new put some shows sorted sorted_then tables i
  where
    by : (b : Bool) → record t { rows = cond b (with_row (rows_of_nodes (longs t.id) (table_nodes old t.id)) bookmark values) (rows_of_nodes (longs t.id) (table_nodes old t.id)) }
        ≡ cond b (record (with_newest_by longs old t) { rows = with_row (rows_of_nodes (longs t.id) (table_nodes old t.id)) bookmark values }) (with_newest_by longs old t)
    by true = refl
    by false = refl

held_put : (longs : TableValues) (sizes : RowSizes) (by : By) (table : TableId) (bookmark : List ℕ) (copied : Option (List ℕ)) (values : RecordFields) (row : Option (List ℕ)) → IfSome row (IsRecordRow (longs table.0))
    → held_record_in longs (new_change by (Put table bookmark copied values) row) ≡ new_record by (Put table bookmark copied values) (option_map (record_of (longs table.0)) row)
held_put longs sizes by table bookmark copied values row is = λ i. record (held_record_in longs (new_change by (Put table bookmark copied values) row)) { cost = same_cost (longs table.0) sizes (Put table bookmark copied values) row is i }

-- the trees and the held changes after a put show the versioned tables after it
pub put_shown : (longs : TableValues) (sizes : RowSizes) (by : By) (table : TableId) (bookmark : List ℕ) (copied : Option (List ℕ)) (row : List ℕ) (values : RecordFields) (given : List (List ℕ × List ℕ)) (keys : ℕ → List ℕ → Bool) (old new : List StoredTable) → IsPut table.0 bookmark row given keys old new → row_in_node row ≡ Some row → record_of (longs table.0) row ≡ values
    → AreInOrder old → AreInOrder new → (tables : List Table) (held : List HeldChange) → AreKeptWith longs tables old held
    → record { tables = map (with_newest_by longs new) tables; held = map (held_record_in longs) (held ++ made_put by table bookmark copied values old ∷ []) }
    ≡ with_change by (Put table bookmark copied values) (record { tables = map (with_newest_by longs old) tables; held = map (held_record_in longs) held })
put_shown longs sizes by table bookmark copied row values given keys old new put some shows sorted sorted_then tables held kept =
    λ i. record {
      tables = tables_put longs table bookmark copied row values given keys old new put some shows sorted sorted_then tables i;
      held = (appended longs held (made_put by table bookmark copied values old) ∙ ap (λ r. map (held_record_in longs) held ++ r ∷ []) last) i;
    }
  where
    last : held_record_in longs (made_put by table bookmark copied values old) ≡ new_record by (Put table bookmark copied values) (record_in (map (with_newest_by longs old) tables) table.0 bookmark)
    last =
        held_put longs sizes by table bookmark copied values (row_under (table_nodes old table.0) bookmark) (newest_is_row longs tables old held kept table.0 bookmark)
        ∙ ap (new_record by (Put table bookmark copied values)) (sym (newest_at longs old tables kept.numbers sorted table.0 bookmark))

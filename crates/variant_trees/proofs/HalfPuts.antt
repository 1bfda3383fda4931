-- A put that is taken back, and one that is done.
use Rattle.std.proofs.Common.{◌≡◌, ℕ, ◌≤◌, Bool, true, false, not, ◌&&◌, ◌||◌, cond, List, [], ◌∷◌, Option, Some, None, find, map, option_map, refl, sym, ap, subst, ◌∙◌}
use Rattle.std.specs.Prelude.{◌==◌, IfSome, IsSomeAnd, bytes_eq, is_none, is_some, option_and_then}
use Rattle.std.specs.List.{AllByRecursion, list_any}
use Rattle.std.proofs.lemmas.Bool.{eqb-true}
use Rattle.common_lemmas.proofs.Numbers.{equal_bytes, same_bytes, self_equal}
use Rattle.common_lemmas.proofs.Booleans.{impossible}
use Rattle.btree_inplace.specs.Changes.{with_data_at, without_key}
use Rattle.btree_inplace.specs.Order.{extent_in, get_in, has_key}
use Rattle.column_set.specs.RecordValues.{RecordFields}
use Rattle.database_state.specs.Conflicts.{yields_key}
use Rattle.index_derive.specs.Schemas.{rule_with_id}
use Rattle.laws_versions.specs.KeptEntries.{has_entry}
use Rattle.index_derive.specs.declared.rules.IndexRule.{IndexRule}
use Rattle.index_derive.specs.declared.rules.Schema.{Schema}
use Rattle.table_trees.specs.ValuesChanged.{HasLongValues}
use Rattle.long_rows.specs.ReferenceCounts.{with_all_taken}
use Rattle.long_value.specs.Values.{Values}
use Rattle.page_image.specs.Page.{Node}
use Rattle.table_trees.specs.StoredNodes.{put_data}
use Rattle.table_trees.specs.StoredTables.{StoredIndex, StoredTable, has_table, index_entries, is_index, part_of, table_long_values, table_nodes, with_nodes}
use Rattle.laws_engine.specs.HeldRecords.{HeldRecord}
use Rattle.laws_engine.specs.Variants.{is_variant_key}
use Rattle.stored_variants.specs.PutRecords.{HasKeysOf, Keys, record_keys}
use Rattle.variant_trees.specs.GoneKeys.{ChangesEntries, KeepsValues, LosesRecord, table_numbers}
use Rattle.variant_trees.specs.PutStages.{HasKeys, HasRoom, HasVariantKeys, IsHalfPut, IsPut, IsSame, IsWidened, MayHaveKeys, is_place, node_at_least}
use Rattle.stored_variants.specs.RecordRows.{row_in_node, row_under}
use Rattle.stored_variants.specs.VersionsKept.{only_secondary}
use Rattle.variant_trees.proofs.EntryTrees.{other_number}
use Rattle.variant_trees.proofs.KeysPut.{may_have}
use Rattle.stored_variants.proofs.FoundRules.{record_yields, secondary_found}
use Rattle.variant_trees.proofs.RoomMade.{NodeLaws, data_of, extent_of, found_then, same_table_numbers}

-- ---- a put that is not done

pub half_put : (table : ℕ) (bookmark : List ℕ) (size : ℕ) (keys : Keys) (old mid new : List StoredTable) → HasRoom table bookmark size old mid → MayHaveKeys table bookmark keys mid new → IsHalfPut table bookmark keys old new
half_put table bookmark size keys old mid new room may = record {
  numbers = may.others.numbers ∙ room.numbers;
  indexes = λ other. may.others.indexes other ∙ ap (map (λ (x : StoredIndex). x.0)) (room.indexes other);
  rows = λ other own. ap (λ (nodes : List Node). get_in nodes own) (may.others.nodes other) ∙ room.rows other own;
  extents = λ other own. subst (λ (nodes : List Node). IsWidened (extent_in (table_nodes old other) own) (extent_in nodes own)) (sym (may.others.nodes other)) (room.extents other own);
  others = λ other index apart. may.others.entries other index apart ∙ same other index;
  stay = λ index key own is. may.stay index key own (ap (has_entry key own) (same table index) ∙ is);
  only = λ index key own is. ap (λ es. has_entry key own es || (bytes_eq own bookmark && keys index key)) (sym (same table index)) ∙ may.only index key own is;
}
  where
    same : (other index : ℕ) → index_entries mid other index ≡ index_entries old other index
    same other index = ap (λ (indexes : List StoredIndex). part_of (is_index index) (λ x. x.1) indexes) (room.indexes other)

pub ready_put : (table : ℕ) (bookmark : List ℕ) (size : ℕ) (keys : Keys) (old mid new : List StoredTable) → HasRoom table bookmark size old mid → HasKeys table bookmark keys mid new → IsHalfPut table bookmark keys old new
ready_put table bookmark size keys old mid new room has = half_put table bookmark size keys old mid new room (may_have table bookmark keys keys mid new (λ i k e. e) has)

-- the newest row under the bookmark stays
pub row_stays : (table : ℕ) (bookmark : List ℕ) (keys : Keys) (old new : List StoredTable) → IsHalfPut table bookmark keys old new → row_under (table_nodes new table) bookmark ≡ row_under (table_nodes old table) bookmark
row_stays table bookmark keys old new half =
    ap (option_and_then row_in_node) (half.rows table bookmark) ∙ by (is_place table bookmark table bookmark) (get_in (table_nodes old table) bookmark)
  where
    by : (b : Bool) (o : Option (List ℕ)) → option_and_then row_in_node (node_at_least b o) ≡ option_and_then row_in_node o
    by true None = refl
    by true (Some row) = refl
    by false None = refl
    by false (Some row) = refl

pub own_place : (table : ℕ) (bookmark : List ℕ) → is_place table bookmark table bookmark ≡ true
own_place table bookmark = λ i. self_equal table i && equal_bytes bookmark bookmark refl i

pub node_is_there : (table : ℕ) (bookmark : List ℕ) (keys : Keys) (old new : List StoredTable) → IsHalfPut table bookmark keys old new → is_some (get_in (table_nodes new table) bookmark) ≡ true
node_is_there table bookmark keys old new half =
    ap is_some (half.rows table bookmark) ∙ ap (λ b. is_some (node_at_least b (get_in (table_nodes old table) bookmark))) (own_place table bookmark) ∙ by (get_in (table_nodes old table) bookmark)
  where
    by : (o : Option (List ℕ)) → is_some (node_at_least true o) ≡ true
    by None = refl
    by (Some row) = refl

list_any_tables : (table : ℕ) (trees : List StoredTable) → has_table trees table ≡ list_any (λ n. n == table) (table_numbers trees)
list_any_tables table [] = refl
list_any_tables table (x ∷ trees) = ap (λ b. (x.number == table) || b) (list_any_tables table trees)

pub table_stays : (table : ℕ) (old new : List StoredTable) → table_numbers new ≡ table_numbers old → has_table new table ≡ has_table old table
table_stays table old new same = list_any_tables table new ∙ ap (list_any (λ n. n == table)) same ∙ sym (list_any_tables table old)

-- ---- keys that are taken back

-- one entry: whether it was there, is there, is one of the record, and is a variant's
back_again : (base now own y v : Bool) → (base ≡ true → now ≡ true) → (now ≡ true → (base || (own && y)) ≡ true) → (own ≡ true → base ≡ v) → (now && not (own && (y && not v))) ≡ base
back_again true now false y v stay only is = ap (λ b. b && true) (stay refl)
back_again true now true true true stay only is = ap (λ b. b && true) (stay refl)
back_again true now true true false stay only is = impossible (sym (is refl))
back_again true now true false v stay only is = ap (λ b. b && true) (stay refl)
back_again false false own y v stay only is = refl
back_again false true false y v stay only is = impossible (only refl)
back_again false true true false v stay only is = impossible (only refl)
back_again false true true true true stay only is = impossible (is refl)
back_again false true true true false stay only is = refl

keys_back : (schema : Schema) (values : RecordFields) (table : ℕ) (bookmark : List ℕ) (newest : Option RecordFields) (held : List HeldRecord) (base now taken : List StoredTable) → AllByRecursion (HasKeysOf schema values) schema.indexes
    → IsHalfPut table bookmark (record_keys schema.indexes schema values) base now → LosesRecord newest held schema table bookmark values now taken → HasVariantKeys newest held schema table bookmark base
    → (index : ℕ) → IfSome (only_secondary (rule_with_id schema index)) (λ rule. (key own : List ℕ) → has_entry key own (index_entries taken table index) ≡ has_entry key own (index_entries base table index))
keys_back schema values table bookmark newest held base now taken rules half loses variants index = by (only_secondary (rule_with_id schema index)) refl (loses index) (variants index)
  where
    by : (o : Option IndexRule) → only_secondary (rule_with_id schema index) ≡ o
        → IfSome o (λ rule. (key own : List ℕ) → has_entry key own (index_entries taken table index) ≡ (has_entry key own (index_entries now table index) && not (bytes_eq own bookmark && (yields_key rule schema key (Some values) && not (is_variant_key newest held rule schema table key bookmark)))))
        → IfSome o (λ rule. (key : List ℕ) → has_entry key bookmark (index_entries base table index) ≡ is_variant_key newest held rule schema table key bookmark)
        → IfSome o (λ rule. (key own : List ℕ) → has_entry key own (index_entries taken table index) ≡ has_entry key own (index_entries base table index))
    by None e lost variant = tt
    by (Some rule) e lost variant = λ key own.
        lost key own
        ∙ back_again (has_entry key own (index_entries base table index)) (has_entry key own (index_entries now table index)) (bytes_eq own bookmark) (yields_key rule schema key (Some values)) (is_variant_key newest held rule schema table key bookmark)
        (half.stay index key own) (λ is. within key (has_entry key own (index_entries base table index)) (bytes_eq own bookmark) (half.only index key own is))
        (λ same. ap (λ k. has_entry key k (index_entries base table index)) (same_bytes own bookmark same) ∙ variant key)
      where
        found : (rule_with_id schema rule.id.0 ≡ Some rule) × (rule.id.0 ≡ index)
        found = secondary_found index schema rule e

        within : (key : List ℕ) (a b : Bool) → (a || (b && record_keys schema.indexes schema values index key)) ≡ true → (a || (b && yields_key rule schema key (Some values))) ≡ true
        within key true b e = refl
        within key false true e = record_yields schema values schema.indexes rule rules found.0 key (ap (λ n. record_keys schema.indexes schema values n key) found.1 ∙ e)
        within key false false e = impossible e

-- ---- trees that are taken back

pub taken_back : (schema : Schema) (values : RecordFields) (table : ℕ) (bookmark : List ℕ) (newest : Option RecordFields) (held : List HeldRecord) (base now taken : List StoredTable) → AllByRecursion (HasKeysOf schema values) schema.indexes
    → IsHalfPut table bookmark (record_keys schema.indexes schema values) base now → ChangesEntries table now taken → LosesRecord newest held schema table bookmark values now taken → HasVariantKeys newest held schema table bookmark base
    → KeepsValues base now → false ≡ is_none (get_in (table_nodes base table) bookmark) → IsSame table schema base taken
taken_back schema values table bookmark newest held base now taken rules half others loses variants long there = record {
  values = λ other. others.values other ∙ long other;
  numbers = others.numbers ∙ half.numbers;
  indexes = λ other. others.indexes other ∙ half.indexes other;
  rows = λ other own. ap (λ (nodes : List Node). get_in nodes own) (others.nodes other) ∙ half.rows other own ∙ row other own (table == other) (bytes_eq bookmark own) refl refl;
  extents = λ other own. subst (λ (nodes : List Node). IsWidened (extent_in (table_nodes base other) own) (extent_in nodes own)) (sym (others.nodes other)) (half.extents other own);
  others = λ other index apart. others.entries other index apart ∙ half.others other index apart;
  entries = keys_back schema values table bookmark newest held base now taken rules half loses variants;
}
  where
    same : (o : Option (List ℕ)) → false ≡ is_none o → (b : Bool) → node_at_least b o ≡ o
    same None e b = impossible e
    same (Some row) e true = refl
    same (Some row) e false = refl

    row : (other : ℕ) (own : List ℕ) (a b : Bool) → (table == other) ≡ a → bytes_eq bookmark own ≡ b → node_at_least (a && b) (get_in (table_nodes base other) own) ≡ get_in (table_nodes base other) own
    row other own true true e f = same (get_in (table_nodes base other) own) (there ∙ (λ i. is_none (get_in (table_nodes base (eqb-true table other e i)) (same_bytes bookmark own f i)))) true
    row other own true false e f = refl
    row other own false b e f = refl

pub taken_back_with_node : (laws : NodeLaws) (schema : Schema) (values : RecordFields) (table : ℕ) (bookmark : List ℕ) (newest : Option RecordFields) (held : List HeldRecord) (base now taken : List StoredTable) → AllByRecursion (HasKeysOf schema values) schema.indexes
    → IsHalfPut table bookmark (record_keys schema.indexes schema values) base now → ChangesEntries table now taken → LosesRecord newest held schema table bookmark values now taken → HasVariantKeys newest held schema table bookmark base
    → KeepsValues base now → has_table taken table ≡ true → true ≡ is_none (get_in (table_nodes base table) bookmark) → IsSame table schema base (with_nodes table (without_key (table_nodes taken table) bookmark) taken)
taken_back_with_node laws schema values table bookmark newest held base now taken rules half others loses variants long there absent = record {
  values = λ other. laws.values taken table other (without_key (table_nodes taken table) bookmark) ∙ others.values other ∙ long other;
  numbers = same_table_numbers table (without_key (table_nodes taken table) bookmark) taken ∙ others.numbers ∙ half.numbers;
  indexes = λ other. ap (map (λ (x : StoredIndex). x.0)) (laws.indexes taken table other (without_key (table_nodes taken table) bookmark)) ∙ others.indexes other ∙ half.indexes other;
  rows = λ other own. ap data_of (found other own) ∙ row other own (table == other) (bytes_eq bookmark own) refl refl;
  extents = λ other own. subst (λ (o : Option Node). IsWidened (extent_in (table_nodes base other) own) (extent_of o)) (sym (found other own)) (wide other own (table == other) (bytes_eq bookmark own) refl refl);
  others = λ other index apart. same other index ∙ others.entries other index apart ∙ half.others other index apart;
  entries = λ index. moved index (only_secondary (rule_with_id schema index)) (keys_back schema values table bookmark newest held base now taken rules half loses variants index);
}
  where
    new : List StoredTable
    new = with_nodes table (without_key (table_nodes taken table) bookmark) taken

    same : (other index : ℕ) → index_entries new other index ≡ index_entries taken other index
    same other index = ap (λ (indexes : List StoredIndex). part_of (is_index index) (λ x. x.1) indexes) (laws.indexes taken table other (without_key (table_nodes taken table) bookmark))

    moved : (index : ℕ) (o : Option IndexRule) → IfSome o (λ rule. (key own : List ℕ) → has_entry key own (index_entries taken table index) ≡ has_entry key own (index_entries base table index))
        → IfSome o (λ rule. (key own : List ℕ) → has_entry key own (index_entries new table index) ≡ has_entry key own (index_entries base table index))
    moved index None is = tt
    moved index (Some rule) is = λ key own. ap (has_entry key own) (same table index) ∙ is key own

    found : (other : ℕ) (own : List ℕ) → find (has_key own) (table_nodes new other) ≡ cond (table == other) (cond (bytes_eq bookmark own) None (find (has_key own) (table_nodes taken table))) (find (has_key own) (table_nodes taken other))
    found other own =
        found_then laws taken table (without_key (table_nodes taken table) bookmark) there other own
        ∙ ap (λ o. cond (table == other) o (find (has_key own) (table_nodes taken other))) (laws.removed (table_nodes taken table) bookmark own)

    gone : (o : Option (List ℕ)) → true ≡ is_none o → o ≡ None
    gone None e = refl
    gone (Some row) e = impossible (sym e)

    none : (other : ℕ) (own : List ℕ) → (table == other) ≡ true → bytes_eq bookmark own ≡ true → get_in (table_nodes base other) own ≡ None
    none other own e f = (λ i. get_in (table_nodes base (sym (eqb-true table other e) i)) (sym (same_bytes bookmark own f) i)) ∙ gone (get_in (table_nodes base table) bookmark) absent

    kept : (other : ℕ) (own : List ℕ) → is_place table bookmark other own ≡ false → get_in (table_nodes taken other) own ≡ get_in (table_nodes base other) own
    kept other own miss = ap (λ (nodes : List Node). get_in nodes own) (others.nodes other) ∙ half.rows other own ∙ ap (λ b. node_at_least b (get_in (table_nodes base other) own)) miss

    row : (other : ℕ) (own : List ℕ) (a b : Bool) → (table == other) ≡ a → bytes_eq bookmark own ≡ b
        → data_of (cond a (cond b None (find (has_key own) (table_nodes taken table))) (find (has_key own) (table_nodes taken other))) ≡ get_in (table_nodes base other) own
    row other own true true e f = sym (none other own e f)
    row other own true false e f =
        (λ i. get_in (table_nodes taken (eqb-true table other e i)) own) ∙ kept other own (λ i. e i && f i)
    row other own false b e f = kept other own (ap (λ x. x && bytes_eq bookmark own) e)

    no_extent : (o : Option Node) → data_of o ≡ None → extent_of o ≡ None
    no_extent None e = refl
    no_extent (Some n) e = absurd (no n.data e)
      where
        no : (row : List ℕ) → Some row ≡ None → ⊥
        no row h = cc

    widened : (other : ℕ) (own : List ℕ) → IsWidened (extent_in (table_nodes base other) own) (extent_in (table_nodes taken other) own)
    widened other own = subst (λ (nodes : List Node). IsWidened (extent_in (table_nodes base other) own) (extent_in nodes own)) (sym (others.nodes other)) (half.extents other own)

    wide : (other : ℕ) (own : List ℕ) (a b : Bool) → (table == other) ≡ a → bytes_eq bookmark own ≡ b
        → IsWidened (extent_in (table_nodes base other) own) (extent_of (cond a (cond b None (find (has_key own) (table_nodes taken table))) (find (has_key own) (table_nodes taken other))))
    wide other own true true e f = subst (λ (o : Option ℕ). IsWidened o None) (sym (no_extent (find (has_key own) (table_nodes base other)) (none other own e f))) tt
    wide other own true false e f = subst (λ (n : ℕ). IsWidened (extent_in (table_nodes base other) own) (extent_in (table_nodes taken n) own)) (sym (eqb-true table other e)) (widened other own)
    wide other own false b e f = widened other own

-- ---- a put that is done

-- the trees with other long values are those of the put too
pub half_put_moved : (table : ℕ) (bookmark : List ℕ) (keys : Keys) (old new moved : List StoredTable) (values : Values) → IsHalfPut table bookmark keys old new → HasLongValues table values new moved → IsHalfPut table bookmark keys old moved
half_put_moved table bookmark keys old new moved values half long = record {
  numbers = long.numbers ∙ half.numbers;
  indexes = λ other. ap (map (λ (x : StoredIndex). x.0)) (long.indexes other) ∙ half.indexes other;
  rows = λ other own. ap (λ (nodes : List Node). get_in nodes own) (long.nodes other) ∙ half.rows other own;
  extents = λ other own. subst (λ (nodes : List Node). IsWidened (extent_in (table_nodes old other) own) (extent_in nodes own)) (sym (long.nodes other)) (half.extents other own);
  others = λ other index apart. same other index ∙ half.others other index apart;
  stay = λ index key own is. ap (has_entry key own) (same table index) ∙ half.stay index key own is;
  only = λ index key own is. half.only index key own (ap (has_entry key own) (sym (same table index)) ∙ is);
}
  where
    same : (other index : ℕ) → index_entries moved other index ≡ index_entries new other index
    same other index = ap (λ (indexes : List StoredIndex). part_of (is_index index) (λ x. x.1) indexes) (long.indexes other)

-- the long values of a table are others, and those of the other tables stay
pub values_given : (table : ℕ) (given : List (List ℕ × List ℕ)) (old mid new : List StoredTable) → KeepsValues old mid → HasLongValues table (with_all_taken given (table_long_values mid table)) mid new
    → (other : ℕ) → table_long_values new other ≡ cond (table == other) (with_all_taken given (table_long_values old table)) (table_long_values old other)
values_given table given old mid new same long other = by (table == other) refl
  where
    by : (b : Bool) → (table == other) ≡ b → table_long_values new other ≡ cond b (with_all_taken given (table_long_values old table)) (table_long_values old other)
    by true e = ap (table_long_values new) (sym (eqb-true table other e)) ∙ long.named ∙ ap (with_all_taken given) (same table)
    by false e = long.others other (λ is. other_number table other e (sym is)) ∙ same other

pub put_done : (laws : NodeLaws) (table : ℕ) (bookmark row : List ℕ) (size : ℕ) (given : List (List ℕ × List ℕ)) (keys : Keys) (old mid keyed ready : List StoredTable) → has_table ready table ≡ true → HasRoom table bookmark size old mid → HasKeys table bookmark keys mid keyed
    → HasLongValues table (with_all_taken given (table_long_values keyed table)) keyed ready → IsPut table bookmark row given keys old (with_nodes table (with_data_at (table_nodes ready table) bookmark row) ready)
put_done laws table bookmark row size given keys old mid keyed ready there room has long = record {
  values = λ other. laws.values ready table other (with_data_at (table_nodes ready table) bookmark row) ∙ values_given table given old keyed ready (λ other. has.others.values other ∙ room.values other) long other;
  numbers = same_table_numbers table (with_data_at (table_nodes ready table) bookmark row) ready ∙ half.numbers;
  indexes = λ other. ap (map (λ (x : StoredIndex). x.0)) (laws.indexes ready table other (with_data_at (table_nodes ready table) bookmark row)) ∙ half.indexes other;
  rows = λ other own. ap data_of (found other own) ∙ data_is other own (table == other) (bytes_eq bookmark own) refl refl;
  extents = λ other own. subst (λ (o : Option Node). IsWidened (extent_in (table_nodes old other) own) (extent_of o)) (sym (found other own)) (wide other own (table == other) (bytes_eq bookmark own) refl);
  others = λ other index apart. same other index ∙ half.others other index apart;
  entries = λ index key own.
      ap (has_entry key own) (same table index) ∙ ap (λ (indexes : List StoredIndex). has_entry key own (part_of (is_index index) (λ x. x.1) indexes)) (long.indexes table)
      ∙ has.entries index key own ∙ ap (λ es. has_entry key own es || (bytes_eq own bookmark && keys index key)) (in_room index);
}
  where
    half : IsHalfPut table bookmark keys old ready
    half = half_put_moved table bookmark keys old keyed ready (with_all_taken given (table_long_values keyed table)) (ready_put table bookmark size keys old mid keyed room has) long

    new : List StoredTable
    new = with_nodes table (with_data_at (table_nodes ready table) bookmark row) ready

    in_room : (index : ℕ) → index_entries mid table index ≡ index_entries old table index
    in_room index = ap (λ (indexes : List StoredIndex). part_of (is_index index) (λ x. x.1) indexes) (room.indexes table)

    same : (other index : ℕ) → index_entries new other index ≡ index_entries ready other index
    same other index = ap (λ (indexes : List StoredIndex). part_of (is_index index) (λ x. x.1) indexes) (laws.indexes ready table other (with_data_at (table_nodes ready table) bookmark row))

    found : (other : ℕ) (own : List ℕ) → find (has_key own) (table_nodes new other)
        ≡ cond (table == other) (option_map (λ (n : Node). cond (bytes_eq bookmark own) (put_data row n) n) (find (has_key own) (table_nodes ready table))) (find (has_key own) (table_nodes ready other))
    found other own =
        found_then laws ready table (with_data_at (table_nodes ready table) bookmark row) there other own
        ∙ ap (λ o. cond (table == other) o (find (has_key own) (table_nodes ready other))) (laws.replaced (table_nodes ready table) bookmark row own)

    kept : (other : ℕ) (own : List ℕ) → is_place table bookmark other own ≡ false → get_in (table_nodes ready other) own ≡ get_in (table_nodes old other) own
    kept other own miss = half.rows other own ∙ ap (λ b. node_at_least b (get_in (table_nodes old other) own)) miss

    put_there : (o : Option Node) → is_some (data_of o) ≡ true → data_of (option_map (put_data row) o) ≡ Some row
    put_there None e = impossible e
    put_there (Some n) e = refl

    unchanged : (o : Option Node) → data_of (option_map (λ (n : Node). n) o) ≡ data_of o
    unchanged None = refl
    unchanged (Some n) = refl

    data_is : (other : ℕ) (own : List ℕ) (a b : Bool) → (table == other) ≡ a → bytes_eq bookmark own ≡ b
        → data_of (cond a (option_map (λ (n : Node). cond b (put_data row n) n) (find (has_key own) (table_nodes ready table))) (find (has_key own) (table_nodes ready other))) ≡ cond (a && b) (Some row) (get_in (table_nodes old other) own)
    data_is other own true true e f =
        put_there (find (has_key own) (table_nodes ready table)) ((λ i. is_some (get_in (table_nodes ready table) (sym (same_bytes bookmark own f) i))) ∙ node_is_there table bookmark keys old ready half)
    data_is other own true false e f =
        unchanged (find (has_key own) (table_nodes ready table)) ∙ (λ i. get_in (table_nodes ready (eqb-true table other e i)) own) ∙ kept other own (λ i. e i && f i)
    data_is other own false b e f = kept other own (ap (λ x. x && bytes_eq bookmark own) e)

    same_extent : (b : Bool) (o : Option Node) → extent_of (option_map (λ (n : Node). cond b (put_data row n) n) o) ≡ extent_of o
    same_extent b None = refl
    same_extent true (Some n) = refl
    same_extent false (Some n) = refl

    wide : (other : ℕ) (own : List ℕ) (a b : Bool) → (table == other) ≡ a
        → IsWidened (extent_in (table_nodes old other) own) (extent_of (cond a (option_map (λ (n : Node). cond b (put_data row n) n) (find (has_key own) (table_nodes ready table))) (find (has_key own) (table_nodes ready other))))
    wide other own true b e =
        subst (λ (o : Option ℕ). IsWidened (extent_in (table_nodes old other) own) o) (sym (same_extent b (find (has_key own) (table_nodes ready table)) ∙ (λ i. extent_in (table_nodes ready (eqb-true table other e i)) own))) (half.extents other own)
    wide other own false b e = half.extents other own

-- the row that is put has room
pub room_stays : (table : ℕ) (bookmark : List ℕ) (size : ℕ) (keys : Keys) (old mid ready : List StoredTable) → HasRoom table bookmark size old mid → HasKeys table bookmark keys mid ready → IsSomeAnd (extent_in (table_nodes ready table) bookmark) (λ extent. size ≤ extent)
room_stays table bookmark size keys old mid ready room has = subst (λ (nodes : List Node). IsSomeAnd (extent_in nodes bookmark) (λ extent. size ≤ extent)) (sym (has.others.nodes table)) room.room

-- A store after a put.
use Rattle.std.proofs.Common.{◌≡◌, ◌⊎◌, inl, inr, ℕ, ◌≤◌, ◌<◌, ◌^◌, Bool, true, false, ◌&&◌, cond, List, [], ◌∷◌, ◌++◌, length, map, Option, Some, None, option_map, refl, sym, ap, subst, ◌∙◌, arith}
use Rattle.std.specs.Prelude.{◌==◌, All, IfSome, IsSomeAnd, IsTrue, is_some, option_and_then}
use Rattle.std.specs.List.{AllByRecursion, list_all}
use Rattle.std.proofs.lemmas.Bool.{and_from, eqb-true, ne_eqb}
use Rattle.common_lemmas.proofs.Numbers.{self_equal}
use Rattle.common_lemmas.proofs.Booleans.{impossible}
use Rattle.column_set.specs.declared.changes.Change.{Change}
use Rattle.column_set.specs.declared.changes.Change.TheVariants.{Put, Drop, Hold, Add}
use Rattle.column_set.specs.RecordValues.{RecordFields, record_fits, record_size}
use Rattle.database_state.specs.Lawful.{is_indexable}
use Rattle.column_set.specs.Rows.{IsRowBytes, RowFields, is_row, row_bytes, row_size}
use Rattle.column_set.specs.RowReading.{row_in}
use Rattle.column_set.specs.ChangedRecords.{changed_bookmark, changed_table}
use Rattle.database_state.specs.Table.{Table, record_in, schema_of, table_with_id}
use Rattle.index_derive.specs.declared.rules.Schema.{Schema}
use Rattle.table_trees.specs.Sources.{row_given}
use Rattle.long_rows.specs.ReferenceCounts.{with_all_taken}
use Rattle.long_rows.specs.RowReferences.{identifier, identifiers}
use Rattle.long_rows.specs.KeptRows.{Found, MayKeep, given_values, kept_row}
use Rattle.long_rows.specs.WholeRows.{StandsFor, is_whole, record_in as record_in_row}
use Rattle.long_value.specs.Values.{Values, value_of}
use Rattle.jet_base.specs.declared.ids.TableId.{TableId}
use Rattle.jet_catalog.specs.Catalog.{CatalogState, ids_rise}
use Rattle.table_trees.specs.StoredNodes.{IsShortNode}
use Rattle.table_trees.specs.StoredTables.{long_value_of, table_long_values, StoredTable, has_table, table_nodes}
use Rattle.version_store.specs.declared.calls.By.{By}
use Rattle.version_store.specs.declared.calls.ChangeKind.{ChangeKind}
use Rattle.version_store.specs.declared.calls.ChangeKind.TheVariants as kind
use Rattle.version_store.specs.HeldChanges.{HeldChange, has_room as has_room_for_row, kind_of, new_change}
use Rattle.laws_engine.specs.VersionedTables.{VersionedTables, with_change}
use Rattle.stored_variants.specs.PutRecords.{IsStorable, put_values, record_keys}
use Rattle.variant_trees.specs.PutStages.{CanTake, HasVariantKeys, IsPut, IsSame, put_found}
use Rattle.variant_trees.specs.GoneKeys.{AreRows, held_from}
use Rattle.stored_variants.specs.RecordRows.{TableValues, IsRecordRow, held_record_in, record_of, row_in_node, row_under}
use Rattle.stored_variants.specs.StoredVersions.{StoredVersions, has_room}
use Rattle.stored_variants.specs.VersionsKept.{AreKept, AreKeptWith, HoldsNumbers, IsBookmarkOf}
use Rattle.stored_variants.specs.VersionsView.{with_newest, stored_versions, with_newest_by}
use Rattle.stored_variants.specs.CountedValues.{AreCounted, HasNoValueBehind}
use Rattle.table_versions.proofs.CountedSteps.{ChangeCounts, ChangesRow, changed_counted, same_counted}
use Rattle.table_versions.proofs.StepInStore.{IsStored, brings_none, entries_stay, same_values}
use Rattle.table_versions.proofs.ValuesTaken.{Stays, StillStand, all_stays}
use Rattle.table_versions.proofs.PutAsked.{PutAsks, are_rows, own_kept, put_asks, rules_take}
use Rattle.stored_variants.proofs.Dropped.{has_trees}
use Rattle.table_versions.proofs.PutKept.{IsNewRow, made_put, put_kept, put_shown, put_under, same_kept, same_tables}
use Rattle.table_versions.proofs.Span.{RowSizes, same_room}
use Rattle.stored_variants.proofs.Tables.{newest_at, newest_is_row, table_at}
use Rattle.stored_variants.proofs.SameRecords.{AreInOrder}

-- laws of the row that a put makes
pub record PutLaws : Type 0 where
  pub read : (row : RowFields) → IsTrue (is_row row) → row_in (row_bytes row) ≡ row
  pub formed : (found : Found) (fields : RecordFields) → MayKeep found fields → IsTrue (is_row (kept_row found fields))
  pub size : (found : Found) (fields : RecordFields) → row_size (kept_row found fields) ≡ record_size fields
  pub names : (found : Found) (fields : RecordFields) → map (λ one. one.0) (given_values (kept_row found fields) fields) ≡ identifiers (Some (kept_row found fields))
  pub stand : (found : Found) (fields : RecordFields) → MayKeep found fields → StandsFor (with_all_taken (given_values (kept_row found fields) fields) found.values) (kept_row found fields) fields
  pub none_other : (found : Found) (fields : RecordFields) (number place : ℕ) → MayKeep found fields → (number == found.number) ≡ false → number < 2 ^ 64 → place < 2 ^ 32 → value_of (identifier number place) found.values ≡ None
      → value_of (identifier number place) (with_all_taken (given_values (kept_row found fields) fields) found.values) ≡ None
  pub taken : (values : Values) (given : List (List ℕ × List ℕ)) (row : RowFields) (fields : RecordFields) → StandsFor values row fields → StandsFor (with_all_taken given values) row fields
  pub counts : ChangeCounts

-- what can be stored in a table with its records can be in the table of the catalog
pub storable_in : (trees : List StoredTable) (tables : List Table) (id : ℕ) (bookmark : List ℕ) (values : RecordFields) (t : Table) → table_with_id tables id ≡ Some t
    → IsSomeAnd (table_with_id (map (with_newest trees) tables) id) (λ table. IsStorable table bookmark values) → IsStorable t bookmark values
storable_in trees tables id bookmark values t found is =
    let s = subst (λ (o : Option Table). IsSomeAnd o (λ table. IsStorable table bookmark values)) (table_at (table_long_values trees) trees tables id ∙ ap (option_map (with_newest trees)) found) is in
    record { columns = s.columns; numbers = s.numbers; indexable = s.indexable; own = s.own; some = s.some; short = s.short; formed = s.formed; numbered = s.numbered; lengths = s.lengths; small = s.small }

-- ---- the row that is made

row_of_bytes : PutLaws → (bytes : List ℕ) → IsRowBytes bytes → is_row (row_in bytes) ≡ true
row_of_bytes laws bytes is = ap (λ (b : List ℕ). is_row (row_in b)) is.2 ∙ ap is_row (laws.read is.0 is.1) ∙ is.1

given_rows : PutLaws → (newest copied : Option (List ℕ)) → (values : Values) → IfSome newest (IsRecordRow values) → IfSome copied IsRowBytes → list_all is_row (row_given newest ++ row_given copied) ≡ true
given_rows laws None None values own other = refl
given_rows laws None (Some copied) values own other = and_from (is_row (row_in copied)) true (row_of_bytes laws copied other) refl
given_rows laws (Some row) None values own other = and_from (is_row (row_in row)) true own.formed refl
given_rows laws (Some row) (Some copied) values own other =
    and_from (is_row (row_in row)) (is_row (row_in copied) && true) own.formed (and_from (is_row (row_in copied)) true (row_of_bytes laws copied other) refl)

-- what is of no entry up to a later one is of none up to this one, and not of the later one
outside_before : (latest own number : ℕ) → latest < own → (number ≡ 0) ⊎ (own < number) → (number ≡ 0) ⊎ (latest < number)
outside_before latest own number later (inl none) = inl none
outside_before latest own number later (inr behind) = inr (omega (arith, later, behind))

apart_from : (latest own number : ℕ) → latest < own → (number ≡ 0) ⊎ (own < number) → (number == own) ≡ false
apart_from latest own number later (inl none) = ne_eqb number own (λ e. omega (arith, later, none, e))
apart_from latest own number later (inr behind) = ne_eqb number own (λ e. omega (arith, behind, e))

-- a put may make a row of the record
pub may_keep : PutLaws → (latest : ℕ) (catalog : CatalogState) (trees : List StoredTable) (held : List HeldChange) → IsStored latest catalog trees held → (number : ℕ) → latest < number → number < 2 ^ 64 → (id : ℕ) (t : Table) (bookmark : List ℕ) (copied : Option (List ℕ)) (values : RecordFields)
    → IfSome copied IsRowBytes → IsStorable t bookmark values → MayKeep (put_found number trees id bookmark copied) values
may_keep laws latest catalog trees held stored number later fits id t bookmark copied values rows is = record {
  formed = is.formed;
  columns = is.numbered;
  short = is.lengths;
  small = is.small;
  number = fits;
  rows = given_rows laws (row_under (table_nodes trees id) bookmark) copied (table_long_values trees id) (newest_is_row (table_long_values trees) catalog.tables trees held stored.kept id bookmark) rows;
  fresh = λ place place_fits. stored.entries id number place (inr later) fits place_fits;
}

pub new_row : RowSizes → PutLaws → (t : Table) (bookmark : List ℕ) (found : Found) (values : RecordFields) → MayKeep found values → IsStorable t bookmark values
    → IsNewRow (with_all_taken (given_values (kept_row found values) values) found.values) t bookmark (row_bytes (kept_row found values)) values
new_row sizes laws t bookmark found values may is = record {
  under = record {
    fits = record {
      row = record {
        formed = subst (λ (r : RowFields). IsTrue (is_row r)) (sym read) stand.formed;
        spelled = sym (ap row_bytes read);
        whole = subst (λ (r : RowFields). IsTrue (is_whole now r)) (sym read) stand.whole;
        small = subst (λ n. n ≤ 1700) (sym (sizes.bytes (kept_row found values) ∙ laws.size found values)) is.small;
      };
      columns = subst (λ (fields : RecordFields). record_fits t.columns fields ≡ true) (sym shows) is.columns;
      numbers = subst (HoldsNumbers (schema_of t)) (sym shows) is.numbers;
    };
    indexable = subst (λ (fields : RecordFields). is_indexable (schema_of t) fields ≡ true) (sym shows) is.indexable;
    own = subst (λ (fields : RecordFields). IsBookmarkOf t fields bookmark) (sym shows) is.own;
  };
  shows = shows;
  some = refl;
}
  where
    now : Values
    now = with_all_taken (given_values (kept_row found values) values) found.values

    stand : StandsFor now (kept_row found values) values
    stand = laws.stand found values may

    read : row_in (row_bytes (kept_row found values)) ≡ kept_row found values
    read = laws.read (kept_row found values) (laws.formed found values may)

    shows : record_of now (row_bytes (kept_row found values)) ≡ values
    shows = ap (record_in_row now) read ∙ stand.shown

-- ---- the store after a put

pub record IsAfterPut (catalog : CatalogState) (trees : List StoredTable) (held : List HeldChange) (by : By) (made : Change) (now : StoredVersions) : Type 0 where
  pub stored : IsStored by.number catalog trees held
  pub shown : stored_versions by.number catalog trees held ≡ record now { newest_put = by.number; store = with_change by made now.store }

-- the row that a put makes of what it finds, and the long values that it takes
abbrev pub put_row : Found → RecordFields → List ℕ
put_row found values = row_bytes (kept_row found values)

abbrev pub put_given : Found → RecordFields → List (List ℕ × List ℕ)
put_given found values = given_values (kept_row found values) values

after_record : RowSizes → PutLaws → (latest : ℕ) (catalog : CatalogState) (trees : List StoredTable) (held : List HeldChange) → IsStored latest catalog trees held → AreInOrder trees → ((table : ℕ) → All IsShortNode (table_nodes trees table))
    → (now : StoredVersions) → stored_versions latest catalog trees held ≡ now → IsTrue (ids_rise 0 catalog.greatest_table catalog.tables)
    → (by : By) → latest < by.number → (table : TableId) (bookmark : List ℕ) (copied : Option (List ℕ)) (values : RecordFields) (t : Table) → table_with_id catalog.tables table.0 ≡ Some t → IsStorable t bookmark values
    → (row : Option (List ℕ)) → MayKeep (put_found by.number trees table.0 bookmark row) values
    → (new_trees : List StoredTable) → IsPut table.0 bookmark (put_row (put_found by.number trees table.0 bookmark row) values) (put_given (put_found by.number trees table.0 bookmark row) values) (record_keys (schema_of t).indexes (schema_of t) values) trees new_trees → AreInOrder new_trees
    → (new_held : List HeldChange) → new_held ≡ held ++ made_put by table bookmark copied values trees ∷ []
    → IsAfterPut catalog new_trees new_held by (Put table bookmark copied values) now
after_record sizes laws latest catalog trees held stored sorted short now shows rise by later table bookmark copied values t found is row may new_trees put sorted_then new_held held_are = record {
  stored = record {
    kept =
        subst (λ (h : List HeldChange). AreKept catalog.tables new_trees h) (sym held_are)
        (put_kept longs catalog.greatest_table catalog.tables by table bookmark copied bytes values given t rise found new (rules_take t values (own_kept was catalog.tables trees held stored.kept table.0 t found).rules is.indexable)
        trees new_trees put sorted sorted_then (short table.0) held stays.kept);
    counts =
        subst (AreCounted new_trees) (sym held_are)
        (changed_counted laws.counts table.0 bookmark (Some bytes) given trees new_trees changes sorted sorted_then held change (record { of = refl; at = refl; before = refl; stands = refl }) stored.counts);
    entries = entries;
  };
  shown =
      (λ i. stored_versions by.number catalog new_trees (held_are i))
      ∙ ap (λ (store : VersionedTables). record { greatest_table = catalog.greatest_table; newest_put = by.number; store = store })
      (put_shown longs sizes by table bookmark copied bytes values given (record_keys (schema_of t).indexes (schema_of t) values) trees new_trees put new.some new.shows sorted sorted_then catalog.tables held stays.kept
      ∙ (λ i. with_change by (Put table bookmark copied values) (record { tables = stays.newest i; held = stays.held_records i })))
      ∙ ap (λ (v : StoredVersions). record v { newest_put = by.number; store = with_change by (Put table bookmark copied values) v.store }) shows;
}
  where
    from : Found
    from = put_found by.number trees table.0 bookmark row

    bytes : List ℕ
    bytes = put_row from values

    given : List (List ℕ × List ℕ)
    given = put_given from values

    change : HeldChange
    change = made_put by table bookmark copied values trees

    was : TableValues
    was = table_long_values trees

    longs : TableValues
    longs = table_long_values new_trees

    own_values : longs table.0 ≡ with_all_taken given (was table.0)
    own_values = put.values table.0 ∙ ap (λ (b : Bool). cond b (with_all_taken given (was table.0)) (was table.0)) (self_equal table.0)

    other_values : (other : ℕ) → (table.0 == other) ≡ false → longs other ≡ was other
    other_values other e = put.values other ∙ ap (λ (b : Bool). cond b (with_all_taken given (was table.0)) (was other)) e

    still : StillStand was longs
    still other row fields stands = by_test (table.0 == other) refl
      where
        by_test : (b : Bool) → (table.0 == other) ≡ b → StandsFor (longs other) row fields
        by_test true e =
            let same = eqb-true table.0 other e in
            subst (λ (n : ℕ). StandsFor (was n) row fields → StandsFor (longs n) row fields) same (λ s. subst (λ (v : Values). StandsFor v row fields) (sym own_values) (laws.taken (was table.0) given row fields s)) stands
        by_test false e = subst (λ (v : Values). StandsFor v row fields) (sym (other_values other e)) stands

    stays : Stays was longs catalog.tables trees held
    stays = all_stays was longs still catalog.tables trees held sorted stored.kept

    new : IsNewRow (longs table.0) t bookmark bytes values
    new = subst (λ (v : Values). IsNewRow v t bookmark bytes values) (sym own_values) (new_row sizes laws t bookmark from values may is)

    changes : ChangesRow table.0 bookmark (Some bytes) given trees new_trees
    changes = record {
      rows = put_under table.0 bookmark bytes given (record_keys (schema_of t).indexes (schema_of t) values) trees new_trees put new.some;
      values = put.values;
      names = laws.names from values ∙ ap (λ (r : RowFields). identifiers (Some r)) (sym (laws.read (kept_row from values) (laws.formed from values may)));
    }

    entries : HasNoValueBehind by.number new_trees
    entries other number place outside fits place_fits = by_test (table.0 == other) refl
      where
        before : long_value_of trees other (identifier number place) ≡ None
        before = stored.entries other number place (outside_before latest by.number number later outside) fits place_fits

        by_test : (b : Bool) → (table.0 == other) ≡ b → long_value_of new_trees other (identifier number place) ≡ None
        by_test true e =
            let same = eqb-true table.0 other e in
            subst (λ (n : ℕ). long_value_of trees n (identifier number place) ≡ None → long_value_of new_trees n (identifier number place) ≡ None) same
            (λ none. ap (value_of (identifier number place)) own_values ∙ laws.none_other from values number place may (apart_from latest by.number number later outside) fits place_fits none) before
        by_test false e = ap (value_of (identifier number place)) (other_values other e) ∙ before

-- any change that is a put
abbrev is_put : ChangeKind → Bool
is_put kind.Put = true
is_put kind.Drop = false
is_put kind.Hold = false
is_put (kind.Add column amount) = false

pub after_put : RowSizes → PutLaws → (latest : ℕ) (catalog : CatalogState) (trees : List StoredTable) (held : List HeldChange) → IsStored latest catalog trees held → AreInOrder trees → ((table : ℕ) → All IsShortNode (table_nodes trees table))
    → (now : StoredVersions) → stored_versions latest catalog trees held ≡ now → IsTrue (ids_rise 0 catalog.greatest_table catalog.tables)
    → (by : By) → latest < by.number → (made : Change) → kind_of made ≡ kind.Put → (t : Table) → table_with_id catalog.tables (changed_table made) ≡ Some t → IsStorable t (changed_bookmark made) (put_values made)
    → (row : Option (List ℕ)) → MayKeep (put_found by.number trees (changed_table made) (changed_bookmark made) row) (put_values made)
    → (new_trees : List StoredTable)
    → IsPut (changed_table made) (changed_bookmark made) (put_row (put_found by.number trees (changed_table made) (changed_bookmark made) row) (put_values made)) (put_given (put_found by.number trees (changed_table made) (changed_bookmark made) row) (put_values made))
    (record_keys (schema_of t).indexes (schema_of t) (put_values made)) trees new_trees → AreInOrder new_trees
    → (new_held : List HeldChange) → new_held ≡ held ++ new_change by made (row_under (table_nodes trees (changed_table made)) (changed_bookmark made)) ∷ []
    → IsAfterPut catalog new_trees new_held by made now
after_put sizes laws latest catalog trees held stored sorted short now shows rise by later (Put table bookmark copied values) is t found storable row may new_trees put sorted_then new_held held_are =
    after_record sizes laws latest catalog trees held stored sorted short now shows rise by later table bookmark copied values t found storable row may new_trees put sorted_then new_held held_are
after_put sizes laws latest catalog trees held stored sorted short now shows rise by later (Drop table bookmark) is t found storable row may new_trees put sorted_then new_held held_are = impossible (ap is_put is)
after_put sizes laws latest catalog trees held stored sorted short now shows rise by later (Hold table bookmark) is t found storable row may new_trees put sorted_then new_held held_are = impossible (ap is_put is)
after_put sizes laws latest catalog trees held stored sorted short now shows rise by later (Add table bookmark column amount) is t found storable row may new_trees put sorted_then new_held held_are = impossible (ap is_put is)

-- the store after a put that failed
pub record IsAfterNone (latest : ℕ) (catalog : CatalogState) (trees : List StoredTable) (held : List HeldChange) (now : StoredVersions) : Type 0 where
  pub stored : IsStored latest catalog trees held
  pub shown : stored_versions latest catalog trees held ≡ now

pub after_none : (latest : ℕ) (catalog : CatalogState) (trees : List StoredTable) (held : List HeldChange) → IsStored latest catalog trees held → AreInOrder trees → (now : StoredVersions) → stored_versions latest catalog trees held ≡ now → IsTrue (ids_rise 0 catalog.greatest_table catalog.tables)
    → (table : ℕ) (t : Table) → table_with_id catalog.tables table ≡ Some t → (new_trees : List StoredTable) → IsSame table (schema_of t) trees new_trees → AreInOrder new_trees → (new_held : List HeldChange) → new_held ≡ held → IsAfterNone latest catalog new_trees new_held now
after_none latest catalog trees held stored sorted now shows rise table t found new_trees same sorted_then new_held held_are = record {
  stored = record {
    kept =
        subst (λ (h : List HeldChange). AreKept catalog.tables new_trees h) (sym held_are)
        (subst (λ (l : TableValues). AreKeptWith l catalog.tables new_trees held) (sym (same_values trees new_trees same.values)) (same_kept was catalog.greatest_table catalog.tables trees new_trees held t table rise found same sorted sorted_then stored.kept));
    counts = subst (AreCounted new_trees) (sym held_are) (same_counted trees new_trees same.values (λ other own. ap (option_and_then row_in_node) (same.rows other own)) sorted sorted_then held stored.counts);
    entries = entries_stay latest trees new_trees (brings_none trees new_trees same.values) stored.entries;
  };
  shown =
      (λ i. stored_versions latest catalog new_trees (held_are i))
      ∙ (λ i. record {
        greatest_table = catalog.greatest_table;
        newest_put = latest;
        store = record { tables = map (with_newest_by (same_values trees new_trees same.values i) new_trees) catalog.tables; held = map (held_record_in (same_values trees new_trees same.values i)) held };
      })
      ∙ ap (λ (tables : List Table). record { greatest_table = catalog.greatest_table; newest_put = latest; store = record { tables = tables; held = map (held_record_in was) held } }) (same_tables was table (schema_of t) trees new_trees same sorted sorted_then catalog.tables)
      ∙ shows;
}
  where
    was : TableValues
    was = table_long_values trees

-- what is asked of a put in the trees, given what it is called with
pub record PutGiven (longs : TableValues) (tables : List Table) (trees : List StoredTable) (held : List HeldChange) (id : ℕ) (schema : Schema) (bookmark : List ℕ) (values : RecordFields) : Type 0 where
  pub there : has_table trees id ≡ true
  pub rules : AllByRecursion (CanTake schema values id trees) schema.indexes
  pub fits : record_fits schema.columns values ≡ true
  pub some : 0 < length bookmark
  pub short : length bookmark ≤ 255
  pub newest : IfSome (row_under (table_nodes trees id) bookmark) (IsRecordRow (longs id))
  pub rows : AreRows longs held
  pub keys : HasVariantKeys (option_map (record_of (longs id)) (row_under (table_nodes trees id) bookmark)) (held_from longs 0 held) schema id bookmark trees

pub asked_of_put : (longs : TableValues) (tables : List Table) (trees : List StoredTable) (held : List HeldChange) → AreKeptWith longs tables trees held → AreInOrder trees → (id : ℕ) (t : Table) → table_with_id tables id ≡ Some t → (schema : Schema) → schema ≡ schema_of t
    → (bookmark : List ℕ) (values : RecordFields) → IsStorable t bookmark values → PutGiven longs tables trees held id schema bookmark values
asked_of_put longs tables trees held kept sorted id t found schema schema_is bookmark values is = record {
  there = has_trees trees tables id kept.numbers ∙ ap is_some found;
  rules = subst (λ (s : Schema). AllByRecursion (CanTake s values id trees) s.indexes) (sym schema_is) asks.take;
  fits = subst (λ (s : Schema). record_fits s.columns values ≡ true) (sym schema_is) is.columns;
  some = is.some;
  short = is.short;
  newest = newest_is_row longs tables trees held kept id bookmark;
  rows = are_rows longs tables trees held kept.changes;
  keys = subst (λ (s : Schema). HasVariantKeys (option_map (record_of (longs id)) (row_under (table_nodes trees id) bookmark)) (held_from longs 0 held) s id bookmark trees) (sym schema_is) asks.keys;
}
  where
    asks : PutAsks longs tables trees held id t bookmark values
    asks = put_asks longs tables trees held kept sorted id t found bookmark values is.indexable

-- the room for the change, by its row
pub row_room : (sizes : RowSizes) (latest : ℕ) (catalog : CatalogState) (trees : List StoredTable) (held : List HeldChange) → AreKept catalog.tables trees held → AreInOrder trees → (now : StoredVersions) → stored_versions latest catalog trees held ≡ now
    → (by : By) (made : Change) (id : ℕ) (bookmark : List ℕ) → id ≡ changed_table made → bookmark ≡ changed_bookmark made → has_room_for_row by made (row_under (table_nodes trees id) bookmark) held ≡ has_room by made now.store
row_room sizes latest catalog trees held kept sorted now shows by made id bookmark id_is bookmark_is =
    same_room (table_long_values trees) sizes by made (row_under (table_nodes trees id) bookmark)
    (subst (λ (n : ℕ). IfSome (row_under (table_nodes trees id) bookmark) (IsRecordRow (table_long_values trees n))) id_is (newest_is_row (table_long_values trees) catalog.tables trees held kept id bookmark)) held now.store
    (ap (λ (v : StoredVersions). v.store.held) shows)
    ((λ i. option_map (record_of (table_long_values trees (sym id_is i))) (row_under (table_nodes trees id) bookmark))
    ∙ sym (newest_at (table_long_values trees) trees catalog.tables kept.numbers sorted id bookmark)
    ∙ (λ i. record_in (map (with_newest trees) catalog.tables) (id_is i) (bookmark_is i))
    ∙ ap (λ (v : StoredVersions). record_in v.store.tables (changed_table made) (changed_bookmark made)) shows)

-- ---- the same with what the change says

pub put_as : (number : ℕ) (old new : List StoredTable) (row : Option (List ℕ)) (id other : ℕ) → id ≡ other → (bookmark own : List ℕ) → bookmark ≡ own → (schema table_schema : Schema) → schema ≡ table_schema → (values fields : RecordFields) → values ≡ fields
    → IsPut id bookmark (put_row (put_found number old id bookmark row) values) (put_given (put_found number old id bookmark row) values) (record_keys schema.indexes schema values) old new
    → IsPut other own (put_row (put_found number old other own row) fields) (put_given (put_found number old other own row) fields) (record_keys table_schema.indexes table_schema fields) old new
put_as number old new row id other id_is bookmark own bookmark_is schema table_schema schema_is values fields values_are put =
    subst (λ (n : ℕ). IsPut n own (put_row (put_found number old n own row) fields) (put_given (put_found number old n own row) fields) (record_keys table_schema.indexes table_schema fields) old new) id_is
    (subst (λ (b : List ℕ). IsPut id b (put_row (put_found number old id b row) fields) (put_given (put_found number old id b row) fields) (record_keys table_schema.indexes table_schema fields) old new) bookmark_is
    (subst (λ (s : Schema). IsPut id bookmark (put_row (put_found number old id bookmark row) fields) (put_given (put_found number old id bookmark row) fields) (record_keys s.indexes s fields) old new) schema_is
    (subst (λ (v : RecordFields). IsPut id bookmark (put_row (put_found number old id bookmark row) v) (put_given (put_found number old id bookmark row) v) (record_keys schema.indexes schema v) old new) values_are put)))

pub same_as : (old new : List StoredTable) (id other : ℕ) → id ≡ other → (schema table_schema : Schema) → schema ≡ table_schema → IsSame id schema old new → IsSame other table_schema old new
same_as old new id other id_is schema table_schema schema_is same =
    subst (λ (n : ℕ). IsSame n table_schema old new) id_is (subst (λ (s : Schema). IsSame id s old new) schema_is same)

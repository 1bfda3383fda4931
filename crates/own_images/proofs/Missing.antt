-- No row of a store names a long value that is not there.
use Rattle.std.proofs.Common.{◌≡◌, ℕ, Bool, true, false, not, cond, ◌&&◌, List, [], ◌∷◌, ◌++◌, Option, Some, None, refl, sym, ap, subst, ◌∙◌, arith}
use Rattle.std.specs.Prelude.{◌==◌, filter, find, is_some, map, option_and_then, option_map, IfSome, if◌then◌else◌}
use Rattle.std.specs.List.{AllByRecursion, flat_map, list_all}
use Rattle.std.proofs.lemmas.Bool.Decides.{nat_tests}
use Rattle.std.proofs.lemmas.Grind.{flat_map-append}
use Rattle.btree_inplace.specs.Order.{has_key}
use Rattle.catalog_grammar.specs.Catalogs.{CatalogTable}
use Rattle.column_set.specs.RowReading.{row_in}
use Rattle.column_set.specs.Rows.{RowFields, values_in_order}
use Rattle.column_set.specs.declared.rows.RowValue.{RowValue}
use Rattle.column_set.specs.declared.rows.RowValue.TheVariants.{Here, Apart}
use Rattle.common_lemmas.proofs.Booleans.{and_left, and_right, by_test, impossible}
use Rattle.common_lemmas.proofs.Lists.{all_weaker}
use Rattle.cursor_nav.specs.Places.{are_sorted, pair_lt}
use Rattle.database_state.specs.State.{is_undone}
use Rattle.database_state.specs.Table.{Table, table_with_id}
use Rattle.live_part.specs.LiveBytes.{standing}
use Rattle.long_rows.specs.ReferenceCounts.{RowBefore}
use Rattle.long_rows.specs.RowReferences.{identifier}
use Rattle.long_rows.specs.WholeRows.{is_there, is_whole}
use Rattle.long_value.specs.Values.{Values}
use Rattle.page_image.specs.Page.{Node}
use Rattle.stored_variants.proofs.NodeRecords.{apart, key_is}
use Rattle.stored_variants.proofs.NodeWalks.{has_own_key}
use Rattle.stored_variants.specs.CountedValues.{newest_rows, row_before, rows_before, with_own_row}
use Rattle.stored_variants.specs.RecordRows.{IsRecordRow, TableValues, held_record_in, row_in_node, row_under}
use Rattle.stored_variants.specs.VersionsKept.{IsKeptChange, IsKeptTable, IsRowUnder}
use Rattle.table_trees.specs.StoredNodes.{bookmark_entries}
use Rattle.table_trees.specs.StoredTables.{StoredTable, table_long_values, table_nodes}
use Rattle.version_store.specs.HeldChanges.{HeldChange, is_rewrite}
use Rattle.image_findings.specs.CatalogFindings.{table_of}
use Rattle.image_findings.specs.TableContents.{TableContents, contents_below, long_values}
use Rattle.image_findings.specs.ValueFindings.{missing_before, missing_of_row, missing_value, missing_values}
use Rattle.own_images.proofs.Contents.{own_contents}
use Rattle.own_images.proofs.Differing.{all_both, found_each}
use Rattle.own_images.proofs.ReadBack.{parts, tables_are}
use Rattle.own_images.proofs.SoundParts.{ids_differ}
use Rattle.own_images.proofs.Walked.{WalkLaws}
use Rattle.own_images.specs.OwnContents.{HasOwnContents}
use Rattle.own_images.specs.OwnStores.{IsOwnStore, OwnStore, contents_of, told_of}

-- ---- whole rows

nothing_missing : (values : Values) (value : RowValue) → is_there values value ≡ true → missing_value values value ≡ []
nothing_missing values (Here bytes) h = refl
nothing_missing values (Apart entry place size) h = ap (λ (b : Bool). if b then [] else identifier entry place ∷ []) h

field_whole : (values : Values) (column : ℕ) (list : List RowValue) → list_all (is_there values) list ≡ true → flat_map (λ (value : ℕ × RowValue). missing_value values value.1) (map (λ (value : RowValue). (column, value)) list) ≡ []
field_whole values column [] h = refl
field_whole values column (value ∷ list) h =
    ap (λ (l : List (List ℕ)). l ++ flat_map (λ (x : ℕ × RowValue). missing_value values x.1) (map (λ (x : RowValue). (column, x)) list)) (nothing_missing values value (and_left (is_there values value) (list_all (is_there values) list) h))
    ∙ field_whole values column list (and_right (is_there values value) (list_all (is_there values) list) h)

row_whole : (values : Values) (row : RowFields) → is_whole values row ≡ true → missing_of_row values row ≡ []
row_whole values [] h = refl
row_whole values (field ∷ row) h =
    flat_map-append (λ (value : ℕ × RowValue). missing_value values value.1) (map (λ (value : RowValue). (field.0, value)) field.1) (values_in_order row)
    ∙ ap (λ (l : List (List ℕ)). l ++ missing_of_row values row) (field_whole values field.0 field.1 (and_left (list_all (is_there values) field.1) (is_whole values row) h))
    ∙ row_whole values row (and_right (list_all (is_there values) field.1) (is_whole values row) h)

-- ---- nodes by their bookmarks

later_nodes : (x : Node) (nodes : List Node) → list_all (pair_lt (x.key, x.key)) (bookmark_entries nodes) ≡ true → AllByRecursion (λ (n : Node). has_key n.key x ≡ false) nodes
later_nodes x [] h = tt
later_nodes x (n ∷ nodes) h = (
  by_test (has_key n.key x) (λ same. absurd (apart x.key n.key (and_left (pair_lt (x.key, x.key) (n.key, n.key)) (list_all (pair_lt (x.key, x.key)) (bookmark_entries nodes)) h) (key_is x.key n.key same))) (λ other. other),
  later_nodes x nodes (and_right (pair_lt (x.key, x.key) (n.key, n.key)) (list_all (pair_lt (x.key, x.key)) (bookmark_entries nodes)) h),
)

pub each_node : (nodes : List Node) → are_sorted (bookmark_entries nodes) ≡ true → AllByRecursion (λ (n : Node). find (has_key n.key) nodes ≡ Some n) nodes
each_node [] h = tt
each_node (x ∷ nodes) h = (
  ap (λ (b : Bool). cond b (Some x) (find (has_key x.key) nodes)) (has_own_key x x.key refl),
  all_both (λ (n : Node). has_key n.key x ≡ false) (λ (n : Node). find (has_key n.key) nodes ≡ Some n) (λ (n : Node). find (has_key n.key) (x ∷ nodes) ≡ Some n)
      (λ n other found. ap (λ (b : Bool). cond b (Some x) (find (has_key n.key) nodes)) other ∙ found) nodes
      (later_nodes x nodes (and_left (list_all (pair_lt (x.key, x.key)) (bookmark_entries nodes)) (are_sorted (bookmark_entries nodes)) h))
      (each_node nodes (and_right (list_all (pair_lt (x.key, x.key)) (bookmark_entries nodes)) (are_sorted (bookmark_entries nodes)) h)),
)

abbrev row_of_node : Option Node → Option (List ℕ)
row_of_node None = None
row_of_node (Some n) = row_in_node n.data

row_under_is : (nodes : List Node) (bookmark : List ℕ) → row_under nodes bookmark ≡ row_of_node (find (has_key bookmark) nodes)
row_under_is nodes bookmark = at (find (has_key bookmark) nodes)
  where
    at : (o : Option Node) → option_and_then row_in_node (option_map (λ (n : Node). n.data) o) ≡ row_of_node o
    at None = refl
    at (Some n) = refl

-- the row of each node is one that may stand under its bookmark
pub each_row : (P : List ℕ → List ℕ → Type 0) (nodes : List Node) → are_sorted (bookmark_entries nodes) ≡ true → ((bookmark : List ℕ) → IfSome (row_under nodes bookmark) (P bookmark)) → AllByRecursion (λ (n : Node). IfSome (row_in_node n.data) (P n.key)) nodes
each_row P nodes sorted rows =
    all_weaker (λ (n : Node). find (has_key n.key) nodes ≡ Some n) (λ (n : Node). IfSome (row_in_node n.data) (P n.key))
    (λ n found. subst (λ (o : Option (List ℕ)). IfSome o (P n.key)) (row_under_is nodes n.key ∙ ap row_of_node found) (rows n.key)) nodes (each_node nodes sorted)

newest_whole : (values : Values) (nodes : List Node) → AllByRecursion (λ (n : Node). IfSome (row_in_node n.data) (λ bytes. is_whole values (row_in bytes) ≡ true)) nodes → flat_map (λ (row : List ℕ × RowFields). missing_of_row values row.1) (newest_rows nodes) ≡ []
newest_whole values [] h = refl
newest_whole values (n ∷ nodes) h = at (row_in_node n.data) h.0 (newest_whole values nodes h.1)
  where
    at : (o : Option (List ℕ)) → IfSome o (λ bytes. is_whole values (row_in bytes) ≡ true) → flat_map (λ (row : List ℕ × RowFields). missing_of_row values row.1) (newest_rows nodes) ≡ []
        → flat_map (λ (row : List ℕ × RowFields). missing_of_row values row.1) (with_own_row n.key o (newest_rows nodes)) ≡ []
    at None whole rest = rest
    at (Some bytes) whole rest = ap (λ (l : List (List ℕ)). l ++ flat_map (λ (row : List ℕ × RowFields). missing_of_row values row.1) (newest_rows nodes)) (row_whole values (row_in bytes) whole) ∙ rest

-- ---- rows before held changes

abbrev pub IsRowBefore : (ℕ → Values) → HeldChange → Type 0
IsRowBefore longs h = IfSome h.before (IsRecordRow (longs h.table))

number_is : (m n : ℕ) → (m == n) ≡ true → m ≡ n
number_is m n e = grind (arith, nat_tests, e)

before_whole : (longs : ℕ → Values) (table : ℕ) (held : List HeldChange) → AllByRecursion (IsRowBefore longs) held → flat_map (missing_before (longs table)) (rows_before table held) ≡ []
before_whole longs table [] all = refl
before_whole longs table (h ∷ held) all = at (h.table == table) refl (before_whole longs table held all.1)
  where
    one : (o : Option (List ℕ)) (values : Values) → IfSome o (IsRecordRow values) → missing_before values (record { bookmark = h.bookmark; row = option_map row_in o; is_undone = is_undone h.status }) ≡ []
    one None values whole = refl
    one (Some bytes) values row = row_whole values (row_in bytes) row.whole

    at : (b : Bool) → (h.table == table) ≡ b → flat_map (missing_before (longs table)) (rows_before table held) ≡ []
        → flat_map (missing_before (longs table)) (map row_before (if b then h ∷ filter (λ (x : HeldChange). x.table == table) held else filter (λ (x : HeldChange). x.table == table) held)) ≡ []
    at true e rest =
        ap (λ (l : List (List ℕ)). l ++ flat_map (missing_before (longs table)) (rows_before table held))
        (one h.before (longs table) (subst (λ (k : ℕ). IfSome h.before (IsRecordRow (longs k))) (number_is h.table table e) all.0)) ∙ rest
    at false e rest = rest

standing_before : (longs : TableValues) (tables : List Table) (trees : List StoredTable) (h : HeldChange) → IsKeptChange longs tables trees h → is_undone h.status ≡ false → IsRowBefore longs h
standing_before longs tables trees h kept stands = by (is_rewrite h.kind) refl
  where
    found : (o : Option Table) (named : is_some o ≡ true) → IfSome o (λ table. IfSome h.before (IsRowUnder (longs h.table) table h.bookmark)) → IsRowBefore longs h
    found None named rows = impossible named
    found (Some table) named rows = at h.before rows
      where
        at : (o : Option (List ℕ)) → IfSome o (IsRowUnder (longs h.table) table h.bookmark) → IfSome o (IsRecordRow (longs h.table))
        at None row = tt
        at (Some bytes) row = row.fits.row

    by : (b : Bool) → is_rewrite h.kind ≡ b → IsRowBefore longs h
    by true e = found (table_with_id tables h.table) kept.named (kept.before (ap (λ (b : Bool). b && not (is_undone h.status)) e ∙ ap not stands))
    by false e = subst (λ (o : Option (List ℕ)). IfSome o (IsRecordRow (longs h.table))) (sym (kept.other e)) tt

pub all_standing : (longs : TableValues) (tables : List Table) (trees : List StoredTable) (held : List HeldChange) → AllByRecursion (IsKeptChange longs tables trees) held → AllByRecursion (IsRowBefore longs) (standing held)
all_standing longs tables trees [] all = tt
all_standing longs tables trees (h ∷ held) all = at (is_undone h.status) refl (all_standing longs tables trees held all.1)
  where
    at : (b : Bool) → is_undone h.status ≡ b → AllByRecursion (IsRowBefore longs) (standing held) → AllByRecursion (IsRowBefore longs) (if not b then h ∷ standing held else standing held)
    at true e rest = rest
    at false e rest = (standing_before longs tables trees h all.0 e, rest)

-- ---- the store

-- a table of the image is the one of the catalog that its number finds
unmapped : {X Y : Type 0} (P : Y → Type 0) (f : X → Y) (xs : List X) → AllByRecursion P (map f xs) → AllByRecursion (λ x. P (f x)) xs
unmapped P f [] h = tt
unmapped P f (x ∷ xs) h = (h.0, unmapped P f xs h.1)

abbrev pub IsOfCatalog : OwnStore → TableContents → Type 0
IsOfCatalog store t = table_with_id store.catalog.tables t.table.id ≡ Some t.table

pub tables_shown : (store : OwnStore) → IsOwnStore store → map (λ (t : TableContents). t.table) (contents_of store) ≡ store.catalog.tables
tables_shown store own = maps (told_of store).tables ∙ tables_are store own
  where
    maps : (xs : List CatalogTable) → map (λ (t : TableContents). t.table) (map (contents_below store.frames) xs) ≡ map table_of xs
    maps [] = refl
    maps (x ∷ xs) = ap (λ (l : List Table). table_of x ∷ l) (maps xs)

pub of_catalog : (store : OwnStore) → IsOwnStore store → AllByRecursion (IsOfCatalog store) (contents_of store)
of_catalog store own =
    unmapped (λ (t : Table). table_with_id store.catalog.tables t.id ≡ Some t) (λ (t : TableContents). t.table) (contents_of store)
    (subst (λ (l : List Table). AllByRecursion (λ (t : Table). table_with_id store.catalog.tables t.id ≡ Some t) l) (sym (tables_shown store own)) (found_each (λ (t : Table). t.id) store.catalog.tables (ids_differ store.catalog.tables (parts store own).ids)))

pub none_missing : (store : OwnStore) → IsOwnStore store → (t : TableContents) → HasOwnContents store.trees.tables t → IsOfCatalog store t → missing_values (standing store.held) t ≡ []
none_missing store own t contents is =
    let trees = store.trees.tables in
    let longs = table_long_values trees in
    let kept = subst (λ (o : Option Table). IfSome o (IsKeptTable trees (longs t.table.id) (table_nodes trees t.table.id) (map (held_record_in longs) store.held))) is (own.kept.kept.each t.table.id) in
    let rows : AllByRecursion (λ (n : Node). IfSome (row_in_node n.data) (IsRowUnder (longs t.table.id) t.table n.key)) (table_nodes trees t.table.id) = each_row (IsRowUnder (longs t.table.id) t.table) (table_nodes trees t.table.id) (own.nodes t.table.id) kept.rows in
    let whole = all_weaker (λ (n : Node). IfSome (row_in_node n.data) (IsRowUnder (longs t.table.id) t.table n.key)) (λ (n : Node). IfSome (row_in_node n.data) (λ bytes. is_whole (longs t.table.id) (row_in bytes) ≡ true)) (row_is_whole (longs t.table.id) t.table) (table_nodes trees t.table.id) rows in
    let newest = newest_whole (longs t.table.id) (table_nodes trees t.table.id) whole in
    let before = before_whole longs t.table.id (standing store.held) (all_standing longs store.catalog.tables trees store.held own.kept.kept.changes) in
    ap (λ (values : Values). flat_map (λ (row : List ℕ × RowFields). missing_of_row values row.1) (newest_rows t.nodes) ++ flat_map (missing_before values) (rows_before t.table.id (standing store.held))) contents.long_values
    ∙ ap (λ (nodes : List Node). flat_map (λ (row : List ℕ × RowFields). missing_of_row (longs t.table.id) row.1) (newest_rows nodes) ++ flat_map (missing_before (longs t.table.id)) (rows_before t.table.id (standing store.held))) contents.nodes
    ∙ ap (λ (l : List (List ℕ)). l ++ flat_map (missing_before (longs t.table.id)) (rows_before t.table.id (standing store.held))) newest
    ∙ before
  where
    row_is_whole : (values : Values) (table : Table) (n : Node) → IfSome (row_in_node n.data) (IsRowUnder values table n.key) → IfSome (row_in_node n.data) (λ bytes. is_whole values (row_in bytes) ≡ true)
    row_is_whole values table n h = at (row_in_node n.data) h
      where
        at : (o : Option (List ℕ)) → IfSome o (IsRowUnder values table n.key) → IfSome o (λ bytes. is_whole values (row_in bytes) ≡ true)
        at None row = tt
        at (Some bytes) row = row.fits.row.whole

pub own_missing : WalkLaws → (store : OwnStore) → IsOwnStore store → AllByRecursion (λ t. missing_values (standing store.held) t ≡ []) (contents_of store)
own_missing laws store own =
    all_both (HasOwnContents store.trees.tables) (IsOfCatalog store) (λ t. missing_values (standing store.held) t ≡ []) (none_missing store own) (contents_of store) (own_contents laws store own) (of_catalog store own)

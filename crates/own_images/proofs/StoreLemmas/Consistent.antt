-- What is known of all tables of a consistent image together.
use Rattle.std.proofs.Common.{◌≡◌, ℕ, true, false, List, [], ◌∷◌, Option, Some, None, refl, sym, ap, subst, ◌∙◌}
use Rattle.std.specs.Prelude.{◌==◌, is_some, map, IfSome}
use Rattle.std.specs.List.{AllByRecursion}
use Rattle.std.specs.Option.{option_or}
use Rattle.std.proofs.lemmas.Bool.{eqb-true}
use Rattle.btree_inplace.specs.Order.{get_in}
use Rattle.catalog_grammar.specs.Catalogs.{CatalogTable}
use Rattle.common_lemmas.proofs.Lists.{all_weaker}
use Rattle.common_lemmas.proofs.Options.{same_some, some_apart}
use Rattle.database_state.specs.Table.{Table}
use Rattle.index_derive.specs.declared.rules.IndexRule.{IndexRule}
use Rattle.jet_catalog.specs.Catalog.{without_rows}
use Rattle.laws_engine.specs.Holding.{RowsRise}
use Rattle.laws_versions.specs.History.{EachTwo}
use Rattle.laws_versions.specs.TableOrder.{IdsRise}
use Rattle.long_value.specs.Values.{Values}
use Rattle.page_image.specs.Page.{Node}
use Rattle.page_space.specs.Frames.{Frames}
use Rattle.stored_variants.specs.CountedValues.{AreCounted, HasNoValueBehind}
use Rattle.stored_variants.specs.RecordRows.{held_record, held_record_in, rows_of_nodes}
use Rattle.stored_variants.specs.VersionsKept.{AreKept, IsRowUnder, IsStoredRule, needed_trees, secondary_rules, tree_numbers}
use Rattle.stored_variants.specs.VersionsView.{stored_versions, with_newest}
use Rattle.table_trees.specs.StoredTables.{table_long_values, table_nodes}
use Rattle.version_cleanup.specs.LiveSessions.{LiveState}
use Rattle.version_store.specs.HeldChanges.{HeldChange}
use Rattle.image_findings.specs.CatalogFindings.{table_of}
use Rattle.image_findings.specs.EntryFindings.{entry_finding, index_finding}
use Rattle.image_findings.specs.Findings.{contents_in, tables_shown, told_in, values_by_table, whole_of}
use Rattle.image_findings.specs.Images.{Finding, ImageContents, first_of}
use Rattle.image_findings.specs.SoundChanges.{IsSoundChange}
use Rattle.image_findings.specs.OwnRules.{HasIndexTrees}
use Rattle.image_findings.specs.SoundRows.{HasOwnRecords, HasRowsUnder, HasSoundRows}
use Rattle.image_findings.specs.TableContents.{TableContents, contents_below, contents_with_id, long_values, newest_table}
use Rattle.own_images.specs.StoredContents.{HasStoredParts, HasWholeValues, held_of, stored_index, stored_of}
use Rattle.own_images.proofs.Differing.{all_both, found_each}
use Rattle.own_images.proofs.SoundParts.{ids_differ}
use Rattle.own_images.proofs.StoreLemmas.Counts.{are_counted, has_none_behind}
use Rattle.own_images.proofs.StoreLemmas.KeptChanges.{kept_changes}
use Rattle.own_images.proofs.StoreLemmas.KeptRows.{IsKnownBeside, IsSoundNode, each_has_room, sound_nodes}
use Rattle.own_images.proofs.StoreLemmas.KeptTables.{IsKnownTable, IsPlainChange, each_kept}
use Rattle.own_images.proofs.StoreLemmas.Lookups.{longs_found, nodes_found, plain_tables, same_longs, trees_of}

-- ---- lists

unmapped : {X Y : Type 0} (P : Y → Type 0) (f : X → Y) (xs : List X) → AllByRecursion P (map f xs) → AllByRecursion (λ x. P (f x)) xs
unmapped P f [] h = tt
unmapped P f (x ∷ xs) h = (h.0, unmapped P f xs h.1)

two_unmapped : {X Y : Type 0} (R : Y → Y → Type 0) (f : X → Y) (xs : List X) → EachTwo R (map f xs) → EachTwo (λ x y. R (f x) (f y)) xs
two_unmapped R f [] h = tt
two_unmapped R f (x ∷ xs) h = (unmapped (R (f x)) f xs h.0, two_unmapped R f xs h.1)

or_none : {X : Type 0} (a b : Option X) → option_or a b ≡ None → (a ≡ None) × (b ≡ None)
or_none None b h = (refl, h)
or_none (Some x) b h = absurd (some_apart x h)

each_none : {X : Type 0} (f : X → Option Finding) (xs : List X) → first_of (map f xs) ≡ None → AllByRecursion (λ x. f x ≡ None) xs
each_none f [] h = tt
each_none f (x ∷ xs) h = let a = or_none (f x) (first_of (map f xs)) h in (a.0, each_none f xs a.1)

-- ---- tables found by their numbers

abbrev IsFoundIn : List TableContents → TableContents → Type 0
IsFoundIn tables t = contents_with_id tables t.table.id ≡ Some t

found_by_number : (tables : List TableContents) → EachTwo IdsRise (map newest_table tables) → AllByRecursion (IsFoundIn tables) tables
found_by_number tables ids = found_each (λ (t : TableContents). t.table.id) tables (two_unmapped (λ (s t : Table). (s.id == t.id) ≡ false) newest_table tables (ids_differ (map newest_table tables) ids))

-- ---- held changes

plain_of : (number : ℕ) (tables : List TableContents) (sessions : List LiveState) (h : HeldChange) → IsSoundChange number tables sessions h → IsPlainChange h
plain_of number tables sessions h k = record { stands = k.stands; own = k.other }

beside_of : (number : ℕ) (tables : List TableContents) (sessions : List LiveState) (t : TableContents) → IsFoundIn tables t → (h : HeldChange) → IsSoundChange number tables sessions h → IsKnownBeside t h
beside_of number tables sessions t found h k = record {
  row = λ own. subst (λ (u : TableContents). IfSome h.before (IsRowUnder (long_values u) u.table h.bookmark)) (same own) k.before;
  node = λ own. subst (λ (u : TableContents). is_some (get_in u.nodes h.bookmark) ≡ true) (same own) k.node;
}
  where
    same : (h.table == t.table.id) ≡ true → k.t ≡ t
    same own = same_some k.t t (sym k.found ∙ ap (contents_with_id tables) (eqb-true h.table t.table.id own) ∙ found)

-- ---- all of an image

abbrev BothOf : {X : Type 0} → (X → Type 0) → (X → Type 0) → X → Type 0
BothOf P Q x = P x × Q x

zipped : {X : Type 0} (P Q : X → Type 0) (xs : List X) → AllByRecursion P xs → AllByRecursion Q xs → AllByRecursion (BothOf P Q) xs
zipped P Q xs p q = all_both P Q (BothOf P Q) (λ x a b. (a, b)) xs p q

-- the facts of one table, put together list by list
abbrev HasRules : List TableContents → TableContents → Type 0
HasRules tables = BothOf (IsFoundIn tables) (BothOf (λ t. AllByRecursion (IsStoredRule t.table) t.table.indexes) HasIndexTrees)

abbrev RowsAscend : TableContents → Type 0
RowsAscend t = RowsRise (rows_of_nodes (long_values t) t.nodes)

abbrev HasRecords : ℕ → List HeldChange → TableContents → Type 0
HasRecords number held = BothOf (BothOf RowsAscend HasOwnRecords) (BothOf HasRowsUnder (BothOf (HasSoundRows number held) (λ t. entry_finding held t ≡ None)))

tables_here : (image : ImageContents) → HasStoredParts image → AllByRecursion (HasRules (contents_in image)) (contents_in image)
tables_here image parts =
    let tables = contents_in image in
    zipped (IsFoundIn tables) (BothOf (λ (t : TableContents). AllByRecursion (IsStoredRule t.table) t.table.indexes) HasIndexTrees) tables (found_by_number tables parts.ids)
    (zipped (λ (t : TableContents). AllByRecursion (IsStoredRule t.table) t.table.indexes) HasIndexTrees tables parts.rules parts.trees)

rows_here : (image : ImageContents) → HasStoredParts image → AllByRecursion (HasRecords image.number (held_of image)) (contents_in image)
rows_here image parts =
    let tables = contents_in image in
    let rows = HasSoundRows image.number (held_of image) in
    let entries = λ (t : TableContents). entry_finding (held_of image) t ≡ None in
    zipped (BothOf RowsAscend HasOwnRecords) (BothOf HasRowsUnder (BothOf rows entries)) tables (zipped RowsAscend HasOwnRecords tables (unmapped (λ (table : Table). RowsRise table.rows) newest_table tables parts.rise) parts.records)
    (zipped HasRowsUnder (BothOf rows entries) tables parts.under (zipped rows entries tables parts.rows parts.none.entries))

pub known_tables : (image : ImageContents) → HasStoredParts image → AllByRecursion (IsKnownTable image.number (held_of image) (contents_in image)) (contents_in image)
known_tables image parts =
    let tables = contents_in image in
    let held = held_of image in
    let sessions = (whole_of image).sessions in
    all_both (HasRules tables) (HasRecords image.number held) (IsKnownTable image.number held tables)
    (λ t here there. record {
      found = here.0;
      rules = here.1.0;
      trees = here.1.1;
      sorted = there.0.0;
      records = there.0.1;
      under = there.1.0;
      rows = there.1.1.0;
      beside = all_weaker (IsSoundChange image.number tables sessions) (IsKnownBeside t) (beside_of image.number tables sessions t here.0) held parts.changes;
      entries = each_none (index_finding held t) t.indexes there.1.1.1;
    })
    tables (tables_here image parts) (rows_here image parts)

pub plain_changes : (image : ImageContents) → HasStoredParts image → AllByRecursion IsPlainChange (held_of image)
plain_changes image parts =
    let sessions = (whole_of image).sessions in
    all_weaker (IsSoundChange image.number (contents_in image) sessions) IsPlainChange (plain_of image.number (contents_in image) sessions) (held_of image) parts.changes

-- ---- the store

no_rows : (frames : Frames) (xs : List CatalogTable) → map without_rows (plain_tables (map (contents_below frames) xs)) ≡ plain_tables (map (contents_below frames) xs)
no_rows frames [] = refl
no_rows frames (x ∷ xs) = ap (λ (l : List Table). table_of x ∷ l) (no_rows frames xs)

index_numbers : (t : TableContents) (rules : List IndexRule) → map (λ index. index.0) (map (stored_index t) rules) ≡ map (λ (rule : IndexRule). rule.id.0) rules
index_numbers t [] = refl
index_numbers t (rule ∷ rules) = ap (λ (l : List ℕ). rule.id.0 ∷ l) (index_numbers t rules)

numbers_are : (tables : List TableContents) → map tree_numbers (trees_of tables) ≡ map needed_trees (plain_tables tables)
numbers_are [] = refl
numbers_are (t ∷ tables) =
    let first : tree_numbers (stored_of t) ≡ needed_trees t.table = ap (λ (l : List ℕ). (t.table.id, l)) (index_numbers t (secondary_rules t.table)) in
    λ i. first i ∷ numbers_are tables i

pub kept : (image : ImageContents) → HasStoredParts image → AreKept (plain_tables (contents_in image)) (trees_of (contents_in image)) (held_of image)
kept image parts = record {
  plain = no_rows image.pages (told_in image).tables;
  numbers = numbers_are (contents_in image);
  each = each_kept image.number (held_of image) (contents_in image) (known_tables image parts) (plain_changes image parts);
  changes = kept_changes image.number (contents_in image) (whole_of image).sessions (held_of image) parts.changes
      (each_has_room (contents_in image) (held_of image) (all_weaker (HasSoundRows image.number (held_of image)) (λ (t : TableContents). AllByRecursion (IsSoundNode (held_of image) t) t.nodes) (sound_nodes image.number (held_of image)) (contents_in image) parts.rows));
}

pub counted : (image : ImageContents) → HasStoredParts image → AreCounted (trees_of (contents_in image)) (held_of image)
counted image parts = are_counted image.number (contents_in image) (whole_of image).sessions (held_of image) parts.changes parts.values parts.none.counts

pub made : (image : ImageContents) → AllByRecursion (HasWholeValues image.number (held_of image)) (contents_in image) → HasNoValueBehind image.number (trees_of (contents_in image))
made image values = has_none_behind image.number (held_of image) (contents_in image) values

-- ---- what the store shows

pub tables_are : (frames : Frames) (xs : List CatalogTable) → map table_of xs ≡ plain_tables (map (contents_below frames) xs)
tables_are frames [] = refl
tables_are frames (x ∷ xs) = ap (λ (l : List Table). table_of x ∷ l) (tables_are frames xs)

same_held : (longs others : ℕ → Values) → ((id : ℕ) → longs id ≡ others id) → (held : List HeldChange) → map (held_record_in longs) held ≡ map (held_record_in others) held
same_held longs others same [] = refl
same_held longs others same (h ∷ held) =
    let first : held_record_in longs h ≡ held_record_in others h = ap (λ (v : Values). held_record v h) (same h.table) in
    λ i. first i ∷ same_held longs others same held i

newest_is : (tables : List TableContents) (t : TableContents) → contents_with_id tables t.table.id ≡ Some t → with_newest (trees_of tables) t.table ≡ newest_table t
newest_is tables t found =
    ap (λ (v : Values). record t.table { rows = rows_of_nodes v (table_nodes (trees_of tables) t.table.id) }) (longs_found tables t.table.id t found)
    ∙ ap (λ (l : List Node). record t.table { rows = rows_of_nodes (long_values t) l }) (nodes_found tables t.table.id t found)

each_newest : (tables : List TableContents) (ts : List TableContents) → AllByRecursion (λ (t : TableContents). contents_with_id tables t.table.id ≡ Some t) ts → map (with_newest (trees_of tables)) (plain_tables ts) ≡ map newest_table ts
each_newest tables [] found = refl
each_newest tables (t ∷ ts) found = let first : with_newest (trees_of tables) t.table ≡ newest_table t = newest_is tables t found.0 in λ i. first i ∷ each_newest tables ts found.1 i

pub store_shows : (image : ImageContents) → EachTwo IdsRise (map newest_table (contents_in image))
    → (stored_versions image.number (record { greatest_table = (told_in image).greatest; tables = map table_of (told_in image).tables }) (trees_of (contents_in image)) (held_of image)).store ≡ tables_shown (contents_in image) (held_of image)
store_shows image ids =
    let tables = contents_in image in
    let newest : map (with_newest (trees_of tables)) (map table_of (told_in image).tables) ≡ map newest_table tables =
    ap (map (with_newest (trees_of tables))) (tables_are image.pages (told_in image).tables)
    ∙ each_newest tables tables (found_by_number tables ids)
    in
    let held : map (held_record_in (table_long_values (trees_of tables))) (held_of image) ≡ map (held_record_in (values_by_table tables)) (held_of image) =
    same_held (table_long_values (trees_of tables)) (values_by_table tables) (same_longs tables) (held_of image)
    in
    λ i. record { tables = newest i; held = held i }

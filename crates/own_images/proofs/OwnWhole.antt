-- The long values of a store are whole and named rightly, so that none is found.
use Rattle.std.proofs.Common.{◌≡◌, ◌≤◌, ℕ, ◌+◌, inl, inr, Bool, true, false, not, List, [], ◌++◌, Option, Some, None, length, sym, ap, subst, ◌∙◌, arith}
use Rattle.std.specs.Prelude.{map, IfSome}
use Rattle.std.specs.List.{AllByRecursion}
use Rattle.std.proofs.lemmas.Bool.{cases_lt}
use Rattle.std.proofs.lemmas.List.Elements.{recursion_from_All}
use Rattle.common_lemmas.proofs.Lists.{all_map, all_weaker, filter_none}
use Rattle.common_lemmas.proofs.Options.{some_apart}
use Rattle.database_state.specs.Table.{Table}
use Rattle.live_part.specs.LiveBytes.{standing}
use Rattle.long_value.specs.Shown.{id_of}
use Rattle.long_value.specs.Values.{IsLong, LongValue, Values, value_of}
use Rattle.page_image.specs.Page.{Node}
use Rattle.stored_variants.specs.CountedValues.{HasNoValueBehind}
use Rattle.stored_variants.specs.RecordRows.{IsRecordRow, held_record_in, row_in_node}
use Rattle.stored_variants.specs.VersionsKept.{IsKeptTable, IsRowUnder}
use Rattle.table_trees.specs.StoredTables.{StoredTable, table_long_values, table_nodes}
use Rattle.version_store.specs.HeldChanges.{HeldChange}
use Rattle.image_findings.specs.Images.{at_least_key}
use Rattle.image_findings.specs.TableContents.{TableContents, long_values}
use Rattle.image_findings.specs.ValueFindings.{broken_values, entry_in, found_value, is_whole_value, missing_values, nodes_of_value, value_finding}
use Rattle.own_images.proofs.Contents.{own_contents}
use Rattle.own_images.proofs.Counted.{IsCounted, counted, each_value}
use Rattle.own_images.proofs.Differing.{all_both}
use Rattle.own_images.proofs.Missing.{IsOfCatalog, IsRowBefore, all_standing, each_row, none_missing, of_catalog}
use Rattle.own_images.proofs.OneValue.{MapLaws, own_single_values}
use Rattle.own_images.proofs.Walked.{WalkLaws}
use Rattle.own_images.proofs.WholeValues.{IsFormed, IsNamed, entry_read, nodes_have, referred_is_named, value_is_whole}
use Rattle.own_images.specs.OwnContents.{HasOwnContents, IsOwnValue}
use Rattle.own_images.specs.OwnStores.{IsOwnStore, OwnStore, contents_of}

-- ---- the entry of a value was made

record IsMade (number : ℕ) (id : List ℕ) : Type 0 where
  some : 1 ≤ entry_in id
  made : entry_in id ≤ number

made_of : (newest number : ℕ) (trees : List StoredTable) (table : ℕ) (id : List ℕ) (value : LongValue) → newest ≤ number → HasNoValueBehind newest trees → IsNamed id → value_of id (table_long_values trees table) ≡ Some value → IsMade number id
made_of newest number trees table id value few behind named found =
    let entry_is : entry_in id ≡ named.entry = ap entry_in named.is ∙ entry_read named.entry named.place named.low_entry in
    record {
      some = elim (cases_lt 0 named.entry) [
        | inl above ↦ omega (arith, above, entry_is)
        | inr none ↦ absurd (some_apart value (sym found ∙ ap (λ (k : List ℕ). value_of k (table_long_values trees table)) named.is ∙ behind table named.entry named.place (inl (omega (arith, none))) named.low_entry named.low_place))
      ];
      made = elim (cases_lt newest named.entry) [
        | inl above ↦ absurd (some_apart value (sym found ∙ ap (λ (k : List ℕ). value_of k (table_long_values trees table)) named.is ∙ behind table named.entry named.place (inr above) named.low_entry named.low_place))
        | inr upto ↦ omega (arith, upto, few, entry_is)
      ];
    }

-- ---- the rows that are read

abbrev HasFormed : Node → Type 0
HasFormed n = IfSome (row_in_node n.data) IsFormed

newest_formed : (store : OwnStore) → IsOwnStore store → (t : TableContents) → HasOwnContents store.trees.tables t → IsOfCatalog store t → AllByRecursion HasFormed t.nodes
newest_formed store own t contents is =
    let trees = store.trees.tables in
    let kept = subst (λ (o : Option Table). IfSome o (IsKeptTable trees (table_long_values trees t.table.id) (table_nodes trees t.table.id) (map (held_record_in (table_long_values trees)) store.held))) is (own.kept.kept.each t.table.id) in
    subst (λ (nodes : List Node). AllByRecursion HasFormed nodes) (sym contents.nodes)
    (all_weaker (λ (n : Node). IfSome (row_in_node n.data) (IsRowUnder (table_long_values trees t.table.id) t.table n.key)) HasFormed (formed (table_long_values trees t.table.id) t.table) (table_nodes trees t.table.id)
    (each_row (IsRowUnder (table_long_values trees t.table.id) t.table) (table_nodes trees t.table.id) (own.nodes t.table.id) kept.rows))
  where
    some_formed : (values : Values) (table : Table) (key : List ℕ) (o : Option (List ℕ)) → IfSome o (IsRowUnder values table key) → IfSome o IsFormed
    some_formed values table key None row = tt
    some_formed values table key (Some bytes) row = row.fits.row.formed

    formed : (values : Values) (table : Table) (n : Node) → IfSome (row_in_node n.data) (IsRowUnder values table n.key) → HasFormed n
    formed values table n row = some_formed values table n.key (row_in_node n.data) row

before_formed : (store : OwnStore) → IsOwnStore store → AllByRecursion (λ (h : HeldChange). IfSome h.before IsFormed) (standing store.held)
before_formed store own =
    let longs = table_long_values store.trees.tables in
    all_weaker (IsRowBefore longs) (λ (h : HeldChange). IfSome h.before IsFormed) (λ h row. formed (longs h.table) h.before row) (standing store.held) (all_standing longs store.catalog.tables store.trees.tables store.held own.kept.kept.changes)
  where
    formed : (values : Values) (o : Option (List ℕ)) → IfSome o (IsRecordRow values) → IfSome o IsFormed
    formed values None row = tt
    formed values (Some bytes) row = row.formed

-- ---- one table

abbrev IsWholeId : ℕ → List Node → List ℕ → Type 0
IsWholeId number all id = is_whole_value number id (nodes_of_value id all) ≡ true

abbrev IsKnownValue : OwnStore → TableContents → List ℕ × LongValue → Type 0
IsKnownValue store t row = (IsLong row × (value_of row.0 (table_long_values store.trees.tables t.table.id) ≡ Some row.1)) × IsCounted store.trees.tables store.held t row

known_values : (store : OwnStore) → IsOwnStore store → (t : TableContents) → HasOwnContents store.trees.tables t → AllByRecursion (IsKnownValue store t) (table_long_values store.trees.tables t.table.id)
known_values store own t contents =
    let values = table_long_values store.trees.tables t.table.id in
    let long = own.long_values t.table.id in
    all_both (λ (row : List ℕ × LongValue). IsLong row × (value_of row.0 values ≡ Some row.1)) (IsCounted store.trees.tables store.held t) (IsKnownValue store t) (λ row a b. (a, b)) values
    (all_both IsLong (λ (row : List ℕ × LongValue). value_of row.0 values ≡ Some row.1) (λ (row : List ℕ × LongValue). IsLong row × (value_of row.0 values ≡ Some row.1)) (λ row a b. (a, b)) values (recursion_from_All IsLong values long.whole) (each_value values long.in_order))
    (counted store.trees.tables store.held t contents long (own.kept.counts t.table.id))

whole_value : (store : OwnStore) → IsOwnStore store → (t : TableContents) → HasOwnContents store.trees.tables t → IsOfCatalog store t → (row : List ℕ × LongValue) → IsKnownValue store t row → IsOwnValue t.value_nodes row → (length row.0 ≡ 12) × IsWholeId store.number t.value_nodes row.0
whole_value store own t contents is row known value =
    let named : IsNamed row.0 = referred_is_named row.0 t.nodes t.table.id (standing store.held) (newest_formed store own t contents is) (before_formed store own) (subst (λ (n : ℕ). 1 ≤ n) known.1.count known.1.some) in
    let made = made_of store.newest store.number store.trees.tables t.table.id row.0 row.1 own.newest own.kept.entries named known.0.1 in
    (known.0.0.id, value_is_whole store.number t.value_nodes row value known.0.0.long known.0.0.short made.some made.made)

none_broken : (store : OwnStore) → IsOwnStore store → (t : TableContents) → HasOwnContents store.trees.tables t → IsOfCatalog store t → AllByRecursion (IsOwnValue t.value_nodes) (long_values t) → broken_values store.number t ≡ []
none_broken store own t contents is singles =
    let values = table_long_values store.trees.tables t.table.id in
    let own_values = subst (λ (l : Values). AllByRecursion (IsOwnValue t.value_nodes) l) contents.long_values singles in
    let whole = all_both (IsKnownValue store t) (IsOwnValue t.value_nodes) (λ (row : List ℕ × LongValue). (length row.0 ≡ 12) × IsWholeId store.number t.value_nodes row.0) (whole_value store own t contents is) values (known_values store own t contents) own_values in
    let nodes = subst (λ (l : List Node). AllByRecursion (λ n. IsWholeId store.number t.value_nodes (id_of n)) l) (sym contents.value_nodes) (nodes_have (IsWholeId store.number t.value_nodes) values whole) in
    filter_none (λ id. not (is_whole_value store.number id (nodes_of_value id t.value_nodes))) (map id_of t.value_nodes)
    (all_map (λ id. not (is_whole_value store.number id (nodes_of_value id t.value_nodes)) ≡ false) id_of t.value_nodes
    (all_weaker (λ n. IsWholeId store.number t.value_nodes (id_of n)) (λ n. not (is_whole_value store.number (id_of n) (nodes_of_value (id_of n) t.value_nodes)) ≡ false) (λ n e. ap not e) t.value_nodes nodes))

-- ---- no value is found

none_found : (store : OwnStore) → IsOwnStore store → (t : TableContents) → HasOwnContents store.trees.tables t × IsOfCatalog store t → AllByRecursion (IsOwnValue t.value_nodes) (long_values t) → value_finding store.number (standing store.held) t ≡ None
none_found store own t known singles =
    ap (λ (l : List (List ℕ)). at_least_key (found_value (standing store.held) t 0) (l ++ missing_values (standing store.held) t)) (none_broken store own t known.0 known.1 singles)
    ∙ ap (at_least_key (found_value (standing store.held) t 0)) (none_missing store own t known.0 known.1)

pub own_whole_values : WalkLaws → MapLaws → (store : OwnStore) → IsOwnStore store → AllByRecursion (λ t. value_finding store.number (standing store.held) t ≡ None) (contents_of store)
own_whole_values walks maps store own =
    all_both (λ (t : TableContents). HasOwnContents store.trees.tables t × IsOfCatalog store t) (λ (t : TableContents). AllByRecursion (IsOwnValue t.value_nodes) (long_values t)) (λ t. value_finding store.number (standing store.held) t ≡ None)
    (none_found store own) (contents_of store)
    (all_both (HasOwnContents store.trees.tables) (IsOfCatalog store) (λ (t : TableContents). HasOwnContents store.trees.tables t × IsOfCatalog store t) (λ t a b. (a, b)) (contents_of store) (own_contents walks store own) (of_catalog store own))
    (own_single_values walks maps store own)

-- An index that is given the keys of all records of its table, one record after the other.
use Rattle.std.proofs.Common.{◌≡◌, ℕ, Bool, true, false, not, ◌&&◌, ◌||◌, inl, inr, List, [], Option, Some, None, find, option_map, refl, sym, ap, subst, ◌∙◌}
use Rattle.std.specs.Prelude.{bytes_eq, IfSome, option_and_then}
use Rattle.std.specs.List.{list_any}
use Rattle.common_lemmas.proofs.Booleans.{and_right, impossible, or_false}
use Rattle.common_lemmas.proofs.Numbers.{same_bytes}
use Rattle.page_image.specs.Page.{Node}
use Rattle.btree_inplace.specs.Order.{has_key, key_and_data}
use Rattle.cursor_nav.specs.Places.{Pair, are_sorted}
use Rattle.database_state.specs.Conflicts.{yields_key}
use Rattle.laws_versions.specs.KeptEntries.{has_entry}
use Rattle.index_derive.specs.declared.entries.Place.{Place}
use Rattle.index_derive.specs.declared.entries.Place.TheVariants.{Before, On}
use Rattle.index_derive.specs.declared.rules.IndexRule.{IndexRule}
use Rattle.index_derive.specs.declared.rules.Schema.{Schema}
use Rattle.index_derive.specs.Entries.{is_legal}
use Rattle.index_tree.specs.Entries.{IsApart}
use Rattle.table_trees.specs.StoredNodes.{bookmark_entries, node_after}
use Rattle.table_trees.specs.StoredTables.{table_long_values, StoredTable, index_entries, table_nodes}
use Rattle.variant_trees.specs.NewEntries.{IsAmong, IsTakenRow, OnlyEntries, is_key_in_node, is_newest_key}
use Rattle.variant_trees.specs.PutStages.{IsKeyOfRecord}
use Rattle.stored_variants.specs.RecordRows.{record_of, row_in_node, row_under}
use Rattle.variant_trees.proofs.KeysPut.{AreApartKeys, keys_apart}
use Rattle.laws_engine.proofs.TableLemmas.Neighbours.{found_in}
use Rattle.variant_trees.proofs.NewEntries.{only_stays, only_then}
use Rattle.stored_variants.proofs.NodeWalks.{is_node_past, is_past, next_is_there, next_node, none_past, past_next}
use Rattle.laws_engine.proofs.TableLemmas.Order.{not_itself}
use Rattle.long_value.specs.Values.{Values}

-- The index has the keys of the records that were passed.
pub record IsFilledTo (table : ℕ) (rule : IndexRule) (schema : Schema) (place : Place) (was is : List StoredTable) : Type 0 where
  pub only : OnlyEntries table rule.id.0 was is
  pub entries : (key own : List ℕ) → has_entry key own (index_entries is table rule.id.0) ≡ (not (is_past place own) && is_newest_key (table_long_values was table) rule schema (table_nodes was table) key own)

pub filled_none : (table : ℕ) (rule : IndexRule) (schema : Schema) (trees : List StoredTable) → index_entries trees table rule.id.0 ≡ [] → IsFilledTo table rule schema Before trees trees
filled_none table rule schema trees empty = record {
  only = only_stays table rule.id.0 trees;
  entries = λ key own. ap (has_entry key own) empty;
}

-- the nodes stay, so the next one is one of those at the start
pub next_of_start : (table : ℕ) (rule : IndexRule) (schema : Schema) (place : Place) (was is : List StoredTable) (o : Option Pair) → IsFilledTo table rule schema place was is → o ≡ node_after place (table_nodes is table) → node_after place (table_nodes was table) ≡ o
next_of_start table rule schema place was is o h e = ap (node_after place) (sym (h.only.changes.nodes table)) ∙ sym e

-- ---- the next record

-- the row under the bookmark that is found
pub row_found : (place : Place) (nodes : List Node) (bookmark bytes : List ℕ) → are_sorted (bookmark_entries nodes) ≡ true → node_after place nodes ≡ Some (bookmark, bytes) → row_under nodes bookmark ≡ row_in_node bytes
row_found place nodes bookmark bytes sorted e =
    let found = next_node place nodes bookmark bytes e in
    ap (row_under nodes) (sym found.key) ∙ ap (λ (o : Option Node). option_and_then row_in_node (option_map (λ (n : Node). n.data) o)) (next_is_there place nodes found.node sorted found.next) ∙ ap row_in_node found.row

pub bookmark_past : (place : Place) (nodes : List Node) (bookmark bytes : List ℕ) → node_after place nodes ≡ Some (bookmark, bytes) → is_past place bookmark ≡ true
bookmark_past place nodes bookmark bytes e =
    let found = next_node place nodes bookmark bytes e in
    ap (is_past place) (sym found.key) ∙ (found_in (is_node_past place) found.node nodes found.next).1

pub not_yet : (table : ℕ) (rule : IndexRule) (schema : Schema) (place : Place) (was is : List StoredTable) (bookmark bytes : List ℕ) → IsFilledTo table rule schema place was is → node_after place (table_nodes was table) ≡ Some (bookmark, bytes)
    → (key : List ℕ) → has_entry key bookmark (index_entries is table rule.id.0) ≡ false
not_yet table rule schema place was is bookmark bytes h e key =
    h.entries key bookmark ∙ ap (λ b. not b && is_newest_key (table_long_values was table) rule schema (table_nodes was table) key bookmark) (bookmark_past place (table_nodes was table) bookmark bytes e)

-- ---- its keys are apart from those that are there

key_of : (vals : Values) (rule : IndexRule) (schema : Schema) (key : List ℕ) (row : Option (List ℕ)) → IfSome row (IsTakenRow vals rule schema) → yields_key rule schema key (option_map (record_of vals) row) ≡ true → IsKeyOfRecord rule schema key
key_of vals rule schema key None taken e = impossible e
key_of vals rule schema key (Some row) taken e = (record_of vals row, taken.columns, e)

pub among_apart : AreApartKeys → (table : ℕ) (rule : IndexRule) (schema : Schema) (place : Place) (was is : List StoredTable) (bytes : List ℕ) (keys : List (List ℕ)) → is_legal rule schema ≡ true
    → ((bookmark : List ℕ) → IfSome (row_under (table_nodes was table) bookmark) (IsTakenRow (table_long_values was table) rule schema)) → IfSome (row_in_node bytes) (IsTakenRow (table_long_values was table) rule schema) → ((key : List ℕ) → list_any (bytes_eq key) keys ≡ is_key_in_node (table_long_values was table) rule schema bytes key)
    → IsFilledTo table rule schema place was is → (one other : List ℕ) → IsAmong keys (index_entries is table rule.id.0) one → IsAmong keys (index_entries is table rule.id.0) other → IsApart one other
among_apart apart table rule schema place was is bytes keys legal rows row own h one other one_is other_is = keys_apart apart rule schema one other legal (known one one_is) (known other other_is)
  where
    known : (key : List ℕ) → IsAmong keys (index_entries is table rule.id.0) key → IsKeyOfRecord rule schema key
    known key (inl comes) = key_of (table_long_values was table) rule schema key (row_in_node bytes) row (sym (own key) ∙ comes)
    known key (inr there) =
        key_of (table_long_values was table) rule schema key (row_under (table_nodes was table) there.0) (rows there.0) (and_right (not (is_past place there.0)) _ (sym (h.entries key there.0) ∙ there.1))

-- ---- a record more

no_key : (vals : Values) (rule : IndexRule) (schema : Schema) (nodes : List Node) (key own : List ℕ) → find (has_key own) nodes ≡ None → is_newest_key vals rule schema nodes key own ≡ false
no_key vals rule schema nodes key own e = ap (λ (o : Option Node). yields_key rule schema key (option_map (record_of vals) (option_and_then row_in_node (option_map (λ (n : Node). n.data) o)))) e

both_false : (a b : Bool) → ((not a && false) || false) ≡ (not b && false)
both_false true true = refl
both_false true false = refl
both_false false true = refl
both_false false false = refl

with_own : (a b : Bool) → ((a && b) || b) ≡ b
with_own true true = refl
with_own true false = refl
with_own false b = refl

pub filled_more : (table : ℕ) (rule : IndexRule) (schema : Schema) (place : Place) (was is then : List StoredTable) (bookmark bytes : List ℕ) (keys : List (List ℕ)) → are_sorted (bookmark_entries (table_nodes was table)) ≡ true
    → node_after place (table_nodes was table) ≡ Some (bookmark, bytes) → ((key : List ℕ) → list_any (bytes_eq key) keys ≡ is_key_in_node (table_long_values was table) rule schema bytes key) → OnlyEntries table rule.id.0 is then
    → ((key own : List ℕ) → has_entry key own (index_entries then table rule.id.0) ≡ (has_entry key own (index_entries is table rule.id.0) || (bytes_eq own bookmark && list_any (bytes_eq key) keys)))
    → IsFilledTo table rule schema place was is → IsFilledTo table rule schema (On bookmark bookmark) was then
filled_more table rule schema place was is then bookmark bytes keys sorted e keys_are only put h = record {
  only = only_then table rule.id.0 was is then h.only only;
  entries = λ key own. put key own ∙ (λ i. h.entries key own i || (bytes_eq own bookmark && keys_are key i)) ∙ by key own (bytes_eq own bookmark) refl;
}
  where
    nodes : List Node
    nodes = table_nodes was table

    is_new : List ℕ → List ℕ → Bool
    is_new key own = is_newest_key (table_long_values was table) rule schema nodes key own

    own_key : (key : List ℕ) → is_key_in_node (table_long_values was table) rule schema bytes key ≡ is_new key bookmark
    own_key key = sym (ap (λ (row : Option (List ℕ)). yields_key rule schema key (option_map (record_of (table_long_values was table)) row)) (row_found place nodes bookmark bytes sorted e))

    other : (key own : List ℕ) → bytes_eq own bookmark ≡ false → (o : Option Node) → find (has_key own) nodes ≡ o → ((not (is_past place own) && is_new key own) || false) ≡ (not (is_past (On bookmark bookmark) own) && is_new key own)
    other key own apart None f =
        (λ i. (not (is_past place own) && no_key (table_long_values was table) rule schema nodes key own f i) || false) ∙ both_false (is_past place own) (is_past (On bookmark bookmark) own)
        ∙ sym (ap (λ b. not (is_past (On bookmark bookmark) own) && b) (no_key (table_long_values was table) rule schema nodes key own f))
    other key own apart (Some m) f =
        or_false (not (is_past place own) && is_new key own) ∙ ap (λ b. not b && is_new key own) passed
      where
        passed : is_past place own ≡ is_past (On bookmark bookmark) own
        passed =
            let found = next_node place nodes bookmark bytes e in
            subst (λ (k : List ℕ). is_past place own ≡ is_past (On k k) own) found.key
            (past_next place nodes found.node m own sorted found.next f (ap (bytes_eq own) found.key ∙ apart))

    by : (key own : List ℕ) (b : Bool) → bytes_eq own bookmark ≡ b → ((not (is_past place own) && is_new key own) || (b && is_key_in_node (table_long_values was table) rule schema bytes key)) ≡ (not (is_past (On bookmark bookmark) own) && is_new key own)
    by key own true f =
        ap (λ b. (not (is_past place own) && is_new key own) || b) (own_key key ∙ ap (is_new key) (sym (same_bytes own bookmark f))) ∙ with_own (not (is_past place own)) (is_new key own)
        ∙ sym (ap (λ b. not b && is_new key own) (ap (is_past (On bookmark bookmark)) (same_bytes own bookmark f) ∙ not_itself (bookmark, bookmark)))
    by key own false f = other key own f (find (has_key own) nodes) refl

-- ---- all records

pub filled_all : (table : ℕ) (rule : IndexRule) (schema : Schema) (place : Place) (was is : List StoredTable) → node_after place (table_nodes was table) ≡ None → IsFilledTo table rule schema place was is
    → (key own : List ℕ) → has_entry key own (index_entries is table rule.id.0) ≡ is_newest_key (table_long_values was table) rule schema (table_nodes was table) key own
filled_all table rule schema place was is none h key own = h.entries key own ∙ by (find (has_key own) nodes) refl
  where
    nodes : List Node
    nodes = table_nodes was table

    no_node : (o : Option Node) → find (is_node_past place) nodes ≡ o → option_map key_and_data o ≡ None → o ≡ None
    no_node None f e = refl
    no_node (Some n) f e = cc

    nothing : (b : Bool) → (b && false) ≡ false
    nothing true = refl
    nothing false = refl

    by : (o : Option Node) → find (has_key own) nodes ≡ o → (not (is_past place own) && is_newest_key (table_long_values was table) rule schema nodes key own) ≡ is_newest_key (table_long_values was table) rule schema nodes key own
    by None f = ap (λ b. not (is_past place own) && b) (no_key (table_long_values was table) rule schema nodes key own f) ∙ nothing (not (is_past place own)) ∙ sym (no_key (table_long_values was table) rule schema nodes key own f)
    by (Some m) f = ap (λ b. not b && is_newest_key (table_long_values was table) rule schema nodes key own) (none_past place nodes m own (no_node (find (is_node_past place) nodes) refl none) f)

-- The change that is undone, by its place, and its row.
use Rattle.std.proofs.Common.{◌≡◌, ℕ, zero, suc, ◌<◌, ◌≤◌, Bool, true, false, cond, List, [], ◌∷◌, length, Option, Some, None, find, map, option_map, refl, sym, ap, ◌∙◌, arith}
use Rattle.std.specs.Prelude.{All, IfSome, IsSomeAnd, is_some, option_and_then, slice_get, unwrap_or}
use Rattle.std.proofs.lemmas.List.Elements.{All-head, All-tail}
use Rattle.common_lemmas.proofs.Options.{none_some, same_some}
use Rattle.common_lemmas.proofs.Booleans.{impossible}
use Rattle.btree_inplace.specs.Order.{extent_in, get_in, has_key}
use Rattle.column_set.specs.Rows.{IsRowBytes}
use Rattle.column_set.specs.RowReading.{row_in}
use Rattle.cursor_nav.specs.Places.{are_sorted}
use Rattle.database_state.specs.State.{undone}
use Rattle.page_image.specs.Page.{Node}
use Rattle.table_trees.specs.StoredNodes.{IsShortNode, bookmark_entries}
use Rattle.table_trees.specs.StoredTables.{StoredTable, has_table, is_table, table_nodes}
use Rattle.version_store.specs.HeldChanges.{HeldChange, undone_at, with_status}
use Rattle.stored_variants.specs.RecordRows.{IsRecordRow, row_in_node, row_under}
use Rattle.stored_variants.proofs.Dropped.{TreeLaws}
use Rattle.variant_trees.proofs.EntryTrees.{no_part, there_or}
use Rattle.variant_trees.proofs.Refilled.{Fills, filled}
use Rattle.long_value.specs.Values.{Values}

-- ---- places

pub place_in : (held : List HeldChange) (place : ℕ) (h : HeldChange) → slice_get held place ≡ Some h → place < length held
place_in [] place h at = none_some h at
place_in (x ∷ held) zero h at = omega arith
place_in (x ∷ held) (suc place) h at = let rest : place < length held = place_in held place h at in omega arith

pub mapped_at : {X : Type 0} (f : HeldChange → X) (held : List HeldChange) (place : ℕ) (h : HeldChange) (x : X) → slice_get held place ≡ Some h → slice_get (map f held) place ≡ Some x → f h ≡ x
mapped_at f [] place h x at is = none_some h at
mapped_at f (y ∷ held) zero h x at is = ap f (sym (same_some y h at)) ∙ same_some (f y) x is
mapped_at f (y ∷ held) (suc place) h x at is = mapped_at f held place h x at is

pub undone_there : (held : List HeldChange) (place : ℕ) (h : HeldChange) → slice_get held place ≡ Some h → slice_get (undone_at (Some place) held) place ≡ Some (with_status undone h)
undone_there [] place h at = none_some h at
undone_there (x ∷ held) zero h at = ap (λ (y : HeldChange). Some (with_status undone y)) (same_some x h at)
undone_there (x ∷ held) (suc place) h at = undone_there held place h at

-- two changes at a place are one
pub same_at : (held : List HeldChange) (place : ℕ) (g h : HeldChange) → slice_get held place ≡ Some g → slice_get held place ≡ Some h → g ≡ h
same_at held place g h one other = same_some g h (sym one ∙ other)

-- ---- rows

abbrev is_none_left : List ℕ → Bool
is_none_left [] = true
is_none_left (x ∷ xs) = false

pub row_some : (vals : Values) (row : List ℕ) → IsRecordRow vals row → row_in_node row ≡ Some row
row_some vals [] is = impossible (sym (ap (λ bytes. is_none_left bytes) is.spelled))
row_some vals (x ∷ xs) is = refl

pub row_in_bytes : (vals : Values) (o : Option (List ℕ)) → IfSome o (IsRecordRow vals) → row_in_node (unwrap_or o []) ≡ o
row_in_bytes vals None is = refl
row_in_bytes vals (Some row) is = row_some vals row is

pub spelled_row : (vals : Values) (row : List ℕ) → IsRecordRow vals row → IsRowBytes row
spelled_row vals row is = (row_in row, is.formed, is.spelled)

-- ---- nodes

pub node_of_row : (nodes : List Node) (own : List ℕ) → is_some (row_under nodes own) ≡ true → is_some (get_in nodes own) ≡ true
node_of_row nodes own there = by (get_in nodes own) there
  where
    by : (o : Option (List ℕ)) → is_some (option_and_then row_in_node o) ≡ true → is_some o ≡ true
    by None e = e
    by (Some row) e = refl

pub node_of_extent : (P : ℕ → Type 0) (nodes : List Node) (own : List ℕ) → IsSomeAnd (extent_in nodes own) P → is_some (get_in nodes own) ≡ true
node_of_extent P nodes own there = by (find (has_key own) nodes) there
  where
    by : (o : Option Node) → IsSomeAnd (option_map (λ (n : Node). n.extent) o) P → is_some (option_map (λ (n : Node). n.data) o) ≡ true
    by None e = absurd e
    by (Some n) e = refl

pub table_of_node : (trees : List StoredTable) (id : ℕ) (bookmark : List ℕ) → is_some (get_in (table_nodes trees id) bookmark) ≡ true → has_table trees id ≡ true
table_of_node trees id bookmark e = there_or (has_table trees id) (λ none. sym (ap (λ nodes. is_some (get_in nodes bookmark)) (no_part (is_table id) (λ x. x.nodes) trees none)) ∙ e)

pub fills : (laws : TreeLaws) (trees : List StoredTable) (id : ℕ) (bookmark row : List ℕ) → is_some (get_in (table_nodes trees id) bookmark) ≡ true → ((table : ℕ) → are_sorted (bookmark_entries (table_nodes trees table)) ≡ true)
    → ((table : ℕ) → are_sorted (bookmark_entries (table_nodes (filled trees id bookmark row) table)) ≡ true) → Fills laws trees id bookmark row
fills laws trees id bookmark row node sorted sorted_then = record {
  table = table_of_node trees id bookmark node;
  node = node;
  sorted = sorted;
  sorted_then = sorted_then;
}

-- a row has room where the one before it has, and no row has it in any node
pub room_for : (nodes : List Node) (own : List ℕ) (before : Option (List ℕ)) → IfSome before (λ row. IsSomeAnd (extent_in nodes own) (λ extent. length row ≤ extent)) → is_some (get_in nodes own) ≡ true → IsSomeAnd (extent_in nodes own) (λ extent. length (unwrap_or before []) ≤ extent)
room_for nodes own (Some row) room node = room
room_for nodes own None room node = by (find (has_key own) nodes) node
  where
    by : (o : Option Node) → is_some (option_map (λ (n : Node). n.data) o) ≡ true → IsSomeAnd (option_map (λ (n : Node). n.extent) o) (λ extent. 0 ≤ extent)
    by None e = impossible e
    by (Some n) e = omega arith

-- a row in a node has at most 1,700 bytes
pub short_row : (nodes : List Node) → All IsShortNode nodes → (own : List ℕ) → IfSome (row_under nodes own) (λ row. length row ≤ 1700)
short_row [] short own = tt
short_row (n ∷ nodes) short own = by (has_key own n) (All-head IsShortNode n nodes short) (short_row nodes (All-tail IsShortNode n nodes short) own)
  where
    fits : (bytes : List ℕ) (extent : ℕ) → length bytes ≤ extent → extent ≤ 1700 → IfSome (row_in_node bytes) (λ row. length row ≤ 1700)
    fits [] extent h g = tt
    fits (byte ∷ bytes) extent h g = omega arith

    by : (b : Bool) → IsShortNode n → IfSome (row_under nodes own) (λ row. length row ≤ 1700) → IfSome (option_and_then row_in_node (option_map (λ (n : Node). n.data) (cond b (Some n) (find (has_key own) nodes)))) (λ row. length row ≤ 1700)
    by true is rest = fits n.data n.extent is.row is.extent
    by false is rest = rest

-- The row before an open change that is undone comes back into its node.
use Rattle.std.proofs.Common.{◌≡◌, ℕ, ◌≤◌, zero, suc, Bool, true, false, not, ◌&&◌, ◌||◌, cond, List, [], ◌∷◌, length, Option, Some, None, find, map, option_map, refl, sym, ap, subst, ◌∙◌}
use Rattle.std.specs.Prelude.{◌==◌, IfSome, IsSomeAnd, bytes_eq, is_some, option_and_then, slice_get}
use Rattle.std.specs.List.{AllByRecursion}
use Rattle.std.proofs.lemmas.Bool.{eqb-true}
use Rattle.common_lemmas.proofs.Booleans.{and_left, and_right, impossible, or_swap}
use Rattle.common_lemmas.proofs.Numbers.{same_bytes}
use Rattle.btree_inplace.specs.Changes.{with_data_at}
use Rattle.btree_inplace.specs.Order.{extent_in, get_in, has_key}
use Rattle.column_set.specs.RecordValues.{RecordFields}
use Rattle.cursor_nav.specs.Places.{are_sorted}
use Rattle.database_state.specs.Conflicts.{yields_key}
use Rattle.database_state.specs.State.{undone, is_open, is_undone}
use Rattle.database_state.specs.Table.{Table, row_at, schema_of, table_with_id}
use Rattle.laws_versions.specs.KeptEntries.{has_entry}
use Rattle.index_derive.specs.declared.rules.IndexRule.{IndexRule}
use Rattle.page_image.specs.Page.{Node}
use Rattle.table_trees.specs.StoredNodes.{bookmark_entries, put_data}
use Rattle.table_trees.specs.StoredTables.{StoredTable, has_table, index_entries, table_nodes, with_nodes}
use Rattle.version_store.specs.HeldChanges.{HeldChange, is_rewrite, undone_at, with_status}
use Rattle.laws_engine.specs.HeldRecords.{HeldRecord, is_standing_rewrite}
use Rattle.laws_engine.specs.Variants.{HoldsVariants, has_variant, is_variant_key}
use Rattle.stored_variants.specs.RecordRows.{TableValues, some_before, held_record_in, record_of, row_in_node, row_under, rows_of_nodes}
use Rattle.variant_trees.specs.GoneKeys.{is_gone_key}
use Rattle.variant_trees.specs.LeftVariants.{AreLeft, IsLeft, is_this}
use Rattle.stored_variants.specs.VersionsKept.{AreKeptWith, IsKeptChange, IsKeptTable, IsRowUnder, secondary_rule}
use Rattle.stored_variants.proofs.Dropped.{TreeLaws, same_numbers, same_index}
use Rattle.variant_trees.proofs.EntryTrees.{other_number}
use Rattle.stored_variants.proofs.NodeRecords.{record_at}
use Rattle.stored_variants.proofs.Tables.{found_number}
use Rattle.common_lemmas.proofs.Options.{same_some, none_some}
use Rattle.stored_variants.proofs.ChangesKept.{open_stands}

-- the trees with another row in a node
abbrev pub filled : List StoredTable → ℕ → List ℕ → List ℕ → List StoredTable
filled trees id bookmark row = with_nodes id (with_data_at (table_nodes trees id) bookmark row) trees

abbrev pub filled_where : Bool → List ℕ → Node → Node
filled_where b row n = cond b (put_data row n) n

-- what is known of the trees
pub record Fills (laws : TreeLaws) (trees : List StoredTable) (id : ℕ) (bookmark row : List ℕ) : Type 0 where
  pub table : has_table trees id ≡ true
  pub node : is_some (get_in (table_nodes trees id) bookmark) ≡ true
  pub sorted : (table : ℕ) → are_sorted (bookmark_entries (table_nodes trees table)) ≡ true
  pub sorted_then : (table : ℕ) → are_sorted (bookmark_entries (table_nodes (filled trees id bookmark row) table)) ≡ true

-- ---- look-ups

pub nodes_filled : (laws : TreeLaws) (trees : List StoredTable) (id : ℕ) (bookmark row : List ℕ) → has_table trees id ≡ true → (other : ℕ)
    → table_nodes (filled trees id bookmark row) other ≡ cond (id == other) (with_data_at (table_nodes trees other) bookmark row) (table_nodes trees other)
nodes_filled laws trees id bookmark row there other = by (id == other) refl
  where
    by : (b : Bool) → (id == other) ≡ b → table_nodes (filled trees id bookmark row) other ≡ cond b (with_data_at (table_nodes trees other) bookmark row) (table_nodes trees other)
    by true e =
        ap (table_nodes (filled trees id bookmark row)) (sym (eqb-true id other e))
        ∙ laws.named trees id (with_data_at (table_nodes trees id) bookmark row) there
        ∙ ap (λ n. with_data_at (table_nodes trees n) bookmark row) (eqb-true id other e)
    by false e = laws.others trees id other (with_data_at (table_nodes trees id) bookmark row) (λ same. other_number id other e (sym same))

found_filled : (laws : TreeLaws) (trees : List StoredTable) (id : ℕ) (bookmark row : List ℕ) → has_table trees id ≡ true → (other : ℕ) (own : List ℕ)
    → find (has_key own) (table_nodes (filled trees id bookmark row) other) ≡ option_map (filled_where (is_this id bookmark other own) row) (find (has_key own) (table_nodes trees other))
found_filled laws trees id bookmark row there other own = ap (find (has_key own)) (nodes_filled laws trees id bookmark row there other) ∙ by (id == other)
  where
    same : (o : Option Node) → o ≡ option_map (filled_where false row) o
    same None = refl
    same (Some n) = refl

    by : (b : Bool) → find (has_key own) (cond b (with_data_at (table_nodes trees other) bookmark row) (table_nodes trees other)) ≡ option_map (filled_where (b && bytes_eq bookmark own) row) (find (has_key own) (table_nodes trees other))
    by true = laws.replaced (table_nodes trees other) bookmark row own
    by false = same (find (has_key own) (table_nodes trees other))

pub there_filled : (laws : TreeLaws) (trees : List StoredTable) (id : ℕ) (bookmark row : List ℕ) → has_table trees id ≡ true → (other : ℕ) (own : List ℕ)
    → is_some (get_in (table_nodes (filled trees id bookmark row) other) own) ≡ is_some (get_in (table_nodes trees other) own)
there_filled laws trees id bookmark row there other own =
    ap (λ o. is_some (option_map (λ (n : Node). n.data) o)) (found_filled laws trees id bookmark row there other own) ∙ by (is_this id bookmark other own) (find (has_key own) (table_nodes trees other))
  where
    by : (b : Bool) (o : Option Node) → is_some (option_map (λ (n : Node). n.data) (option_map (filled_where b row) o)) ≡ is_some (option_map (λ (n : Node). n.data) o)
    by b None = refl
    by b (Some n) = refl

extent_filled : (laws : TreeLaws) (trees : List StoredTable) (id : ℕ) (bookmark row : List ℕ) → has_table trees id ≡ true → (other : ℕ) (own : List ℕ)
    → extent_in (table_nodes (filled trees id bookmark row) other) own ≡ extent_in (table_nodes trees other) own
extent_filled laws trees id bookmark row there other own =
    ap (option_map (λ (n : Node). n.extent)) (found_filled laws trees id bookmark row there other own) ∙ by (is_this id bookmark other own) (find (has_key own) (table_nodes trees other))
  where
    by : (b : Bool) (o : Option Node) → option_map (λ (n : Node). n.extent) (option_map (filled_where b row) o) ≡ option_map (λ (n : Node). n.extent) o
    by b None = refl
    by true (Some n) = refl
    by false (Some n) = refl

pub row_filled : (laws : TreeLaws) (trees : List StoredTable) (id : ℕ) (bookmark row : List ℕ) → has_table trees id ≡ true → is_some (get_in (table_nodes trees id) bookmark) ≡ true → (other : ℕ) (own : List ℕ)
    → row_under (table_nodes (filled trees id bookmark row) other) own ≡ cond (is_this id bookmark other own) (row_in_node row) (row_under (table_nodes trees other) own)
row_filled laws trees id bookmark row there node other own =
    ap (λ o. option_and_then row_in_node (option_map (λ (n : Node). n.data) o)) (found_filled laws trees id bookmark row there other own)
    ∙ by (is_this id bookmark other own) refl (find (has_key own) (table_nodes trees other)) refl
  where
    no_node : is_this id bookmark other own ≡ true → find (has_key own) (table_nodes trees other) ≡ None → false ≡ true
    no_node e none =
        sym (ap (λ (o : Option Node). is_some (option_map (λ (n : Node). n.data) o)) none)
        ∙ (λ i. is_some (get_in (table_nodes trees (sym (eqb-true id other (and_left (id == other) (bytes_eq bookmark own) e)) i)) (sym (same_bytes bookmark own (and_right (id == other) (bytes_eq bookmark own) e)) i)))
        ∙ node

    by : (b : Bool) → is_this id bookmark other own ≡ b → (o : Option Node) → find (has_key own) (table_nodes trees other) ≡ o
        → option_and_then row_in_node (option_map (λ (n : Node). n.data) (option_map (filled_where b row) o)) ≡ cond b (row_in_node row) (option_and_then row_in_node (option_map (λ (n : Node). n.data) o))
    by true e None f = impossible (no_node e f)
    by true e (Some n) f = refl
    by false e None f = refl
    by false e (Some n) f = refl

pub record_filled : (longs : TableValues) (laws : TreeLaws) (trees : List StoredTable) (id : ℕ) (bookmark row : List ℕ) → Fills laws trees id bookmark row → (other : ℕ) (own : List ℕ)
    → row_at (rows_of_nodes (longs other) (table_nodes (filled trees id bookmark row) other)) own ≡ cond (is_this id bookmark other own) (option_map (record_of (longs id)) (row_in_node row)) (row_at (rows_of_nodes (longs other) (table_nodes trees other)) own)
record_filled longs laws trees id bookmark row fills other own =
    record_at (longs other) (table_nodes (filled trees id bookmark row) other) (fills.sorted_then other) own
    ∙ ap (option_map (record_of (longs other))) (row_filled laws trees id bookmark row fills.table fills.node other own)
    ∙ by (is_this id bookmark other own) refl
  where
    by : (b : Bool) → is_this id bookmark other own ≡ b
        → option_map (record_of (longs other)) (cond b (row_in_node row) (row_under (table_nodes trees other) own)) ≡ cond b (option_map (record_of (longs id)) (row_in_node row)) (row_at (rows_of_nodes (longs other) (table_nodes trees other)) own)
    by true e = ap (λ n. option_map (record_of (longs n)) (row_in_node row)) (sym (eqb-true id other (and_left (id == other) (bytes_eq bookmark own) e)))
    by false e = sym (record_at (longs other) (table_nodes trees other) (fills.sorted other) own)

-- ---- an undone change among the others

-- what the change adds to the variants is gone with it
pub undone_before : (longs : TableValues) (test : Option RecordFields → Bool) (table : ℕ) (own : List ℕ) (h : HeldChange) → is_rewrite h.kind ≡ true → is_open h.status ≡ true → (held : List HeldChange) (place : ℕ) → slice_get held place ≡ Some h
    → some_before test table own (map (held_record_in longs) held) ≡ ((is_this h.table h.bookmark table own && test (option_map (record_of (longs h.table)) h.before)) || some_before test table own (map (held_record_in longs) (undone_at (Some place) held)))
undone_before longs test table own h rewrites is_uncommitted [] place at = none_some h at
undone_before longs test table own h rewrites is_uncommitted (x ∷ held) zero at =
    subst (λ (y : HeldChange). some_before test table own (map (held_record_in longs) (y ∷ held)) ≡ ((is_this h.table h.bookmark table own && test (option_map (record_of (longs h.table)) h.before)) || some_before test table own (map (held_record_in longs) (with_status undone y ∷ held))))
    (sym (same_some x h at)) first
  where
    stood : (this w u : Bool) → w ≡ true → u ≡ true → (((this && w) && u) && test (cond (w && u) (option_map (record_of (longs h.table)) h.before) None)) ≡ (this && test (option_map (record_of (longs h.table)) h.before))
    stood true true true e f = refl
    stood false true true e f = refl
    stood this false u e f = impossible e
    stood this true false e f = impossible f

    none : (this w : Bool) (b : Bool) → (((this && w) && false) && b) ≡ false
    none true true b = refl
    none true false b = refl
    none false w b = refl

    first : some_before test table own (map (held_record_in longs) (h ∷ held)) ≡ ((is_this h.table h.bookmark table own && test (option_map (record_of (longs h.table)) h.before)) || some_before test table own (map (held_record_in longs) (with_status undone h ∷ held)))
    first =
        ap (λ b. b || some_before test table own (map (held_record_in longs) held)) (stood (is_this h.table h.bookmark table own) (is_rewrite h.kind) (not (is_undone h.status)) rewrites (ap not (open_stands h.status is_uncommitted)))
        ∙ sym (ap (λ b. (is_this h.table h.bookmark table own && test (option_map (record_of (longs h.table)) h.before)) || (b || some_before test table own (map (held_record_in longs) held))) (none (is_this h.table h.bookmark table own) (is_rewrite h.kind) (test (held_record_in longs (with_status undone h)).before)))
undone_before longs test table own h rewrites is_uncommitted (x ∷ held) (suc place) at =
    ap (λ b. (is_standing_rewrite table own (held_record_in longs x) && test (held_record_in longs x).before) || b) (undone_before longs test table own h rewrites is_uncommitted held place at)
    ∙ or_swap (is_standing_rewrite table own (held_record_in longs x) && test (held_record_in longs x).before) (is_this h.table h.bookmark table own && test (option_map (record_of (longs h.table)) h.before)) (some_before test table own (map (held_record_in longs) (undone_at (Some place) held)))

-- the variants of the others, the record that went, and the one before it
went : (k b l : Bool) → (b || l) ≡ ((k || (b || l)) && not (true && (k && not (b || l))))
went true true l = refl
went true false true = refl
went true false false = refl
went false true l = refl
went false false true = refl
went false false false = refl

stayed : (n k l : Bool) → (n || l) ≡ ((n || (false || l)) && not (false && (k && not (n || l))))
stayed true k l = refl
stayed false k true = refl
stayed false k false = refl

-- what is left of the newest record once the one before it is the newest
undone_left : (longs : TableValues) (test : Option RecordFields → Bool) (h : HeldChange) → is_rewrite h.kind ≡ true → is_open h.status ≡ true → (held : List HeldChange) (place : ℕ) → slice_get held place ≡ Some h → (newest : Option RecordFields) (gone : RecordFields) (table : ℕ) (own : List ℕ)
    → (is_this h.table h.bookmark table own ≡ true → newest ≡ Some gone)
    → (test (cond (is_this h.table h.bookmark table own) (option_map (record_of (longs h.table)) h.before) newest) || some_before test table own (map (held_record_in longs) (undone_at (Some place) held)))
    ≡ ((test newest || some_before test table own (map (held_record_in longs) held)) && not (is_this h.table h.bookmark table own && (test (Some gone) && not (test (cond (is_this h.table h.bookmark table own) (option_map (record_of (longs h.table)) h.before) newest) || some_before test table own (map (held_record_in longs) (undone_at (Some place) held))))))
undone_left longs test h rewrites is_uncommitted held place at newest gone table own is =
    by (is_this h.table h.bookmark table own) refl
    ∙ ap (λ b. (test newest || b) && not (is_this h.table h.bookmark table own && (test (Some gone) && not (test (cond (is_this h.table h.bookmark table own) (option_map (record_of (longs h.table)) h.before) newest) || later)))) (sym (undone_before longs test table own h rewrites is_uncommitted held place at))
  where
    later : Bool
    later = some_before test table own (map (held_record_in longs) (undone_at (Some place) held))

    by : (b : Bool) → is_this h.table h.bookmark table own ≡ b
        → (test (cond (is_this h.table h.bookmark table own) (option_map (record_of (longs h.table)) h.before) newest) || later)
        ≡ ((test newest || ((is_this h.table h.bookmark table own && test (option_map (record_of (longs h.table)) h.before)) || later)) && not (is_this h.table h.bookmark table own && (test (Some gone) && not (test (cond (is_this h.table h.bookmark table own) (option_map (record_of (longs h.table)) h.before) newest) || later))))
    by true e =
        (λ i. test (cond (e i) (option_map (record_of (longs h.table)) h.before) newest) || later)
        ∙ went (test (Some gone)) (test (option_map (record_of (longs h.table)) h.before)) later
        ∙ (λ i. (test (sym (is e) i) || ((sym e i && test (option_map (record_of (longs h.table)) h.before)) || later)) && not (sym e i && (test (Some gone) && not (test (cond (sym e i) (option_map (record_of (longs h.table)) h.before) newest) || later))))
    by false e =
        (λ i. test (cond (e i) (option_map (record_of (longs h.table)) h.before) newest) || later)
        ∙ stayed (test newest) (test (Some gone)) later
        ∙ (λ i. (test newest || ((sym e i && test (option_map (record_of (longs h.table)) h.before)) || later)) && not (sym e i && (test (Some gone) && not (test (cond (sym e i) (option_map (record_of (longs h.table)) h.before) newest) || later))))

-- and where there was no newest record, nothing is left
pub undone_same : (longs : TableValues) (test : Option RecordFields → Bool) → test None ≡ false → (h : HeldChange) → is_rewrite h.kind ≡ true → is_open h.status ≡ true → (held : List HeldChange) (place : ℕ) → slice_get held place ≡ Some h → (newest : Option RecordFields) (table : ℕ) (own : List ℕ)
    → (is_this h.table h.bookmark table own ≡ true → newest ≡ None)
    → (test newest || some_before test table own (map (held_record_in longs) held)) ≡ (test (cond (is_this h.table h.bookmark table own) (option_map (record_of (longs h.table)) h.before) newest) || some_before test table own (map (held_record_in longs) (undone_at (Some place) held)))
undone_same longs test none h rewrites is_uncommitted held place at newest table own is =
    ap (λ b. test newest || b) (undone_before longs test table own h rewrites is_uncommitted held place at) ∙ by (is_this h.table h.bookmark table own) refl
  where
    later : Bool
    later = some_before test table own (map (held_record_in longs) (undone_at (Some place) held))

    by : (b : Bool) → is_this h.table h.bookmark table own ≡ b
        → (test newest || ((is_this h.table h.bookmark table own && test (option_map (record_of (longs h.table)) h.before)) || later)) ≡ (test (cond (is_this h.table h.bookmark table own) (option_map (record_of (longs h.table)) h.before) newest) || later)
    by true e =
        (λ i. test (is e i) || ((e i && test (option_map (record_of (longs h.table)) h.before)) || later))
        ∙ ap (λ b. b || (test (option_map (record_of (longs h.table)) h.before) || later)) none
        ∙ (λ i. test (cond (sym e i) (option_map (record_of (longs h.table)) h.before) newest) || later)
    by false e = (λ i. test newest || ((e i && test (option_map (record_of (longs h.table)) h.before)) || later)) ∙ (λ i. test (cond (sym e i) (option_map (record_of (longs h.table)) h.before) newest) || later)

-- ---- held changes

pub all_undone : (P Q : HeldChange → Type 0) → ((x : HeldChange) → P x → Q x) → ((x : HeldChange) → P x → Q (with_status undone x)) → (held : List HeldChange) (place : ℕ) → AllByRecursion P held → AllByRecursion Q (undone_at (Some place) held)
all_undone P Q each changed [] place all = tt
all_undone P Q each changed (x ∷ held) zero all = (changed x all.0, rest held all.1)
  where
    rest : (xs : List HeldChange) → AllByRecursion P xs → AllByRecursion Q xs
    rest [] all = tt
    rest (y ∷ ys) all = (each y all.0, rest ys all.1)
all_undone P Q each changed (x ∷ held) (suc place) all = (each x all.0, all_undone P Q each changed held place all.1)

-- a change that is undone is kept
pub undone_kept : (longs : TableValues) (tables : List Table) (trees : List StoredTable) (h : HeldChange) → IsKeptChange longs tables trees h → IsKeptChange longs tables trees (with_status undone h)
undone_kept longs tables trees h kept = record {
  named = kept.named;
  before = λ standing. impossible (and_right (is_rewrite h.kind) false standing);
  drop = λ standing. impossible (and_right (is_rewrite h.kind) false standing);
  room = λ still. impossible still;
  other = kept.other;
  sum = kept.sum;
}

-- and the room of a node stays
pub room_filled : (longs : TableValues) (laws : TreeLaws) (trees : List StoredTable) (id : ℕ) (bookmark row : List ℕ) → has_table trees id ≡ true → (tables : List Table) (h : HeldChange) → IsKeptChange longs tables trees h → IsKeptChange longs tables (filled trees id bookmark row) h
room_filled longs laws trees id bookmark row there tables h kept = record {
  named = kept.named;
  before = kept.before;
  drop = kept.drop;
  room = λ is_uncommitted. subst (λ (extent : Option ℕ). IfSome h.before (λ r. IsSomeAnd extent (λ n. length r ≤ n))) (sym (extent_filled laws trees id bookmark row there h.table h.bookmark)) (kept.room is_uncommitted);
  other = kept.other;
  sum = kept.sum;
}

-- ---- tables

-- The change that is undone: a put or a drop that is open, at its place, the table that it is of, and the bytes that come back.
pub record Undoes (held : List HeldChange) (place : ℕ) (h : HeldChange) (row : List ℕ) : Type 0 where
  pub at : slice_get held place ≡ Some h
  pub rewrites : is_rewrite h.kind ≡ true
  pub is_uncommitted : is_open h.status ≡ true
  pub before : row_in_node row ≡ h.before

pub record_back : (longs : TableValues) (laws : TreeLaws) (trees : List StoredTable) (held : List HeldChange) (place : ℕ) (h : HeldChange) (row : List ℕ) → Undoes held place h row → Fills laws trees h.table h.bookmark row → (table : ℕ) (own : List ℕ)
    → row_at (rows_of_nodes (longs table) (table_nodes (filled trees h.table h.bookmark row) table)) own ≡ cond (is_this h.table h.bookmark table own) (option_map (record_of (longs h.table)) h.before) (row_at (rows_of_nodes (longs table) (table_nodes trees table)) own)
record_back longs laws trees held place h row undoes fills table own =
    record_filled longs laws trees h.table h.bookmark row fills table own
    ∙ ap (λ (r : Option (List ℕ)). cond (is_this h.table h.bookmark table own) (option_map (record_of (longs h.table)) r) (row_at (rows_of_nodes (longs table) (table_nodes trees table)) own)) undoes.before

pub rows_back : (longs : TableValues) (laws : TreeLaws) (trees : List StoredTable) (held : List HeldChange) (place : ℕ) (h : HeldChange) (row : List ℕ) → Undoes held place h row → Fills laws trees h.table h.bookmark row → (tables : List Table) → IsKeptChange longs tables trees h → (t : Table) → table_with_id tables t.id ≡ Some t
    → ((own : List ℕ) → IfSome (row_under (table_nodes trees t.id) own) (IsRowUnder (longs t.id) t own)) → (own : List ℕ) → IfSome (row_under (table_nodes (filled trees h.table h.bookmark row) t.id) own) (IsRowUnder (longs t.id) t own)
rows_back longs laws trees held place h row undoes fills tables kept t found rows own =
    subst (λ (o : Option (List ℕ)). IfSome o (IsRowUnder (longs t.id) t own)) (sym (row_filled laws trees h.table h.bookmark row fills.table fills.node t.id own)) (by (is_this h.table h.bookmark t.id own) refl)
  where
    before : is_this h.table h.bookmark t.id own ≡ true → IfSome h.before (IsRowUnder (longs t.id) t own)
    before e =
        let same : h.table ≡ t.id = eqb-true h.table t.id (and_left (h.table == t.id) (bytes_eq h.bookmark own) e) in
        subst (λ (b : List ℕ). IfSome h.before (IsRowUnder (longs t.id) t b)) (same_bytes h.bookmark own (and_right (h.table == t.id) (bytes_eq h.bookmark own) e))
        (subst (λ (n : ℕ). IfSome h.before (IsRowUnder (longs n) t h.bookmark)) same
        (subst (λ (o : Option Table). IfSome o (λ u. IfSome h.before (IsRowUnder (longs h.table) u h.bookmark))) (ap (table_with_id tables) same ∙ found)
        (kept.before (λ i. undoes.rewrites i && not (open_stands h.status undoes.is_uncommitted i)))))

    by : (b : Bool) → is_this h.table h.bookmark t.id own ≡ b → IfSome (cond b (row_in_node row) (row_under (table_nodes trees t.id) own)) (IsRowUnder (longs t.id) t own)
    by true e = subst (λ (o : Option (List ℕ)). IfSome o (IsRowUnder (longs t.id) t own)) (sym undoes.before) (before e)
    by false e = rows own

table_back : (longs : TableValues) (laws : TreeLaws) (trees : List StoredTable) (held : List HeldChange) (place : ℕ) (h : HeldChange) (row : List ℕ) → Undoes held place h row → Fills laws trees h.table h.bookmark row → (gone : RecordFields)
    → row_at (rows_of_nodes (longs h.table) (table_nodes trees h.table)) h.bookmark ≡ Some gone → (tables : List Table) → IsKeptChange longs tables trees h → (t : Table) → table_with_id tables t.id ≡ Some t → IsKeptTable trees (longs t.id) (table_nodes trees t.id) (map (held_record_in longs) held) t
    → IsLeft (filled trees h.table h.bookmark row) (longs t.id) (table_nodes (filled trees h.table h.bookmark row) t.id) (map (held_record_in longs) (undone_at (Some place) held)) h.table h.bookmark gone t
table_back longs laws trees held place h row undoes fills gone newest tables kept_change t found kept = record {
  rules = kept.rules;
  rows = rows_back longs laws trees held place h row undoes fills tables kept_change t found kept.rows;
  stands = λ own.
      subst (λ (n : Option RecordFields). has_variant n later t.id own ≡ (is_some (get_in (table_nodes (filled trees h.table h.bookmark row) t.id) own) && not (is_this h.table h.bookmark t.id own && not (has_variant n later t.id own)))) (sym (record_back longs laws trees held place h row undoes fills t.id own))
      (undone_left longs is_some h undoes.rewrites undoes.is_uncommitted held place undoes.at (old own) gone t.id own (this_newest own)
      ∙ ap (λ b. b && not (is_this h.table h.bookmark t.id own && not (has_variant (new own) later t.id own))) (sym (kept.stands own) ∙ sym (there_filled laws trees h.table h.bookmark row fills.table t.id own)));
  entries = λ index. by index (secondary_rule t index) (kept.entries index);
}
  where
    later : List HeldRecord
    later = map (held_record_in longs) (undone_at (Some place) held)

    old : List ℕ → Option RecordFields
    old own = row_at (rows_of_nodes (longs t.id) (table_nodes trees t.id)) own

    new : List ℕ → Option RecordFields
    new own = cond (is_this h.table h.bookmark t.id own) (option_map (record_of (longs h.table)) h.before) (old own)

    this_newest : (own : List ℕ) → is_this h.table h.bookmark t.id own ≡ true → old own ≡ Some gone
    this_newest own e =
        (λ i. row_at (rows_of_nodes (longs (sym (eqb-true h.table t.id (and_left (h.table == t.id) (bytes_eq h.bookmark own) e)) i)) (table_nodes trees (sym (eqb-true h.table t.id (and_left (h.table == t.id) (bytes_eq h.bookmark own) e)) i))) (sym (same_bytes h.bookmark own (and_right (h.table == t.id) (bytes_eq h.bookmark own) e)) i)) ∙ newest

    by : (index : ℕ) (o : Option IndexRule) → IfSome o (λ rule. HoldsVariants (rows_of_nodes (longs t.id) (table_nodes trees t.id)) (map (held_record_in longs) held) rule (schema_of t) t.id (index_entries trees t.id index))
        → IfSome o (λ rule. (key own : List ℕ) → is_variant_key (row_at (rows_of_nodes (longs t.id) (table_nodes (filled trees h.table h.bookmark row) t.id)) own) later rule (schema_of t) t.id key own
        ≡ (has_entry key own (index_entries (filled trees h.table h.bookmark row) t.id index) && not (is_this h.table h.bookmark t.id own && is_gone_key (row_at (rows_of_nodes (longs t.id) (table_nodes (filled trees h.table h.bookmark row) t.id)) own) later rule (schema_of t) t.id own gone key)))
    by index None holds = tt
    by index (Some rule) holds = λ key own.
        subst (λ (n : Option RecordFields). is_variant_key n later rule (schema_of t) t.id key own
        ≡ (has_entry key own (index_entries (filled trees h.table h.bookmark row) t.id index) && not (is_this h.table h.bookmark t.id own && is_gone_key n later rule (schema_of t) t.id own gone key))) (sym (record_back longs laws trees held place h row undoes fills t.id own))
        (undone_left longs (yields_key rule (schema_of t) key) h undoes.rewrites undoes.is_uncommitted held place undoes.at (old own) gone t.id own (this_newest own)
        ∙ ap (λ b. b && not (is_this h.table h.bookmark t.id own && is_gone_key (new own) later rule (schema_of t) t.id own gone key))
        (sym (holds key own) ∙ sym (ap (has_entry key own) (same_index laws trees h.table (with_data_at (table_nodes trees h.table) h.bookmark row) t.id index))))

-- the row before the change comes back, and what it left behind of the newest one is left
pub change_back : (longs : TableValues) (laws : TreeLaws) (trees : List StoredTable) (held : List HeldChange) (place : ℕ) (h : HeldChange) (row : List ℕ) → Undoes held place h row → Fills laws trees h.table h.bookmark row → (gone : RecordFields)
    → row_at (rows_of_nodes (longs h.table) (table_nodes trees h.table)) h.bookmark ≡ Some gone → (tables : List Table) → IsKeptChange longs tables trees h → AreKeptWith longs tables trees held
    → AreLeft longs tables (filled trees h.table h.bookmark row) (undone_at (Some place) held) h.table h.bookmark gone
change_back longs laws trees held place h row undoes fills gone newest tables kept_change kept = record {
  plain = kept.plain;
  numbers = same_numbers h.table (with_data_at (table_nodes trees h.table) h.bookmark row) trees ∙ kept.numbers;
  each = λ table. each table (table_with_id tables table) refl (kept.each table);
  changes =
      all_undone (IsKeptChange longs tables trees) (IsKeptChange longs tables (filled trees h.table h.bookmark row)) (room_filled longs laws trees h.table h.bookmark row fills.table tables)
      (λ x kept_x. undone_kept longs tables (filled trees h.table h.bookmark row) x (room_filled longs laws trees h.table h.bookmark row fills.table tables x kept_x)) held place kept.changes;
}
  where
    each : (table : ℕ) (o : Option Table) → table_with_id tables table ≡ o → IfSome o (IsKeptTable trees (longs table) (table_nodes trees table) (map (held_record_in longs) held))
        → IfSome o (IsLeft (filled trees h.table h.bookmark row) (longs table) (table_nodes (filled trees h.table h.bookmark row) table) (map (held_record_in longs) (undone_at (Some place) held)) h.table h.bookmark gone)
    each table None e is = tt
    each table (Some t) e is =
        let found : t.id ≡ table = found_number table tables t e in
        subst (λ (n : ℕ). IsLeft (filled trees h.table h.bookmark row) (longs n) (table_nodes (filled trees h.table h.bookmark row) n) (map (held_record_in longs) (undone_at (Some place) held)) h.table h.bookmark gone t) found
        (table_back longs laws trees held place h row undoes fills gone newest tables kept_change t (ap (table_with_id tables) found ∙ e) (subst (λ (n : ℕ). IsKeptTable trees (longs n) (table_nodes trees n) (map (held_record_in longs) held) t) (sym found) is))

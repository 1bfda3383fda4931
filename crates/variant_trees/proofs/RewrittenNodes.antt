-- Rows that are written anew one after the other, by the order of their bookmarks.
use Rattle.std.proofs.Common.{◌≡◌, ℕ, ◌≤◌, ◌<◌, Bool, true, false, cond, List, [], ◌∷◌, length, Option, Some, None, find, map, option_map, refl, sym, ap, subst, ◌∙◌, arith, inl, inr}
use Rattle.std.specs.Prelude.{All, IsSomeAnd, is_some, unwrap_or}
use Rattle.std.specs.List.{AllByRecursion, list_all}
use Rattle.std.proofs.lemmas.List.Elements.{All-head, All-tail}
use Rattle.btree_inplace.specs.Changes.{with_data_at}
use Rattle.btree_inplace.specs.Order.{extent_in, get_in, has_key, key_and_data}
use Rattle.cursor_nav.specs.Places.{are_sorted, is_beyond, pair_lt}
use Rattle.index_derive.specs.declared.entries.Place.{Place}
use Rattle.index_derive.specs.declared.entries.Place.TheVariants.{Before, On}
use Rattle.page_image.specs.Page.{Node}
use Rattle.common_lemmas.proofs.Numbers.{equal_bytes}
use Rattle.std.specs.Cmp.Lexicographic.{texts_ties}
use Rattle.std.proofs.lemmas.Bool.{false_from_ne_true}
use Rattle.common_lemmas.proofs.Booleans.{and_left, and_right}
use Rattle.table_trees.specs.StoredNodes.{IsShortNode, bookmark_entries, node_after, put_data}
use Rattle.table_trees.specs.StoredTables.{StoredTable, has_table, table_nodes}
use Rattle.stored_variants.specs.RecordRows.{IsRecordRow}
use Rattle.variant_trees.specs.LostColumns.{HasNodes, HoldsRecord, node_without, row_without}
use Rattle.laws_engine.proofs.TableLemmas.Neighbours.{IsIn, found_in}
use Rattle.stored_variants.proofs.NodeRecords.{apart, key_is}
use Rattle.stored_variants.proofs.NodeWalks.{IsNode, fewer_nodes, is_node_past, nodes_left}
use Rattle.variant_trees.proofs.UndoneThere.{table_of_node}
use Rattle.laws_engine.proofs.TableLemmas.Order.{beyond_more, not_itself}
use Rattle.long_value.specs.Values.{Values}

-- the nodes once those up to a place are written anew
abbrev pub rewritten : Place → ℕ → List Node → List Node
rewritten place column nodes = map (λ n. cond (is_node_past place n) n (node_without column n)) nodes

abbrev pub rewritten_node : Place → ℕ → Node → Node
rewritten_node place column n = cond (is_node_past place n) n (node_without column n)

pub none_rewritten : (column : ℕ) (nodes : List Node) → rewritten Before column nodes ≡ nodes
none_rewritten column [] = refl
none_rewritten column (n ∷ nodes) = ap (λ ns. n ∷ ns) (none_rewritten column nodes)

same_key : (place : Place) (column : ℕ) (n : Node) → (rewritten_node place column n).key ≡ n.key
same_key place column n = by (is_node_past place n)
  where
    by : (b : Bool) → (cond b n (node_without column n)).key ≡ n.key
    by true = refl
    by false = refl

-- ---- the next one

pub first_left : (place : Place) (column : ℕ) (nodes : List Node) → find (is_node_past place) (rewritten place column nodes) ≡ find (is_node_past place) nodes
first_left place column [] = refl
first_left place column (n ∷ nodes) =
    ap (λ k. cond (is_beyond place (k, k)) (Some (rewritten_node place column n)) (find (is_node_past place) (rewritten place column nodes))) (same_key place column n)
    ∙ by (is_node_past place n) refl (first_left place column nodes)
  where
    by : (b : Bool) → is_node_past place n ≡ b → find (is_node_past place) (rewritten place column nodes) ≡ find (is_node_past place) nodes
        → cond b (Some (rewritten_node place column n)) (find (is_node_past place) (rewritten place column nodes)) ≡ cond b (Some n) (find (is_node_past place) nodes)
    by true e rest = ap (λ c. Some (cond c n (node_without column n))) e
    by false e rest = rest

-- the nodes beyond the place are as they were
pub same_next : (place : Place) (column : ℕ) (nodes : List Node) → node_after place (rewritten place column nodes) ≡ node_after place nodes
same_next place column nodes = ap (option_map key_and_data) (first_left place column nodes)

-- ---- it is found under its bookmark

itself : (n : Node) → has_key n.key n ≡ true
itself n = sym (texts_ties n.key n.key) ∙ equal_bytes n.key n.key refl

other_key : (own n : Node) → (n.key ≡ own.key → ⊥) → has_key own.key n ≡ false
other_key own n ne = false_from_ne_true (has_key own.key n) (λ e. ne (key_is n.key own.key e))

apart_beyond : (place : Place) (own n : Node) → is_node_past place own ≡ true → is_node_past place n ≡ false → n.key ≡ own.key → ⊥
apart_beyond place own n there short same = no (sym short ∙ ap (λ k. is_beyond place (k, k)) same ∙ there)
  where
    no : false ≡ true → ⊥
    no e = cc

pub found_again : (place : Place) (column : ℕ) (own : Node) (nodes : List Node) → find (is_node_past place) nodes ≡ Some own → find (has_key own.key) (rewritten place column nodes) ≡ Some own
found_again place column own [] e = none e
  where
    none : {A : Type 0} → None ≡ Some own → A
    none e = cc
found_again place column own (n ∷ nodes) e = by (is_node_past place n) refl e (found_again place column own nodes)
  where
    same : Some n ≡ Some own → n ≡ own
    same f = ap (λ o. unwrap_or o n) f

    by : (b : Bool) → is_node_past place n ≡ b → cond b (Some n) (find (is_node_past place) nodes) ≡ Some own → (find (is_node_past place) nodes ≡ Some own → find (has_key own.key) (rewritten place column nodes) ≡ Some own)
        → find (has_key own.key) (cond b n (node_without column n) ∷ rewritten place column nodes) ≡ Some own
    by true t f rest = ap (λ c. cond c (Some n) (find (has_key own.key) (rewritten place column nodes))) (ap (λ (x : Node). has_key x.key n) (sym (same f)) ∙ itself n) ∙ f
    by false t f rest =
        ap (λ c. cond c (Some (node_without column n)) (find (has_key own.key) (rewritten place column nodes)))
        (other_key own n (apart_beyond place own n (found_in (is_node_past place) own nodes f).1 t)) ∙ rest f

pub has_room : (place : Place) (column : ℕ) (own : Node) (nodes : List Node) (row : List ℕ) → find (is_node_past place) nodes ≡ Some own → length row ≤ own.extent → IsSomeAnd (extent_in (rewritten place column nodes) own.key) (λ extent. length row ≤ extent)
has_room place column own nodes row e low = subst (λ (o : Option Node). IsSomeAnd (option_map (λ (n : Node). n.extent) o) (λ extent. length row ≤ extent)) (sym (found_again place column own nodes e)) low

-- ---- one row more

-- the nodes above one
above_same : (place : Place) (column : ℕ) (own : Node) (row : List ℕ) → is_node_past place own ≡ true → (nodes : List Node) → list_all (pair_lt (own.key, own.key)) (bookmark_entries nodes) ≡ true
    → with_data_at (rewritten place column nodes) own.key row ≡ rewritten (On own.key own.key) column nodes
above_same place column own row there [] low = refl
above_same place column own row there (n ∷ nodes) low =
    λ i. node i ∷ above_same place column own row there nodes (and_right (pair_lt (own.key, own.key) (n.key, n.key)) _ low) i
  where
    here : pair_lt (own.key, own.key) (n.key, n.key) ≡ true
    here = and_left _ _ low

    miss : has_key own.key n ≡ false
    miss = other_key own n (λ same. apart own.key n.key here (sym same))

    node : cond (has_key own.key (rewritten_node place column n)) (put_data row (rewritten_node place column n)) (rewritten_node place column n) ≡ rewritten_node (On own.key own.key) column n
    node =
        ap (λ (x : Node). cond (has_key own.key x) (put_data row x) x) (ap (λ b. cond b n (node_without column n)) (beyond_more place (own.key, own.key) (n.key, n.key) there here))
        ∙ ap (λ b. cond b (put_data row n) n) miss
        ∙ sym (ap (λ b. cond b n (node_without column n)) here)

pub one_more : (place : Place) (column : ℕ) (own : Node) (nodes : List Node) → are_sorted (bookmark_entries nodes) ≡ true → find (is_node_past place) nodes ≡ Some own
    → with_data_at (rewritten place column nodes) own.key (row_without column own.data) ≡ rewritten (On own.key own.key) column nodes
one_more place column own [] sorted e = refl
one_more place column own (n ∷ nodes) sorted e = by (is_node_past place n) refl e (one_more place column own nodes (and_right (list_all (pair_lt (n.key, n.key)) (bookmark_entries nodes)) _ sorted))
  where
    first : (x : Node) → n ≡ x → is_node_past place n ≡ true → with_data_at (n ∷ rewritten place column nodes) x.key (row_without column x.data) ≡ rewritten (On x.key x.key) column (n ∷ nodes)
    first x same t =
        subst (λ (x : Node). with_data_at (n ∷ rewritten place column nodes) x.key (row_without column x.data) ≡ rewritten (On x.key x.key) column (n ∷ nodes)) same
        (λ i. node i ∷ above_same place column n (row_without column n.data) t nodes (and_left _ _ sorted) i)
      where
        node : cond (has_key n.key n) (put_data (row_without column n.data) n) n ≡ rewritten_node (On n.key n.key) column n
        node = ap (λ b. cond b (node_without column n) n) (itself n) ∙ sym (ap (λ b. cond b n (node_without column n)) (not_itself (n.key, n.key)))

    by : (b : Bool) → is_node_past place n ≡ b → cond b (Some n) (find (is_node_past place) nodes) ≡ Some own
        → (find (is_node_past place) nodes ≡ Some own → with_data_at (rewritten place column nodes) own.key (row_without column own.data) ≡ rewritten (On own.key own.key) column nodes)
        → with_data_at (cond b n (node_without column n) ∷ rewritten place column nodes) own.key (row_without column own.data) ≡ rewritten (On own.key own.key) column (n ∷ nodes)
    by true t f rest = first own (ap (λ o. unwrap_or o n) f) t
    by false t f rest = λ i. node i ∷ rest f i
      where
        there : is_node_past place own ≡ true
        there = (found_in (is_node_past place) own nodes f).1

        below : pair_lt (own.key, own.key) (n.key, n.key) ≡ false
        below = false_from_ne_true (pair_lt (own.key, own.key) (n.key, n.key)) (λ less. no (sym t ∙ beyond_more place (own.key, own.key) (n.key, n.key) there less))
          where
            no : false ≡ true → ⊥
            no e = cc

        node : cond (has_key own.key (node_without column n)) (put_data (row_without column own.data) (node_without column n)) (node_without column n) ≡ rewritten_node (On own.key own.key) column n
        node =
            ap (λ b. cond b (put_data (row_without column own.data) (node_without column n)) (node_without column n)) (other_key own n (apart_beyond place own n there t))
            ∙ sym (ap (λ b. cond b n (node_without column n)) below)

-- ---- all of them

pub all_rewritten : (place : Place) (column : ℕ) (nodes : List Node) → None ≡ node_after place (rewritten place column nodes) → rewritten place column nodes ≡ map (node_without column) nodes
all_rewritten place column nodes e = from nodes (none (find (is_node_past place) nodes) (e ∙ same_next place column nodes))
  where
    none : (o : Option Node) → None ≡ option_map key_and_data o → o ≡ None
    none None e = refl
    none (Some n) e = cc

    from : (nodes : List Node) → find (is_node_past place) nodes ≡ None → rewritten place column nodes ≡ map (node_without column) nodes
    from [] e = refl
    from (n ∷ nodes) e = by (is_node_past place n) e (from nodes)
      where
        by : (b : Bool) → cond b (Some n) (find (is_node_past place) nodes) ≡ None → (find (is_node_past place) nodes ≡ None → rewritten place column nodes ≡ map (node_without column) nodes)
            → cond b n (node_without column n) ∷ rewritten place column nodes ≡ node_without column n ∷ map (node_without column) nodes
        by true f rest = cc
        by false f rest = ap (λ ns. node_without column n ∷ ns) (rest f)

-- ---- the node is one of the table

pub each_of : (P : Node → Type 0) (own : Node) (nodes : List Node) → AllByRecursion P nodes → IsIn own nodes → P own
each_of P own [] all i = absurd i
each_of P own (n ∷ nodes) all (inl same) = subst P same all.0
each_of P own (n ∷ nodes) all (inr later) = each_of P own nodes all.1 later

pub short_of : (own : Node) (nodes : List Node) → All IsShortNode nodes → IsIn own nodes → IsShortNode own
short_of own [] all i = absurd i
short_of own (n ∷ nodes) all (inl same) = subst IsShortNode same (All-head IsShortNode n nodes all)
short_of own (n ∷ nodes) all (inr later) = short_of own nodes (All-tail IsShortNode n nodes all) later

-- ---- in the trees

pub row_of_next : (vals : Values) (place : Place) (nodes : List Node) (bookmark row : List ℕ) → IsNode place nodes bookmark row → AllByRecursion (HoldsRecord vals) nodes → IsRecordRow vals row
row_of_next vals place nodes bookmark row next all = subst (IsRecordRow vals) next.row (each_of (HoldsRecord vals) next.node nodes all (found_in (is_node_past place) next.node nodes next.next).0)

pub room_of_next : (place : Place) (column : ℕ) (nodes : List Node) (bookmark row : List ℕ) → IsNode place nodes bookmark row → All IsShortNode nodes → length (row_without column row) ≤ length row
    → IsSomeAnd (extent_in (rewritten place column nodes) bookmark) (λ extent. length (row_without column row) ≤ extent)
room_of_next place column nodes bookmark row next short low =
    let fits : IsShortNode next.node = short_of next.node nodes short (found_in (is_node_past place) next.node nodes next.next).0 in
    let within : length (row_without column row) ≤ next.node.extent = omega (arith, low, fits.row, ap length next.row) in
    subst (λ (key : List ℕ). IsSomeAnd (extent_in (rewritten place column nodes) key) (λ extent. length (row_without column row) ≤ extent)) next.key
    (has_room place column next.node nodes (row_without column row) next.next within)

pub moved_room : (nodes these : List Node) (key bookmark row bytes : List ℕ) → nodes ≡ these → key ≡ bookmark → row ≡ bytes → IsSomeAnd (extent_in nodes key) (λ extent. length row ≤ extent) → IsSomeAnd (extent_in these bookmark) (λ extent. length bytes ≤ extent)
moved_room nodes these key bookmark row bytes e f g room =
    subst (λ (ns : List Node). IsSomeAnd (extent_in ns bookmark) (λ extent. length bytes ≤ extent)) e
    (subst (λ (k : List ℕ). IsSomeAnd (extent_in nodes k) (λ extent. length bytes ≤ extent)) f
    (subst (λ (r : List ℕ). IsSomeAnd (extent_in nodes key) (λ extent. length r ≤ extent)) g room))

pub smaller_next : (place : Place) (nodes : List Node) (bookmark row key own : List ℕ) → node_after place nodes ≡ Some (bookmark, row) → key ≡ bookmark → own ≡ bookmark → nodes_left (On key own) nodes < nodes_left place nodes
smaller_next place nodes bookmark row key own found key_is own_is =
    subst (λ (p : Place). nodes_left p nodes < nodes_left place nodes) (λ i. On (sym key_is i) (sym own_is i)) (fewer_nodes place nodes bookmark row found)

one_more_at : (place : Place) (column : ℕ) (nodes : List Node) (bookmark row : List ℕ) → IsNode place nodes bookmark row → are_sorted (bookmark_entries nodes) ≡ true
    → with_data_at (rewritten place column nodes) bookmark (row_without column row) ≡ rewritten (On bookmark bookmark) column nodes
one_more_at place column nodes bookmark row next sorted =
    sym (λ i. with_data_at (rewritten place column nodes) (next.key i) (row_without column (next.row i)))
    ∙ one_more place column next.node nodes sorted next.next
    ∙ (λ i. rewritten (On (next.key i) (next.key i)) column nodes)

-- the next node is there still, with its row
pub next_there : (id : ℕ) (place : Place) (column : ℕ) (trees now : List StoredTable) (bookmark row : List ℕ) → IsNode place (table_nodes trees id) bookmark row → HasNodes id (rewritten place column (table_nodes trees id)) trees now → get_in (table_nodes now id) bookmark ≡ Some row
next_there id place column trees now bookmark row next h =
    ap (λ (ns : List Node). get_in ns bookmark) h.nodes
    ∙ ap (get_in (rewritten place column (table_nodes trees id))) (sym next.key)
    ∙ ap (option_map (λ (n : Node). n.data)) (found_again place column next.node (table_nodes trees id) next.next)
    ∙ ap (λ (bytes : List ℕ). Some bytes) next.row

pub next_table : (id : ℕ) (place : Place) (column : ℕ) (trees now : List StoredTable) (bookmark row : List ℕ) → IsNode place (table_nodes trees id) bookmark row → HasNodes id (rewritten place column (table_nodes trees id)) trees now → has_table now id ≡ true
next_table id place column trees now bookmark row next h = table_of_node now id bookmark (ap is_some (next_there id place column trees now bookmark row next h))

pub replaced_next : (id : ℕ) (place : Place) (column : ℕ) (trees now : List StoredTable) (bookmark row : List ℕ) → IsNode place (table_nodes trees id) bookmark row → are_sorted (bookmark_entries (table_nodes trees id)) ≡ true
    → HasNodes id (rewritten place column (table_nodes trees id)) trees now → (at key own text : List ℕ) → at ≡ bookmark → key ≡ bookmark → own ≡ bookmark → text ≡ row_without column row
    → (later : List StoredTable) → HasNodes id (with_data_at (table_nodes now id) at text) now later → HasNodes id (rewritten (On key own) column (table_nodes trees id)) trees later
replaced_next id place column trees now bookmark row next sorted h at key own text at_is key_is own_is text_is later is = record {
  nodes =
      is.nodes
      ∙ (λ i. with_data_at (h.nodes i) (at_is i) (text_is i))
      ∙ one_more_at place column (table_nodes trees id) bookmark row next sorted
      ∙ sym (λ i. rewritten (On (key_is i) (own_is i)) column (table_nodes trees id));
  others = λ other apart. is.others other apart ∙ h.others other apart;
  indexes = λ other. is.indexes other ∙ h.indexes other;
  numbers = is.numbers ∙ h.numbers;
}

-- The nodes of one long value among those of all.
use Rattle.std.proofs.Common.{◌≡◌, ℕ, zero, suc, Bool, true, false, List, [], ◌∷◌, length, take, refl, sym, ap, subst, ◌∙◌, bytes_eq}
use Rattle.std.specs.Prelude.{filter, if◌then◌else◌}
use Rattle.std.specs.Cmp.{upto}
use Rattle.std.specs.Cmp.Lexicographic.{slice_cmp}
use Rattle.std.specs.FinMap.Entries.{below_all, is_sorted}
use Rattle.std.specs.List.{AllByRecursion}
use Rattle.std.specs.Ordering.{is_gt, is_lt, nat_cmp, ordering_reverse}
use Rattle.std.specs.declared.cmp.Ordering.{Ordering}
use Rattle.std.specs.declared.cmp.Ordering.TheVariants.{Less, Equal, Greater}
use Rattle.std.proofs.Math.Seq.{take-append_seam}
use Rattle.std.proofs.lemmas.Cmp.{nat_list_cmp_total}
use Rattle.std.proofs.lemmas.List.Elements.{recursion_from_All}
use Rattle.btree_inplace.specs.Changes.{inserted}
use Rattle.byteorder.specs.Endian.{big_bytes}
use Rattle.common_lemmas.proofs.Booleans.{and_left, and_right, by_test}
use Rattle.common_lemmas.proofs.Lists.{all_filter, all_weaker}
use Rattle.common_lemmas.proofs.Numbers.{equal_bytes, same_bytes}
use Rattle.common_lemmas.proofs.Orders.{is_less, less-irreflexive}
use Rattle.laws_versions.specs.History.{EachTwo}
use Rattle.long_value.specs.Shown.{id_of}
use Rattle.long_value.specs.Values.{AreLong, IsLong, LongValue, Values, chunk_count, chunk_key, chunk_node, head_node, nodes_of_values, order, with_chunks, with_value}
use Rattle.page_image.specs.Page.{Node}
use Rattle.table_trees.specs.StoredTables.{StoredTable, table_long_values}
use Rattle.image_findings.specs.TableContents.{TableContents, long_values}
use Rattle.image_findings.specs.ValueFindings.{nodes_of_value}
use Rattle.own_images.proofs.Contents.{own_contents}
use Rattle.own_images.proofs.Counted.{all_above}
use Rattle.own_images.proofs.Differing.{all_both}
use Rattle.own_images.proofs.Walked.{WalkLaws}
use Rattle.own_images.specs.OwnContents.{HasOwnContents}
use Rattle.own_images.specs.OwnStores.{IsOwnStore, OwnStore, contents_of}

-- ---- nodes that do not fall

abbrev pub IsUpto : Node → Node → Type 0
IsUpto m x = is_gt (slice_cmp nat_cmp m.key x.key) ≡ false

abbrev DoNotFall : List Node → Type 0
DoNotFall nodes = EachTwo IsUpto nodes

turned : (o : Ordering) → is_lt (ordering_reverse o) ≡ is_gt o
turned Less = refl
turned Equal = refl
turned Greater = refl

flipped : (a b : List ℕ) → is_lt (slice_cmp nat_cmp a b) ≡ is_gt (slice_cmp nat_cmp b a)
flipped a b = ap is_lt (nat_list_cmp_total.antisymm a b) ∙ turned (slice_cmp nat_cmp b a)

lower_upto : (m n : Node) → is_lt (slice_cmp nat_cmp m.key n.key) ≡ true → IsUpto m n
lower_upto m n e = ap is_gt (is_less (slice_cmp nat_cmp m.key n.key) e)

behind_upto : (m n : Node) → is_lt (slice_cmp nat_cmp m.key n.key) ≡ false → IsUpto n m
behind_upto m n e = sym (flipped m.key n.key) ∙ e

upto_all : (n m : Node) (nodes : List Node) → IsUpto n m → AllByRecursion (IsUpto m) nodes → AllByRecursion (IsUpto n) nodes
upto_all n m nodes first all = all_weaker (IsUpto m) (IsUpto n) (λ x u. upto nat_list_cmp_total n.key m.key x.key first u) nodes all

pub insert_all : (P : Node → Type 0) (nodes : List Node) (n : Node) → P n → AllByRecursion P nodes → AllByRecursion P (inserted nodes n)
insert_all P [] n h all = (h, tt)
insert_all P (m ∷ nodes) n h all = at (is_lt (slice_cmp nat_cmp m.key n.key)) (insert_all P nodes n h all.1)
  where
    at : (b : Bool) → AllByRecursion P (inserted nodes n) → AllByRecursion P (if b then m ∷ inserted nodes n else n ∷ m ∷ nodes)
    at true rest = (all.0, rest)
    at false rest = (h, all)

inserted_do_not_fall : (nodes : List Node) (n : Node) → DoNotFall nodes → DoNotFall (inserted nodes n)
inserted_do_not_fall [] n h = (tt, tt)
inserted_do_not_fall (m ∷ nodes) n h = at (is_lt (slice_cmp nat_cmp m.key n.key)) refl (inserted_do_not_fall nodes n h.1)
  where
    at : (b : Bool) → is_lt (slice_cmp nat_cmp m.key n.key) ≡ b → DoNotFall (inserted nodes n) → DoNotFall (if b then m ∷ inserted nodes n else n ∷ m ∷ nodes)
    at true e rest = (insert_all (IsUpto m) nodes n (lower_upto m n e) h.0, rest)
    at false e rest = ((behind_upto m n e, upto_all n m nodes (behind_upto m n e) h.0), h)

-- ---- some of them

pub in_front : (nodes : List Node) (n : Node) → AllByRecursion (IsUpto n) nodes → inserted nodes n ≡ n ∷ nodes
in_front [] n all = refl
in_front (m ∷ nodes) n all = ap (λ (b : Bool). if b then m ∷ inserted nodes n else n ∷ m ∷ nodes) (flipped m.key n.key ∙ all.0)

filter_here : (p : Node → Bool) (nodes : List Node) (n : Node) → DoNotFall nodes → p n ≡ true → filter p (inserted nodes n) ≡ inserted (filter p nodes) n
filter_here p [] n h e = ap (λ (b : Bool). if b then n ∷ [] else []) e
filter_here p (m ∷ nodes) n h e = at (is_lt (slice_cmp nat_cmp m.key n.key)) refl (filter_here p nodes n h.1 e)
  where
    kept : (c : Bool) → is_lt (slice_cmp nat_cmp m.key n.key) ≡ true → filter p (inserted nodes n) ≡ inserted (filter p nodes) n
        → (if c then m ∷ filter p (inserted nodes n) else filter p (inserted nodes n)) ≡ inserted (if c then m ∷ filter p nodes else filter p nodes) n
    kept true lower rest = ap (λ (l : List Node). m ∷ l) rest ∙ sym (ap (λ (b : Bool). if b then m ∷ inserted (filter p nodes) n else n ∷ m ∷ filter p nodes) lower)
    kept false lower rest = rest

    at : (b : Bool) → is_lt (slice_cmp nat_cmp m.key n.key) ≡ b → filter p (inserted nodes n) ≡ inserted (filter p nodes) n → filter p (if b then m ∷ inserted nodes n else n ∷ m ∷ nodes) ≡ inserted (filter p (m ∷ nodes)) n
    at true lower rest = kept (p m) lower rest
    at false behind rest =
        ap (λ (b : Bool). if b then n ∷ filter p (m ∷ nodes) else filter p (m ∷ nodes)) e
        ∙ sym (in_front (filter p (m ∷ nodes)) n (all_filter (IsUpto n) p (m ∷ nodes) (behind_upto m n behind, upto_all n m nodes (behind_upto m n behind) h.0)))

filter_else : (p : Node → Bool) (nodes : List Node) (n : Node) → p n ≡ false → filter p (inserted nodes n) ≡ filter p nodes
filter_else p [] n e = ap (λ (b : Bool). if b then n ∷ [] else []) e
filter_else p (m ∷ nodes) n e = at (is_lt (slice_cmp nat_cmp m.key n.key)) (filter_else p nodes n e)
  where
    at : (b : Bool) → filter p (inserted nodes n) ≡ filter p nodes → filter p (if b then m ∷ inserted nodes n else n ∷ m ∷ nodes) ≡ filter p (m ∷ nodes)
    at true rest = ap (λ (l : List Node). if p m then m ∷ l else l) rest
    at false rest = ap (λ (b : Bool). if b then n ∷ filter p (m ∷ nodes) else filter p (m ∷ nodes)) e

-- ---- the nodes of a value

abbrev pub is_of : List ℕ → Node → Bool
is_of id n = bytes_eq (id_of n) id

pub key_begins : (id : List ℕ) (k : ℕ) → length id ≡ 12 → take 12 (chunk_key id k) ≡ id
key_begins id k long = ap (λ (n : ℕ). take n (chunk_key id k)) (sym long) ∙ take-append_seam id (big_bytes 4 k)

chunks_do_not_fall : (id bytes : List ℕ) (k : ℕ) (nodes : List Node) → DoNotFall nodes → DoNotFall (with_chunks id bytes k nodes)
chunks_do_not_fall id bytes zero nodes h = h
chunks_do_not_fall id bytes (suc k) nodes h = inserted_do_not_fall (with_chunks id bytes k nodes) (chunk_node id bytes k) (chunks_do_not_fall id bytes k nodes h)

value_does_not_fall : (id : List ℕ) (value : LongValue) (nodes : List Node) → DoNotFall nodes → DoNotFall (with_value id value nodes)
value_does_not_fall id value nodes h =
    inserted_do_not_fall (with_chunks id value.bytes (chunk_count (length value.bytes)) nodes) (head_node id value) (chunks_do_not_fall id value.bytes (chunk_count (length value.bytes)) nodes h)

nodes_do_not_fall : (values : Values) → DoNotFall (nodes_of_values values)
nodes_do_not_fall [] = tt
nodes_do_not_fall (row ∷ values) = value_does_not_fall row.0 row.1 (nodes_of_values values) (nodes_do_not_fall values)

own_node : (id : List ℕ) (k : ℕ) → length id ≡ 12 → bytes_eq (take 12 (chunk_key id k)) id ≡ true
own_node id k long = equal_bytes (take 12 (chunk_key id k)) id (key_begins id k long)

other_node : (id other : List ℕ) (k : ℕ) → length other ≡ 12 → bytes_eq other id ≡ false → bytes_eq (take 12 (chunk_key other k)) id ≡ false
other_node id other k long e = ap (λ (x : List ℕ). bytes_eq x id) (key_begins other k long) ∙ e

chunks_here : (id bytes : List ℕ) (k : ℕ) (nodes : List Node) → length id ≡ 12 → DoNotFall nodes → filter (is_of id) (with_chunks id bytes k nodes) ≡ with_chunks id bytes k (filter (is_of id) nodes)
chunks_here id bytes zero nodes long h = refl
chunks_here id bytes (suc k) nodes long h =
    filter_here (is_of id) (with_chunks id bytes k nodes) (chunk_node id bytes k) (chunks_do_not_fall id bytes k nodes h) (own_node id (suc k) long)
    ∙ ap (λ (l : List Node). inserted l (chunk_node id bytes k)) (chunks_here id bytes k nodes long h)

value_here : (id : List ℕ) (value : LongValue) (nodes : List Node) → length id ≡ 12 → DoNotFall nodes → filter (is_of id) (with_value id value nodes) ≡ with_value id value (filter (is_of id) nodes)
value_here id value nodes long h =
    filter_here (is_of id) (with_chunks id value.bytes (chunk_count (length value.bytes)) nodes) (head_node id value) (chunks_do_not_fall id value.bytes (chunk_count (length value.bytes)) nodes h) (own_node id 0 long)
    ∙ ap (λ (l : List Node). inserted l (head_node id value)) (chunks_here id value.bytes (chunk_count (length value.bytes)) nodes long h)

chunks_else : (id other bytes : List ℕ) (k : ℕ) (nodes : List Node) → length other ≡ 12 → bytes_eq other id ≡ false → filter (is_of id) (with_chunks other bytes k nodes) ≡ filter (is_of id) nodes
chunks_else id other bytes zero nodes long e = refl
chunks_else id other bytes (suc k) nodes long e = filter_else (is_of id) (with_chunks other bytes k nodes) (chunk_node other bytes k) (other_node id other (suc k) long e) ∙ chunks_else id other bytes k nodes long e

value_else : (id other : List ℕ) (value : LongValue) (nodes : List Node) → length other ≡ 12 → bytes_eq other id ≡ false → filter (is_of id) (with_value other value nodes) ≡ filter (is_of id) nodes
value_else id other value nodes long e =
    filter_else (is_of id) (with_chunks other value.bytes (chunk_count (length value.bytes)) nodes) (head_node other value) (other_node id other 0 long e)
    ∙ chunks_else id other value.bytes (chunk_count (length value.bytes)) nodes long e

-- ---- all values

not_same : (a b : List ℕ) → is_lt (order a b) ≡ true → bytes_eq a b ≡ false
not_same a b lower =
    by_test (bytes_eq a b)
    (λ same. absurd (less-irreflexive a (subst (λ (k : List ℕ). slice_cmp nat_cmp a k ≡ Less) (sym (same_bytes a b same)) (is_less (order a b) lower))))
    (λ other. other)

not_same_turned : (a b : List ℕ) → is_lt (order a b) ≡ true → bytes_eq b a ≡ false
not_same_turned a b lower =
    by_test (bytes_eq b a)
    (λ same. absurd (less-irreflexive a (subst (λ (k : List ℕ). slice_cmp nat_cmp a k ≡ Less) (same_bytes b a same) (is_less (order a b) lower))))
    (λ other. other)

abbrev IsAbove : List ℕ → List ℕ × LongValue → Type 0
IsAbove low row = is_lt (order low row.0) ≡ true

none_below : (low : List ℕ) (values : Values) → AllByRecursion IsLong values → AllByRecursion (IsAbove low) values → filter (is_of low) (nodes_of_values values) ≡ []
none_below low [] long above = refl
none_below low (row ∷ values) long above =
    value_else low row.0 row.1 (nodes_of_values values) long.0.id (not_same_turned low row.0 above.0) ∙ none_below low values long.1 above.1

abbrev pub HasOwnNodes : List Node → List ℕ × LongValue → Type 0
HasOwnNodes nodes row = nodes_of_value row.0 nodes ≡ with_value row.0 row.1 []

each_has_own : (values : Values) → AllByRecursion IsLong values → is_sorted order values ≡ true → AllByRecursion (HasOwnNodes (nodes_of_values values)) values
each_has_own [] long sorted = tt
each_has_own (row ∷ values) long sorted =
    let above = all_above row.0 values (and_left (below_all order row.0 values) (is_sorted order values) sorted) in (
      value_here row.0 row.1 (nodes_of_values values) long.0.id (nodes_do_not_fall values) ∙ ap (with_value row.0 row.1) (none_below row.0 values long.1 above),
      all_both (IsAbove row.0) (HasOwnNodes (nodes_of_values values)) (HasOwnNodes (nodes_of_values (row ∷ values)))
          (λ other high has. value_else other.0 row.0 row.1 (nodes_of_values values) long.0.id (not_same row.0 other.0 high) ∙ has)
          values above (each_has_own values long.1 (and_right (below_all order row.0 values) (is_sorted order values) sorted)),
    )

in_table : (trees : List StoredTable) (t : TableContents) → HasOwnContents trees t → AreLong (table_long_values trees t.table.id) → AllByRecursion (HasOwnNodes t.value_nodes) (long_values t)
in_table trees t own long =
    subst (λ (values : Values). AllByRecursion (HasOwnNodes t.value_nodes) values) (sym own.long_values)
    (subst (λ (nodes : List Node). AllByRecursion (HasOwnNodes nodes) (table_long_values trees t.table.id)) (sym own.value_nodes)
    (each_has_own (table_long_values trees t.table.id) (recursion_from_All IsLong (table_long_values trees t.table.id) long.whole) long.in_order))

pub own_value_nodes : WalkLaws → (store : OwnStore) → IsOwnStore store → AllByRecursion (λ t. AllByRecursion (HasOwnNodes t.value_nodes) (long_values t)) (contents_of store)
own_value_nodes laws store own =
    all_weaker (HasOwnContents store.trees.tables) (λ t. AllByRecursion (HasOwnNodes t.value_nodes) (long_values t)) (λ t h. in_table store.trees.tables t h (own.long_values t.table.id)) (contents_of store) (own_contents laws store own)

-- The first chunk of a whole value among the nodes of all.
use Rattle.std.proofs.Common.{◌≡◌, ◌≢◌, ℕ, zero, suc, ◌+◌, ◌<◌, ◌≤◌, Bool, true, false, ◌&&◌, cond, List, [], ◌∷◌, ◌++◌, length, take, drop, Option, Some, None, refl, sym, ap, subst, ◌∙◌, arith}
use Rattle.std.specs.Prelude.{find, option_map}
use Rattle.std.specs.List.{AllByRecursion}
use Rattle.std.specs.Ordering.{is_eq, is_lt}
use Rattle.std.specs.FinMap.Entries.{below_all, is_sorted}
use Rattle.common_lemmas.proofs.Booleans.{and_left, and_right, by_test}
use Rattle.common_lemmas.proofs.Lists.{all_append}
use Rattle.common_lemmas.proofs.Orders.{is_less, less-irreflexive}
use Rattle.page_image.specs.Page.{IsBelow, Node}
use Rattle.btree_inplace.specs.Order.{get_in, has_key}
use Rattle.long_value.specs.ChangedValues.{differ, itself, same_key}
use Rattle.long_value.specs.Shown.{id_of}
use Rattle.long_value.specs.Values.{LongValue, Values, chunk_count, chunk_key, head_node, nodes_of_values, order, value_of, with_value}
use Rattle.image_contents.specs.WholeValues.{IsWhole}
use Rattle.image_contents.proofs.Chunks.{AreAbove, chunk_at, chunks_from, value_is}
use Rattle.image_contents.proofs.Keys.{chunks_rise, lower_differs}
use Rattle.image_contents.proofs.Told.{IsNamed, all_above, key_id, second_part}
use Rattle.image_contents.proofs.Broken.{IsLater, IsOf}
use Rattle.image_contents.proofs.Walks.{find_first, find_later}

-- ---- the nodes of values behind an identifier

record AreBehind (id : List ℕ) (nodes : List Node) : Type 0 where
  named : AllByRecursion IsNamed nodes
  later : AllByRecursion (IsLater id) nodes

chunks_of : (id : List ℕ) (k m : ℕ) (bytes : List ℕ) → length id ≡ 12 → AllByRecursion (IsOf id) (chunks_from id k bytes m)
chunks_of id k zero bytes long = tt
chunks_of id k (suc m) bytes long = (key_id id k long, chunks_of id (suc k) m (drop 1024 bytes) long)

few_chunks : (value : LongValue) → length value.bytes ≤ 1048576 → chunk_count (length value.bytes) ≤ 1024
few_chunks value short = omega (arith, short)

record Listed (id : List ℕ) (value : LongValue) (values : Values) : Type 0 where
  are : nodes_of_values ((id, value) ∷ values) ≡ head_node id value ∷ (chunks_from id 1 value.bytes (chunk_count (length value.bytes)) ++ nodes_of_values values)

listed : (id : List ℕ) (value : LongValue) (values : Values) → IsWhole (id, value) → AreBehind id (nodes_of_values values) → Listed id value values
listed id value values whole behind = record { are = value_is id value (nodes_of_values values) (few_chunks value whole.short) (all_above id (nodes_of_values values) whole.id behind.named behind.later) }

of_value : (P : Node → Type 0) (id : List ℕ) (value : LongValue) (values : Values) → IsWhole (id, value) → ((n : Node) → id_of n ≡ id → P n) → AllByRecursion P (nodes_of_values values) → Listed id value values → AllByRecursion P (nodes_of_values ((id, value) ∷ values))
of_value P id value values whole own rest is =
    subst (AllByRecursion P) (sym is.are)
    (own (head_node id value) (key_id id 0 whole.id), all_append P (chunks_from id 1 value.bytes (chunk_count (length value.bytes))) (nodes_of_values values) (each (chunks_from id 1 value.bytes (chunk_count (length value.bytes))) (chunks_of id 1 (chunk_count (length value.bytes)) value.bytes whole.id)) rest)
  where
    each : (nodes : List Node) → AllByRecursion (IsOf id) nodes → AllByRecursion P nodes
    each [] all = tt
    each (n ∷ nodes) all = (own n all.0, each nodes all.1)

are_behind : (id : List ℕ) (values : Values) → below_all order id values ≡ true → is_sorted order values ≡ true → AllByRecursion IsWhole values → AreBehind id (nodes_of_values values)
are_behind id [] below sorted whole = record { named = tt; later = tt }
are_behind id (row ∷ values) below sorted whole =
    let own = are_behind row.0 values (and_left (below_all order row.0 values) (is_sorted order values) sorted) (and_right (below_all order row.0 values) (is_sorted order values) sorted) whole.1 in
    let rest = are_behind id values (and_right (is_lt (order id row.0)) (below_all order id values) below) (and_right (below_all order row.0 values) (is_sorted order values) sorted) whole.1 in
    let low : IsBelow id row.0 = is_less (order id row.0) (and_left (is_lt (order id row.0)) (below_all order id values) below) in
    let is = listed row.0 row.1 values whole.0 own in
    record {
      named = of_value IsNamed row.0 row.1 values whole.0 (λ n h. ap (λ (l : List ℕ). length l) h ∙ whole.0.id) rest.named is;
      later = of_value (IsLater id) row.0 row.1 values whole.0 (λ n h. subst (λ (i : List ℕ). IsBelow id i) (sym h) low) rest.later is;
    }

-- ---- the first chunk

apart_from : (id other : List ℕ) (k : ℕ) (n : Node) → length other ≡ 12 → id_of n ≡ id → (id ≡ other → ⊥) → has_key (chunk_key other k) n ≡ false
apart_from id other k n long own n-other = differ n.key (chunk_key other k) (λ e. n-other (sym own ∙ ap (take 12) e ∙ key_id other k long))

all_apart : (id other : List ℕ) (k : ℕ) (nodes : List Node) → length other ≡ 12 → AllByRecursion (IsOf id) nodes → (id ≡ other → ⊥) → AllByRecursion (λ (n : Node). has_key (chunk_key other k) n ≡ false) nodes
all_apart id other k [] long own n-other = tt
all_apart id other k (n ∷ nodes) long own n-other = (apart_from id other k n long own.0 n-other, all_apart id other k nodes long own.1 n-other)

pub first_chunk : (id : List ℕ) (values : Values) → length id ≡ 12 → is_sorted order values ≡ true → AllByRecursion IsWhole values → get_in (nodes_of_values values) (chunk_key id 1) ≡ option_map (λ (v : LongValue). take 1024 v.bytes) (value_of id values)
first_chunk id [] long sorted whole = refl
first_chunk id (row ∷ values) long sorted whole =
    let own = are_behind row.0 values (and_left (below_all order row.0 values) (is_sorted order values) sorted) (and_right (below_all order row.0 values) (is_sorted order values) sorted) whole.1 in
    let is = listed row.0 row.1 values whole.0 own in
    let rest = first_chunk id values long (and_right (below_all order row.0 values) (is_sorted order values) sorted) whole.1 in
    let m = chunk_count (length row.1.bytes) in
    ap (λ (l : List Node). get_in l (chunk_key id 1)) is.are
    ∙ by_test (is_eq (order id row.0))
    (λ t. here (same_key id row.0 t) m refl ∙ sym (ap (λ (b : Bool). option_map (λ (v : LongValue). take 1024 v.bytes) (cond b (Some row.1) (value_of id values))) t))
    (λ f. there (λ e. absurd (apart e f)) ∙ rest ∙ sym (ap (λ (b : Bool). option_map (λ (v : LongValue). take 1024 v.bytes) (cond b (Some row.1) (value_of id values))) f))
  where
    apart : row.0 ≡ id → is_eq (order id row.0) ≡ false → ⊥
    apart e f = by (sym (ap (λ (i : List ℕ). is_eq (order id i)) (sym e) ∙ f) ∙ refl)
      where
        by : false ≡ is_eq (order id id) → ⊥
        by h = differ-from (h ∙ itself id)
          where
            differ-from : false ≡ true → ⊥
            differ-from g = cc

    some : (m : ℕ) → chunk_count (length row.1.bytes) ≡ m → 1 ≤ m
    some m e = omega (arith, e, whole.0.long)

    here : id ≡ row.0 → (m : ℕ) → chunk_count (length row.1.bytes) ≡ m → get_in (head_node row.0 row.1 ∷ (chunks_from row.0 1 row.1.bytes (chunk_count (length row.1.bytes)) ++ nodes_of_values values)) (chunk_key id 1) ≡ Some (take 1024 row.1.bytes)
    here same zero e = absurd (omega (arith, some zero e))
    here same (suc m) e =
        ap (λ (i : List ℕ). get_in (head_node row.0 row.1 ∷ (chunks_from row.0 1 row.1.bytes (chunk_count (length row.1.bytes)) ++ nodes_of_values values)) (chunk_key i 1)) same
        ∙ ap (option_map (λ (n : Node). n.data)) (find_later (has_key (chunk_key row.0 1)) (head_node row.0 row.1) (chunks_from row.0 1 row.1.bytes (chunk_count (length row.1.bytes)) ++ nodes_of_values values) (lower_differs (chunk_key row.0 0) (chunk_key row.0 1) (chunks_rise row.0 0 1 (omega arith) (omega arith))))
        ∙ ap (λ (n : ℕ). get_in (chunks_from row.0 1 row.1.bytes n ++ nodes_of_values values) (chunk_key row.0 1)) e
        ∙ ap (option_map (λ (n : Node). n.data)) (find_first (has_key (chunk_key row.0 1)) (chunk_at row.0 1 row.1.bytes) (chunks_from row.0 2 (drop 1024 row.1.bytes) m ++ nodes_of_values values) (itself (chunk_key row.0 1)))

    there : (row.0 ≡ id → ⊥) → get_in (head_node row.0 row.1 ∷ (chunks_from row.0 1 row.1.bytes (chunk_count (length row.1.bytes)) ++ nodes_of_values values)) (chunk_key id 1) ≡ get_in (nodes_of_values values) (chunk_key id 1)
    there n-same =
        ap (option_map (λ (n : Node). n.data)) (find_later (has_key (chunk_key id 1)) (head_node row.0 row.1) (chunks_from row.0 1 row.1.bytes (chunk_count (length row.1.bytes)) ++ nodes_of_values values) (apart_from row.0 id 1 (head_node row.0 row.1) long (key_id row.0 0 whole.0.id) n-same)
        ∙ second_part (chunk_key id 1) (chunks_from row.0 1 row.1.bytes (chunk_count (length row.1.bytes))) (nodes_of_values values) (all_apart row.0 id 1 (chunks_from row.0 1 row.1.bytes (chunk_count (length row.1.bytes))) long (chunks_of row.0 1 (chunk_count (length row.1.bytes)) row.1.bytes whole.0.id) n-same))

-- The values that the nodes of a map show are those of the map.
use Rattle.std.proofs.Common.{◌≡◌, ℕ, zero, suc, ◌+◌, ◌*◌, ◌<◌, ◌≤◌, Bool, true, false, ◌&&◌, T, List, [], ◌∷◌, ◌++◌, length, find, take, drop, Option, Some, None, option_map, refl, sym, ap, subst, ◌∙◌, arith}
use Rattle.std.specs.Prelude.{All, unwrap_or}
use Rattle.std.proofs.lemmas.List.Elements.{All-head, All-tail}
use Rattle.std.proofs.lemmas.List.{take_all}
use Rattle.std.proofs.Math.Seq.{drop-append_seam, take-add, take-append_seam}
use Rattle.std.specs.Ordering.{eq_by_cmp, is_eq, is_lt}
use Rattle.std.specs.Cmp.Lexicographic.{nat_list_cmp_total}
use Rattle.std.specs.declared.cmp.Ordering.TheVariants.{Equal}
use Rattle.std.specs.FinMap.Entries.{below_all, find-put, is_sorted, is_sorted-put, same_entries}
use Rattle.std.proofs.lemmas.Bool.{and_from}
use Rattle.common_lemmas.proofs.Booleans.{T_first, T_second, by_test}
use Rattle.byteorder.specs.Endian.{big_bytes, big_number, little_number}
use Rattle.byteorder.specs.Numbers.{little_number-reads_back}
use Rattle.page_image.specs.Page.{Node}
use Rattle.btree_inplace.specs.Changes.{inserted}
use Rattle.btree_inplace.specs.Order.{get_in}
use Rattle.long_value.specs.Values.{AreLong, IsLong, LongValue, Values, chunk_count, chunk_key, chunk_node, chunk_of, head_data, head_node, nodes_of_values, order, put_value, value_of, with_chunks}
use Rattle.long_value.specs.Shown.{bytes_in, id_of, is_head, shown_values, value_at, values_of_heads}
use Rattle.long_value.proofs.Held.{chunk_there, count_read, few_chunks}
use Rattle.long_value.proofs.Keys.{number_back}
use Rattle.long_value.proofs.Maps.{holds, nothing_gone, value_later, value_long, value_there}
use Rattle.long_value.proofs.Nodes.{find_no, find_yes, ins_ge, ins_lt, not_found}
use Rattle.long_value.specs.ChangedValues.{differ, itself, same_key, value_gone}

-- whether a node is the head of one value
abbrev is_head_of : List ℕ → Node → Bool
is_head_of id n = eq_by_cmp order id (id_of n) && is_head n

-- ---- look-ups among the values of heads

and_first : (a b : Bool) → a ≡ false → (a && b) ≡ false
and_first a b e = rw e refl

and_second : (a b : Bool) → b ≡ false → (a && b) ≡ false
and_second true b e = e
and_second false b e = refl

head_taken : (nodes rest : List Node) (n : Node) → is_head n ≡ true → values_of_heads nodes (n ∷ rest) ≡ put_value (id_of n) (value_at nodes n) (values_of_heads nodes rest)
head_taken nodes rest n t = rw t refl

other_left : (nodes rest : List Node) (n : Node) → is_head n ≡ false → values_of_heads nodes (n ∷ rest) ≡ values_of_heads nodes rest
other_left nodes rest n t = rw t refl

put_same : (id key : List ℕ) (value : LongValue) (values : Values) → eq_by_cmp order id key ≡ true → value_of id (put_value key value values) ≡ Some value
put_same id key value values t = find-put order nat_list_cmp_total id key value values ∙ rw t refl

put_other : (id key : List ℕ) (value : LongValue) (values : Values) → eq_by_cmp order id key ≡ false → value_of id (put_value key value values) ≡ value_of id values
put_other id key value values t = find-put order nat_list_cmp_total id key value values ∙ rw t refl

found_value : (id : List ℕ) (nodes rest : List Node) → value_of id (values_of_heads nodes rest) ≡ option_map (value_at nodes) (find (is_head_of id) rest)
found_value id nodes [] = refl
found_value id nodes (n ∷ rest) =
    by_test (is_head n)
    (λ h. ap (value_of id) (head_taken nodes rest n h)
    ∙ by_test (eq_by_cmp order id (id_of n))
    (λ t. put_same id (id_of n) (value_at nodes n) (values_of_heads nodes rest) t
    ∙ ap (option_map (value_at nodes)) (sym (find_yes (is_head_of id) n rest (and_from (eq_by_cmp order id (id_of n)) (is_head n) t h))))
    (λ t. put_other id (id_of n) (value_at nodes n) (values_of_heads nodes rest) t ∙ found_value id nodes rest
    ∙ ap (option_map (value_at nodes)) (sym (find_no (is_head_of id) n rest (and_first (eq_by_cmp order id (id_of n)) (is_head n) t)))))
    (λ h. ap (value_of id) (other_left nodes rest n h) ∙ found_value id nodes rest
    ∙ ap (option_map (value_at nodes)) (sym (find_no (is_head_of id) n rest (and_second (eq_by_cmp order id (id_of n)) (is_head n) h))))

-- ---- the heads of a map

found_past : (p : Node → Bool) (nodes : List Node) (n : Node) → p n ≡ false → find p (inserted nodes n) ≡ find p nodes
found_past p [] n other = find_no p n [] other
found_past p (m ∷ nodes) n other =
    by_test (is_lt (order m.key n.key))
    (λ t. ap (find p) (ins_lt m nodes n t)
    ∙ by_test (p m)
    (λ h. find_yes p m (inserted nodes n) h ∙ sym (find_yes p m nodes h))
    (λ h. find_no p m (inserted nodes n) h ∙ found_past p nodes n other ∙ sym (find_no p m nodes h)))
    (λ t. ap (find p) (ins_ge m nodes n t) ∙ find_no p n (m ∷ nodes) other)

found_new : (p : Node → Bool) (nodes : List Node) (n : Node) → p n ≡ true → find p nodes ≡ None → find p (inserted nodes n) ≡ Some n
found_new p [] n is none = find_yes p n [] is
found_new p (m ∷ nodes) n is none =
    let at = not_found p m nodes none in
    by_test (is_lt (order m.key n.key))
    (λ t. ap (find p) (ins_lt m nodes n t) ∙ find_no p m (inserted nodes n) at.0 ∙ found_new p nodes n is at.1)
    (λ t. ap (find p) (ins_ge m nodes n t) ∙ find_yes p n (m ∷ nodes) is)

key_id : (id : List ℕ) (k : ℕ) → length id ≡ 12 → take 12 (chunk_key id k) ≡ id
key_id id k long = ap (λ n. take n (chunk_key id k)) (sym long) ∙ take-append_seam id (big_bytes 4 k)

key_chunk : (id : List ℕ) (k : ℕ) → length id ≡ 12 → drop 12 (chunk_key id k) ≡ big_bytes 4 k
key_chunk id k long = ap (λ n. drop n (chunk_key id k)) (sym long) ∙ drop-append_seam id (big_bytes 4 k)

head_is : (id : List ℕ) (value : LongValue) → length id ≡ 12 → is_head (head_node id value) ≡ true
head_is id value long = ap (λ (k : List ℕ). eq_by_cmp order k (big_bytes 4 0)) (key_chunk id 0 long) ∙ itself (big_bytes 4 0)

chunk_not : (id bytes : List ℕ) (k : ℕ) → length id ≡ 12 → k < 1024 → is_head (chunk_node id bytes k) ≡ false
chunk_not id bytes k long few =
    ap (λ (x : List ℕ). eq_by_cmp order x (big_bytes 4 0)) (key_chunk id (suc k) long)
    ∙ differ (big_bytes 4 (suc k)) (big_bytes 4 0) (λ e. none (sym (number_back (suc k) (omega arith)) ∙ ap (λ (x : List ℕ). back x) e ∙ number_back 0 (omega arith)))
  where
    back : List ℕ → ℕ
    back x = big_number 4 (x ++ [])

    none : suc k ≡ 0 → ⊥
    none e = omega (arith, e)

chunks_past : (q id bytes : List ℕ) (k : ℕ) (nodes : List Node) → length id ≡ 12 → k ≤ 1024 → find (is_head_of q) (with_chunks id bytes k nodes) ≡ find (is_head_of q) nodes
chunks_past q id bytes zero nodes long few = refl
chunks_past q id bytes (suc k) nodes long few =
    found_past (is_head_of q) (with_chunks id bytes k nodes) (chunk_node id bytes k)
    (and_second (eq_by_cmp order q (id_of (chunk_node id bytes k))) (is_head (chunk_node id bytes k)) (chunk_not id bytes k long (omega (arith, few))))
    ∙ chunks_past q id bytes k nodes long (omega (arith, few))

head_test : (q id : List ℕ) (value : LongValue) → length id ≡ 12 → eq_by_cmp order q (id_of (head_node id value)) ≡ eq_by_cmp order q id
head_test q id value long = ap (eq_by_cmp order q) (key_id id 0 long)

found_head : (q : List ℕ) (values : Values) → T (is_sorted order values) → All IsLong values → find (is_head_of q) (nodes_of_values values) ≡ option_map (head_node q) (value_of q values)
found_head q [] sorted whole = refl
found_head q (row ∷ values) sorted whole =
    let id = row.0 in
    let value = row.1 in
    let long = All-head IsLong row values whole in
    let nodes = nodes_of_values values in
    let n = chunk_count (length value.bytes) in
    let few = few_chunks (length value.bytes) long.short in
    let rest = found_head q values (T_second (below_all order id values) (is_sorted order values) sorted) (All-tail IsLong row values whole) in
    let past = chunks_past q id value.bytes n nodes long.id few in
    by_test (is_eq (order q id))
    (λ t.
    let same : q ≡ id = same_key q id t in
    let below : T (below_all order q values) = subst (λ k. T (below_all order k values)) (sym same) (T_first (below_all order id values) (is_sorted order values) sorted) in
    let none : value_of q values ≡ None = ap (value_of q) (sym (nothing_gone q values below)) ∙ value_gone values q in
    found_new (is_head_of q) (with_chunks id value.bytes n nodes) (head_node id value)
    (and_from (eq_by_cmp order q (id_of (head_node id value))) (is_head (head_node id value)) (head_test q id value long.id ∙ t) (head_is id value long.id))
    (past ∙ rest ∙ ap (option_map (head_node q)) none)
    ∙ ap (λ k. Some (head_node k value)) (sym same)
    ∙ ap (option_map (head_node q)) (sym (value_there q row values t)))
    (λ t.
    found_past (is_head_of q) (with_chunks id value.bytes n nodes) (head_node id value)
    (and_first (eq_by_cmp order q (id_of (head_node id value))) (is_head (head_node id value)) (head_test q id value long.id ∙ t))
    ∙ past ∙ rest ∙ ap (option_map (head_node q)) (sym (value_later q row values t)))

-- ---- the value of a head

length_back : (value : LongValue) → length value.bytes ≤ 1048576 → little_number 4 (drop 4 (head_data value)) ≡ length value.bytes
length_back value short = little_number-reads_back 4 (length value.bytes) [] (omega (arith, short))

bytes_back : (id : List ℕ) (value : LongValue) (values : Values) (k : ℕ) → length id ≡ 12 → AreLong values → value_of id values ≡ Some value → k ≤ chunk_count (length value.bytes) → bytes_in id k (nodes_of_values values) ≡ take (1024 * k) value.bytes
bytes_back id value values zero long all e le = refl
bytes_back id value values (suc k) long all e le =
    let nodes = nodes_of_values values in
    let next : 1024 * k + 1024 ≡ 1024 * suc k = omega arith in
    let chunk : get_in nodes (chunk_key id (suc k)) ≡ Some (chunk_of value.bytes k) = ap (option_map (λ (n : Node). n.data)) (chunk_there id value values k long all e (omega (arith, le))) in
    ap (λ (x : List ℕ). x ++ unwrap_or (get_in nodes (chunk_key id (suc k))) []) (bytes_back id value values k long all e (omega (arith, le)))
    ∙ ap (λ (o : Option (List ℕ)). take (1024 * k) value.bytes ++ unwrap_or o []) chunk
    ∙ sym (take-add (1024 * k) 1024 value.bytes)
    ∙ ap (λ n. take n value.bytes) next

value_back : (id : List ℕ) (value : LongValue) (values : Values) → AreLong values → value_of id values ≡ Some value → value_at (nodes_of_values values) (head_node id value) ≡ value
value_back id value values all e =
    let is = value_long id value values all.whole e in
    let nodes = nodes_of_values values in
    let count : little_number 4 (head_data value) ≡ value.count = count_read (head_data value) value refl is.few in
    let size : little_number 4 (drop 4 (head_data value)) ≡ length value.bytes = length_back value is.short in
    let bytes : bytes_in (take 12 (chunk_key id 0)) (chunk_count (little_number 4 (drop 4 (head_data value)))) nodes ≡ value.bytes =
    ap (λ (k : List ℕ). bytes_in k (chunk_count (little_number 4 (drop 4 (head_data value)))) nodes) (key_id id 0 is.id)
    ∙ ap (λ n. bytes_in id (chunk_count n) nodes) size
    ∙ bytes_back id value values (chunk_count (length value.bytes)) is.id all e (omega arith)
    ∙ take_all (1024 * chunk_count (length value.bytes)) value.bytes (omega arith) in
    (λ i. record { count = count i; bytes = bytes i })

-- ---- the whole map

sorted_heads : (nodes rest : List Node) → T (is_sorted order (values_of_heads nodes rest))
sorted_heads nodes [] = tt
sorted_heads nodes (n ∷ rest) =
    by_test (is_head n)
    (λ h. subst (λ (l : Values). T (is_sorted order l)) (sym (head_taken nodes rest n h))
    (is_sorted-put order nat_list_cmp_total (id_of n) (value_at nodes n) (values_of_heads nodes rest) (sorted_heads nodes rest)))
    (λ h. subst (λ (l : Values). T (is_sorted order l)) (sym (other_left nodes rest n h)) (sorted_heads nodes rest))

same_value : (id : List ℕ) (values : Values) → AreLong values → value_of id (shown_values (nodes_of_values values)) ≡ value_of id values
same_value id values all =
    let nodes = nodes_of_values values in
    found_value id nodes nodes
    ∙ ap (option_map (value_at nodes)) (found_head id values (holds (is_sorted order values) all.in_order) all.whole)
    ∙ elim (value_of id values) as (λ o. value_of id values ≡ o → option_map (value_at nodes) (option_map (head_node id) o) ≡ o) [
      | None ↦ λ e. refl
      | Some value ↦ λ e. ap Some (value_back id value values all e)
    ] refl

tied : (a b : List ℕ) → order a b ≡ Equal → a ≡ b
tied a b e = same_key a b (ap is_eq e)

pub shown-nodes : (values : Values) → AreLong values → shown_values (nodes_of_values values) ≡ values
shown-nodes values all =
    let nodes = nodes_of_values values in
    same_entries order nat_list_cmp_total tied (shown_values nodes) values (sorted_heads nodes nodes) (holds (is_sorted order values) all.in_order) (λ id. same_value id values all)

-- A long value has one head among its nodes.
use Rattle.std.proofs.Common.{◌≡◌, ℕ, zero, suc, ◌+◌, ◌-◌, ◌/◌, ◌<◌, ◌≤◌, Bool, true, false, List, [], ◌∷◌, ◌++◌, length, drop, refl, sym, ap, ◌∙◌, arith}
use Rattle.std.specs.Prelude.{All, cond, if◌then◌else◌}
use Rattle.std.specs.Ordering.{is_eq, is_lt, nat_cmp}
use Rattle.std.specs.Cmp.Lexicographic.{slice_cmp}
use Rattle.std.proofs.Math.Nat.{div-le_self}
use Rattle.std.proofs.Math.Seq.{drop_at}
use Rattle.std.proofs.lemmas.List.Elements.{All-head, All-tail}
use Rattle.std.proofs.lemmas.List.Sums.{sum_by-cons}
use Rattle.common_lemmas.proofs.Booleans.{by_test}
use Rattle.byteorder.specs.Endian.{big_bytes, big_number}
use Rattle.byteorder.specs.Numbers.{big_number-reads_back}
use Rattle.btree_inplace.specs.Changes.{inserted}
use Rattle.long_value.specs.ChangedValues.{itself, same_key}
use Rattle.long_value.specs.Shown.{is_head}
use Rattle.long_value.specs.Values.{AreLong, IsLong, LongValue, Values, chunk_count, chunk_node, head_node, nodes_of_values, order, with_chunks, with_value}
use Rattle.page_image.specs.Page.{Node}
use Rattle.tool_dump.specs.SpaceTexts.{value_count}

-- ---- one node more

abbrev one_if : Node → ℕ
one_if n = cond (is_head n) 1 0

count_first : (n : Node) (nodes : List Node) → value_count (n ∷ nodes) ≡ one_if n + value_count nodes
count_first n nodes = sum_by-cons one_if n nodes

moved : (a b c all more whole : ℕ) → whole ≡ a + more → more ≡ b + c → all ≡ a + c → whole ≡ b + all
moved a b c all more whole p q r = omega (arith, p, q, r)

count_inserted : (nodes : List Node) (node : Node) → value_count (inserted nodes node) ≡ one_if node + value_count nodes
count_inserted [] node = count_first node []
count_inserted (n ∷ nodes) node = by (is_lt (slice_cmp nat_cmp n.key node.key)) (count_inserted nodes node)
  where
    by : (b : Bool) → value_count (inserted nodes node) ≡ one_if node + value_count nodes → value_count (if b then n ∷ inserted nodes node else node ∷ n ∷ nodes) ≡ one_if node + value_count (n ∷ nodes)
    by true others =
        moved (one_if n) (one_if node) (value_count nodes) (value_count (n ∷ nodes)) (value_count (inserted nodes node)) (value_count (n ∷ inserted nodes node)) (count_first n (inserted nodes node)) others (count_first n nodes)
    by false others = count_first node (n ∷ nodes)

-- ---- the nodes of a value

number_back : (a : ℕ) → a < 4294967296 → big_number 4 (big_bytes 4 a ++ []) ≡ a
number_back a lt = big_number-reads_back 4 a [] lt

-- the end of a key is the number of its chunk
end_of_key : (id : List ℕ) (chunk : ℕ) → length id ≡ 12 → drop 12 (id ++ big_bytes 4 chunk) ≡ big_bytes 4 chunk
end_of_key id chunk long = drop_at id (big_bytes 4 chunk) 12 long

chunk_is_none : (id bytes : List ℕ) (k : ℕ) → length id ≡ 12 → suc k < 4294967296 → is_head (chunk_node id bytes k) ≡ false
chunk_is_none id bytes k long lt = by_test (is_head (chunk_node id bytes k)) (λ t. absurd (apart t)) (λ f. f)
  where
    apart : is_head (chunk_node id bytes k) ≡ true → ⊥
    apart t =
        let same : big_bytes 4 (suc k) ≡ big_bytes 4 0 = sym (end_of_key id (suc k) long) ∙ same_key (drop 12 (id ++ big_bytes 4 (suc k))) (big_bytes 4 0) t in
        let number : suc k ≡ 0 = sym (number_back (suc k) lt) ∙ ap (λ (l : List ℕ). big_number 4 (l ++ [])) same ∙ number_back 0 (omega arith) in
        omega (arith, number)

head_is_one : (id : List ℕ) (value : LongValue) → length id ≡ 12 → is_head (head_node id value) ≡ true
head_is_one id value long = ap (λ (l : List ℕ). is_eq (order l (big_bytes 4 0))) (end_of_key id 0 long) ∙ itself (big_bytes 4 0)

count_chunks : (id bytes : List ℕ) (k : ℕ) (nodes : List Node) → length id ≡ 12 → k < 4294967296 → value_count (with_chunks id bytes k nodes) ≡ value_count nodes
count_chunks id bytes zero nodes long lt = refl
count_chunks id bytes (suc k) nodes long lt =
    count_inserted (with_chunks id bytes k nodes) (chunk_node id bytes k)
    ∙ ap (λ (b : Bool). cond b 1 0 + value_count (with_chunks id bytes k nodes)) (chunk_is_none id bytes k long lt)
    ∙ none_more (value_count (with_chunks id bytes k nodes))
    ∙ count_chunks id bytes k nodes long (omega (arith, lt))
  where
    none_more : (n : ℕ) → 0 + n ≡ n
    none_more n = omega arith

few_chunks : (size : ℕ) → size ≤ 1048576 → chunk_count size < 4294967296
few_chunks size short = omega (arith, short, div-le_self (size + 1023) 1024)

count_value : (id : List ℕ) (value : LongValue) (nodes : List Node) → length id ≡ 12 → length value.bytes ≤ 1048576 → value_count (with_value id value nodes) ≡ suc (value_count nodes)
count_value id value nodes long short =
    let chunks : List Node = with_chunks id value.bytes (chunk_count (length value.bytes)) nodes in
    count_inserted chunks (head_node id value)
    ∙ ap (λ (b : Bool). cond b 1 0 + value_count chunks) (head_is_one id value long)
    ∙ one_more (value_count chunks) (value_count nodes) (count_chunks id value.bytes (chunk_count (length value.bytes)) nodes long (few_chunks (length value.bytes) short))
  where
    one_more : (n m : ℕ) → n ≡ m → 1 + n ≡ suc m
    one_more n m e = omega (arith, e)

-- ---- all values

values_counted : (values : Values) → All IsLong values → value_count (nodes_of_values values) ≡ length values
values_counted [] whole = refl
values_counted (row ∷ values) whole =
    let first : IsLong row = All-head IsLong row values whole in
    count_value row.0 row.1 (nodes_of_values values) first.id first.short ∙ ap (λ (n : ℕ). suc n) (values_counted values (All-tail IsLong row values whole))

pub one_head_each : (values : Values) → AreLong values → value_count (nodes_of_values values) ≡ length values
one_head_each values whole = values_counted values whole.whole

-- A long value by its own nodes: the head is the first, and they show the value.
use Rattle.std.proofs.Common.{◌≡◌, ℕ, zero, suc, Bool, true, false, cond, List, [], ◌∷◌, ◌++◌, Option, Some, length, take, drop, refl, sym, ap, subst, ◌∙◌, arith}
use Rattle.std.specs.Prelude.{◌==◌, ◌≢◌, filter, find, nat_lt, option_map, unwrap_or, if◌then◌else◌}
use Rattle.std.specs.Cmp.{tied_itself}
use Rattle.std.specs.Cmp.Lexicographic.{slice_cmp}
use Rattle.std.specs.List.{AllByRecursion}
use Rattle.std.specs.Ordering.{eq_by_cmp, is_gt, nat_cmp, ordering_then}
use Rattle.std.specs.declared.cmp.Ordering.{Ordering}
use Rattle.std.specs.declared.cmp.Ordering.TheVariants.{Less, Equal, Greater}
use Rattle.std.proofs.Math.Seq.{drop-append_seam}
use Rattle.std.proofs.lemmas.Bool.Decides.{nat_tests}
use Rattle.std.proofs.lemmas.Cmp.{nat_cmp_total}
use Rattle.std.proofs.lemmas.List.Elements.{recursion_from_All}
use Rattle.btree_inplace.specs.Order.{get_in, has_key}
use Rattle.byteorder.specs.Endian.{big_bytes, little_number}
use Rattle.byteorder.specs.Numbers.{length-bytes_high_first}
use Rattle.common_lemmas.proofs.Booleans.{by_test, impossible}
use Rattle.common_lemmas.proofs.Numbers.{equal_bytes}
use Rattle.common_lemmas.proofs.Options.{same_some}
use Rattle.long_value.specs.Shown.{bytes_in, id_of, is_head, shown_values, value_at, values_of_heads}
use Rattle.long_value.specs.Values.{AreLong, IsLong, LongValue, Values, chunk_count, chunk_key, chunk_node, head_node, order, put_value, value_of, with_chunks, with_value}
use Rattle.page_image.specs.Page.{Node}
use Rattle.stored_variants.proofs.NodeRecords.{key_is}
use Rattle.table_trees.specs.StoredTables.{StoredTable, table_long_values}
use Rattle.image_findings.specs.TableContents.{TableContents, long_values}
use Rattle.image_findings.specs.ValueFindings.{nodes_of_value}
use Rattle.own_images.proofs.Contents.{own_contents}
use Rattle.own_images.proofs.Counted.{each_value, itself}
use Rattle.own_images.proofs.Differing.{all_both}
use Rattle.own_images.proofs.ValueNodes.{HasOwnNodes, IsUpto, in_front, insert_all, is_of, key_begins, own_value_nodes}
use Rattle.own_images.proofs.Walked.{WalkLaws}
use Rattle.own_images.specs.OwnContents.{HasOwnContents, IsOwnValue}
use Rattle.own_images.specs.OwnStores.{IsOwnStore, OwnStore, contents_of}

-- ---- the head is the first

zero_is : (y : ℕ) → nat_lt 0 y ≡ false → (0 == y) ≡ true
zero_is y e = grind (arith, nat_tests, e)

zero_upto : (y : ℕ) → is_gt (nat_cmp 0 y) ≡ false
zero_upto y =
    by_test (nat_lt 0 y)
    (λ above. ap (λ (b : Bool). is_gt (cond b Less (cond (0 == y) Equal Greater))) above)
    (λ same. ap (λ (b : Bool). is_gt (cond b Less (cond (0 == y) Equal Greater))) same ∙ ap (λ (b : Bool). is_gt (cond b Equal Greater)) (zero_is y same))

then_upto : (o q : Ordering) → is_gt o ≡ false → is_gt q ≡ false → is_gt (ordering_then o q) ≡ false
then_upto Less q h k = refl
then_upto Equal q h k = k
then_upto Greater q h k = impossible (sym h)

zeros_upto : (bytes : List ℕ) → length bytes ≡ 4 → is_gt (slice_cmp nat_cmp (big_bytes 4 0) bytes) ≡ false
zeros_upto [] e = absurd (omega (arith, e))
zeros_upto (a ∷ []) e = absurd (omega (arith, e))
zeros_upto (a ∷ b ∷ []) e = absurd (omega (arith, e))
zeros_upto (a ∷ b ∷ c ∷ []) e = absurd (omega (arith, e))
zeros_upto (a ∷ b ∷ c ∷ d ∷ []) e =
    then_upto (nat_cmp 0 a) _ (zero_upto a) (then_upto (nat_cmp 0 b) _ (zero_upto b) (then_upto (nat_cmp 0 c) _ (zero_upto c) (then_upto (nat_cmp 0 d) Equal (zero_upto d) refl)))
zeros_upto (a ∷ b ∷ c ∷ d ∷ x ∷ rest) e = absurd (omega (arith, e))

same_front : (id a b : List ℕ) → slice_cmp nat_cmp (id ++ a) (id ++ b) ≡ slice_cmp nat_cmp a b
same_front [] a b = refl
same_front (x ∷ id) a b = ap (λ (o : Ordering). ordering_then o (slice_cmp nat_cmp (id ++ a) (id ++ b))) (tied_itself nat_cmp_total x) ∙ same_front id a b

head_upto : (id : List ℕ) (k : ℕ) → is_gt (slice_cmp nat_cmp (chunk_key id 0) (chunk_key id k)) ≡ false
head_upto id k = ap is_gt (same_front id (big_bytes 4 0) (big_bytes 4 k)) ∙ zeros_upto (big_bytes 4 k) (length-bytes_high_first 4 k)

chunks_behind : (id : List ℕ) (value : LongValue) (bytes : List ℕ) (k : ℕ) → AllByRecursion (IsUpto (head_node id value)) (with_chunks id bytes k [])
chunks_behind id value bytes zero = tt
chunks_behind id value bytes (suc k) = insert_all (IsUpto (head_node id value)) (with_chunks id bytes k []) (chunk_node id bytes k) (head_upto id (suc k)) (chunks_behind id value bytes k)

head_first : (id : List ℕ) (value : LongValue) → with_value id value [] ≡ head_node id value ∷ with_chunks id value.bytes (chunk_count (length value.bytes)) []
head_first id value = in_front (with_chunks id value.bytes (chunk_count (length value.bytes)) []) (head_node id value) (chunks_behind id value value.bytes (chunk_count (length value.bytes)))

head_is : (id : List ℕ) (value : LongValue) → length id ≡ 12 → is_head (head_node id value) ≡ true
head_is id value long =
    ap (λ (k : List ℕ). eq_by_cmp order k (big_bytes 4 0)) (ap (λ (n : ℕ). drop n (chunk_key id 0)) (sym long) ∙ drop-append_seam id (big_bytes 4 0)) ∙ itself (big_bytes 4 0)

-- ---- look-ups among them

find_filtered : (p q : Node → Bool) (nodes : List Node) → ((n : Node) → q n ≡ true → p n ≡ true) → find q (filter p nodes) ≡ find q nodes
find_filtered p q [] f = refl
find_filtered p q (n ∷ nodes) f = at (p n) refl (find_filtered p q nodes f)
  where
    at : (b : Bool) → p n ≡ b → find q (filter p nodes) ≡ find q nodes → find q (if b then n ∷ filter p nodes else filter p nodes) ≡ find q (n ∷ nodes)
    at true e rest = ap (λ (o : Option Node). cond (q n) (Some n) o) rest
    at false e rest = by_test (q n) (λ t. impossible (sym e ∙ f n t)) (λ other. rest ∙ sym (ap (λ (b : Bool). cond b (Some n) (find q nodes)) other))

own_key : (id : List ℕ) (k : ℕ) → length id ≡ 12 → (n : Node) → has_key (chunk_key id k) n ≡ true → is_of id n ≡ true
own_key id k long n e = equal_bytes (id_of n) id (ap (take 12) (key_is n.key (chunk_key id k) e) ∙ key_begins id k long)

bytes_same : (id : List ℕ) (k : ℕ) (nodes : List Node) → length id ≡ 12 → bytes_in id k (nodes_of_value id nodes) ≡ bytes_in id k nodes
bytes_same id zero nodes long = refl
bytes_same id (suc k) nodes long =
    ap (λ (l : List ℕ). l ++ unwrap_or (get_in (nodes_of_value id nodes) (chunk_key id (suc k))) []) (bytes_same id k nodes long)
    ∙ ap (λ (o : Option Node). bytes_in id k nodes ++ unwrap_or (option_map (λ (n : Node). n.data) o) []) (find_filtered (is_of id) (has_key (chunk_key id (suc k))) nodes (own_key id (suc k) long))

abbrev value_with : ℕ → List ℕ → LongValue
value_with count bytes = record { count = count; bytes = bytes }

value_same : (nodes : List Node) (head : Node) → length (id_of head) ≡ 12 → value_at (nodes_of_value (id_of head) nodes) head ≡ value_at nodes head
value_same nodes head long = ap (value_with (little_number 4 head.data)) (bytes_same (id_of head) (chunk_count (little_number 4 (drop 4 head.data))) nodes long)

-- ---- the value of a head

pub record MapLaws : Type 0 where
  pub put : (values : Values) (id : List ℕ) (value : LongValue) → value_of id (put_value id value values) ≡ Some value
  pub beside : (values : Values) (id other : List ℕ) (value : LongValue) → other ≢ id → value_of other (put_value id value values) ≡ value_of other values

abbrev node_or : Node → List Node → Node
node_or d [] = d
node_or d (n ∷ nodes) = n

heads_value : MapLaws → (all : List Node) (id : List ℕ) (n : Node) (more xs : List Node) → filter (is_of id) xs ≡ n ∷ more → is_head n ≡ true → id_of n ≡ id → value_of id (values_of_heads all xs) ≡ Some (value_at all n)
heads_value laws all id n more [] e head is = absurd (omega (arith, ap (λ (l : List Node). length l) e))
heads_value laws all id n more (x ∷ xs) e head is = at (is_of id x) refl e (heads_value laws all id n more xs)
  where
    behind : (b : Bool) → is_of id x ≡ false → value_of id (if b then put_value (id_of x) (value_at all x) (values_of_heads all xs) else values_of_heads all xs) ≡ value_of id (values_of_heads all xs)
    behind true other = laws.beside (values_of_heads all xs) (id_of x) id (value_at all x) (λ s. impossible (sym other ∙ equal_bytes (id_of x) id (sym s)))
    behind false other = refl

    at : (b : Bool) → is_of id x ≡ b → (if b then x ∷ filter (is_of id) xs else filter (is_of id) xs) ≡ n ∷ more
        → (filter (is_of id) xs ≡ n ∷ more → is_head n ≡ true → id_of n ≡ id → value_of id (values_of_heads all xs) ≡ Some (value_at all n))
        → value_of id (values_of_heads all (x ∷ xs)) ≡ Some (value_at all n)
    at true own f later =
        let same : x ≡ n = ap (node_or x) f in
        ap (λ (y : Node). value_of id (if is_head y then put_value (id_of y) (value_at all y) (values_of_heads all xs) else values_of_heads all xs)) same
        ∙ ap (λ (b : Bool). value_of id (if b then put_value (id_of n) (value_at all n) (values_of_heads all xs) else values_of_heads all xs)) head
        ∙ ap (λ (k : List ℕ). value_of id (put_value k (value_at all n) (values_of_heads all xs))) is
        ∙ laws.put (values_of_heads all xs) id (value_at all n)
    at false other f later = behind (is_head x) other ∙ later f head is

pub one_value : MapLaws → (nodes : List Node) (row : List ℕ × LongValue) → length row.0 ≡ 12 → nodes_of_value row.0 nodes ≡ with_value row.0 row.1 [] → value_of row.0 (shown_values nodes) ≡ Some row.1 → IsOwnValue nodes row
one_value laws nodes row long own shown =
    let head = head_node row.0 row.1 in
    let is : id_of head ≡ row.0 = key_begins row.0 0 long in
    let found : value_of row.0 (shown_values nodes) ≡ Some (value_at nodes head) = heads_value laws nodes row.0 head (with_chunks row.0 row.1.bytes (chunk_count (length row.1.bytes)) []) nodes (own ∙ head_first row.0 row.1) (head_is row.0 row.1 long) is in
    let value : value_at nodes head ≡ row.1 = same_some (value_at nodes head) row.1 (sym found ∙ shown) in
    record {
      own = own;
      first = head_first row.0 row.1;
      shown = ap (λ (k : List ℕ). value_at (nodes_of_value k nodes) head) (sym is) ∙ value_same nodes head (ap (λ (k : List ℕ). length k) is ∙ long) ∙ value;
    }

-- ---- the store

of_table : MapLaws → (trees : List StoredTable) (t : TableContents) → HasOwnContents trees t → AllByRecursion (HasOwnNodes t.value_nodes) (long_values t) → AreLong (table_long_values trees t.table.id) → AllByRecursion (IsOwnValue t.value_nodes) (long_values t)
of_table laws trees t contents own long =
    let whole : AreLong (long_values t) = subst AreLong (sym contents.long_values) long in
    all_both (λ (row : List ℕ × LongValue). IsLong row × (value_of row.0 (long_values t) ≡ Some row.1)) (HasOwnNodes t.value_nodes) (IsOwnValue t.value_nodes)
    (λ row known has. one_value laws t.value_nodes row known.0.id has known.1) (long_values t)
    (all_both IsLong (λ (row : List ℕ × LongValue). value_of row.0 (long_values t) ≡ Some row.1) (λ (row : List ℕ × LongValue). IsLong row × (value_of row.0 (long_values t) ≡ Some row.1))
    (λ row is_long found. (is_long, found)) (long_values t) (recursion_from_All IsLong (long_values t) whole.whole) (each_value (long_values t) whole.in_order))
    own

pub own_single_values : WalkLaws → MapLaws → (store : OwnStore) → IsOwnStore store → AllByRecursion (λ t. AllByRecursion (IsOwnValue t.value_nodes) (long_values t)) (contents_of store)
own_single_values walks maps store own =
    all_both (HasOwnContents store.trees.tables) (λ t. AllByRecursion (HasOwnNodes t.value_nodes) (long_values t)) (λ t. AllByRecursion (IsOwnValue t.value_nodes) (long_values t))
    (λ t contents has. of_table maps store.trees.tables t contents has (own.long_values t.table.id)) (contents_of store) (own_contents walks store own) (own_value_nodes walks store own)

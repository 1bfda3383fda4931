-- The head of a long value that is whole tells its length, and there is none of a value that is not there.
use Rattle.std.proofs.Common.{◌≡◌, ℕ, Bool, true, false, ◌&&◌, ◌||◌, cond, List, [], ◌∷◌, ◌++◌, length, take, drop, Option, Some, None, inl, inr, refl, sym, ap, subst, ◌∙◌, arith}
use Rattle.std.specs.Prelude.{◌⊎◌, ◌==◌, filter, find, map, not, option_map, bytes_eq}
use Rattle.std.specs.List.{list_any}
use Rattle.std.specs.Ordering.{eq_by_cmp, is_eq}
use Rattle.std.specs.Cmp.Lexicographic.{nat_list_cmp_total}
use Rattle.std.specs.FinMap.Entries.{find-put}
use Rattle.std.proofs.lemmas.Bool.{and_from, eq-eqb}
use Rattle.std.proofs.lemmas.List.{length-append, take-append-drop}
use Rattle.std.proofs.Math.Seq.{drop-append_seam}
use Rattle.byteorder.specs.Endian.{big_bytes, little_bytes, little_number}
use Rattle.byteorder.specs.Numbers.{length-bytes_low_first}
use Rattle.common_lemmas.proofs.Booleans.{and_left, and_right, by_test, impossible, same_tests}
use Rattle.common_lemmas.proofs.Numbers.{equal_bytes, equal_turned, same_bytes}
use Rattle.btree_inplace.specs.Order.{get_in, has_key}
use Rattle.page_image.specs.Page.{Node}
use Rattle.image_findings.specs.Images.{least_key}
use Rattle.image_findings.specs.ValueFindings.{is_whole_value, nodes_of_value}
use Rattle.long_rows.specs.WholeRows.{has_length}
use Rattle.long_value.specs.ChangedValues.{itself, same_key}
use Rattle.long_value.specs.Shown.{id_of, is_head, shown_values, value_at, values_of_heads}
use Rattle.long_value.specs.Values.{LongValue, Values, chunk_key, head_data, order, put_value, value_of}
use Rattle.image_contents.specs.HeadlessValues.{has_head, tells_length, with_lesser}
use Rattle.image_contents.specs.ValuePass.{size_in}
use Rattle.image_contents.proofs.Broken.{broken_among}
use Rattle.image_contents.proofs.Groups.{IsSpelled, spelled}
use Rattle.image_contents.proofs.LeastKeys.{least_among}
use Rattle.image_contents.proofs.Told.{key_id, value_by}
use Rattle.image_contents.proofs.Walks.{find_first, find_later}

-- ---- look-ups among the values of heads

is_head_of : List ℕ → Node → Bool
is_head_of id n = eq_by_cmp order id (id_of n) && is_head n

put_found : (id key : List ℕ) (value : LongValue) (values : Values) (b : Bool) → eq_by_cmp order id key ≡ b → value_of id (put_value key value values) ≡ cond b (Some value) (value_of id values)
put_found id key value values b t = find-put order nat_list_cmp_total id key value values ∙ ap (λ c. cond c (Some value) (value_of id values)) t

found_value : (id : List ℕ) (nodes rest : List Node) → value_of id (values_of_heads nodes rest) ≡ option_map (value_at nodes) (find (is_head_of id) rest)
unfolding is_head_of
found_value id nodes [] = refl
found_value id nodes (n ∷ rest) = by (is_head n) (eq_by_cmp order id (id_of n)) (found_value id nodes rest) refl
  where
    by : (h t : Bool) → value_of id (values_of_heads nodes rest) ≡ option_map (value_at nodes) (find (is_head_of id) rest) → eq_by_cmp order id (id_of n) ≡ t
        → value_of id (cond h (put_value (id_of n) (value_at nodes n) (values_of_heads nodes rest)) (values_of_heads nodes rest)) ≡ option_map (value_at nodes) (cond (t && h) (Some n) (find (is_head_of id) rest))
    by true true more e = put_found id (id_of n) (value_at nodes n) (values_of_heads nodes rest) true e
    by true false more e = put_found id (id_of n) (value_at nodes n) (values_of_heads nodes rest) false e ∙ more
    by false true more e = more
    by false false more e = more

pub key_behind : (id : List ℕ) (j : ℕ) → length id ≡ 12 → drop 12 (chunk_key id j) ≡ big_bytes 4 j
key_behind id j long = ap (λ (n : ℕ). drop n (chunk_key id j)) (sym long) ∙ drop-append_seam id (big_bytes 4 j)

same_test : (id : List ℕ) (n : Node) → length id ≡ 12 → is_head_of id n ≡ has_key (chunk_key id 0) n
unfolding is_head_of
same_test id n long =
    same_tests (eq_by_cmp order id (id_of n) && is_head n) (has_key (chunk_key id 0) n)
    (λ t. let own : id ≡ id_of n = same_key id (id_of n) (and_left (eq_by_cmp order id (id_of n)) (is_head n) t) in
    let head : drop 12 n.key ≡ big_bytes 4 0 = same_key (drop 12 n.key) (big_bytes 4 0) (and_right (eq_by_cmp order id (id_of n)) (is_head n) t) in
    let key : n.key ≡ chunk_key id 0 = sym (take-append-drop 12 n.key) ∙ ap (λ (l : List ℕ). l ++ drop 12 n.key) (sym own) ∙ ap (λ (l : List ℕ). id ++ l) head in
    ap (λ (k : List ℕ). is_eq (order k (chunk_key id 0))) key ∙ itself (chunk_key id 0))
    (λ t. let key : n.key ≡ chunk_key id 0 = same_key n.key (chunk_key id 0) t in
    and_from (eq_by_cmp order id (id_of n)) (is_head n)
    (ap (λ (k : List ℕ). is_eq (order id (take 12 k))) key ∙ ap (λ (k : List ℕ). is_eq (order id k)) (key_id id 0 long) ∙ itself id)
    (ap (λ (k : List ℕ). is_eq (order (drop 12 k) (big_bytes 4 0))) key ∙ ap (λ (k : List ℕ). is_eq (order k (big_bytes 4 0))) (key_behind id 0 long) ∙ itself (big_bytes 4 0)))

same_find : (p q : Node → Bool) (nodes : List Node) → ((n : Node) → p n ≡ q n) → find p nodes ≡ find q nodes
same_find p q [] same = refl
same_find p q (n ∷ nodes) same = ap (λ b. cond b (Some n) (find p nodes)) (same n) ∙ ap (λ o. cond (q n) (Some n) o) (same_find p q nodes same)

-- a value that nodes show is that of its head
shown_is : (id : List ℕ) (nodes : List Node) → length id ≡ 12 → value_of id (shown_values nodes) ≡ option_map (value_at nodes) (find (has_key (chunk_key id 0)) nodes)
shown_is id nodes long = found_value id nodes nodes ∙ ap (option_map (value_at nodes)) (same_find (is_head_of id) (has_key (chunk_key id 0)) nodes (λ n. same_test id n long))

-- ---- the nodes of one value

abbrev is_of : List ℕ → Node → Bool
is_of id n = bytes_eq (id_of n) id

of_value : (id : List ℕ) (j : ℕ) (nodes : List Node) → length id ≡ 12 → find (has_key (chunk_key id j)) nodes ≡ find (has_key (chunk_key id j)) (nodes_of_value id nodes)
of_value id j [] long = refl
of_value id j (n ∷ nodes) long =
    by_test (is_of id n)
    (λ t. ap (λ o. cond (has_key (chunk_key id j) n) (Some n) o) (of_value id j nodes long) ∙ sym (ap (λ b. find (has_key (chunk_key id j)) (cond b (n ∷ nodes_of_value id nodes) (nodes_of_value id nodes))) t))
    (λ f. find_later (has_key (chunk_key id j)) n nodes (other f) ∙ of_value id j nodes long ∙ sym (ap (λ b. find (has_key (chunk_key id j)) (cond b (n ∷ nodes_of_value id nodes) (nodes_of_value id nodes))) f))
  where
    other : is_of id n ≡ false → has_key (chunk_key id j) n ≡ false
    other f = by_test (has_key (chunk_key id j) n)
        (λ t. impossible (sym f ∙ equal_bytes (id_of n) id (ap (take 12) (same_key n.key (chunk_key id j) t) ∙ key_id id j long)))
        (λ g. g)

first_own : (id : List ℕ) (nodes : List Node) (n : Node) (rest : List Node) → nodes_of_value id nodes ≡ n ∷ rest → id_of n ≡ id
first_own id [] n rest e = absurd cc
first_own id (m ∷ nodes) n rest e =
    by_test (is_of id m)
    (λ t. ap id_of (sym (ap (first m) (sym (ap (λ b. cond b (m ∷ nodes_of_value id nodes) (nodes_of_value id nodes)) t) ∙ e))) ∙ same_bytes (id_of m) id t)
    (λ f. first_own id nodes n rest (sym (ap (λ b. cond b (m ∷ nodes_of_value id nodes) (nodes_of_value id nodes)) f) ∙ e))
  where
    first : Node → List Node → Node
    first d [] = d
    first d (x ∷ xs) = x

-- a value that has nodes is among those that are not whole where it is not
among : (q : List ℕ → Bool) (id : List ℕ) (nodes : List Node) (n : Node) (rest : List Node) → q id ≡ true → nodes_of_value id nodes ≡ n ∷ rest → list_any (bytes_eq id) (filter q (map id_of nodes)) ≡ true
among q id [] n rest t e = absurd cc
among q id (m ∷ nodes) n rest t e =
    by_test (is_of id m)
    (λ own. let same : id_of m ≡ id = same_bytes (id_of m) id own in
    ap (λ b. list_any (bytes_eq id) (cond b (id_of m ∷ filter q (map id_of nodes)) (filter q (map id_of nodes)))) (ap q same ∙ t)
    ∙ ap (λ b. b || list_any (bytes_eq id) (filter q (map id_of nodes))) (equal_bytes id (id_of m) (sym same)))
    (λ f. later (q (id_of m)) (among q id nodes n rest t (sym (ap (λ b. cond b (m ∷ nodes_of_value id nodes) (nodes_of_value id nodes)) f) ∙ e)))
  where
    either : (a b : Bool) → b ≡ true → (a || b) ≡ true
    either true b h = refl
    either false b h = h

    later : (b : Bool) → list_any (bytes_eq id) (filter q (map id_of nodes)) ≡ true → list_any (bytes_eq id) (cond b (id_of m ∷ filter q (map id_of nodes)) (filter q (map id_of nodes))) ≡ true
    later true h = either (bytes_eq id (id_of m)) (list_any (bytes_eq id) (filter q (map id_of nodes))) h
    later false h = h

-- ---- what is told of a length

abbrev pub Agree : List Node → List ℕ → Type 0
Agree nodes id = (size : ℕ) → has_head nodes id size ≡ has_length size (value_of id (shown_values nodes))

nothing : (id : List ℕ) (nodes : List Node) → length id ≡ 12 → nodes_of_value id nodes ≡ [] → Agree nodes id
nothing id nodes long e size =
    let none : find (has_key (chunk_key id 0)) nodes ≡ None = of_value id 0 nodes long ∙ ap (find (has_key (chunk_key id 0))) e in
    ap (λ (o : Option Node). tells_length size (option_map (λ (n : Node). n.data) o)) none
    ∙ sym (ap (has_length size) (shown_is id nodes long ∙ ap (option_map (value_at nodes)) none))

length_told : (value : LongValue) → length (head_data value) ≡ 8
length_told value = omega (arith, length-append (little_bytes 4 value.count) (little_bytes 4 (length value.bytes)), length-bytes_low_first 0 4 value.count, length-bytes_low_first 0 4 (length value.bytes))

whole : (id : List ℕ) (nodes : List Node) (number : ℕ) (head : Node) (chunks : List Node) → length id ≡ 12 → nodes_of_value id nodes ≡ head ∷ chunks → is_whole_value number id (head ∷ chunks) ≡ true → Agree nodes id
whole id nodes number head chunks long e t size =
    let own : id_of head ≡ id = first_own id nodes head chunks e in
    let is = spelled number id head chunks own t in
    let key : head.key ≡ chunk_key id 0 = ap (λ (n : Node). n.key) is.head_is in
    let found : find (has_key (chunk_key id 0)) nodes ≡ Some head =
    of_value id 0 nodes long ∙ ap (find (has_key (chunk_key id 0))) e ∙ find_first (has_key (chunk_key id 0)) head chunks (ap (λ (k : List ℕ). is_eq (order k (chunk_key id 0))) key ∙ itself (chunk_key id 0)) in
    let value : value_at nodes head ≡ is.value =
    value_by nodes (head ∷ chunks) head (λ j. ap (λ (i : List ℕ). find (has_key (chunk_key i j)) nodes) own ∙ of_value id j nodes long ∙ ap (find (has_key (chunk_key id j))) e ∙ ap (λ (i : List ℕ). find (has_key (chunk_key i j)) (head ∷ chunks)) (sym own)) ∙ is.value_is in
    let eight : (length head.data == 8) ≡ true = eq-eqb (length head.data) 8 (ap (λ (n : Node). length n.data) is.head_is ∙ length_told is.value) in
    ap (λ (o : Option Node). tells_length size (option_map (λ (n : Node). n.data) o)) found
    ∙ ap (λ b. b && (size_in head == size)) eight
    ∙ ap (λ (n : ℕ). n == size) is.told
    ∙ equal_turned (length is.value.bytes) size
    ∙ sym (ap (has_length size) (shown_is id nodes long ∙ ap (option_map (value_at nodes)) found ∙ ap Some value))

-- an identifier is that of a value of which the head tells the length, or not below the least that is not whole
pub settled : (number : ℕ) (nodes : List Node) (id : List ℕ) → length id ≡ 12 → Agree nodes id ⊎ (with_lesser (least_key (broken_among number nodes)) id ≡ least_key (broken_among number nodes))
settled number nodes id long = by (nodes_of_value id nodes) refl
  where
    by : (l : List Node) → nodes_of_value id nodes ≡ l → Agree nodes id ⊎ (with_lesser (least_key (broken_among number nodes)) id ≡ least_key (broken_among number nodes))
    by [] e = inl (nothing id nodes long e)
    by (head ∷ chunks) e =
        by_test (is_whole_value number id (head ∷ chunks))
        (λ t. inl (whole id nodes number head chunks long e t))
        (λ f. inr (least_among id (broken_among number nodes) (among (λ (k : List ℕ). not (is_whole_value number k (nodes_of_value k nodes))) id nodes head chunks (ap (λ (l : List Node). not (is_whole_value number id l)) e ∙ ap not f) e)))

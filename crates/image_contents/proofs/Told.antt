-- Nodes of which each value is whole are those of the values that they show.
use Rattle.std.proofs.Common.{◌≡◌, ◌≢◌, ℕ, zero, suc, ◌+◌, ◌-◌, ◌^◌, ◌<◌, ◌≤◌, Bool, true, false, ◌&&◌, cond, List, [], ◌∷◌, ◌++◌, length, take, drop, Option, Some, None, refl, sym, ap, subst, ◌∙◌, append_assoc, arith, inl, inr}
use Rattle.std.specs.Prelude.{◌⊎◌, ◌==◌, find, option_map, unwrap_or, bytes_eq}
use Rattle.std.specs.List.{AllByRecursion}
use Rattle.std.specs.Ordering.{eq_by_cmp, is_eq, is_lt, nat_cmp, ordering_then}
use Rattle.std.specs.Cmp.Lexicographic.{nat_list_cmp_total, slice_cmp}
use Rattle.std.specs.FinMap.Entries.{below_all, by_order, is_sorted}
use Rattle.std.specs.declared.cmp.Ordering.{Ordering}
use Rattle.std.specs.declared.cmp.Ordering.TheVariants.{Less, Equal, Greater}
use Rattle.std.proofs.Math.Seq.{take-append_seam, drop-append_seam}
use Rattle.std.proofs.lemmas.Bool.{and_from}
use Rattle.std.proofs.lemmas.List.{append-nil, length-append, length-take, take-append-drop}
use Rattle.byteorder.specs.Endian.{big_bytes, big_number, little_number}
use Rattle.byteorder.specs.Numbers.{big_number-reads_back}
use Rattle.common_lemmas.proofs.Booleans.{by_test, impossible}
use Rattle.common_lemmas.proofs.Lists.{all_append, all_parted, all_weaker}
use Rattle.common_lemmas.proofs.Options.{none_some}
use Rattle.common_lemmas.proofs.Orders.{less-irreflexive}
use Rattle.page_image.specs.Page.{IsBelow, Node}
use Rattle.btree_inplace.specs.Order.{get_in, has_key}
use Rattle.image_findings.specs.Images.{least_key}
use Rattle.image_findings.specs.ValueFindings.{is_whole_value}
use Rattle.long_value.specs.ChangedValues.{differ, itself}
use Rattle.long_value.specs.Shown.{bytes_in, id_of, is_head, shown_values, value_at, values_of_heads}
use Rattle.long_value.specs.Values.{LongValue, Values, chunk_count, chunk_key, head_node, nodes_of_values, order, put_value, with_value}
use Rattle.image_contents.specs.WholeValues.{IsWhole}
use Rattle.image_contents.proofs.Broken.{IsGroup, IsLater, IsOf, broken_among, broken_group, later_of, whole_group}
use Rattle.image_contents.proofs.Chunks.{AreAbove, chunk_at, chunks_from, value_is}
use Rattle.image_contents.proofs.Groups.{IsSpelled, spelled}
use Rattle.image_contents.proofs.Keys.{begins}
use Rattle.image_contents.proofs.Walks.{Rise, find_later}

-- ---- keys of two values

-- what begins with a lower identifier is lower
begun : (a b x y : List ℕ) → length a ≡ length b → IsBelow a b → IsBelow (a ++ x) (b ++ y)
begun [] [] x y long low = absurd cc
begun [] (c ∷ b) x y long low = absurd (omega (arith, long))
begun (c ∷ a) [] x y long low = absurd cc
begun (c ∷ a) (d ∷ b) x y long low = by (begun a b x y (omega (arith, long))) (nat_cmp c d) refl low
  where
    by : (IsBelow a b → IsBelow (a ++ x) (b ++ y)) → (o : Ordering) → nat_cmp c d ≡ o → ordering_then o (slice_cmp nat_cmp a b) ≡ Less → slice_cmp nat_cmp (c ∷ (a ++ x)) (d ∷ (b ++ y)) ≡ Less
    by rest Less e h = ap (λ (r : Ordering). ordering_then r (slice_cmp nat_cmp (a ++ x) (b ++ y))) e
    by rest Equal e h = ap (λ (r : Ordering). ordering_then r (slice_cmp nat_cmp (a ++ x) (b ++ y))) e ∙ rest h
    by rest Greater e h = absurd cc

-- a node of a value with an identifier of twelve bytes
abbrev pub IsNamed : Node → Type 0
IsNamed n = length (id_of n) ≡ 12

later_above : (id : List ℕ) (n : Node) → length id ≡ 12 → IsNamed n → IsLater id n → (k : ℕ) → IsBelow (chunk_key id k) n.key
later_above id n long named low k = subst (λ (key : List ℕ). IsBelow (chunk_key id k) key) (take-append-drop 12 n.key) (begun id (take 12 n.key) (big_bytes 4 k) (drop 12 n.key) (long ∙ sym named) low)

pub all_above : (id : List ℕ) (nodes : List Node) → length id ≡ 12 → AllByRecursion IsNamed nodes → AllByRecursion (IsLater id) nodes → AreAbove id nodes
all_above id [] long named low = tt
all_above id (n ∷ nodes) long named low = ((λ k few. later_above id n long named.0 low.0 k), all_above id nodes long named.1 low.1)

pub key_id : (id : List ℕ) (k : ℕ) → length id ≡ 12 → take 12 (chunk_key id k) ≡ id
key_id id k long = ap (λ (n : ℕ). take n (chunk_key id k)) (sym long) ∙ take-append_seam id (big_bytes 4 k)

key_chunk : (id : List ℕ) (k : ℕ) → length id ≡ 12 → drop 12 (chunk_key id k) ≡ big_bytes 4 k
key_chunk id k long = ap (λ (n : ℕ). drop n (chunk_key id k)) (sym long) ∙ drop-append_seam id (big_bytes 4 k)

-- ---- look-ups in a list of two parts

first_part : (key : List ℕ) (nodes others : List Node) → AllByRecursion (λ (n : Node). has_key key n ≡ false) others → find (has_key key) (nodes ++ others) ≡ find (has_key key) nodes
first_part key [] [] apart = refl
first_part key [] (n ∷ others) apart = find_later (has_key key) n others apart.0 ∙ first_part key [] others apart.1
first_part key (n ∷ nodes) others apart = ap (λ (o : Option Node). cond (has_key key n) (Some n) o) (first_part key nodes others apart)

pub second_part : (key : List ℕ) (nodes others : List Node) → AllByRecursion (λ (n : Node). has_key key n ≡ false) nodes → find (has_key key) (nodes ++ others) ≡ find (has_key key) others
second_part key [] others apart = refl
second_part key (n ∷ nodes) others apart = find_later (has_key key) n (nodes ++ others) apart.0 ∙ second_part key nodes others apart.1

bytes_by : (id : List ℕ) (k : ℕ) (nodes others : List Node) → ((j : ℕ) → find (has_key (chunk_key id j)) nodes ≡ find (has_key (chunk_key id j)) others) → bytes_in id k nodes ≡ bytes_in id k others
bytes_by id zero nodes others same = refl
bytes_by id (suc k) nodes others same =
    ap (λ (l : List ℕ). l ++ unwrap_or (get_in nodes (chunk_key id (suc k))) []) (bytes_by id k nodes others same)
    ∙ ap (λ (o : Option Node). bytes_in id k others ++ unwrap_or (option_map (λ (n : Node). n.data) o) []) (same (suc k))

pub value_by : (nodes others : List Node) (n : Node) → ((j : ℕ) → find (has_key (chunk_key (id_of n) j)) nodes ≡ find (has_key (chunk_key (id_of n) j)) others) → value_at nodes n ≡ value_at others n
value_by nodes others n same = ap (λ (b : List ℕ). record { count = little_number 4 n.data; bytes = b }) (bytes_by (id_of n) (chunk_count (little_number 4 (drop 4 n.data))) nodes others same)

not_later : (id : List ℕ) (n : Node) (k : ℕ) → length id ≡ 12 → IsLater id n → has_key (chunk_key id k) n ≡ false
not_later id n k long low = differ n.key (chunk_key id k) (λ e. less-irreflexive id (subst (λ (i : List ℕ). IsBelow id i) (ap (take 12) e ∙ key_id id k long) low))

not_own : (id : List ℕ) (m n : Node) (k : ℕ) → IsOf id m → IsNamed n → IsLater id n → has_key (chunk_key (id_of n) k) m ≡ false
not_own id m n k own named low = differ m.key (chunk_key (id_of n) k) (λ e. less-irreflexive id (subst (λ (i : List ℕ). IsBelow id i) (sym (key_id (id_of n) k named) ∙ sym (ap (take 12) e) ∙ own) low))

-- ---- what the nodes show

abbrev pub IsShownBehind : List ℕ → List ℕ × LongValue → Type 0
IsShownBehind id row = IsBelow id row.0

pub put_behind : (id key : List ℕ) (value : LongValue) (values : Values) → IsBelow id key → AllByRecursion (IsShownBehind id) values → AllByRecursion (IsShownBehind id) (put_value key value values)
put_behind id key value [] low all = (low, tt)
put_behind id key value (row ∷ values) low all = by (put_behind id key value values low all.1) (order key row.0)
  where
    by : AllByRecursion (IsShownBehind id) (put_value key value values) → (o : Ordering) → AllByRecursion (IsShownBehind id) (by_order o ((key, value) ∷ row ∷ values) ((row.0, value) ∷ values) (row ∷ put_value key value values))
    by rest Less = (low, all)
    by rest Equal = (all.0, all.1)
    by rest Greater = (all.0, rest)

heads_behind : (id : List ℕ) (nodes rest : List Node) → AllByRecursion (IsLater id) rest → AllByRecursion (IsShownBehind id) (values_of_heads nodes rest)
heads_behind id nodes [] later = tt
heads_behind id nodes (n ∷ rest) later = by (is_head n) (heads_behind id nodes rest later.1)
  where
    by : (b : Bool) → AllByRecursion (IsShownBehind id) (values_of_heads nodes rest) → AllByRecursion (IsShownBehind id) (cond b (put_value (id_of n) (value_at nodes n) (values_of_heads nodes rest)) (values_of_heads nodes rest))
    by true all = put_behind id (id_of n) (value_at nodes n) (values_of_heads nodes rest) later.0 all
    by false all = all

pub put_first : (id : List ℕ) (value : LongValue) (values : Values) → AllByRecursion (IsShownBehind id) values → put_value id value values ≡ (id, value) ∷ values
put_first id value [] all = refl
put_first id value (row ∷ values) all = ap (λ (o : Ordering). by_order o ((id, value) ∷ row ∷ values) ((row.0, value) ∷ values) (row ∷ put_value id value values)) all.0

is_below_all : (id : List ℕ) (values : Values) → AllByRecursion (IsShownBehind id) values → below_all order id values ≡ true
is_below_all id [] all = refl
is_below_all id (row ∷ values) all = and_from (is_lt (order id row.0)) (below_all order id values) (ap is_lt all.0) (is_below_all id values all.1)

-- the heads behind show the same without the nodes of a value before them
same_heads : (id : List ℕ) (group others rest : List Node) → AllByRecursion (IsOf id) group → AllByRecursion IsNamed rest → AllByRecursion (IsLater id) rest → values_of_heads (group ++ others) rest ≡ values_of_heads others rest
same_heads id group others [] own named later = refl
same_heads id group others (n ∷ rest) own named later =
    let more = same_heads id group others rest own named.1 later.1 in
    let value : value_at (group ++ others) n ≡ value_at others n =
    value_by (group ++ others) others n (λ j. second_part (chunk_key (id_of n) j) group others (all_weaker (IsOf id) (λ m. has_key (chunk_key (id_of n) j) m ≡ false) (λ m h. not_own id m n j h named.0 later.0) group own)) in
    ap (λ (v : LongValue). cond (is_head n) (put_value (id_of n) v (values_of_heads (group ++ others) rest)) (values_of_heads (group ++ others) rest)) value
    ∙ ap (λ (l : Values). cond (is_head n) (put_value (id_of n) (value_at others n) l) l) more

-- chunks are no heads
no_heads : (nodes : List Node) (id : List ℕ) (k m : ℕ) (bytes : List ℕ) (others : List Node) → length id ≡ 12 → 1 ≤ k → k + m ≤ 1025 → values_of_heads nodes (chunks_from id k bytes m ++ others) ≡ values_of_heads nodes others
no_heads nodes id k zero bytes others long some few = refl
no_heads nodes id k (suc m) bytes others long some few =
    ap (λ (b : Bool). cond b (put_value (id_of (chunk_at id k bytes)) (value_at nodes (chunk_at id k bytes)) (values_of_heads nodes (chunks_from id (suc k) (drop 1024 bytes) m ++ others))) (values_of_heads nodes (chunks_from id (suc k) (drop 1024 bytes) m ++ others))) not_head
    ∙ no_heads nodes id (suc k) m (drop 1024 bytes) others long (omega arith) (omega (arith, few))
  where
    number : big_bytes 4 k ≡ big_bytes 4 0 → ⊥
    number e =
        let same : k ≡ 0 = sym (big_number-reads_back 4 k [] (omega (arith, few))) ∙ ap (λ (x : List ℕ). big_number 4 (x ++ [])) e ∙ big_number-reads_back 4 0 [] (omega arith) in
        omega (arith, same, some)

    not_head : is_head (chunk_at id k bytes) ≡ false
    not_head = ap (λ (x : List ℕ). eq_by_cmp order x (big_bytes 4 0)) (key_chunk id k long) ∙ differ (big_bytes 4 k) (big_bytes 4 0) number

-- ---- the whole

pub record AreTold (nodes : List Node) : Type 0 where
  pub named : AllByRecursion IsNamed nodes
  pub in_order : is_sorted order (shown_values nodes) ≡ true
  pub whole : AllByRecursion IsWhole (shown_values nodes)
  pub nodes_are : nodes_of_values (shown_values nodes) ≡ nodes

chunks_named : (id : List ℕ) (chunks : List Node) → length id ≡ 12 → AllByRecursion (IsOf id) chunks → AllByRecursion IsNamed chunks
chunks_named id chunks long own = all_weaker (IsOf id) IsNamed (λ n h. ap (λ (l : List ℕ). length l) h ∙ long) chunks own

one_told : (number : ℕ) (id : List ℕ) (head : Node) (chunks others : List Node) → IsGroup number id head chunks → AllByRecursion (IsLater id) others → IsSpelled number id head chunks → AreTold others → AreTold ((head ∷ chunks) ++ others)
one_told number id head chunks others g later is told =
    let group : List Node = head ∷ chunks in
    let v : LongValue = is.value in
    let m : ℕ = chunk_count (length v.bytes) in
    let few : m ≤ 1024 = omega (arith, is.short) in
    let above = all_above id others is.long later-named later in
    let value : value_at (group ++ others) head ≡ v =
    value_by (group ++ others) group head (λ j. ap (λ (i : List ℕ). find (has_key (chunk_key i j)) (group ++ others)) g.own.0
    ∙ first_part (chunk_key id j) group others (all_weaker (IsLater id) (λ n. has_key (chunk_key id j) n ≡ false) (λ n low. not_later id n j is.long low) others later)
    ∙ ap (λ (i : List ℕ). find (has_key (chunk_key i j)) group) (sym g.own.0)) ∙ is.value_is in
    let behind : AllByRecursion (IsShownBehind id) (shown_values others) = heads_behind id others others later in
    let chunks-are : chunks ++ others ≡ chunks_from id 1 v.bytes m ++ others = ap (λ (l : List Node). l ++ others) is.chunks_are in
    let rest : values_of_heads (group ++ others) (chunks ++ others) ≡ shown_values others =
    ap (values_of_heads (group ++ others)) chunks-are
    ∙ no_heads (group ++ others) id 1 m v.bytes others is.long (omega arith) (omega (arith, few))
    ∙ same_heads id group others others g.own told.named later in
    let head-is : is_head head ≡ true = ap is_head is.head_is ∙ ap (λ (x : List ℕ). eq_by_cmp order x (big_bytes 4 0)) (key_chunk id 0 is.long) ∙ itself (big_bytes 4 0) in
    let shown : shown_values (group ++ others) ≡ (id, v) ∷ shown_values others =
    ap (λ (b : Bool). cond b (put_value (id_of head) (value_at (group ++ others) head) (values_of_heads (group ++ others) (chunks ++ others))) (values_of_heads (group ++ others) (chunks ++ others))) head-is
    ∙ ap (put_value (id_of head) (value_at (group ++ others) head)) rest
    ∙ ap (λ (i : List ℕ). put_value i (value_at (group ++ others) head) (shown_values others)) g.own.0
    ∙ ap (λ (w : LongValue). put_value id w (shown_values others)) value
    ∙ put_first id v (shown_values others) behind in
    record {
      named = all_append IsNamed group others (chunks_named id group is.long g.own) told.named;
      in_order = ap (is_sorted order) shown ∙ and_from (below_all order id (shown_values others)) (is_sorted order (shown_values others)) (is_below_all id (shown_values others) behind) told.in_order;
      whole = subst (AllByRecursion IsWhole) (sym shown) (record { id = is.long; long = is.some; short = is.short; few = is.few }, told.whole);
      nodes_are = ap nodes_of_values shown ∙ ap (with_value id v) told.nodes_are ∙ value_is id v others few above
          ∙ ap (λ (n : Node). n ∷ (chunks_from id 1 v.bytes m ++ others)) (sym is.head_is) ∙ ap (λ (l : List Node). head ∷ l) (sym chunks-are);
    }
  where
    later-named : AllByRecursion IsNamed others
    later-named = told.named

-- the value in hand is whole where none is broken, and so are those behind it
group_told : (number : ℕ) (id : List ℕ) (head : Node) (chunks others : List Node) → IsGroup number id head chunks → AllByRecursion (IsLater id) others → broken_among number ((head ∷ chunks) ++ others) ≡ []
    → (broken_among number others ≡ [] → AreTold others) → AreTold ((head ∷ chunks) ++ others)
group_told number id head chunks others g later e rest =
    let t : is_whole_value number id (head ∷ chunks) ≡ true = by_test (is_whole_value number id (head ∷ chunks)) (λ t. t) (λ f. none_some id (sym (ap least_key e) ∙ broken_group number id head chunks others g.own later f)) in
    one_told number id head chunks others g later (spelled number id head chunks g.own.0 t) (rest (sym (whole_group number id (head ∷ chunks) others g.own later t) ∙ e))

nothing_told : AreTold []
nothing_told = record { named = tt; in_order = refl; whole = tt; nodes_are = refl }

told_from : (number : ℕ) (id : List ℕ) (head : Node) (chunks nodes : List Node) → IsGroup number id head chunks → Rise (head ∷ (chunks ++ nodes)) → Rise nodes → broken_among number ((head ∷ chunks) ++ nodes) ≡ [] → AreTold ((head ∷ chunks) ++ nodes)
told_from number id head chunks [] g rise behind e = group_told number id head chunks [] g tt e (λ h. nothing_told)
told_from number id head chunks (n ∷ nodes) g rise behind e =
    by (λ wider up h. told_from number id head (chunks ++ n ∷ []) nodes wider up behind.1 h) (λ fresh h. told_from number (id_of n) n [] nodes fresh behind behind.1 h) (begins 12 head.key n.key above)
  where
    above : IsBelow head.key n.key
    above = (all_parted (λ (m : Node). IsBelow head.key m.key) chunks (n ∷ nodes) rise.0).1.0

    one_more : (chunks ++ n ∷ []) ++ nodes ≡ chunks ++ n ∷ nodes
    one_more = append_assoc chunks (n ∷ []) nodes

    by : (IsGroup number id head (chunks ++ n ∷ []) → Rise (head ∷ ((chunks ++ n ∷ []) ++ nodes)) → broken_among number ((head ∷ (chunks ++ n ∷ [])) ++ nodes) ≡ [] → AreTold ((head ∷ (chunks ++ n ∷ [])) ++ nodes))
        → (IsGroup number (id_of n) n [] → broken_among number (n ∷ nodes) ≡ [] → AreTold (n ∷ nodes))
        → (take 12 head.key ≡ take 12 n.key) ⊎ IsBelow (take 12 head.key) (take 12 n.key) → AreTold ((head ∷ chunks) ++ n ∷ nodes)
    by wider fresh (inl same) =
        subst (λ (l : List Node). AreTold (head ∷ l)) one_more
        (wider (record {
          own = (g.own.0, all_append (IsOf id) chunks (n ∷ []) g.own.1 (sym same ∙ g.own.0, tt));
          rise = all_append (λ (m : Node). IsBelow head.key m.key) chunks (n ∷ []) g.rise (above, tt);
        }) (subst (λ (l : List Node). Rise (head ∷ l)) (sym one_more) rise) (ap (λ (l : List Node). broken_among number (head ∷ l)) one_more ∙ e))
    by wider fresh (inr lower) =
        let low : IsBelow id (id_of n) = subst (λ (i : List ℕ). IsBelow i (id_of n)) g.own.0 lower in
        group_told number id head chunks (n ∷ nodes) g (later_of id n nodes low behind) e (fresh (record { own = (refl, tt); rise = tt }))

pub all_told : (number : ℕ) (nodes : List Node) → Rise nodes → broken_among number nodes ≡ [] → AreTold nodes
all_told number [] rise e = nothing_told
all_told number (n ∷ nodes) rise e = told_from number (id_of n) n [] nodes (record { own = (refl, tt); rise = tt }) rise rise.1 e

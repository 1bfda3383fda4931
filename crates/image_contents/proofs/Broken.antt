-- The first value that the pass finds is the least that is not whole.
use Rattle.std.proofs.Common.{◌≡◌, ◌≢◌, ℕ, suc, ◌+◌, ◌-◌, ◌<◌, ◌≤◌, Bool, true, false, ◌&&◌, cond, List, [], ◌∷◌, ◌++◌, length, take, Option, Some, None, refl, sym, ap, subst, ◌∙◌, append_assoc, arith, inl, inr}
use Rattle.std.specs.Prelude.{◌⊎◌, ◌==◌, not, filter, fold, map, bytes_eq}
use Rattle.std.specs.List.{AllByRecursion}
use Rattle.std.specs.Ordering.{nat_cmp}
use Rattle.std.specs.Cmp.Lexicographic.{nat_list_cmp_total, slice_cmp}
use Rattle.std.specs.FinMap.Entries.{by_order}
use Rattle.std.specs.declared.cmp.Ordering.{Ordering}
use Rattle.std.specs.declared.cmp.Ordering.TheVariants.{Less, Equal, Greater}
use Rattle.std.proofs.Math.Seq.{take-append_seam}
use Rattle.std.proofs.lemmas.Bool.{not_from_false, not_from_true}
use Rattle.std.proofs.lemmas.List.{length-append, length-take}
use Rattle.std.proofs.lemmas.List.Elements.{filter-append}
use Rattle.std.proofs.lemmas.List.Sums.{fold-append}
use Rattle.byteorder.specs.Endian.{big_bytes}
use Rattle.common_lemmas.proofs.Booleans.{and_left, by_test, impossible}
use Rattle.common_lemmas.proofs.Lists.{all_append, all_filter, all_map, all_parted, all_weaker, filter_all, filter_none}
use Rattle.common_lemmas.proofs.Numbers.{equal_bytes, same_bytes}
use Rattle.common_lemmas.proofs.Orders.{less-irreflexive}
use Rattle.index_derive.specs.Entries.{insert_key, sorted_keys}
use Rattle.index_derive.specs.RisingKeys.{all_insert_key}
use Rattle.page_image.specs.Page.{IsBelow, Node}
use Rattle.image_findings.specs.Images.{first_key, least_key}
use Rattle.image_findings.specs.ValueFindings.{is_whole_value, nodes_of_value}
use Rattle.long_value.specs.Shown.{id_of}
use Rattle.long_value.specs.Values.{chunk_key}
use Rattle.image_contents.specs.ValuePass.{Pass, all_passed, behind_chunk, broken, found_by, is_chunk, is_sound_head, lacks, passed, size_in, told_head, whole}
use Rattle.image_contents.proofs.Chunks.{stuck}
use Rattle.image_contents.proofs.Groups.{passed_whole, whole_passes}
use Rattle.image_contents.proofs.Keys.{begins}
use Rattle.image_contents.proofs.Passes.{IsBehind, head_key}
use Rattle.image_contents.proofs.Walks.{Rise}

-- ---- the least of some keys

abbrev IsFrom : List ℕ → List ℕ → Type 0
IsFrom id key = (id ≡ key) ⊎ IsBelow id key

all_sorted : (P : List ℕ → Type 0) (keys : List (List ℕ)) → AllByRecursion P keys → AllByRecursion P (sorted_keys keys)
all_sorted P [] all = tt
all_sorted P (key ∷ keys) all = all_insert_key P key (sorted_keys keys) all.0 (all_sorted P keys all.1)

first_inserted : (id : List ℕ) (keys : List (List ℕ)) → AllByRecursion (IsFrom id) keys → first_key (insert_key id keys) ≡ Some id
first_inserted id [] all = refl
first_inserted id (k ∷ keys) all = by (slice_cmp nat_cmp id k) refl all.0
  where
    by : (o : Ordering) → slice_cmp nat_cmp id k ≡ o → IsFrom id k → first_key (by_order o (id ∷ k ∷ keys) (k ∷ keys) (k ∷ insert_key id keys)) ≡ Some id
    by Less e from = refl
    by Equal e (inl same) = ap Some (sym same)
    by Equal e (inr lower) = absurd (differ (sym e ∙ lower))
      where
        differ : Equal ≡ Less → ⊥
        differ h = cc
    by Greater e (inl same) = ap Some (sym same)
    by Greater e (inr lower) = absurd (differ (sym e ∙ lower))
      where
        differ : Greater ≡ Less → ⊥
        differ h = cc

least_first : (id : List ℕ) (keys : List (List ℕ)) → AllByRecursion (IsFrom id) keys → least_key (id ∷ keys) ≡ Some id
least_first id keys all = first_inserted id (sorted_keys keys) (all_sorted (IsFrom id) keys all)

-- ---- values that are not whole among the nodes of some

abbrev is_broken : ℕ → List Node → List ℕ → Bool
is_broken number nodes id = not (is_whole_value number id (nodes_of_value id nodes))

abbrev pub broken_among : ℕ → List Node → List (List ℕ)
broken_among number nodes = filter (is_broken number nodes) (map id_of nodes)

-- the nodes of a value
abbrev pub IsOf : List ℕ → Node → Type 0
IsOf id n = id_of n ≡ id

-- the nodes of values behind one
abbrev pub IsLater : List ℕ → Node → Type 0
IsLater id n = IsBelow id (id_of n)

other_id : (id : List ℕ) (n : Node) → IsLater id n → bytes_eq (id_of n) id ≡ false
other_id id n later = by_test (bytes_eq (id_of n) id) (λ t. absurd (less-irreflexive id (subst (λ (k : List ℕ). IsBelow id k) (same_bytes (id_of n) id t) later))) (λ f. f)

map_append : (xs ys : List Node) → map id_of (xs ++ ys) ≡ map id_of xs ++ map id_of ys
map_append [] ys = refl
map_append (x ∷ xs) ys = ap (λ (l : List (List ℕ)). id_of x ∷ l) (map_append xs ys)

-- a list is parted into the nodes of one value and those of later ones
module _ (number : ℕ) (id : List ℕ) (group others : List Node) (own : AllByRecursion (IsOf id) group) (later : AllByRecursion (IsLater id) others) where
  own_nodes : nodes_of_value id (group ++ others) ≡ group
  own_nodes =
      filter-append (λ (n : Node). bytes_eq (id_of n) id) group others
      ∙ ap (λ (l : List Node). l ++ nodes_of_value id others) (filter_all (λ (n : Node). bytes_eq (id_of n) id) group (all_weaker (IsOf id) (λ n. bytes_eq (id_of n) id ≡ true) (λ n h. equal_bytes (id_of n) id h) group own))
      ∙ ap (λ (l : List Node). group ++ l) (filter_none (λ (n : Node). bytes_eq (id_of n) id) others (all_weaker (IsLater id) (λ n. bytes_eq (id_of n) id ≡ false) (other_id id) others later))
      ∙ nothing_behind group
    where
      nothing_behind : (l : List Node) → l ++ [] ≡ l
      nothing_behind [] = refl
      nothing_behind (n ∷ l) = ap (λ (m : List Node). n ∷ m) (nothing_behind l)

  later_nodes : (n : Node) → IsLater id n → nodes_of_value (id_of n) (group ++ others) ≡ nodes_of_value (id_of n) others
  later_nodes n low =
      filter-append (λ (m : Node). bytes_eq (id_of m) (id_of n)) group others
      ∙ ap (λ (l : List Node). l ++ nodes_of_value (id_of n) others) (filter_none (λ (m : Node). bytes_eq (id_of m) (id_of n)) group (all_weaker (IsOf id) (λ m. bytes_eq (id_of m) (id_of n) ≡ false) (λ m h. apart m h) group own))
    where
      apart : (m : Node) → id_of m ≡ id → bytes_eq (id_of m) (id_of n) ≡ false
      apart m h = by_test (bytes_eq (id_of m) (id_of n)) (λ t. absurd (less-irreflexive id (subst (λ (k : List ℕ). IsBelow id k) (sym (same_bytes (id_of m) (id_of n) t) ∙ h) low))) (λ f. f)

  same_later : (nodes : List Node) → AllByRecursion (IsLater id) nodes → filter (is_broken number (group ++ others)) (map id_of nodes) ≡ filter (is_broken number others) (map id_of nodes)
  same_later [] all = refl
  same_later (n ∷ nodes) all =
      ap (λ (l : List Node). cond (not (is_whole_value number (id_of n) l)) (id_of n ∷ filter (is_broken number (group ++ others)) (map id_of nodes)) (filter (is_broken number (group ++ others)) (map id_of nodes))) (later_nodes n all.0)
      ∙ ap (λ (l : List (List ℕ)). cond (is_broken number others (id_of n)) (id_of n ∷ l) l) (same_later nodes all.1)

  parted : broken_among number (group ++ others) ≡ filter (is_broken number (group ++ others)) (map id_of group) ++ broken_among number others
  parted =
      ap (filter (is_broken number (group ++ others))) (map_append group others)
      ∙ filter-append (is_broken number (group ++ others)) (map id_of group) (map id_of others)
      ∙ ap (λ (l : List (List ℕ)). filter (is_broken number (group ++ others)) (map id_of group) ++ l) (same_later others later)

  own_test : is_broken number (group ++ others) id ≡ not (is_whole_value number id group)
  own_test = ap (λ (l : List Node). not (is_whole_value number id l)) own_nodes

  pub whole_group : is_whole_value number id group ≡ true → broken_among number (group ++ others) ≡ broken_among number others
  whole_group t =
      parted ∙ ap (λ (l : List (List ℕ)). l ++ broken_among number others)
      (filter_none (is_broken number (group ++ others)) (map id_of group) (all_map (λ k. is_broken number (group ++ others) k ≡ false) id_of group
      (all_weaker (IsOf id) (λ n. is_broken number (group ++ others) (id_of n) ≡ false) (λ n h. ap (is_broken number (group ++ others)) h ∙ own_test ∙ ap not t) group own)))

  later_ids : AllByRecursion (IsFrom id) (broken_among number others)
  later_ids = all_filter (IsFrom id) (is_broken number others) (map id_of others) (all_map (IsFrom id) id_of others (all_weaker (IsLater id) (λ n. IsFrom id (id_of n)) (λ n low. inr low) others later))

pub broken_group : (number : ℕ) (id : List ℕ) (head : Node) (chunks others : List Node) → AllByRecursion (IsOf id) (head ∷ chunks) → AllByRecursion (IsLater id) others
    → is_whole_value number id (head ∷ chunks) ≡ false → least_key (broken_among number ((head ∷ chunks) ++ others)) ≡ Some id
broken_group number id head chunks others own later f =
    let group : List Node = head ∷ chunks in
    let kept : filter (is_broken number (group ++ others)) (map id_of group) ≡ map id_of group =
    filter_all (is_broken number (group ++ others)) (map id_of group) (all_map (λ k. is_broken number (group ++ others) k ≡ true) id_of group
    (all_weaker (IsOf id) (λ n. is_broken number (group ++ others) (id_of n) ≡ true) (λ n h. ap (is_broken number (group ++ others)) h ∙ own_test number id group others own later ∙ ap not f) group own)) in
    ap least_key (parted number id group others own later ∙ ap (λ (l : List (List ℕ)). l ++ broken_among number others) kept)
    ∙ ap (λ (k : List ℕ). least_key (k ∷ (map id_of chunks ++ broken_among number others))) own.0
    ∙ least_first id (map id_of chunks ++ broken_among number others)
    (all_append (IsFrom id) (map id_of chunks) (broken_among number others) (all_map (IsFrom id) id_of chunks (all_weaker (IsOf id) (λ n. IsFrom id (id_of n)) (λ n h. inl (sym h)) chunks own.1)) (later_ids number id group others own later))

-- ---- the state behind the nodes of one value

abbrev IsAt : List ℕ → Pass → Type 0
IsAt id whole = Unit {0}
IsAt id (lacks other k left) = (other ≡ id) × (length id ≡ 12)
IsAt id (broken other) = other ≡ id

twelve : (number : ℕ) (n : Node) → is_sound_head number n ≡ true → length (id_of n) ≡ 12
twelve number n t =
    let key : n.key ≡ take 12 n.key ++ big_bytes 4 0 = ap (λ (m : Node). m.key) (head_key number n t) in
    omega (arith, ap (λ (l : List ℕ). length l) key, length-append (take 12 n.key) (big_bytes 4 0), length-take 12 n.key)

at_next : (number : ℕ) (id : List ℕ) (p : Pass) (n : Node) → IsOf id n → IsAt id p → IsAt id (passed number p n)
at_next number id whole n own at = by (is_sound_head number n) refl
  where
    by : (b : Bool) → is_sound_head number n ≡ b → IsAt id (cond b (lacks (id_of n) 1 (size_in n)) (broken (id_of n)))
    by true t = (own, ap (λ (l : List ℕ). length l) (sym own) ∙ twelve number n t)
    by false t = own
at_next number id (lacks other k left) n own at = by (is_chunk other k left n)
  where
    by_left : (b : Bool) → IsAt id (cond b whole (lacks other (suc k) (left - 1024)))
    by_left true = tt
    by_left false = at

    by : (b : Bool) → IsAt id (cond b (behind_chunk other k left) (broken other))
    by true = by_left _
    by false = at.0
at_next number id (broken other) n own at = at

at_end : (number : ℕ) (id : List ℕ) (p : Pass) (nodes : List Node) → AllByRecursion (IsOf id) nodes → IsAt id p → IsAt id (all_passed number p nodes)
at_end number id p [] own at = at
at_end number id p (n ∷ nodes) own at = at_end number id (passed number p n) nodes own.1 (at_next number id p n own.0 at)

-- what is found there stays found
stays : (number : ℕ) (id : List ℕ) (p : Pass) (others : List Node) → IsAt id p → (p ≡ whole → ⊥) → AllByRecursion (IsLater id) others → found_by (all_passed number p others) ≡ Some id
stays number id whole others at open-end later = absurd (open-end refl)
stays number id (lacks other k left) [] at open-end later = ap Some at.0
stays number id (lacks other k left) (n ∷ others) at open-end later =
    ap (λ (b : Bool). found_by (all_passed number (cond b (behind_chunk other k left) (broken other)) others)) (by_test (is_chunk other k left n) refuted (λ f. f))
    ∙ ap found_by (stuck number other others) ∙ ap Some at.0
  where
    refuted : is_chunk other k left n ≡ true → is_chunk other k left n ≡ false
    refuted t =
        let key : n.key ≡ other ++ big_bytes 4 k = same_bytes n.key (chunk_key other k) (and_left (bytes_eq n.key (chunk_key other k)) _ t) in
        let same : id_of n ≡ id = ap (take 12) key ∙ ap (λ (i : List ℕ). take 12 (i ++ big_bytes 4 k)) at.0 ∙ ap (λ (m : ℕ). take m (id ++ big_bytes 4 k)) (sym at.1) ∙ take-append_seam id (big_bytes 4 k) in
        absurd (less-irreflexive id (subst (λ (i : List ℕ). IsBelow id i) same later.0))
stays number id (broken other) others at open-end later = ap found_by (stuck number other others) ∙ ap Some at

-- ---- the whole

-- the nodes of the value in hand, and those behind them
pub later_of : (id : List ℕ) (n : Node) (nodes : List Node) → IsBelow id (id_of n) → Rise (n ∷ nodes) → AllByRecursion (IsLater id) (n ∷ nodes)
later_of id n nodes low rise = (low, all_weaker (λ (m : Node). IsBelow n.key m.key) (IsLater id) (λ m h. by m (begins 12 n.key m.key h)) nodes rise.0)
  where
    by : (m : Node) → (take 12 n.key ≡ take 12 m.key) ⊎ IsBelow (take 12 n.key) (take 12 m.key) → IsLater id m
    by m (inl same) = subst (λ (i : List ℕ). IsBelow id i) same low
    by m (inr lower) = nat_list_cmp_total.trans id (take 12 n.key) (take 12 m.key) low lower

-- what is known of the nodes of the value in hand
pub record IsGroup (number : ℕ) (id : List ℕ) (head : Node) (chunks : List Node) : Type 0 where
  pub own : AllByRecursion (IsOf id) (head ∷ chunks)
  pub rise : AllByRecursion (λ (n : Node). IsBelow head.key n.key) chunks

behind : (number : ℕ) (id : List ℕ) (head : Node) (chunks : List Node) → IsGroup number id head chunks → is_sound_head number head ≡ true → AllByRecursion (IsBehind id) chunks
behind number id head chunks g t =
    let key : head.key ≡ chunk_key id 0 = ap (λ (n : Node). n.key) (head_key number head t) ∙ ap (λ (i : List ℕ). chunk_key i 0) g.own.0 in
    both chunks g.own.1 (subst (λ (k : List ℕ). AllByRecursion (λ (n : Node). IsBelow k n.key) chunks) key g.rise)
  where
    both : (nodes : List Node) → AllByRecursion (IsOf id) nodes → AllByRecursion (λ (n : Node). IsBelow (chunk_key id 0) n.key) nodes → AllByRecursion (IsBehind id) nodes
    both [] own low = tt
    both (n ∷ nodes) own low = ((own.0, low.0), both nodes own.1 low.1)

-- the pass over the nodes of a value that is not whole is not at its end
not_passed : (number : ℕ) (id : List ℕ) (head : Node) (chunks : List Node) → IsGroup number id head chunks → is_whole_value number id (head ∷ chunks) ≡ false → all_passed number whole (head ∷ chunks) ≡ whole → ⊥
not_passed number id head chunks g f e = by (is_sound_head number head) refl
  where
    by : (b : Bool) → is_sound_head number head ≡ b → ⊥
    by true t = differ (sym (passed_whole number id head chunks g.own.0 (behind number id head chunks g t) e) ∙ f)
      where
        differ : true ≡ false → ⊥
        differ h = cc
    by false t = differ (sym (stuck number (id_of head) chunks) ∙ sym (ap (λ (b : Bool). all_passed number (cond b (lacks (id_of head) 1 (size_in head)) (broken (id_of head))) chunks) t) ∙ e)
      where
        differ : broken (id_of head) ≡ whole → ⊥
        differ h = cc

group_ends : (number : ℕ) (id : List ℕ) (head : Node) (chunks others : List Node) → IsGroup number id head chunks → AllByRecursion (IsLater id) others
    → least_key (broken_among number others) ≡ found_by (all_passed number whole others)
    → least_key (broken_among number ((head ∷ chunks) ++ others)) ≡ found_by (all_passed number (all_passed number whole (head ∷ chunks)) others)
group_ends number id head chunks others g later rest =
    by_test (is_whole_value number id (head ∷ chunks))
    (λ t. ap least_key (whole_group number id (head ∷ chunks) others g.own later t) ∙ rest ∙ ap (λ (p : Pass). found_by (all_passed number p others)) (sym (whole_passes number id head chunks g.own.0 t)))
    (λ f. broken_group number id head chunks others g.own later f
    ∙ sym (stays number id (all_passed number whole (head ∷ chunks)) others (at_end number id whole (head ∷ chunks) g.own tt) (not_passed number id head chunks g f) later))

through : (number : ℕ) (id : List ℕ) (head : Node) (chunks nodes : List Node) → IsGroup number id head chunks → Rise (head ∷ (chunks ++ nodes)) → Rise nodes
    → least_key (broken_among number ((head ∷ chunks) ++ nodes)) ≡ found_by (all_passed number (all_passed number whole (head ∷ chunks)) nodes)
through number id head chunks [] g rise behind-rise = group_ends number id head chunks [] g tt refl
through number id head chunks (n ∷ nodes) g rise behind-rise =
    by (λ more up. through number id head (chunks ++ n ∷ []) nodes more up behind-rise.1) (λ next. through number (id_of n) n [] nodes next behind-rise behind-rise.1) (begins 12 head.key n.key above)
  where
    above : IsBelow head.key n.key
    above = (all_parted (λ (m : Node). IsBelow head.key m.key) chunks (n ∷ nodes) rise.0).1.0

    one_more : (chunks ++ n ∷ []) ++ nodes ≡ chunks ++ n ∷ nodes
    one_more = append_assoc chunks (n ∷ []) nodes

    by : (IsGroup number id head (chunks ++ n ∷ []) → Rise (head ∷ ((chunks ++ n ∷ []) ++ nodes)) → least_key (broken_among number ((head ∷ (chunks ++ n ∷ [])) ++ nodes)) ≡ found_by (all_passed number (all_passed number whole (head ∷ (chunks ++ n ∷ []))) nodes))
        → (IsGroup number (id_of n) n [] → least_key (broken_among number (n ∷ nodes)) ≡ found_by (all_passed number (all_passed number whole (n ∷ [])) nodes))
        → (take 12 head.key ≡ take 12 n.key) ⊎ IsBelow (take 12 head.key) (take 12 n.key) → least_key (broken_among number ((head ∷ chunks) ++ n ∷ nodes)) ≡ found_by (all_passed number (all_passed number whole (head ∷ chunks)) (n ∷ nodes))
    by wider fresh (inl same) =
        let more : IsGroup number id head (chunks ++ n ∷ []) = record {
          own = (g.own.0, all_append (IsOf id) chunks (n ∷ []) g.own.1 (sym same ∙ g.own.0, tt));
          rise = all_append (λ (m : Node). IsBelow head.key m.key) chunks (n ∷ []) g.rise (above, tt);
        } in
        ap (λ (l : List Node). least_key (broken_among number (head ∷ l))) (sym one_more)
        ∙ wider more (subst (λ (l : List Node). Rise (head ∷ l)) (sym one_more) rise)
        ∙ ap (λ (p : Pass). found_by (all_passed number p nodes)) (fold-append (passed number) whole (head ∷ chunks) (n ∷ []))
    by wider fresh (inr lower) =
        let low : IsBelow id (id_of n) = subst (λ (i : List ℕ). IsBelow i (id_of n)) g.own.0 lower in
        let next : IsGroup number (id_of n) n [] = record { own = (refl, tt); rise = tt } in
        group_ends number id head chunks (n ∷ nodes) g (later_of id n nodes low behind-rise) (fresh next)

pub least_broken : (number : ℕ) (nodes : List Node) → Rise nodes → least_key (broken_among number nodes) ≡ found_by (all_passed number whole nodes)
least_broken number [] rise = refl
least_broken number (n ∷ nodes) rise = through number (id_of n) n [] nodes (record { own = (refl, tt); rise = tt }) rise rise.1

-- A walk without a fault is one of a tree, and a tree of pages without marks is walked without a fault.
use Rattle.std.proofs.Common.{◌≡◌, ℕ, zero, suc, ◌+◌, ◌<◌, ◌≤◌, Bool, true, false, Option, Some, None, List, [], ◌∷◌, ◌++◌, length, refl, sym, ap, subst, ◌∙◌, arith}
use Rattle.std.specs.Prelude.{◌&&◌, not, ◌==◌, nat_le, slice_index_or, slice_set, if◌then◌else◌, All, is_some}
use Rattle.std.specs.List.{flat_map, list_all}
use Rattle.std.specs.Option.{option_or}
use Rattle.std.proofs.lemmas.Bool.Decides.{nat_tests}
use Rattle.common_lemmas.proofs.Booleans.{and_left, and_right, impossible}
use Rattle.common_lemmas.proofs.Options.{some_apart}
use Rattle.page_image.specs.Page.{Node, PageContents, IsBelow, IsPage, no_node, node_at, node_size}
use Rattle.page_space.specs.Frames.{Frames, page_at}
use Rattle.btree_inplace.specs.Shape.{IsBetween, IsInner, IsSubtree, IsTreeNode, IsTreePage, child_of, entries, page_in, pages}
use Rattle.tree_check.specs.Marks.{ArePages, with_marks}
use Rattle.tree_check.specs.Walks.{are_inner, child_fault, depth_within, ends_of, fault_among, fault_below, is_inner_page, is_lower, is_tree_node, is_tree_page, last_key, lies_between, names_child, page_fault}
use Rattle.tree_check.specs.declared.fault.WalkFault.{WalkFault}
use Rattle.tree_check.specs.declared.fault.WalkFault.TheVariants as faults
use Rattle.tree_check.proofs.MarkCounts.{Fresh, fresh_append, fresh_parted}
use Rattle.tree_check.proofs.Rising.{Rises, RisesFrom, all_below, all_from, below_upto, is-lower, lower_is, not-lower, not_lower_is, rises_append, rises_on_page}
use Rattle.tree_check.proofs.Walking.{among_next, depth_ends, depth_more, goes_among, inner_nodes, last_at, no_fault, page_is, unmarked, without_fault}

-- ---- tests

-- where none of two faults is found, neither is
or_none : (a b : Option WalkFault) → option_or a b ≡ None → (a ≡ None) × (b ≡ None)
or_none None b e = (refl, e)
or_none (Some f) b e = absurd (some_apart f e)

all_at : {X : Type 0} (test : X → Bool) (xs : List X) (i : ℕ) (d : X) → list_all test xs ≡ true → i < length xs → test (slice_index_or xs i d) ≡ true
all_at test [] i d e h = absurd (omega arith)
all_at test (x ∷ xs) zero d e h = and_left (test x) (list_all test xs) e
all_at test (x ∷ xs) (suc i) d e h = all_at test xs i d (and_right (test x) (list_all test xs) e) (omega arith)

equal_is : (a b : ℕ) → (a == b) ≡ true → a ≡ b
equal_is a b e = grind (arith, nat_tests)

at_most_is : (a b : ℕ) → nat_le a b ≡ true → a ≤ b
at_most_is a b e = grind (arith, nat_tests)

is-equal : (a b : ℕ) → a ≡ b → (a == b) ≡ true
is-equal a b e = grind (arith, nat_tests)

is-at_most : (a b : ℕ) → a ≤ b → nat_le a b ≡ true
is-at_most a b e = grind (arith, nat_tests)

empty_is : {X : Type 0} (xs : List X) → length xs ≡ 0 → xs ≡ []
empty_is [] e = refl
empty_is (x ∷ xs) e = absurd (omega arith)

not_false : (b : Bool) → not b ≡ true → b ≡ false
not_false true e = impossible e
not_false false e = refl

-- ---- pages

small : (nodes : List Node) → list_all is_tree_node nodes ≡ true → All IsTreeNode nodes
small nodes e i d h =
    let n = slice_index_or nodes i d in
    let is = all_at is_tree_node nodes i d e h in
    record {
      size = at_most_is (node_size n) 2032 (and_right (nat_le (length n.key) 755) (nat_le (node_size n) 2032) is);
      key = at_most_is (length n.key) 755 (and_left (nat_le (length n.key) 755) (nat_le (node_size n) 2032) is);
    }

tree_page : (frames : Frames) (page kind : ℕ) → is_tree_page kind page (page_at frames page) ≡ true → IsPage (page_in frames page) → IsTreePage frames page kind
tree_page frames page kind e is = at (page_at frames page) refl e
  where
    at : (o : Option PageContents) → page_at frames page ≡ o → is_tree_page kind page o ≡ true → IsTreePage frames page kind
    at None there e = impossible e
    at (Some p) there e =
        let same : p ≡ page_in frames page = sym (page_is frames page p there) in
        let more = and_right (p.number == page) ((p.kind == kind) && list_all is_tree_node p.nodes) e in
        record {
          taken = ap is_some there;
          number = sym (ap (λ (q : PageContents). q.number) same) ∙ equal_is p.number page (and_left (p.number == page) ((p.kind == kind) && list_all is_tree_node p.nodes) e);
          kind = sym (ap (λ (q : PageContents). q.kind) same) ∙ equal_is p.kind kind (and_left (p.kind == kind) (list_all is_tree_node p.nodes) more);
          page = is;
          small = small (page_in frames page).nodes (ap (λ (q : PageContents). list_all is_tree_node q.nodes) (sym same) ∙ and_right (p.kind == kind) (list_all is_tree_node p.nodes) more);
        }

is_inner : (nodes : List Node) → are_inner nodes ≡ true → IsInner nodes
is_inner [] e = impossible e
is_inner (n ∷ nodes) e =
    let all = and_right (length n.key == 0) (list_all names_child (n ∷ nodes)) e in
    record {
      some = omega arith;
      first = empty_is n.key (equal_is (length n.key) 0 (and_left (length n.key == 0) (list_all names_child (n ∷ nodes)) e));
      children = λ i d h. let m = slice_index_or (n ∷ nodes) i d in equal_is (length m.data) 4 (and_left (length m.data == 4) (m.extent == 4) (all_at names_child (n ∷ nodes) i d all h));
      extents = λ i d h. let m = slice_index_or (n ∷ nodes) i d in equal_is m.extent 4 (and_right (length m.data == 4) (m.extent == 4) (all_at names_child (n ∷ nodes) i d all h));
    }

-- ---- children in their places

-- what stands below a child without a fault: it has a first node, and lies between the child's key and the next one
record Below (n : Node) (nodes below : List Node) : Type 0 where
  e : Node
  es : List Node
  is : below ≡ e ∷ es
  between : lies_between n nodes (e.key, last_key e.key es) ≡ true

below_child : (page : ℕ) (n : Node) (nodes below : List Node) → child_fault page n nodes (ends_of below) ≡ None → Below n nodes below
below_child page n nodes [] t = absurd (some_apart (faults.Broken (child_of n)) t)
below_child page n nodes (e ∷ es) t = record { e = e; es = es; is = refl; between = holds (lies_between n nodes (e.key, last_key e.key es)) t }
  where
    holds : (b : Bool) → (if b then None else Some (faults.Broken page)) ≡ None → b ≡ true
    holds true t = refl
    holds false t = absurd (some_apart (faults.Broken page) t)

first_between : (n : Node) (nodes : List Node) (e : Node) (es : List Node) → lies_between n nodes (e.key, last_key e.key es) ≡ true → ¬ IsBelow e.key n.key
first_between n nodes e es t = not_lower_is e.key n.key (and_left (not (is_lower e.key n.key)) _ t)

last_between : (n m : Node) (nodes : List Node) (e : Node) (es : List Node) → lies_between n (m ∷ nodes) (e.key, last_key e.key es) ≡ true → IsBelow (last_key e.key es) m.key
last_between n m nodes e es t = lower_is (last_key e.key es) m.key (and_right (not (is_lower e.key n.key)) (is_lower (last_key e.key es) m.key) t)

is_between : (n : Node) (nodes : List Node) (e : Node) (es : List Node) → lies_between n nodes (e.key, last_key e.key es) ≡ true → RisesFrom e.key es → IsBetween (n ∷ nodes) 0 (e ∷ es)
is_between n [] e es t r = record { some = omega arith; lower = all_from n.key e es (first_between n [] e es t) r; upper = λ h. absurd (omega (arith, h)) }
is_between n (m ∷ nodes) e es t r = record { some = omega arith; lower = all_from n.key e es (first_between n (m ∷ nodes) e es t) r; upper = λ h. all_below m.key e es (last_between n m nodes e es t) r }

between_behind : (n : Node) (nodes : List Node) (i : ℕ) (below : List Node) → IsBetween nodes i below → IsBetween (n ∷ nodes) (suc i) below
between_behind n nodes i below b = record { some = b.some; lower = b.lower; upper = λ h. subst (λ k. All (λ e. IsBelow e.key (node_at (n ∷ nodes) k).key) below) same (upper (omega (arith, h))) }
  where
    same : suc (i + 1) ≡ suc i + 1
    same = omega arith

    upper : i + 1 < length nodes → All (λ e. IsBelow e.key (node_at (n ∷ nodes) (suc (i + 1))).key) below
    upper h = b.upper h

-- ---- a walk without a fault

pub record Sound (depth : ℕ) (frames : Frames) (marks : List Bool) (page : ℕ) : Type 0 where
  pub shape : IsSubtree depth frames page
  pub fresh : Fresh (pages depth frames page) marks
  pub rises : Rises (entries depth frames page)

abbrev Walked : ℕ → Frames → Type 0
Walked depth frames = (marks : List Bool) (page : ℕ) → fault_below depth frames marks page ≡ None → ArePages depth frames page → Sound depth frames marks page

record SoundAmong (depth : ℕ) (frames : Frames) (marks : List Bool) (nodes : List Node) : Type 0 where
  shapes : (i : ℕ) → i < length nodes → IsSubtree depth frames (child_of (node_at nodes i))
  between : (i : ℕ) → i < length nodes → IsBetween nodes i (entries depth frames (child_of (node_at nodes i)))
  fresh : Fresh (flat_map (λ n. pages depth frames (child_of n)) nodes) marks
  rises : Rises (flat_map (λ n. entries depth frames (child_of n)) nodes)
  from : (n : Node) (rest : List Node) → nodes ≡ n ∷ rest → (e : Node) × (es : List Node) × (flat_map (λ n. entries depth frames (child_of n)) nodes ≡ e ∷ es) × (¬ IsBelow e.key n.key)

join_rising : (e : Node) (es : List Node) (next : List Node) → RisesFrom e.key es → Rises next → ((f : Node) (fs : List Node) → next ≡ f ∷ fs → IsBelow (last_key e.key es) f.key) → RisesFrom e.key (es ++ next)
join_rising e es [] r s lt = subst (RisesFrom e.key) (sym (nil es)) r
  where
    nil : (xs : List Node) → xs ++ [] ≡ xs
    nil [] = refl
    nil (x ∷ xs) = ap (λ l. x ∷ l) (nil xs)
join_rising e es (f ∷ fs) r s lt = rises_append e.key es f fs r (lt f fs refl) s

sound_among : (depth : ℕ) (frames : Frames) (page : ℕ) (marks : List Bool) (nodes : List Node) → Walked depth frames → fault_among (fault_below depth frames) (pages depth frames) (entries depth frames) page marks nodes ≡ None → ((i : ℕ) → i < length nodes → ArePages depth frames (child_of (node_at nodes i))) → SoundAmong depth frames marks nodes
sound_among depth frames page marks [] walked e are = record { shapes = λ i h. absurd (omega (arith, h)); between = λ i h. absurd (omega (arith, h)); fresh = tt; rises = tt; from = λ n rest same. absurd (omega (arith, ap (λ (l : List Node). length l) same)) }
sound_among depth frames page marks (n ∷ nodes) walked e are =
    let own = λ (m : Node). pages depth frames (child_of m) in
    let below = λ (m : Node). entries depth frames (child_of m) in
    let parts = or_none (fault_below depth frames marks (child_of n)) (option_or (child_fault page n nodes (ends_of (below n))) (fault_among (fault_below depth frames) (pages depth frames) (entries depth frames) page (with_marks (own n) marks) nodes)) e in
    let more = or_none (child_fault page n nodes (ends_of (below n))) (fault_among (fault_below depth frames) (pages depth frames) (entries depth frames) page (with_marks (own n) marks) nodes) parts.1 in
    let one : Sound depth frames marks (child_of n) = walked marks (child_of n) parts.0 (are 0 (omega arith)) in
    let rest = sound_among depth frames page (with_marks (own n) marks) nodes walked more.1 (λ i h. are (suc i) (omega (arith, h))) in
    let some = below_child page n nodes (below n) more.0 in
    let rising : RisesFrom some.e.key some.es = subst Rises some.is one.rises in
    let joined : flat_map below (n ∷ nodes) ≡ some.e ∷ (some.es ++ flat_map below nodes) = ap (λ (l : List Node). l ++ flat_map below nodes) some.is in
    let whole : RisesFrom some.e.key (some.es ++ flat_map below nodes) = join_rising some.e some.es (flat_map below nodes) rising rest.rises (next nodes some.e some.es some.between rest.from) in
    record {
      shapes = shapes one.shape rest.shapes;
      between = between (subst (IsBetween (n ∷ nodes) 0) (sym some.is) (is_between n nodes some.e some.es some.between rising)) rest.between;
      fresh = fresh_append (own n) (flat_map own nodes) marks one.fresh rest.fresh;
      rises = subst Rises (sym joined) whole;
      from = λ m others same. (some.e, some.es ++ flat_map below nodes, joined, subst (λ (l : List Node). ¬ IsBelow some.e.key (node_at l 0).key) same (first_between n nodes some.e some.es some.between));
    }
  where
    shapes : IsSubtree depth frames (child_of n) → ((i : ℕ) → i < length nodes → IsSubtree depth frames (child_of (node_at nodes i))) → (i : ℕ) → i < suc (length nodes) → IsSubtree depth frames (child_of (node_at (n ∷ nodes) i))
    shapes one rest zero h = one
    shapes one rest (suc i) h = rest i (omega arith)

    between : IsBetween (n ∷ nodes) 0 (entries depth frames (child_of n)) → ((i : ℕ) → i < length nodes → IsBetween nodes i (entries depth frames (child_of (node_at nodes i)))) → (i : ℕ) → i < suc (length nodes) → IsBetween (n ∷ nodes) i (entries depth frames (child_of (node_at (n ∷ nodes) i)))
    between one rest zero h = one
    between one rest (suc i) h = between_behind n nodes i (entries depth frames (child_of (node_at nodes i))) (rest i (omega arith))

    next : (nodes : List Node) (e : Node) (es : List Node) → lies_between n nodes (e.key, last_key e.key es) ≡ true → ((m : Node) (rest : List Node) → nodes ≡ m ∷ rest → (f : Node) × (fs : List Node) × (flat_map (λ n. entries depth frames (child_of n)) nodes ≡ f ∷ fs) × (¬ IsBelow f.key m.key))
        → (f : Node) (fs : List Node) → flat_map (λ n. entries depth frames (child_of n)) nodes ≡ f ∷ fs → IsBelow (last_key e.key es) f.key
    next [] e es t from f fs same = absurd (omega (arith, ap (λ (l : List Node). length l) same))
    next (m ∷ rest) e es t from f fs same =
        let head = from m rest refl in
        let key : head.0.key ≡ f.key = ap (λ (l : List Node). (node_at l 0).key) (sym head.2 ∙ same) in
        below_upto (last_key e.key es) m.key f.key (last_between n m rest e es t) (subst (λ (k : List ℕ). ¬ IsBelow k m.key) key head.3)

taken_page : (frames : Frames) (page kind : ℕ) → is_tree_page kind page (page_at frames page) ≡ true → is_some (page_at frames page) ≡ true
taken_page frames page kind e = at (page_at frames page) e
  where
    at : (o : Option PageContents) → is_tree_page kind page o ≡ true → is_some o ≡ true
    at None e = impossible e
    at (Some p) e = refl

pub sound : (depth : ℕ) (frames : Frames) → Walked depth frames
sound zero frames marks page e are =
    let test = without_fault (is_tree_page 1 page (page_at frames page)) frames marks page e in
    record {
      shape = tree_page frames page 1 test.0 are;
      fresh = (unmarked frames marks page (taken_page frames page 1 test.0) test.1, tt);
      rises = rises_on_page (page_in frames page).nodes are.rising;
    }
sound (suc depth) frames marks page e are =
    let nodes = (page_in frames page).nodes in
    let parts = or_none (page_fault (is_inner_page frames page) frames marks page) (fault_among (fault_below depth frames) (pages depth frames) (entries depth frames) page (slice_set marks page true) nodes) e in
    let test = without_fault (is_inner_page frames page) frames marks page parts.0 in
    let form : is_tree_page 2 page (page_at frames page) ≡ true = and_left (is_tree_page 2 page (page_at frames page)) (are_inner nodes) test.0 in
    let among = sound_among depth frames page (slice_set marks page true) nodes (sound depth frames) parts.1 are.1 in
    record {
      shape = (tree_page frames page 2 form are.0, is_inner nodes (inner_nodes frames page test.0), among.shapes, among.between);
      fresh = (unmarked frames marks page (taken_page frames page 2 form) test.1, among.fresh);
      rises = among.rises;
    }

-- ---- a tree of pages without marks

is-tree_page : (frames : Frames) (page kind : ℕ) → IsTreePage frames page kind → is_tree_page kind page (page_at frames page) ≡ true
is-tree_page frames page kind t = at (page_at frames page) refl t.taken
  where
    at : (o : Option PageContents) → page_at frames page ≡ o → is_some o ≡ true → is_tree_page kind page o ≡ true
    at None there e = impossible e
    at (Some p) there e =
        let same : page_in frames page ≡ p = page_is frames page p there in
        both (p.number == page) ((p.kind == kind) && list_all is_tree_node p.nodes)
        (is-equal p.number page (sym (ap (λ (q : PageContents). q.number) same) ∙ t.number))
        (both (p.kind == kind) (list_all is_tree_node p.nodes)
        (is-equal p.kind kind (sym (ap (λ (q : PageContents). q.kind) same) ∙ t.kind))
        (all_nodes p.nodes (subst (λ (q : PageContents). All IsTreeNode q.nodes) same t.small)))
      where
        both : (a b : Bool) → a ≡ true → b ≡ true → (a && b) ≡ true
        both a b e f = ap (λ x. x && b) e ∙ f

        all_nodes : (nodes : List Node) → All IsTreeNode nodes → list_all is_tree_node nodes ≡ true
        all_nodes [] all = refl
        all_nodes (n ∷ nodes) all =
            let one = all 0 no_node (omega arith) in
            both (is_tree_node n) (list_all is_tree_node nodes) (both (nat_le (length n.key) 755) (nat_le (node_size n) 2032) (is-at_most (length n.key) 755 one.key) (is-at_most (node_size n) 2032 one.size))
            (all_nodes nodes (λ i d h. all (suc i) d (omega (arith, h))))

both_true : (a b : Bool) → a ≡ true → b ≡ true → (a && b) ≡ true
both_true a b e f = ap (λ x. x && b) e ∙ f

all_children : (nodes : List Node) → All (λ n. length n.data ≡ 4) nodes → All (λ n. n.extent ≡ 4) nodes → list_all names_child nodes ≡ true
all_children [] wide kept = refl
all_children (n ∷ nodes) wide kept =
    both_true (names_child n) (list_all names_child nodes)
    (both_true (length n.data == 4) (n.extent == 4) (is-equal (length n.data) 4 (wide 0 no_node (omega arith))) (is-equal n.extent 4 (kept 0 no_node (omega arith))))
    (all_children nodes (λ i d h. wide (suc i) d (omega (arith, h))) (λ i d h. kept (suc i) d (omega (arith, h))))

is-inner : (nodes : List Node) → IsInner nodes → are_inner nodes ≡ true
is-inner [] t = absurd (omega (arith, t.some))
is-inner (n ∷ nodes) t = both_true (length n.key == 0) (list_all names_child (n ∷ nodes)) (is-equal (length n.key) 0 (ap (λ (k : List ℕ). length k) t.first)) (all_children (n ∷ nodes) t.children t.extents)

pub is-inner_page : (depth : ℕ) (frames : Frames) (page : ℕ) → IsSubtree (suc depth) frames page → is_inner_page frames page ≡ true
is-inner_page depth frames page t = both_true (is_tree_page 2 page (page_at frames page)) (are_inner (page_in frames page).nodes) (is-tree_page frames page 2 t.0) (is-inner (page_in frames page).nodes t.1)

leaf_is_no_inner : (frames : Frames) (page : ℕ) → IsSubtree 0 frames page → is_inner_page frames page ≡ false
leaf_is_no_inner frames page t = at (is_inner_page frames page) refl
  where
    kinds : is_inner_page frames page ≡ true → IsPage (page_in frames page) → ⊥
    kinds e is = omega (arith, t.kind, (tree_page frames page 2 (and_left (is_tree_page 2 page (page_at frames page)) (are_inner (page_in frames page).nodes) e) is).kind)

    at : (b : Bool) → is_inner_page frames page ≡ b → is_inner_page frames page ≡ false
    at true e = absurd (kinds e t.page)
    at false e = e

-- the depth of a tree is how many inner pages there are on the way down by the first children
pub depth_is : (depth most : ℕ) (frames : Frames) (page : ℕ) → IsSubtree depth frames page → depth ≤ most → depth_within most frames page ≡ depth
depth_is zero most frames page t h = depth_ends most frames page (leaf_is_no_inner frames page t)
depth_is (suc depth) zero frames page t h = absurd (omega arith)
depth_is (suc depth) (suc most) frames page t h = depth_more most frames page (is-inner_page depth frames page t) ∙ ap suc (depth_is depth most frames (child_of (node_at (page_in frames page).nodes 0)) (t.2 0 t.1.some) (omega arith))

-- ---- the walk of a tree

lies : (n : Node) (nodes : List Node) (e : Node) (es : List Node) → IsBetween (n ∷ nodes) 0 (e ∷ es) → lies_between n nodes (e.key, last_key e.key es) ≡ true
lies n [] e es b = both_true (not (is_lower e.key n.key)) true (not-lower e.key n.key (b.lower 0 no_node (omega arith))) refl
lies n (m ∷ nodes) e es b =
    both_true (not (is_lower e.key n.key)) (is_lower (last_key e.key es) m.key) (not-lower e.key n.key (b.lower 0 no_node (omega arith)))
    (is-lower (last_key e.key es) m.key (subst (λ (k : List ℕ). IsBelow k m.key) (sym (last_at e.key e es)) (b.upper (omega arith) (length es) no_node (omega arith))))

child_whole : (page : ℕ) (n : Node) (nodes below : List Node) → IsBetween (n ∷ nodes) 0 below → child_fault page n nodes (ends_of below) ≡ None
child_whole page n nodes [] b = absurd (omega (arith, b.some))
child_whole page n nodes (e ∷ es) b = ap (λ t. if t then None else Some (faults.Broken page)) (lies n nodes e es b)

between_in_front : (n : Node) (nodes : List Node) (i : ℕ) (below : List Node) → IsBetween (n ∷ nodes) (suc i) below → IsBetween nodes i below
between_in_front n nodes i below b = record { some = b.some; lower = b.lower; upper = λ h. upper (b.upper (omega (arith, h))) }
  where
    same : suc i + 1 ≡ suc (i + 1)
    same = omega arith

    upper : All (λ e. IsBelow e.key (node_at (n ∷ nodes) (suc i + 1)).key) below → All (λ e. IsBelow e.key (node_at nodes (i + 1)).key) below
    upper all = subst (λ k. All (λ e. IsBelow e.key (node_at (n ∷ nodes) k).key) below) same all

whole_among : (depth : ℕ) (frames : Frames) (page : ℕ) (marks : List Bool) (nodes : List Node) → ((marks : List Bool) (q : ℕ) → IsSubtree depth frames q → Fresh (pages depth frames q) marks → fault_below depth frames marks q ≡ None)
    → ((i : ℕ) → i < length nodes → IsSubtree depth frames (child_of (node_at nodes i))) → ((i : ℕ) → i < length nodes → IsBetween nodes i (entries depth frames (child_of (node_at nodes i)))) → Fresh (flat_map (λ n. pages depth frames (child_of n)) nodes) marks
    → fault_among (fault_below depth frames) (pages depth frames) (entries depth frames) page marks nodes ≡ None
whole_among depth frames page marks [] whole shapes between fresh = refl
whole_among depth frames page marks (n ∷ nodes) whole shapes between fresh =
    let own = λ (m : Node). pages depth frames (child_of m) in
    let parts = fresh_parted (own n) (flat_map own nodes) marks fresh in
    among_next depth frames page marks n nodes (whole marks (child_of n) (shapes 0 (omega arith)) parts.0) (child_whole page n nodes (entries depth frames (child_of n)) (between 0 (omega arith)))
    ∙ whole_among depth frames page (with_marks (own n) marks) nodes whole (λ i h. shapes (suc i) (omega (arith, h))) (λ i h. between_in_front n nodes i (entries depth frames (child_of (node_at nodes i))) (between (suc i) (omega (arith, h)))) parts.1

pub whole : (depth : ℕ) (frames : Frames) (marks : List Bool) (page : ℕ) → IsSubtree depth frames page → Fresh (pages depth frames page) marks → fault_below depth frames marks page ≡ None
whole zero frames marks page t (free, rest) = no_fault (is_tree_page 1 page (page_at frames page)) frames marks page (is-tree_page frames page 1 t) free
whole (suc depth) frames marks page t (free, rest) =
    goes_among depth frames marks page (no_fault (is_inner_page frames page) frames marks page (is-inner_page depth frames page t) free)
    ∙ whole_among depth frames page (slice_set marks page true) (page_in frames page).nodes (whole depth frames) t.2 t.3 rest

-- The walk of a tree, page by page.
use Rattle.std.proofs.Common.{◌≡◌, ℕ, zero, suc, ◌-◌, ◌<◌, ◌≤◌, Bool, true, false, Option, Some, None, List, [], ◌∷◌, ◌++◌, length, take, refl, sym, ap, subst, ◌∙◌, arith}
use Rattle.std.specs.Prelude.{drop, ◌&&◌, ◌==◌, is_some, slice_set, if◌then◌else◌, unwrap_or}
use Rattle.std.specs.List.{flat_map, list_all}
use Rattle.std.specs.Option.{option_or}
use Rattle.std.proofs.lemmas.Bool.Decides.{nat_tests}
use Rattle.common_lemmas.proofs.Booleans.{and_false, and_left, and_right, impossible}
use Rattle.common_lemmas.proofs.Options.{some_apart}
use Rattle.page_image.specs.Page.{Node, PageContents, node_at}
use Rattle.page_space.specs.Frames.{Frames, empty_page, page_at}
use Rattle.btree_inplace.specs.Shape.{child_of, entries, page_in, pages}
use Rattle.tree_check.specs.Marks.{is_marked, with_marks}
use Rattle.tree_check.specs.Walks.{are_inner, child_fault, depth_within, ends_of, fault_among, fault_below, is_inner_page, is_tree_page, joined_ends, last_key, names_child, page_fault}
use Rattle.tree_check.specs.declared.fault.WalkFault.{WalkFault}
use Rattle.tree_check.specs.declared.fault.WalkFault.TheVariants as faults
use Rattle.tree_check.proofs.Lists.{all_at, drop-next, drop-past, flat_next, take-past}

pub page_is : (frames : Frames) (page : ℕ) (p : PageContents) → page_at frames page ≡ Some p → page_in frames page ≡ p
page_is frames page p e = ap (λ (o : Option PageContents). unwrap_or o (empty_page page)) e

-- ---- depths

pub depth_ends : (most : ℕ) (frames : Frames) (page : ℕ) → is_inner_page frames page ≡ false → depth_within most frames page ≡ 0
unfolding depth_within
depth_ends zero frames page e = refl
depth_ends (suc most) frames page e = ap (λ b. if b then suc (depth_within most frames (child_of (node_at (page_in frames page).nodes 0))) else 0) e

pub depth_more : (most : ℕ) (frames : Frames) (page : ℕ) → is_inner_page frames page ≡ true → depth_within (suc most) frames page ≡ suc (depth_within most frames (child_of (node_at (page_in frames page).nodes 0)))
unfolding depth_within
depth_more most frames page e = ap (λ b. if b then suc (depth_within most frames (child_of (node_at (page_in frames page).nodes 0))) else 0) e

pub depth_none : (frames : Frames) (page : ℕ) → depth_within 0 frames page ≡ 0
unfolding depth_within
depth_none frames page = refl

pub depth_most : (most : ℕ) (frames : Frames) (page : ℕ) → depth_within most frames page ≤ most
unfolding depth_within
depth_most zero frames page = omega arith
depth_most (suc most) frames page = at (is_inner_page frames page) (depth_most most frames (child_of (node_at (page_in frames page).nodes 0)))
  where
    at : (b : Bool) → depth_within most frames (child_of (node_at (page_in frames page).nodes 0)) ≤ most → (if b then suc (depth_within most frames (child_of (node_at (page_in frames page).nodes 0))) else 0) ≤ suc most
    at true h = omega (arith, h)
    at false h = omega arith

-- ---- inner pages

pub inner_nodes : (frames : Frames) (page : ℕ) → is_inner_page frames page ≡ true → are_inner (page_in frames page).nodes ≡ true
inner_nodes frames page e = and_right (is_tree_page 2 page (page_at frames page)) (are_inner (page_in frames page).nodes) e

pub inner_some : (nodes : List Node) → are_inner nodes ≡ true → 0 < length nodes
inner_some [] e = impossible e
inner_some (n ∷ nodes) e = omega arith

pub inner_children : (nodes : List Node) → are_inner nodes ≡ true → list_all names_child nodes ≡ true
inner_children [] e = impossible e
inner_children (n ∷ nodes) e = and_right (length n.key == 0) (list_all names_child (n ∷ nodes)) e

pub four_bytes : (n : Node) → names_child n ≡ true → length n.data ≡ 4
four_bytes n e = grind (arith, nat_tests, and_left (length n.data == 4) (n.extent == 4) e)

pub child_has_four : (frames : Frames) (page i : ℕ) (p : PageContents) → is_inner_page frames page ≡ true → page_at frames page ≡ Some p → i < length p.nodes → length (node_at p.nodes i).data ≡ 4
child_has_four frames page i p e at h =
    let is = page_is frames page p at in
    four_bytes (node_at p.nodes i) (all_at names_child p.nodes i (inner_children p.nodes (subst (λ (q : PageContents). are_inner q.nodes ≡ true) is (inner_nodes frames page e))) h)

-- ---- marks

pub marks_append : (xs ys : List ℕ) (marks : List Bool) → with_marks (xs ++ ys) marks ≡ with_marks ys (with_marks xs marks)
marks_append [] ys marks = refl
marks_append (x ∷ xs) ys marks = marks_append xs ys (slice_set marks x true)

-- ---- ends

last_append : (key : List ℕ) (xs : List Node) (y : Node) (ys : List Node) → last_key key (xs ++ y ∷ ys) ≡ last_key y.key ys
last_append key [] y ys = refl
last_append key (x ∷ xs) y ys = last_append x.key xs y ys

append_nil : (xs : List Node) → xs ++ [] ≡ xs
append_nil [] = refl
append_nil (x ∷ xs) = ap (λ l. x ∷ l) (append_nil xs)

pub ends_append : (xs ys : List Node) → ends_of (xs ++ ys) ≡ joined_ends (ends_of xs) (ends_of ys)
ends_append [] ys = refl
ends_append (x ∷ xs) [] = ap ends_of (append_nil (x ∷ xs))
ends_append (x ∷ xs) (y ∷ ys) = ap (λ (key : List ℕ). Some (x.key, key)) (last_append x.key xs y ys)

pub last_at : (key : List ℕ) (n : Node) (nodes : List Node) → last_key key (n ∷ nodes) ≡ (node_at (n ∷ nodes) (length nodes)).key
last_at key n [] = refl
last_at key n (m ∷ nodes) = last_at n.key m nodes

pub ends_at : (nodes : List Node) (count : ℕ) → count ≡ length nodes → 0 < count → Some ((node_at nodes 0).key, (node_at nodes (count - 1)).key) ≡ ends_of nodes
ends_at [] count e h = absurd (omega arith)
ends_at (n ∷ nodes) count e h = ap (λ (key : List ℕ). Some (n.key, key)) (ap (λ (k : ℕ). (node_at (n ∷ nodes) k).key) (omega arith) ∙ sym (last_at n.key n nodes))

-- ---- pages as the walk meets them

-- a page without a fault is fit, and not one that was met before
pub without_fault : (fit : Bool) (frames : Frames) (marks : List Bool) (page : ℕ) → page_fault fit frames marks page ≡ None → (fit ≡ true) × ((is_some (page_at frames page) && is_marked marks page) ≡ false)
without_fault fit frames marks page e = at (is_some (page_at frames page) && is_marked marks page) fit e
  where
    at : (met fit : Bool) → (if met then Some (faults.MetBefore page) else (if fit then None else Some (faults.Broken page))) ≡ None → (fit ≡ true) × (met ≡ false)
    at true fit e = absurd (some_apart (faults.MetBefore page) e)
    at false true e = (refl, refl)
    at false false e = absurd (some_apart (faults.Broken page) e)

pub unmarked : (frames : Frames) (marks : List Bool) (page : ℕ) → is_some (page_at frames page) ≡ true → (is_some (page_at frames page) && is_marked marks page) ≡ false → is_marked marks page ≡ false
unmarked frames marks page taken e = ap (λ b. b && is_marked marks page) (sym taken) ∙ e

pub no_fault : (fit : Bool) (frames : Frames) (marks : List Bool) (page : ℕ) → fit ≡ true → is_marked marks page ≡ false → page_fault fit frames marks page ≡ None
no_fault fit frames marks page is free =
    ap (λ b. page_fault b frames marks page) is
    ∙ ap (λ b. if is_some (page_at frames page) && b then Some (faults.MetBefore page) else None) free
    ∙ ap (λ b. if b then Some (faults.MetBefore page) else None) (and_false (is_some (page_at frames page)))

-- ---- steps of the walk

-- a walk of an inner page without a fault goes among its children
pub goes_among : (depth : ℕ) (frames : Frames) (marks : List Bool) (page : ℕ) → page_fault (is_inner_page frames page) frames marks page ≡ None
    → fault_below (suc depth) frames marks page ≡ fault_among (fault_below depth frames) (pages depth frames) (entries depth frames) page (slice_set marks page true) (page_in frames page).nodes
goes_among depth frames marks page whole =
    ap (λ (o : Option WalkFault). option_or o (fault_among (fault_below depth frames) (pages depth frames) (entries depth frames) page (slice_set marks page true) (page_in frames page).nodes)) whole

-- and one with a fault ends there
pub ends_there : (depth : ℕ) (frames : Frames) (marks : List Bool) (page : ℕ) (fault : WalkFault) → page_fault (is_inner_page frames page) frames marks page ≡ Some fault
    → fault_below (suc depth) frames marks page ≡ Some fault
ends_there depth frames marks page fault is =
    ap (λ (o : Option WalkFault). option_or o (fault_among (fault_below depth frames) (pages depth frames) (entries depth frames) page (slice_set marks page true) (page_in frames page).nodes)) is

-- a child in order: the walk goes on behind it
pub among_next : (depth : ℕ) (frames : Frames) (page : ℕ) (marks : List Bool) (n : Node) (nodes : List Node)
    → fault_below depth frames marks (child_of n) ≡ None → child_fault page n nodes (ends_of (entries depth frames (child_of n))) ≡ None
    → fault_among (fault_below depth frames) (pages depth frames) (entries depth frames) page marks (n ∷ nodes)
    ≡ fault_among (fault_below depth frames) (pages depth frames) (entries depth frames) page (with_marks (pages depth frames (child_of n)) marks) nodes
among_next depth frames page marks n nodes whole between =
    ap (λ (o : Option WalkFault). option_or o (option_or (child_fault page n nodes (ends_of (entries depth frames (child_of n)))) (fault_among (fault_below depth frames) (pages depth frames) (entries depth frames) page (with_marks (pages depth frames (child_of n)) marks) nodes))) whole
    ∙ ap (λ (o : Option WalkFault). option_or o (fault_among (fault_below depth frames) (pages depth frames) (entries depth frames) page (with_marks (pages depth frames (child_of n)) marks) nodes)) between

-- one that is out of its place
pub among_outside : (depth : ℕ) (frames : Frames) (page : ℕ) (marks : List Bool) (n : Node) (nodes : List Node) (fault : WalkFault)
    → fault_below depth frames marks (child_of n) ≡ None → child_fault page n nodes (ends_of (entries depth frames (child_of n))) ≡ Some fault
    → fault_among (fault_below depth frames) (pages depth frames) (entries depth frames) page marks (n ∷ nodes) ≡ Some fault
among_outside depth frames page marks n nodes fault whole outside =
    ap (λ (o : Option WalkFault). option_or o (option_or (child_fault page n nodes (ends_of (entries depth frames (child_of n)))) (fault_among (fault_below depth frames) (pages depth frames) (entries depth frames) page (with_marks (pages depth frames (child_of n)) marks) nodes))) whole
    ∙ ap (λ (o : Option WalkFault). option_or o (fault_among (fault_below depth frames) (pages depth frames) (entries depth frames) page (with_marks (pages depth frames (child_of n)) marks) nodes)) outside

-- one with a fault below it
pub among_fault : (depth : ℕ) (frames : Frames) (page : ℕ) (marks : List Bool) (n : Node) (nodes : List Node) (fault : WalkFault)
    → fault_below depth frames marks (child_of n) ≡ Some fault
    → fault_among (fault_below depth frames) (pages depth frames) (entries depth frames) page marks (n ∷ nodes) ≡ Some fault
among_fault depth frames page marks n nodes fault below =
    ap (λ (o : Option WalkFault). option_or o (option_or (child_fault page n nodes (ends_of (entries depth frames (child_of n)))) (fault_among (fault_below depth frames) (pages depth frames) (entries depth frames) page (with_marks (pages depth frames (child_of n)) marks) nodes))) below

-- ---- the children so far

-- The first children are walked, each in its place: what is left of the walk is the others.
pub record Going (depth : ℕ) (frames : Frames) (before : List Bool) (page : ℕ) (marks : List Bool) (ends : Option (List ℕ × List ℕ)) (i : ℕ) : Type 0 where
  pub marked : marks ≡ with_marks (flat_map (λ n. pages depth frames (child_of n)) (take i (page_in frames page).nodes)) (slice_set before page true)
  pub between : ends ≡ ends_of (flat_map (λ n. entries depth frames (child_of n)) (take i (page_in frames page).nodes))
  pub rest : fault_among (fault_below depth frames) (pages depth frames) (entries depth frames) page (slice_set before page true) (page_in frames page).nodes
      ≡ fault_among (fault_below depth frames) (pages depth frames) (entries depth frames) page marks (drop i (page_in frames page).nodes)

-- the next child, in its place
pub going_next : (depth : ℕ) (frames : Frames) (before marks after : List Bool) (page i : ℕ) (ends found : Option (List ℕ × List ℕ)) → Going depth frames before page marks ends i → i < length (page_in frames page).nodes
    → fault_below depth frames marks (child_of (node_at (page_in frames page).nodes i)) ≡ None → after ≡ with_marks (pages depth frames (child_of (node_at (page_in frames page).nodes i))) marks
    → found ≡ ends_of (entries depth frames (child_of (node_at (page_in frames page).nodes i))) → child_fault page (node_at (page_in frames page).nodes i) (drop (suc i) (page_in frames page).nodes) found ≡ None
    → Going depth frames before page after (joined_ends ends found) (suc i)
going_next depth frames before marks after page i ends found g h whole marked is between =
    let nodes = (page_in frames page).nodes in
    let n = node_at nodes i in
    let own = λ (m : Node). pages depth frames (child_of m) in
    let below = λ (m : Node). entries depth frames (child_of m) in
    let here = slice_set before page true in
    record {
      marked =
          marked ∙ ap (with_marks (own n)) g.marked ∙ sym (marks_append (flat_map own (take i nodes)) (own n) here)
          ∙ ap (λ (l : List ℕ). with_marks l here) (sym (flat_next own nodes i h));
      between =
          ap (λ o. joined_ends o found) g.between ∙ ap (joined_ends (ends_of (flat_map below (take i nodes)))) is ∙ sym (ends_append (flat_map below (take i nodes)) (below n))
          ∙ ap ends_of (sym (flat_next below nodes i h));
      rest =
          g.rest ∙ ap (fault_among (fault_below depth frames) (pages depth frames) (entries depth frames) page marks) (drop-next nodes i h)
          ∙ among_next depth frames page marks n (drop (suc i) nodes) whole (ap (child_fault page n (drop (suc i) nodes)) (sym is) ∙ between)
          ∙ ap (λ (m : List Bool). fault_among (fault_below depth frames) (pages depth frames) (entries depth frames) page m (drop (suc i) nodes)) (sym marked);
    }

-- the next child, out of its place
pub going_outside : (depth : ℕ) (frames : Frames) (before marks : List Bool) (page i : ℕ) (fault : WalkFault) (ends found : Option (List ℕ × List ℕ)) → Going depth frames before page marks ends i → i < length (page_in frames page).nodes
    → fault_below depth frames marks (child_of (node_at (page_in frames page).nodes i)) ≡ None
    → found ≡ ends_of (entries depth frames (child_of (node_at (page_in frames page).nodes i))) → child_fault page (node_at (page_in frames page).nodes i) (drop (suc i) (page_in frames page).nodes) found ≡ Some fault
    → fault_among (fault_below depth frames) (pages depth frames) (entries depth frames) page (slice_set before page true) (page_in frames page).nodes ≡ Some fault
going_outside depth frames before marks page i fault ends found g h whole is outside =
    let nodes = (page_in frames page).nodes in
    g.rest ∙ ap (fault_among (fault_below depth frames) (pages depth frames) (entries depth frames) page marks) (drop-next nodes i h)
    ∙ among_outside depth frames page marks (node_at nodes i) (drop (suc i) nodes) fault whole (ap (child_fault page (node_at nodes i) (drop (suc i) nodes)) (sym is) ∙ outside)

-- the next child, with a fault below it
pub going_wrong : (depth : ℕ) (frames : Frames) (before marks : List Bool) (page i : ℕ) (fault : WalkFault) (ends : Option (List ℕ × List ℕ)) → Going depth frames before page marks ends i → i < length (page_in frames page).nodes
    → fault_below depth frames marks (child_of (node_at (page_in frames page).nodes i)) ≡ Some fault
    → fault_among (fault_below depth frames) (pages depth frames) (entries depth frames) page (slice_set before page true) (page_in frames page).nodes ≡ Some fault
going_wrong depth frames before marks page i fault ends g h below =
    let nodes = (page_in frames page).nodes in
    g.rest ∙ ap (fault_among (fault_below depth frames) (pages depth frames) (entries depth frames) page marks) (drop-next nodes i h) ∙ among_fault depth frames page marks (node_at nodes i) (drop (suc i) nodes) fault below

-- all children
pub record Gone (depth : ℕ) (frames : Frames) (before : List Bool) (page : ℕ) (marks : List Bool) (ends : Option (List ℕ × List ℕ)) : Type 0 where
  pub whole : fault_among (fault_below depth frames) (pages depth frames) (entries depth frames) page (slice_set before page true) (page_in frames page).nodes ≡ None
  pub marked : marks ≡ with_marks (pages (suc depth) frames page) before
  pub between : ends ≡ ends_of (entries (suc depth) frames page)

pub gone : (depth : ℕ) (frames : Frames) (before marks : List Bool) (page i : ℕ) (ends : Option (List ℕ × List ℕ)) → Going depth frames before page marks ends i → length (page_in frames page).nodes ≤ i → Gone depth frames before page marks ends
gone depth frames before marks page i ends g h =
    let nodes = (page_in frames page).nodes in
    let own = λ (m : Node). pages depth frames (child_of m) in
    let below = λ (m : Node). entries depth frames (child_of m) in
    record {
      whole = g.rest ∙ ap (fault_among (fault_below depth frames) (pages depth frames) (entries depth frames) page marks) (drop-past nodes i h);
      marked = g.marked ∙ ap (λ (l : List Node). with_marks (flat_map own l) (slice_set before page true)) (take-past nodes i h);
      between = g.between ∙ ap (λ (l : List Node). ends_of (flat_map below l)) (take-past nodes i h);
    }

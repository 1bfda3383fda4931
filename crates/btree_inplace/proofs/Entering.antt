-- What a page on the way down says of its child.
use Rattle.std.proofs.Common.{◌≡◌, ◌≢◌, ℕ, zero, suc, ◌+◌, ◌≤◌, Option, Result, Ok, Err, List, refl, sym, ap, subst, ◌∙◌, arith}
use Rattle.std.specs.Prelude.{AllPairs, find, IfOk, MatchOption}
use Rattle.std.specs.List.{flat_map}
use Rattle.page_image.specs.Page.{Node, node_at, node_size, page_size}
use Rattle.page_space.specs.Frames.{Frames, IsTaken}
use Rattle.btree_node.specs.Cut.{IsChildPlace}
use Rattle.btree_inplace.specs.Alterations.{Altered, AlteredTree, Entered, Needs, Reaches, copies, room_at}
use Rattle.btree_inplace.specs.Changes.{IsLocal}
use Rattle.btree_inplace.specs.Order.{has_key}
use Rattle.btree_inplace.specs.Shape.{IsSubtree, child_of, entries, page_in, pages}
use Rattle.btree_inplace.specs.Trees.{nodes_of}
use Rattle.btree_inplace.specs.declared.Tree.{Tree}
use Rattle.btree_inplace.proofs.Altering.{altered_none, altered_then, altered_tree_then, lifted}
use Rattle.btree_inplace.proofs.Below.{find_child, other_above, other_below}
use Rattle.btree_inplace.proofs.Counting.{copies-cons, copies-once}
use Rattle.btree_inplace.proofs.Parts.{pages_taken, part_le}
use Rattle.btree_inplace.proofs.Splitting.{root_in}

pub root_taken : (depth : ℕ) (frames : Frames) (page : ℕ) → IsSubtree depth frames page → IsTaken frames page
root_taken depth frames page tree = pages_taken depth frames page tree page (root_in depth frames page)

pub if_ok : {A B : Type 0} (r : Result A B) (P Q : A → Type 0) → ((x : A) → P x → Q x) → IfOk r P → IfOk r Q
if_ok (Ok x) P Q to p = to x p
if_ok (Err e) P Q to p = tt

pub entered_none : (key : List ℕ) (depth : ℕ) (frames : Frames) (page i below : ℕ) → IsSubtree (suc depth) frames page → AllPairs (λ p q. p ≢ q) (pages (suc depth) frames page) → IsChildPlace (page_in frames page).nodes key i → child_of (node_at (page_in frames page).nodes i) ≡ below → Entered key depth frames frames page below
entered_none key depth frames page i below tree once is child = record {
  altered = altered_none key (suc depth) frames page tree (λ p. copies-once (pages (suc depth) frames page) p once);
  place = (i, is, sym child);
}

pub find_below : (depth : ℕ) (frames : Frames) (page i below : ℕ) (key : List ℕ) → IsSubtree (suc depth) frames page → IsChildPlace (page_in frames page).nodes key i → child_of (node_at (page_in frames page).nodes i) ≡ below → find (has_key key) (entries depth frames below) ≡ find (has_key key) (entries (suc depth) frames page)
find_below depth frames page i below key tree place child =
    ap (λ q. find (has_key key) (entries depth frames q)) (sym child) ∙ find_child (has_key key) depth frames page key i (λ n. other_below n key) (λ n. other_above n key) tree place

pub needs_leaf : (depth : ℕ) (frames : Frames) (page i below need : ℕ) (key : List ℕ) → depth ≡ 0 → IsSubtree (suc depth) frames page → IsChildPlace (page_in frames page).nodes key i → child_of (node_at (page_in frames page).nodes i) ≡ below → Needs key need (entries (suc depth) frames page) → Needs key need (page_in frames below).nodes
needs_leaf zero frames page i below need key none tree place child needs = subst (λ (o : Option Node). MatchOption o (need ≤ 2032) (λ n. node_size n + need ≤ 2032)) (sym (find_below zero frames page i below key tree place child)) needs
needs_leaf (suc depth) frames page i below need key none tree place child needs = absurd (omega arith)

pub room_leaf : (depth need : ℕ) → depth ≡ 0 → room_at depth need ≡ need
room_leaf zero need e = refl
room_leaf (suc depth) need e = absurd (omega arith)

pub room_inner : (depth need : ℕ) → ¬ (depth ≡ 0) → room_at depth need ≡ 765
room_inner zero need ne = absurd (ne refl)
room_inner (suc depth) need ne = refl

-- On the way down: what is altered below the page is altered in the whole tree.
pub record Going (key : List ℕ) (need : ℕ) (old : Frames) (tree tree' : Tree) (depth : ℕ) (frames : Frames) (page : ℕ) : Type 0 where
  pub shape : IsSubtree depth frames page
  pub once : (p : ℕ) → copies p (pages depth frames page) ≤ 1
  pub room : page_size (page_in frames page).nodes + room_at depth need ≤ 4096
  pub found : find (has_key key) (entries depth frames page) ≡ find (has_key key) (nodes_of old tree)
  pub lifts : (change : List Node → List Node) (last : Frames) → IsLocal change key → Altered change key depth frames last page → AlteredTree change old tree last tree'

pub going_start : (key : List ℕ) (need : ℕ) (old frames : Frames) (tree tree' : Tree) → AlteredTree (λ nodes. nodes) old tree frames tree' → page_size (page_in frames tree'.root).nodes + room_at tree'.depth need ≤ 4096 → Going key need old tree tree' tree'.depth frames tree'.root
going_start key need old frames tree tree' a has_room = record {
  shape = a.shape;
  once = a.swaps.once;
  room = has_room;
  found = ap (find (has_key key)) a.nodes;
  lifts = λ change last local b. altered_tree_then change old frames last tree tree' tree' a (record { shape = b.shape; nodes = b.nodes; swaps = b.swaps; deep = a.deep });
}

pub going_on : (key : List ℕ) (need : ℕ) (old : Frames) (tree tree' : Tree) (depth : ℕ) (a b : Frames) (page child : ℕ) → Going key need old tree tree' (suc depth) a page → Entered key depth a b page child → page_size (page_in b child).nodes + room_at depth need ≤ 4096 → Going key need old tree tree' depth b child
going_on key need old tree tree' depth a b page child g e has_room =
    let i = e.place.0 in
    let place = e.place.1 in
    let is = sym e.place.2 in
    let nodes = (page_in b page).nodes in
    let part : Node → List ℕ = λ n. pages depth b (child_of n) in
    record {
      shape = subst (IsSubtree depth b) is (e.altered.shape.2 i place.within);
      once = subst (λ q. (p : ℕ) → copies p (pages depth b q) ≤ 1) is (λ p. omega (arith, part_le part nodes p i place.within, e.altered.swaps.once p, copies-cons p page (flat_map part nodes)));
      room = has_room;
      found = find_below depth b page i child key e.altered.shape place is ∙ ap (find (has_key key)) e.altered.nodes ∙ g.found;
      lifts = λ change last local c.
          g.lifts change last local (altered_then change key (suc depth) a b last page e.altered
          (lifted change key local depth b last page i e.altered.shape place e.altered.swaps.once (subst (Altered change key depth b last) (sym is) c)));
    }

pub going_stops : (key : List ℕ) (need : ℕ) (old : Frames) (tree tree' : Tree) (depth : ℕ) (frames : Frames) (page : ℕ) → Going key need old tree tree' depth frames page → AlteredTree (λ nodes. nodes) old tree frames tree'
going_stops key need old tree tree' depth frames page g = g.lifts (λ nodes. nodes) frames (λ a b c _ _. refl) (altered_none key depth frames page g.shape g.once)

pub going_ends : (key : List ℕ) (need : ℕ) (old : Frames) (tree tree' : Tree) (frames : Frames) (page : ℕ) → Going key need old tree tree' zero frames page → Reaches key need old tree frames tree' page
going_ends key need old tree tree' frames page g = record { shape = g.shape; room = g.room; found = g.found; lifts = g.lifts }

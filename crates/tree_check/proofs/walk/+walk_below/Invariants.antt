use Rattle.std.proofs.Common.{◌≡◌, ℕ, ◌-◌, ◌<◌, true, take}
use Rattle.std.specs.Prelude.{drop, slice_set}
use Rattle.std.specs.List.{flat_map}
use Rattle.std.specs.Option.{option_map}
use Rattle.btree_inplace.specs.Shape.{child_of, entries, page_in, pages}
use Rattle.page_image.specs.Page.{node_at}
use Rattle.tree_check.specs.Marks.{ArePages, with_marks}
use Rattle.tree_check.specs.Walks.{ends_of, fault_among, fault_below}
use Rattle.tree_check.proofs.walk.+walk_below.Given as goal

abbrev pub decreases-walk_below : goal.decreases-walk_below
decreases-walk_below l = l.depth

-- The children so far are walked, and what is left of the walk is the others.
abbrev pub invariant-loop-i : goal.invariant-loop-i
invariant-loop-i l =
    let nodes = (page_in l.fn.space l.fn.page).nodes in
    let depth = l.fn.depth - 1 in
    record {
      marked : l.marks ≡ with_marks (flat_map (λ n. pages depth l.fn.space (child_of n)) (take l.i nodes)) (slice_set l.fn.marks l.fn.page true);
      ends : option_map (λ ends. (ends.0.now, ends.1.now)) l.ends ≡ ends_of (flat_map (λ n. entries depth l.fn.space (child_of n)) (take l.i nodes));
      rest : fault_among (fault_below depth l.fn.space) (pages depth l.fn.space) (entries depth l.fn.space) l.fn.page (slice_set l.fn.marks l.fn.page true) nodes
          ≡ fault_among (fault_below depth l.fn.space) (pages depth l.fn.space) (entries depth l.fn.space) l.fn.page l.marks (drop l.i nodes);
      pages : (k : ℕ) → k < l.i → ArePages depth l.fn.space (child_of (node_at nodes k));
    }

-- The data fits the extent that the key was given.
use Rattle.std.proofs.Common.{◌≡◌, ◌≤◌, ℕ, Bool, true, false, Some, List, [], ◌∷◌, length, refl, sym, subst}
use Rattle.std.specs.Prelude.{IsSomeAnd, find}
use Rattle.page_image.specs.Page.{Node}
use Rattle.btree_inplace.specs.Changes.{with_extent_at}
use Rattle.btree_inplace.specs.Order.{get_in, has_key}
use Rattle.btree_inplace.specs.Trees.{nodes_of}
use Rattle.tests_trees.proofs.trees.rewrite.Goals as goal

found_widened : (nodes : List Node) (key value : List ℕ) (wide long : ℕ) → long ≤ wide → Some value ≡ get_in nodes key → IsSomeAnd (find (has_key key) (with_extent_at nodes key wide)) (λ n. long ≤ n.extent)
found_widened [] key value wide long fits there = cc
found_widened (x ∷ xs) key value wide long fits there = by_test (has_key key x) refl (λ t. found_widened xs key value wide long fits t)
  where
    by_test : (t : Bool) → has_key key x ≡ t → (Some value ≡ get_in xs key → IsSomeAnd (find (has_key key) (with_extent_at xs key wide)) (λ n. long ≤ n.extent)) → IsSomeAnd (find (has_key key) (with_extent_at (x ∷ xs) key wide)) (λ n. long ≤ n.extent)
    by_test true e rest = rw (e, e) fits
    by_test false e rest = rw (e, e) (rest (rw e at there))

pub replace-requires-clause-fits : goal.replace-requires-clause-fits
replace-requires-clause-fits c =
    let nodes = nodes_of c.args.space.now c.args.tree.now in
    subst (λ (ns : List Node). IsSomeAnd (find (has_key c.args.key.now) ns) (λ n. length c.args.data.now ≤ n.extent)) (sym c.in-Ok.ensures.ok)
    (found_widened nodes c.args.key.now c.in-Some.old.now c.args.extent (length c.args.data.now) c.if-data-extent.false c.in-Some.ensures)

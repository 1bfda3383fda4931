-- The child before the path is the neighbor, where there is one.
use Rattle.std.proofs.Common.{◌≡◌, ◌-◌, sym, ap, subst, ◌∙◌, arith, Some}
use Rattle.std.specs.Prelude.{Option, unwrap_or, find}
use Rattle.byteorder.specs.Endian.{little_number}
use Rattle.page_image.specs.Page.{PageContents, node_at}
use Rattle.page_space.specs.Frames.{empty_page}
use Rattle.btree_node.specs.Cut.{IsChildPlace}
use Rattle.btree_inplace.specs.Neighbors.{found_left}
use Rattle.btree_inplace.specs.Order.{has_key}
use Rattle.btree_inplace.specs.Shape.{child_of, entries, page_in}
use Rattle.btree_inplace.proofs.Before.{left_child, left_end}
use Rattle.btree_inplace.proofs.Below.{find_child, other_above, other_below}
use Rattle.btree_inplace.proofs.neighbors.step_left.Goals as goal

pub returns-then-i-gt0-clause-found : goal.returns-then-i-gt0-clause-found
returns-then-i-gt0-clause-found c test passes =
    let frames = c.args.space.now in
    let page = c.args.page in
    let i = c.child-i.result in
    let depth = c.args.depth in
    let inner : page_in frames page ≡ c.page-inner.result.now = ap (λ (o : Option PageContents). unwrap_or o (empty_page page)) c.page-inner.ensures in
    let place : IsChildPlace (page_in frames page).nodes c.args.key.now i = subst (λ (q : PageContents). IsChildPlace q.nodes c.args.key.now i) (sym inner) c.child-i.ensures in
    let below : c.read_u32-below.result ≡ child_of (node_at (page_in frames page).nodes i) = c.read_u32-below.ensures ∙ ap (little_number 4) c.data.ensures ∙ ap (λ (q : PageContents). child_of (node_at q.nodes i)) (sym inner) in
    let next : c.read_u32.result ≡ child_of (node_at (page_in frames page).nodes (i - 1)) = c.read_u32.ensures ∙ ap (little_number 4) c.data-then-i-gt0.ensures ∙ ap (λ (q : PageContents). child_of (node_at q.nodes (i - 1))) (sym inner) in
    ap (λ q. found_left frames depth q (Some (c.read_u32.result, depth)) test) below
    ∙ ap (λ q. found_left frames depth (child_of (node_at (page_in frames page).nodes i)) (Some (q, depth)) test) next
    ∙ left_child test depth frames page c.args.key.now i c.args.next passes c.requires.tree place (omega (arith, c.if-i-gt0.true))

pub returns-clause-found : goal.returns-clause-found
returns-clause-found c test passes =
    let frames = c.args.space.now in
    let page = c.args.page in
    let i = c.child-i.result in
    let depth = c.args.depth in
    let inner : page_in frames page ≡ c.page-inner.result.now = ap (λ (o : Option PageContents). unwrap_or o (empty_page page)) c.page-inner.ensures in
    let place : IsChildPlace (page_in frames page).nodes c.args.key.now i = subst (λ (q : PageContents). IsChildPlace q.nodes c.args.key.now i) (sym inner) c.child-i.ensures in
    let below : c.read_u32-below.result ≡ child_of (node_at (page_in frames page).nodes i) = c.read_u32-below.ensures ∙ ap (little_number 4) c.data.ensures ∙ ap (λ (q : PageContents). child_of (node_at q.nodes i)) (sym inner) in
    let zero_place : i ≡ 0 = omega (arith, c.if-i-gt0.false) in
    ap (λ q. found_left frames depth q c.args.next test) below ∙ ap (λ k. found_left frames depth (child_of (node_at (page_in frames page).nodes k)) c.args.next test) zero_place
    ∙ left_end test depth frames page c.args.key.now c.args.next passes c.requires.tree (subst (λ k. IsChildPlace (page_in frames page).nodes c.args.key.now k) zero_place place)

pub returns-then-i-gt0-clause-same : goal.returns-then-i-gt0-clause-same
returns-then-i-gt0-clause-same c =
    let frames = c.args.space.now in
    let page = c.args.page in
    let i = c.child-i.result in
    let key = c.args.key.now in
    let inner : page_in frames page ≡ c.page-inner.result.now = ap (λ (o : Option PageContents). unwrap_or o (empty_page page)) c.page-inner.ensures in
    let place : IsChildPlace (page_in frames page).nodes key i = subst (λ (q : PageContents). IsChildPlace q.nodes key i) (sym inner) c.child-i.ensures in
    let below : c.read_u32-below.result ≡ child_of (node_at (page_in frames page).nodes i) = c.read_u32-below.ensures ∙ ap (little_number 4) c.data.ensures ∙ ap (λ (q : PageContents). child_of (node_at q.nodes i)) (sym inner) in
    ap (λ q. find (has_key key) (entries c.args.depth frames q)) below
    ∙ find_child (has_key key) c.args.depth frames page key i (λ n. other_below n key) (λ n. other_above n key) c.requires.tree place

pub returns-clause-same : goal.returns-clause-same
returns-clause-same c =
    let frames = c.args.space.now in
    let page = c.args.page in
    let i = c.child-i.result in
    let key = c.args.key.now in
    let inner : page_in frames page ≡ c.page-inner.result.now = ap (λ (o : Option PageContents). unwrap_or o (empty_page page)) c.page-inner.ensures in
    let place : IsChildPlace (page_in frames page).nodes key i = subst (λ (q : PageContents). IsChildPlace q.nodes key i) (sym inner) c.child-i.ensures in
    let below : c.read_u32-below.result ≡ child_of (node_at (page_in frames page).nodes i) = c.read_u32-below.ensures ∙ ap (little_number 4) c.data.ensures ∙ ap (λ (q : PageContents). child_of (node_at q.nodes i)) (sym inner) in
    ap (λ q. find (has_key key) (entries c.args.depth frames q)) below
    ∙ find_child (has_key key) c.args.depth frames page key i (λ n. other_below n key) (λ n. other_above n key) c.requires.tree place

-- What stands below the children is read, one after another.
use Rattle.std.proofs.Common.{◌≡◌, ℕ, suc, ◌-◌, ◌<◌, List, length, sym, ap, subst, ◌∙◌, arith, add-one}
use Rattle.std.specs.Prelude.{IfErr, OnOk}
use Rattle.byteorder.specs.Endian.{little_number}
use Rattle.page_image.specs.Page.{PageContents, no_node, node_at}
use Rattle.btree_inplace.specs.Shape.{IsSubtree, child_of, entries, page_in}
use Rattle.image_opening.specs.ReadNodes.{ReadsNodes, TellsNoItem}
use Rattle.image_opening.proofs.NodesRead.{below_first, page_is, reads_below, reads_child, reads_none, root_taken, unread_child}
use Rattle.image_opening.proofs.reading.+read_below.Goals as goal

pub page-found-requires : goal.page-found-requires
page-found-requires t c = root_taken c.args.depth c.args.space.now c.args.page c.requires

pub returns-then-depth-eq0-clause-ok : goal.returns-then-depth-eq0-clause-ok
returns-then-depth-eq0-clause-ok t c =
    let is : page_in c.args.space.now c.args.page ≡ c.page-found.result.now = page_is c.args.space.now c.args.page c.page-found.result.now c.page-found.ensures in
    subst (λ (d : ℕ). OnOk c.read_leaf.result (ReadsNodes (entries d c.args.space.now c.args.page) c.args.items.now.items c.read_leaf.new.items.items)) (sym c.if-depth-eq0.true)
    (subst (λ (q : PageContents). OnOk c.read_leaf.result (ReadsNodes q.nodes c.args.items.now.items c.read_leaf.new.items.items)) (sym is) c.read_leaf.ensures.ok)

pub returns-then-depth-eq0-clause-err : goal.returns-then-depth-eq0-clause-err
returns-then-depth-eq0-clause-err t c =
    let is : page_in c.args.space.now c.args.page ≡ c.page-found.result.now = page_is c.args.space.now c.args.page c.page-found.result.now c.page-found.ensures in
    subst (λ (d : ℕ). IfErr c.read_leaf.result (TellsNoItem (entries d c.args.space.now c.args.page))) (sym c.if-depth-eq0.true)
    (subst (λ (q : PageContents). IfErr c.read_leaf.result (TellsNoItem q.nodes)) (sym is) c.read_leaf.ensures.err)

pub loop-i-init : goal.loop-i-init
loop-i-init t c = reads_none c.args.items.now.items

pub read_u32-below-requires : goal.read_u32-below-requires
read_u32-below-requires t c =
    let frames = c.args.space.now in
    let page = c.args.page in
    let i = c.loop-i.i in
    let d = c.args.depth - 1 in
    let here : c.args.depth ≡ suc d = omega (arith, c.if-depth-eq0.false) in
    let is : page_in frames page ≡ c.page-found.result.now = page_is frames page c.page-found.result.now c.page-found.ensures in
    let tree : IsSubtree (suc d) frames page = subst (λ n. IsSubtree n frames page) here c.requires in
    let within : i < length (page_in frames page).nodes = omega (arith, c.loop-i-test.true, c.len-i-end.ensures.value, ap (λ (q : PageContents). length q.nodes) is) in
    omega (arith, tree.1.children i no_node within, ap (λ (q : PageContents). length (node_at q.nodes i).data) is, ap (λ (bytes : List ℕ). length bytes) c.data.ensures)

pub read_below-requires : goal.read_below-requires
read_below-requires t c =
    let frames = c.args.space.now in
    let page = c.args.page in
    let i = c.loop-i.i in
    let d = c.args.depth - 1 in
    let here : c.args.depth ≡ suc d = omega (arith, c.if-depth-eq0.false) in
    let is : page_in frames page ≡ c.page-found.result.now = page_is frames page c.page-found.result.now c.page-found.ensures in
    let next : c.read_u32-below.result ≡ child_of (node_at (page_in frames page).nodes i) = c.read_u32-below.ensures ∙ ap (little_number 4) c.data.ensures ∙ ap (λ (q : PageContents). child_of (node_at q.nodes i)) (sym is) in
    let tree : IsSubtree (suc d) frames page = subst (λ n. IsSubtree n frames page) here c.requires in
    let within : i < length (page_in frames page).nodes = omega (arith, c.loop-i-test.true, c.len-i-end.ensures.value, ap (λ (q : PageContents). length q.nodes) is) in
    (omega (arith, c.decreases, c.if-depth-eq0.false), subst (IsSubtree d frames) (sym next) (tree.2 i within))

pub returns-in-Err-clause-err : goal.returns-in-Err-clause-err
returns-in-Err-clause-err t c =
    let frames = c.args.space.now in
    let page = c.args.page in
    let i = c.loop-i.i in
    let d = c.args.depth - 1 in
    let here : c.args.depth ≡ suc d = omega (arith, c.if-depth-eq0.false) in
    let is : page_in frames page ≡ c.page-found.result.now = page_is frames page c.page-found.result.now c.page-found.ensures in
    let next : c.read_u32-below.result ≡ child_of (node_at (page_in frames page).nodes i) = c.read_u32-below.ensures ∙ ap (little_number 4) c.data.ensures ∙ ap (λ (q : PageContents). child_of (node_at q.nodes i)) (sym is) in
    let within : i < length (page_in frames page).nodes = omega (arith, c.loop-i-test.true, c.len-i-end.ensures.value, ap (λ (q : PageContents). length q.nodes) is) in
    subst (λ (n : ℕ). TellsNoItem (entries n frames page) c.in-Err.fault) (sym here)
    (unread_child d frames page i c.in-Err.fault within (subst (λ (q : ℕ). TellsNoItem (entries d frames q) c.in-Err.fault) next c.in-Err.ensures.err))

pub loop-i-preserved : goal.loop-i-preserved
loop-i-preserved t c =
    let frames = c.args.space.now in
    let page = c.args.page in
    let i = c.loop-i.i in
    let d = c.args.depth - 1 in
    let is : page_in frames page ≡ c.page-found.result.now = page_is frames page c.page-found.result.now c.page-found.ensures in
    let next : c.read_u32-below.result ≡ child_of (node_at (page_in frames page).nodes i) = c.read_u32-below.ensures ∙ ap (little_number 4) c.data.ensures ∙ ap (λ (q : PageContents). child_of (node_at q.nodes i)) (sym is) in
    let within : i < length (page_in frames page).nodes = omega (arith, c.loop-i-test.true, c.len-i-end.ensures.value, ap (λ (q : PageContents). length q.nodes) is) in
    subst (λ (k : ℕ). ReadsNodes (below_first d frames page k) c.args.items.now.items c.read_below.new.items.items) (sym (add-one i))
    (reads_child d frames page i c.args.items.now.items c.loop-i.items.items c.read_below.new.items.items c.loop-i.invariant within
    (subst (λ (q : ℕ). ReadsNodes (entries d frames q) c.loop-i.items.items c.read_below.new.items.items) next c.in-Ok.ensures.ok))

pub returns-clause-ok : goal.returns-clause-ok
returns-clause-ok t c =
    let frames = c.args.space.now in
    let page = c.args.page in
    let d = c.args.depth - 1 in
    let here : c.args.depth ≡ suc d = omega (arith, c.if-depth-eq0.false) in
    let is : page_in frames page ≡ c.page-found.result.now = page_is frames page c.page-found.result.now c.page-found.ensures in
    subst (λ (n : ℕ). ReadsNodes (entries n frames page) c.args.items.now.items c.loop-i.items.items) (sym here)
    (reads_below d frames page c.loop-i.i c.args.items.now.items c.loop-i.items.items c.loop-i.invariant (omega (arith, c.loop-i-test.false, c.len-i-end.ensures.value, ap (λ (q : PageContents). length q.nodes) is)))

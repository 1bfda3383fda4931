-- The writes, one after another, are those of a cut.
use Rattle.std.proofs.Common.{◌≡◌, ◌+◌, ◌<◌, ◌≤◌, ℕ, Bor, Some, List, length, take, drop, set, refl, sym, ap, subst, ◌∙◌, arith}
use Rattle.std.specs.Prelude.{insert}
use Rattle.std.proofs.lemmas.List.{length-drop}
use Rattle.page_image.specs.Page.{Node, PageContents, IsInsertPlace, IsPage, no_node, node_at, page_size}
use Rattle.page_space.specs.Frames.{empty_page}
use Rattle.btree_inplace.specs.Alterations.{HasRoom, IsParted, cleared, separator}
use Rattle.btree_inplace.specs.Shape.{IsSubtree, page_in}
use Rattle.btree_inplace.proofs.Cuts.{when_ok}
use Rattle.btree_inplace.proofs.Splits.{entered_left, entered_right}
use Rattle.btree_inplace.proofs.Splitting.{Cutting, tail_of}
use Rattle.btree_inplace.proofs.Writes.{drop_first, sep_first, sep_inner, sep_key, sep_short, child_read, cutting_made, inner_of, key_below, key_not_below, middle_place, page_is, small_of, tail_inner, tail_leaf, tail_size, writes_of}
use Rattle.btree_inplace.proofs.insert.split.Goals as goal
use Rattle.btree_inplace.proofs.insert.split.Goals.{then-cut, else-cut, then-depth-gt0, else-depth-gt0}

pub page_mut-left-requires : goal.page_mut-left-requires
page_mut-left-requires c =
    let child = child_read c.args.space.now c.args.page c.args.i c.read_u32-below.result c.page-inner.result.now c.data.result.now c.page-inner.ensures c.data.ensures c.read_u32-below.ensures in
    (writes_of c.args.depth c.args.space.now c.take.new.self c.args.page c.args.i c.read_u32-below.result c.in_ok-number.number (empty_page 0) (empty_page 0) (empty_page 0) c.requires.tree c.requires.once c.requires.place.within child c.in_ok-number.ensures.ok).below_taken

pub move_tail-requires-clause-place : goal.move_tail-requires-clause-place
move_tail-requires-clause-place c =
    let old = c.args.space.now in
    let below = c.read_u32-below.result in
    let child = child_read old c.args.page c.args.i below c.page-inner.result.now c.data.result.now c.page-inner.ensures c.data.ensures c.read_u32-below.ensures in
    let w = writes_of c.args.depth old c.take.new.self c.args.page c.args.i below c.in_ok-number.number (empty_page 0) (empty_page 0) (empty_page 0) c.requires.tree c.requires.once c.requires.place.within child c.in_ok-number.ensures.ok in
    let is : page_in old below ≡ c.page_mut-left.result.now = page_is old below c.page_mut-left.result.now (sym w.below_same ∙ c.page_mut-left.ensures.value) in
    omega (arith, ap (λ (p : PageContents). length p.nodes) is, ap (λ q. length (page_in old q).nodes) child, c.requires.parted.last)

pub page_mut-requires : goal.page_mut-requires
page_mut-requires c =
    let child = child_read c.args.space.now c.args.page c.args.i c.read_u32-below.result c.page-inner.result.now c.data.result.now c.page-inner.ensures c.data.ensures c.read_u32-below.ensures in
    (writes_of c.args.depth c.args.space.now c.take.new.self c.args.page c.args.i c.read_u32-below.result c.in_ok-number.number c.move_tail.new.self (empty_page 0) (empty_page 0) c.requires.tree c.requires.once c.requires.place.within child c.in_ok-number.ensures.ok).page_taken

pub page_mut-requires-2 : goal.page_mut-requires-2
page_mut-requires-2 c =
    let child = child_read c.args.space.now c.args.page c.args.i c.read_u32-below.result c.page-inner.result.now c.data.result.now c.page-inner.ensures c.data.ensures c.read_u32-below.ensures in
    (writes_of c.args.depth c.args.space.now c.take.new.self c.args.page c.args.i c.read_u32-below.result c.in_ok-number.number c.move_tail.new.self c.insert.new.self (empty_page 0) c.requires.tree c.requires.once c.requires.place.within child c.in_ok-number.ensures.ok).number_taken

pub overflow_add-i : goal.overflow_add-i
overflow_add-i c =
    let inner = page_is c.args.space.now c.args.page c.page-inner.result.now c.page-inner.ensures in
    omega (arith, c.requires.place.within, c.len.ensures.value, c.len.type_inv, ap (λ (p : PageContents). length p.nodes) inner)

pub insert-requires-clause-place : goal.insert-requires-clause-place
insert-requires-clause-place c =
    let old = c.args.space.now in
    let page = c.args.page in
    let i = c.args.i in
    let key = c.args.key.now in
    let at = c.args.cut.at in
    let below = c.read_u32-below.result in
    let number = c.in_ok-number.number in
    let nodes = (page_in old below).nodes in
    let child = child_read old page i below c.page-inner.result.now c.data.result.now c.page-inner.ensures c.data.ensures c.read_u32-below.ensures in
    let w = writes_of c.args.depth old c.take.new.self page i below number c.move_tail.new.self (empty_page 0) (empty_page 0) c.requires.tree c.requires.once c.requires.place.within child c.in_ok-number.ensures.ok in
    let left_was : page_in old below ≡ c.page_mut-left.result.now = page_is old below c.page_mut-left.result.now (sym w.below_same ∙ c.page_mut-left.ensures.value) in
    let moved : c.move_tail.new.to.nodes ≡ drop at nodes = ap (λ (p : PageContents). p.nodes) c.move_tail.ensures.moved ∙ ap (λ (p : PageContents). drop at p.nodes) (sym left_was) in
    let parted : IsParted nodes at (separator nodes key at c.args.cut.by_key) = subst (λ q. IsParted (page_in old q).nodes at (separator (page_in old q).nodes key at c.args.cut.by_key)) child c.requires.parted in
    let sep : c.if-cut.separator.now ≡ separator nodes key at c.args.cut.by_key = elim c.if-cut.branch [
      | then-cut w ↦ sep_key nodes key c.if-cut.separator.now at c.args.cut.by_key w.if-cut.true (ap (λ (r : Bor (List ℕ)). r.now) w.separator-is)
      | else-cut w ↦ sep_first nodes c.move_tail.new.to.nodes key c.if-cut.separator.now at c.args.cut.by_key w.if-cut.false moved (ap (λ (r : Bor (List ℕ)). r.now) w.separator-is ∙ w.key-separator.ensures)
    ] in
    let parted_here : IsParted nodes at c.if-cut.separator.now = subst (IsParted nodes at) (sym sep) parted in
    let inner : 0 < c.args.depth → c.if-cut.separator.now ≡ (node_at nodes at).key = λ some. sep ∙ sep_inner nodes key at c.args.cut.by_key (c.requires.inner some) in
    let was : page_in old page ≡ c.page_mut.result.now = page_is old page c.page_mut.result.now (sym w.page_same ∙ c.page_mut.ensures.value) in
    subst (λ (p : PageContents). IsInsertPlace p.nodes c.if-cut.separator.now (i + 1)) was
    (middle_place c.args.depth old page i below at c.if-cut.separator.now c.requires.tree c.requires.place.within child parted_here inner)

pub clear_first_key-requires-clause-some : goal.clear_first_key-requires-clause-some
clear_first_key-requires-clause-some c =
    let old = c.args.space.now in
    let page = c.args.page in
    let i = c.args.i in
    let key = c.args.key.now in
    let at = c.args.cut.at in
    let below = c.read_u32-below.result in
    let number = c.in_ok-number.number in
    let nodes = (page_in old below).nodes in
    let child = child_read old page i below c.page-inner.result.now c.data.result.now c.page-inner.ensures c.data.ensures c.read_u32-below.ensures in
    let w = writes_of c.args.depth old c.take.new.self page i below number c.move_tail.new.self (empty_page 0) (empty_page 0) c.requires.tree c.requires.once c.requires.place.within child c.in_ok-number.ensures.ok in
    let left_was : page_in old below ≡ c.page_mut-left.result.now = page_is old below c.page_mut-left.result.now (sym w.below_same ∙ c.page_mut-left.ensures.value) in
    let moved : c.move_tail.new.to.nodes ≡ drop at nodes = ap (λ (p : PageContents). p.nodes) c.move_tail.ensures.moved ∙ ap (λ (p : PageContents). drop at p.nodes) (sym left_was) in
    let parted : IsParted nodes at (separator nodes key at c.args.cut.by_key) = subst (λ q. IsParted (page_in old q).nodes at (separator (page_in old q).nodes key at c.args.cut.by_key)) child c.requires.parted in
    omega (arith, ap (λ (ns : List Node). length ns) moved, length-drop at nodes, parted.last)

pub clear_first_key-requires-clause-child : goal.clear_first_key-requires-clause-child
clear_first_key-requires-clause-child c =
    let old = c.args.space.now in
    let page = c.args.page in
    let i = c.args.i in
    let key = c.args.key.now in
    let at = c.args.cut.at in
    let below = c.read_u32-below.result in
    let number = c.in_ok-number.number in
    let nodes = (page_in old below).nodes in
    let child = child_read old page i below c.page-inner.result.now c.data.result.now c.page-inner.ensures c.data.ensures c.read_u32-below.ensures in
    let w = writes_of c.args.depth old c.take.new.self page i below number c.move_tail.new.self (empty_page 0) (empty_page 0) c.requires.tree c.requires.once c.requires.place.within child c.in_ok-number.ensures.ok in
    let left_was : page_in old below ≡ c.page_mut-left.result.now = page_is old below c.page_mut-left.result.now (sym w.below_same ∙ c.page_mut-left.ensures.value) in
    let moved : c.move_tail.new.to.nodes ≡ drop at nodes = ap (λ (p : PageContents). p.nodes) c.move_tail.ensures.moved ∙ ap (λ (p : PageContents). drop at p.nodes) (sym left_was) in
    let parted : IsParted nodes at (separator nodes key at c.args.cut.by_key) = subst (λ q. IsParted (page_in old q).nodes at (separator (page_in old q).nodes key at c.args.cut.by_key)) child c.requires.parted in
    let inner = inner_of c.args.depth old below c.if-depth-gt0.true (subst (IsSubtree c.args.depth old) child (c.requires.tree.2 i c.requires.place.within)) in
    let first : node_at c.move_tail.new.to.nodes 0 ≡ node_at nodes at = ap (λ (ns : List Node). node_at ns 0) moved ∙ drop_first nodes at in
    ap (λ (n : Node). length n.data) first ∙ inner.children at no_node parted.last

pub clear_first_key-requires-clause-extent : goal.clear_first_key-requires-clause-extent
clear_first_key-requires-clause-extent c =
    let old = c.args.space.now in
    let page = c.args.page in
    let i = c.args.i in
    let key = c.args.key.now in
    let at = c.args.cut.at in
    let below = c.read_u32-below.result in
    let number = c.in_ok-number.number in
    let nodes = (page_in old below).nodes in
    let child = child_read old page i below c.page-inner.result.now c.data.result.now c.page-inner.ensures c.data.ensures c.read_u32-below.ensures in
    let w = writes_of c.args.depth old c.take.new.self page i below number c.move_tail.new.self (empty_page 0) (empty_page 0) c.requires.tree c.requires.once c.requires.place.within child c.in_ok-number.ensures.ok in
    let left_was : page_in old below ≡ c.page_mut-left.result.now = page_is old below c.page_mut-left.result.now (sym w.below_same ∙ c.page_mut-left.ensures.value) in
    let moved : c.move_tail.new.to.nodes ≡ drop at nodes = ap (λ (p : PageContents). p.nodes) c.move_tail.ensures.moved ∙ ap (λ (p : PageContents). drop at p.nodes) (sym left_was) in
    let parted : IsParted nodes at (separator nodes key at c.args.cut.by_key) = subst (λ q. IsParted (page_in old q).nodes at (separator (page_in old q).nodes key at c.args.cut.by_key)) child c.requires.parted in
    let inner = inner_of c.args.depth old below c.if-depth-gt0.true (subst (IsSubtree c.args.depth old) child (c.requires.tree.2 i c.requires.place.within)) in
    let first : node_at c.move_tail.new.to.nodes 0 ≡ node_at nodes at = ap (λ (ns : List Node). node_at ns 0) moved ∙ drop_first nodes at in
    ap (λ (n : Node). n.extent) first ∙ inner.extents at no_node parted.last

-- what the writes are
then_cut : (c : goal.Then-is_left) → Cutting c.args.depth c.args.space.now (set (set (set c.take.new.self c.read_u32-below.result (Some c.move_tail.new.self)) c.args.page (Some c.insert.new.self)) c.in_ok-number.number (Some c.if-depth-gt0.right)) c.args.page c.args.i c.read_u32-below.result c.in_ok-number.number c.args.cut.at (record { key = c.if-cut.separator.now; extent = 4; «data» = c.child_bytes.result })
then_cut c =
    let old = c.args.space.now in
    let page = c.args.page in
    let i = c.args.i in
    let key = c.args.key.now in
    let at = c.args.cut.at in
    let below = c.read_u32-below.result in
    let number = c.in_ok-number.number in
    let nodes = (page_in old below).nodes in
    let child = child_read old page i below c.page-inner.result.now c.data.result.now c.page-inner.ensures c.data.ensures c.read_u32-below.ensures in
    let w = writes_of c.args.depth old c.take.new.self page i below number c.move_tail.new.self c.insert.new.self (empty_page 0) c.requires.tree c.requires.once c.requires.place.within child c.in_ok-number.ensures.ok in
    let left_was : page_in old below ≡ c.page_mut-left.result.now = page_is old below c.page_mut-left.result.now (sym w.below_same ∙ c.page_mut-left.ensures.value) in
    let moved : c.move_tail.new.to.nodes ≡ drop at nodes = ap (λ (p : PageContents). p.nodes) c.move_tail.ensures.moved ∙ ap (λ (p : PageContents). drop at p.nodes) (sym left_was) in
    let parted : IsParted nodes at (separator nodes key at c.args.cut.by_key) = subst (λ q. IsParted (page_in old q).nodes at (separator (page_in old q).nodes key at c.args.cut.by_key)) child c.requires.parted in
    let sep : c.if-cut.separator.now ≡ separator nodes key at c.args.cut.by_key = elim c.if-cut.branch [
      | then-cut w ↦ sep_key nodes key c.if-cut.separator.now at c.args.cut.by_key w.if-cut.true (ap (λ (r : Bor (List ℕ)). r.now) w.separator-is)
      | else-cut w ↦ sep_first nodes c.move_tail.new.to.nodes key c.if-cut.separator.now at c.args.cut.by_key w.if-cut.false moved (ap (λ (r : Bor (List ℕ)). r.now) w.separator-is ∙ w.key-separator.ensures)
    ] in
    let parted_here : IsParted nodes at c.if-cut.separator.now = subst (IsParted nodes at) (sym sep) parted in
    let inner : 0 < c.args.depth → c.if-cut.separator.now ≡ (node_at nodes at).key = λ some. sep ∙ sep_inner nodes key at c.args.cut.by_key (c.requires.inner some) in
    let n : Node = record { key = c.if-cut.separator.now; extent = 4; «data» = c.child_bytes.result } in
    let was : page_in old page ≡ c.page_mut.result.now = page_is old page c.page_mut.result.now (sym w.page_same ∙ c.page_mut.ensures.value) in
    let below_tree = subst (IsSubtree c.args.depth old) child (c.requires.tree.2 i c.requires.place.within) in
    let short : length c.if-cut.separator.now ≤ 755 = subst (λ (k : List ℕ). length k ≤ 755) (sym sep) (sep_short nodes key at c.args.cut.by_key c.requires.short (small_of c.args.depth old below below_tree) parted.last) in
    let fits : page_size c.page_mut.result.now.nodes + (6 + length c.if-cut.separator.now + 4) ≤ 4096 = omega (arith, c.requires.room, short, ap (λ (p : PageContents). page_size p.nodes) was) in
    let parent : c.insert.new.self ≡ record (page_in old page) { nodes = insert (page_in old page).nodes (i + 1) n } = when_ok c.insert.result _ (c.insert.ensures.full.1 fits) c.insert.ensures.ok ∙ ap (λ (p : PageContents). record p { nodes = insert p.nodes (i + 1) n }) (sym was) in
    let left : c.move_tail.new.self ≡ record (page_in old below) { nodes = take at nodes } = c.move_tail.ensures.kept ∙ ap (λ (p : PageContents). record p { nodes = take at p.nodes }) (sym left_was) in
    let fresh : c.move_tail.new.to ≡ record { number = number; kind = (page_in old below).kind; nodes = drop at nodes } =
    c.move_tail.ensures.moved ∙ ap (λ (p : PageContents). record p { nodes = drop at c.page_mut-left.result.now.nodes }) c.empty-right.ensures.value
    ∙ ap (λ k. record { number = number; kind = k; nodes = drop at c.page_mut-left.result.now.nodes }) c.kind.ensures.value
    ∙ ap (λ (p : PageContents). record { number = number; kind = p.kind; nodes = drop at p.nodes }) (sym left_was) in
    let right : (c.if-depth-gt0.right ≡ record { number = number; kind = (page_in old below).kind; nodes = tail_of c.args.depth (drop at nodes) }) × IsPage c.if-depth-gt0.right = elim c.if-depth-gt0.branch [
      | then-depth-gt0 w ↦ (
        w.right-is ∙ w.clear_first_key.ensures.value ∙ ap (λ (p : PageContents). record p { nodes = cleared p.nodes }) fresh
            ∙ ap (λ (ns : List Node). record { number = number; kind = (page_in old below).kind; nodes = ns }) (tail_inner c.args.depth (drop at nodes) w.if-depth-gt0.true),
        subst IsPage (sym w.right-is) w.clear_first_key.ensures.page,
      )
      | else-depth-gt0 w ↦ (
        w.right-is ∙ fresh ∙ ap (λ (ns : List Node). record { number = number; kind = (page_in old below).kind; nodes = ns }) (tail_leaf c.args.depth (drop at nodes) (omega (arith, w.if-depth-gt0.false))),
        subst IsPage (sym w.right-is) c.move_tail.ensures.pages.1,
      )
    ] in
    cutting_made c.args.depth old c.take.new.self page i below number at n c.move_tail.new.self c.insert.new.self c.if-depth-gt0.right c.requires.tree c.requires.once c.requires.place.within child c.in_ok-number.ensures.ok parted_here inner
    (record { size = omega arith; key = short }) c.child_bytes.ensures.len refl c.child_bytes.ensures.value left c.move_tail.ensures.pages.0 parent c.insert.ensures.page right.0 right.1

pub returns-then-is_left-clause-ok : goal.returns-then-is_left-clause-ok
returns-then-is_left-clause-ok c =
    entered_left c.args.key.now c.args.depth c.args.space.now _ c.args.page c.args.i c.read_u32-below.result c.in_ok-number.number c.args.cut.at _ (then_cut c) c.requires.place
    (key_below c.args.key.now c.if-cut.separator.now c.cmp.result c.is_lt-is_left.result c.cmp.ensures c.is_lt-is_left.ensures c.if-is_left.true)

pub returns-then-is_left-clause-room : goal.returns-then-is_left-clause-room
returns-then-is_left-clause-room c need room =
    let old = c.args.space.now in
    let page = c.args.page in
    let i = c.args.i in
    let key = c.args.key.now in
    let at = c.args.cut.at in
    let below = c.read_u32-below.result in
    let number = c.in_ok-number.number in
    let nodes = (page_in old below).nodes in
    let child = child_read old page i below c.page-inner.result.now c.data.result.now c.page-inner.ensures c.data.ensures c.read_u32-below.ensures in
    let w = writes_of c.args.depth old c.take.new.self page i below number c.move_tail.new.self c.insert.new.self (empty_page 0) c.requires.tree c.requires.once c.requires.place.within child c.in_ok-number.ensures.ok in
    let left_was : page_in old below ≡ c.page_mut-left.result.now = page_is old below c.page_mut-left.result.now (sym w.below_same ∙ c.page_mut-left.ensures.value) in
    let moved : c.move_tail.new.to.nodes ≡ drop at nodes = ap (λ (p : PageContents). p.nodes) c.move_tail.ensures.moved ∙ ap (λ (p : PageContents). drop at p.nodes) (sym left_was) in
    let parted : IsParted nodes at (separator nodes key at c.args.cut.by_key) = subst (λ q. IsParted (page_in old q).nodes at (separator (page_in old q).nodes key at c.args.cut.by_key)) child c.requires.parted in
    let sep : c.if-cut.separator.now ≡ separator nodes key at c.args.cut.by_key = elim c.if-cut.branch [
      | then-cut w ↦ sep_key nodes key c.if-cut.separator.now at c.args.cut.by_key w.if-cut.true (ap (λ (r : Bor (List ℕ)). r.now) w.separator-is)
      | else-cut w ↦ sep_first nodes c.move_tail.new.to.nodes key c.if-cut.separator.now at c.args.cut.by_key w.if-cut.false moved (ap (λ (r : Bor (List ℕ)). r.now) w.separator-is ∙ w.key-separator.ensures)
    ] in
    let parted_here : IsParted nodes at c.if-cut.separator.now = subst (IsParted nodes at) (sym sep) parted in
    let inner : 0 < c.args.depth → c.if-cut.separator.now ≡ (node_at nodes at).key = λ some. sep ∙ sep_inner nodes key at c.args.cut.by_key (c.requires.inner some) in
    let has : HasRoom nodes key need at c.if-cut.separator.now = subst (HasRoom nodes key need at) (sym sep) (subst (λ q. HasRoom (page_in old q).nodes key need at (separator (page_in old q).nodes key at c.args.cut.by_key)) child room) in
    let is : page_in _ below ≡ record (page_in old below) { nodes = take at nodes } = page_is _ below (record (page_in old below) { nodes = take at nodes }) (then_cut c).left in
    omega (arith, ap (λ (p : PageContents). page_size p.nodes) is, has.left (key_below key c.if-cut.separator.now c.cmp.result c.is_lt-is_left.result c.cmp.ensures c.is_lt-is_left.ensures c.if-is_left.true))

-- what the writes are
else_cut : (c : goal.Else-is_left) → Cutting c.args.depth c.args.space.now (set (set (set c.take.new.self c.read_u32-below.result (Some c.move_tail.new.self)) c.args.page (Some c.insert.new.self)) c.in_ok-number.number (Some c.if-depth-gt0.right)) c.args.page c.args.i c.read_u32-below.result c.in_ok-number.number c.args.cut.at (record { key = c.if-cut.separator.now; extent = 4; «data» = c.child_bytes.result })
else_cut c =
    let old = c.args.space.now in
    let page = c.args.page in
    let i = c.args.i in
    let key = c.args.key.now in
    let at = c.args.cut.at in
    let below = c.read_u32-below.result in
    let number = c.in_ok-number.number in
    let nodes = (page_in old below).nodes in
    let child = child_read old page i below c.page-inner.result.now c.data.result.now c.page-inner.ensures c.data.ensures c.read_u32-below.ensures in
    let w = writes_of c.args.depth old c.take.new.self page i below number c.move_tail.new.self c.insert.new.self (empty_page 0) c.requires.tree c.requires.once c.requires.place.within child c.in_ok-number.ensures.ok in
    let left_was : page_in old below ≡ c.page_mut-left.result.now = page_is old below c.page_mut-left.result.now (sym w.below_same ∙ c.page_mut-left.ensures.value) in
    let moved : c.move_tail.new.to.nodes ≡ drop at nodes = ap (λ (p : PageContents). p.nodes) c.move_tail.ensures.moved ∙ ap (λ (p : PageContents). drop at p.nodes) (sym left_was) in
    let parted : IsParted nodes at (separator nodes key at c.args.cut.by_key) = subst (λ q. IsParted (page_in old q).nodes at (separator (page_in old q).nodes key at c.args.cut.by_key)) child c.requires.parted in
    let sep : c.if-cut.separator.now ≡ separator nodes key at c.args.cut.by_key = elim c.if-cut.branch [
      | then-cut w ↦ sep_key nodes key c.if-cut.separator.now at c.args.cut.by_key w.if-cut.true (ap (λ (r : Bor (List ℕ)). r.now) w.separator-is)
      | else-cut w ↦ sep_first nodes c.move_tail.new.to.nodes key c.if-cut.separator.now at c.args.cut.by_key w.if-cut.false moved (ap (λ (r : Bor (List ℕ)). r.now) w.separator-is ∙ w.key-separator.ensures)
    ] in
    let parted_here : IsParted nodes at c.if-cut.separator.now = subst (IsParted nodes at) (sym sep) parted in
    let inner : 0 < c.args.depth → c.if-cut.separator.now ≡ (node_at nodes at).key = λ some. sep ∙ sep_inner nodes key at c.args.cut.by_key (c.requires.inner some) in
    let n : Node = record { key = c.if-cut.separator.now; extent = 4; «data» = c.child_bytes.result } in
    let was : page_in old page ≡ c.page_mut.result.now = page_is old page c.page_mut.result.now (sym w.page_same ∙ c.page_mut.ensures.value) in
    let below_tree = subst (IsSubtree c.args.depth old) child (c.requires.tree.2 i c.requires.place.within) in
    let short : length c.if-cut.separator.now ≤ 755 = subst (λ (k : List ℕ). length k ≤ 755) (sym sep) (sep_short nodes key at c.args.cut.by_key c.requires.short (small_of c.args.depth old below below_tree) parted.last) in
    let fits : page_size c.page_mut.result.now.nodes + (6 + length c.if-cut.separator.now + 4) ≤ 4096 = omega (arith, c.requires.room, short, ap (λ (p : PageContents). page_size p.nodes) was) in
    let parent : c.insert.new.self ≡ record (page_in old page) { nodes = insert (page_in old page).nodes (i + 1) n } = when_ok c.insert.result _ (c.insert.ensures.full.1 fits) c.insert.ensures.ok ∙ ap (λ (p : PageContents). record p { nodes = insert p.nodes (i + 1) n }) (sym was) in
    let left : c.move_tail.new.self ≡ record (page_in old below) { nodes = take at nodes } = c.move_tail.ensures.kept ∙ ap (λ (p : PageContents). record p { nodes = take at p.nodes }) (sym left_was) in
    let fresh : c.move_tail.new.to ≡ record { number = number; kind = (page_in old below).kind; nodes = drop at nodes } =
    c.move_tail.ensures.moved ∙ ap (λ (p : PageContents). record p { nodes = drop at c.page_mut-left.result.now.nodes }) c.empty-right.ensures.value
    ∙ ap (λ k. record { number = number; kind = k; nodes = drop at c.page_mut-left.result.now.nodes }) c.kind.ensures.value
    ∙ ap (λ (p : PageContents). record { number = number; kind = p.kind; nodes = drop at p.nodes }) (sym left_was) in
    let right : (c.if-depth-gt0.right ≡ record { number = number; kind = (page_in old below).kind; nodes = tail_of c.args.depth (drop at nodes) }) × IsPage c.if-depth-gt0.right = elim c.if-depth-gt0.branch [
      | then-depth-gt0 w ↦ (
        w.right-is ∙ w.clear_first_key.ensures.value ∙ ap (λ (p : PageContents). record p { nodes = cleared p.nodes }) fresh
            ∙ ap (λ (ns : List Node). record { number = number; kind = (page_in old below).kind; nodes = ns }) (tail_inner c.args.depth (drop at nodes) w.if-depth-gt0.true),
        subst IsPage (sym w.right-is) w.clear_first_key.ensures.page,
      )
      | else-depth-gt0 w ↦ (
        w.right-is ∙ fresh ∙ ap (λ (ns : List Node). record { number = number; kind = (page_in old below).kind; nodes = ns }) (tail_leaf c.args.depth (drop at nodes) (omega (arith, w.if-depth-gt0.false))),
        subst IsPage (sym w.right-is) c.move_tail.ensures.pages.1,
      )
    ] in
    cutting_made c.args.depth old c.take.new.self page i below number at n c.move_tail.new.self c.insert.new.self c.if-depth-gt0.right c.requires.tree c.requires.once c.requires.place.within child c.in_ok-number.ensures.ok parted_here inner
    (record { size = omega arith; key = short }) c.child_bytes.ensures.len refl c.child_bytes.ensures.value left c.move_tail.ensures.pages.0 parent c.insert.ensures.page right.0 right.1

pub returns-else-is_left-clause-ok : goal.returns-else-is_left-clause-ok
returns-else-is_left-clause-ok c =
    entered_right c.args.key.now c.args.depth c.args.space.now _ c.args.page c.args.i c.read_u32-below.result c.in_ok-number.number c.args.cut.at _ (else_cut c) c.requires.place
    (key_not_below c.args.key.now c.if-cut.separator.now c.cmp.result c.is_lt-is_left.result c.cmp.ensures c.is_lt-is_left.ensures c.if-is_left.false)

pub returns-else-is_left-clause-room : goal.returns-else-is_left-clause-room
returns-else-is_left-clause-room c need room =
    let old = c.args.space.now in
    let page = c.args.page in
    let i = c.args.i in
    let key = c.args.key.now in
    let at = c.args.cut.at in
    let below = c.read_u32-below.result in
    let number = c.in_ok-number.number in
    let nodes = (page_in old below).nodes in
    let child = child_read old page i below c.page-inner.result.now c.data.result.now c.page-inner.ensures c.data.ensures c.read_u32-below.ensures in
    let w = writes_of c.args.depth old c.take.new.self page i below number c.move_tail.new.self c.insert.new.self (empty_page 0) c.requires.tree c.requires.once c.requires.place.within child c.in_ok-number.ensures.ok in
    let left_was : page_in old below ≡ c.page_mut-left.result.now = page_is old below c.page_mut-left.result.now (sym w.below_same ∙ c.page_mut-left.ensures.value) in
    let moved : c.move_tail.new.to.nodes ≡ drop at nodes = ap (λ (p : PageContents). p.nodes) c.move_tail.ensures.moved ∙ ap (λ (p : PageContents). drop at p.nodes) (sym left_was) in
    let parted : IsParted nodes at (separator nodes key at c.args.cut.by_key) = subst (λ q. IsParted (page_in old q).nodes at (separator (page_in old q).nodes key at c.args.cut.by_key)) child c.requires.parted in
    let sep : c.if-cut.separator.now ≡ separator nodes key at c.args.cut.by_key = elim c.if-cut.branch [
      | then-cut w ↦ sep_key nodes key c.if-cut.separator.now at c.args.cut.by_key w.if-cut.true (ap (λ (r : Bor (List ℕ)). r.now) w.separator-is)
      | else-cut w ↦ sep_first nodes c.move_tail.new.to.nodes key c.if-cut.separator.now at c.args.cut.by_key w.if-cut.false moved (ap (λ (r : Bor (List ℕ)). r.now) w.separator-is ∙ w.key-separator.ensures)
    ] in
    let parted_here : IsParted nodes at c.if-cut.separator.now = subst (IsParted nodes at) (sym sep) parted in
    let inner : 0 < c.args.depth → c.if-cut.separator.now ≡ (node_at nodes at).key = λ some. sep ∙ sep_inner nodes key at c.args.cut.by_key (c.requires.inner some) in
    let has : HasRoom nodes key need at c.if-cut.separator.now = subst (HasRoom nodes key need at) (sym sep) (subst (λ q. HasRoom (page_in old q).nodes key need at (separator (page_in old q).nodes key at c.args.cut.by_key)) child room) in
    let is : page_in _ number ≡ record { number = number; kind = (page_in old below).kind; nodes = tail_of c.args.depth (drop at nodes) } = page_is _ number (record { number = number; kind = (page_in old below).kind; nodes = tail_of c.args.depth (drop at nodes) }) (else_cut c).right in
    omega (arith, ap (λ (p : PageContents). page_size p.nodes) is, tail_size c.args.depth (drop at nodes), has.right (key_not_below key c.if-cut.separator.now c.cmp.result c.is_lt-is_left.result c.cmp.ensures c.is_lt-is_left.ensures c.if-is_left.false))

-- A leaf loses the node, and a page that empties goes with its link.
use Rattle.std.proofs.Common.{◌≡◌, ◌≢◌, ◌-◌, ◌<◌, suc, Option, Some, None, length, set, refl, sym, ap, subst, ◌∙◌, arith}
use Rattle.std.specs.Prelude.{AllPairs, IsSome, find}
use Rattle.std.proofs.lemmas.Bool.{eqb-true, eqb-false}
use Rattle.page_image.specs.Page.{Node, PageContents, IsPage}
use Rattle.page_space.specs.Frames.{Frames, page_at}
use Rattle.btree_node.specs.Cut.{IsChildPlace}
use Rattle.btree_inplace.specs.Alterations.{Altered, Emptied, unlinked}
use Rattle.btree_inplace.specs.Changes.{StayBut, without_key}
use Rattle.btree_inplace.specs.Order.{has_key}
use Rattle.btree_inplace.specs.Shape.{IsInner, IsSubtree, entries, page_in, pages}
use Rattle.btree_inplace.proofs.Altering.{lifted}
use Rattle.btree_inplace.proofs.Changing.{child_once, set-stays}
use Rattle.btree_inplace.proofs.Counting.{copies-once}
use Rattle.btree_inplace.proofs.Entering.{find_below}
use Rattle.btree_inplace.proofs.Removing.{Unlinks, leaf-emptied, leaf-remove, parent_same, unlinks_emptied, unlinks_kept, without_key-local}
use Rattle.btree_inplace.proofs.Writes.{child_read, page_is, some_is_taken, taken_same, wrote}
use Rattle.btree_inplace.proofs.remove.+remove_below.Goals as goal

pub returns-then-depth-eq0-clause-kept : goal.returns-then-depth-eq0-clause-kept
returns-then-depth-eq0-clause-kept t c kept =
    let old = c.args.space.now in
    let key = c.args.key.now in
    let page = c.args.page in
    let new = set old page (Some c.remove_at.new.leaf) in
    let is : page_in old page ≡ c.page_mut.result.now = page_is old page c.page_mut.result.now c.page_mut.ensures.value in
    let value : c.remove_at.new.leaf ≡ record (page_in old page) { nodes = without_key (page_in old page).nodes key } = c.remove_at.ensures.value ∙ ap (λ (p : PageContents). record p { nodes = without_key p.nodes key }) (sym is) in
    let at : page_at new page ≡ Some c.remove_at.new.leaf = wrote old page c.remove_at.new.leaf (some_is_taken old page c.page_mut.result.now c.page_mut.ensures.value) in
    let count : length c.remove_at.new.leaf.nodes ≡ length (without_key (page_in old page).nodes key) = ap (λ (p : PageContents). length p.nodes) value in
    let some : ¬ (length c.remove_at.new.leaf.nodes ≡ 0) = eqb-false (length c.remove_at.new.leaf.nodes) 0 (sym c.remove_at.ensures.none ∙ kept) in
    subst (λ n. Altered (λ nodes. without_key nodes key) key n old new page) (sym c.if-depth-eq0.true)
    (leaf-remove old new page key (subst (λ n. IsSubtree n old page) c.if-depth-eq0.true c.requires.tree) (set-stays old page (Some c.remove_at.new.leaf)) (at ∙ ap Some value) (subst IsPage value c.remove_at.ensures.page) (omega (arith, count, some)))

pub returns-then-depth-eq0-clause-emptied : goal.returns-then-depth-eq0-clause-emptied
returns-then-depth-eq0-clause-emptied t c emptied =
    let old = c.args.space.now in
    let key = c.args.key.now in
    let page = c.args.page in
    let new = set old page (Some c.remove_at.new.leaf) in
    let is : page_in old page ≡ c.page_mut.result.now = page_is old page c.page_mut.result.now c.page_mut.ensures.value in
    let value : c.remove_at.new.leaf ≡ record (page_in old page) { nodes = without_key (page_in old page).nodes key } = c.remove_at.ensures.value ∙ ap (λ (p : PageContents). record p { nodes = without_key p.nodes key }) (sym is) in
    let at : page_at new page ≡ Some c.remove_at.new.leaf = wrote old page c.remove_at.new.leaf (some_is_taken old page c.page_mut.result.now c.page_mut.ensures.value) in
    let count : length c.remove_at.new.leaf.nodes ≡ length (without_key (page_in old page).nodes key) = ap (λ (p : PageContents). length p.nodes) value in
    let none : length c.remove_at.new.leaf.nodes ≡ 0 = eqb-true (length c.remove_at.new.leaf.nodes) 0 (sym c.remove_at.ensures.none ∙ emptied) in
    subst (λ n. Emptied key n old new page) (sym c.if-depth-eq0.true)
    (leaf-emptied old new page key (set-stays old page (Some c.remove_at.new.leaf)) (some_is_taken new page c.remove_at.new.leaf at) (sym count ∙ none))

pub remove_below-requires : goal.remove_below-requires
remove_below-requires t c =
    let old = c.args.space.now in
    let key = c.args.key.now in
    let page = c.args.page in
    let i = c.child-i.result in
    let below = c.read_u32-below.result in
    let depth = c.args.depth - 1 in
    let here : c.args.depth ≡ suc depth = omega (arith, c.if-depth-eq0.false) in
    let tree : IsSubtree (suc depth) old page = subst (λ n. IsSubtree n old page) here c.requires.tree in
    let once : AllPairs (λ p q. p ≢ q) (pages (suc depth) old page) = subst (λ n. AllPairs (λ p q. p ≢ q) (pages n old page)) here c.requires.once in
    let inner : page_in old page ≡ c.page-inner.result.now = page_is old page c.page-inner.result.now c.page-inner.ensures in
    let place : IsChildPlace (page_in old page).nodes key i = subst (λ (p : PageContents). IsChildPlace p.nodes key i) (sym inner) c.child-i.ensures in
    let child = child_read old page i below c.page-inner.result.now c.data.result.now c.page-inner.ensures c.data.ensures c.read_u32-below.ensures in
    let there : IsSome (find (has_key key) (entries (suc depth) old page)) = subst (λ n. IsSome (find (has_key key) (entries n old page))) here c.requires.there in (
      omega (arith, c.decreases, c.if-depth-eq0.false),
      (
        subst (IsSubtree depth old) child (tree.2 i place.within),
        (
          subst (λ q. AllPairs (λ a b. a ≢ b) (pages depth old q)) child (child_once depth old page i once place.within),
          subst (λ (o : Option Node). IsSome o) (sym (find_below depth old page i below key tree place child)) there,
        ),
      ),
    )

pub returns-then-not-remove_below-clause-kept : goal.returns-then-not-remove_below-clause-kept
returns-then-not-remove_below-clause-kept t c _ =
    let old = c.args.space.now in
    let key = c.args.key.now in
    let page = c.args.page in
    let i = c.child-i.result in
    let below = c.read_u32-below.result in
    let depth = c.args.depth - 1 in
    let here : c.args.depth ≡ suc depth = omega (arith, c.if-depth-eq0.false) in
    let tree : IsSubtree (suc depth) old page = subst (λ n. IsSubtree n old page) here c.requires.tree in
    let once : AllPairs (λ p q. p ≢ q) (pages (suc depth) old page) = subst (λ n. AllPairs (λ p q. p ≢ q) (pages n old page)) here c.requires.once in
    let inner : page_in old page ≡ c.page-inner.result.now = page_is old page c.page-inner.result.now c.page-inner.ensures in
    let place : IsChildPlace (page_in old page).nodes key i = subst (λ (p : PageContents). IsChildPlace p.nodes key i) (sym inner) c.child-i.ensures in
    let child = child_read old page i below c.page-inner.result.now c.data.result.now c.page-inner.ensures c.data.ensures c.read_u32-below.ensures in
    let new = c.remove_below.new.space in
    subst (λ n. Altered (λ nodes. without_key nodes key) key n old new page) (sym here)
    (lifted (λ nodes. without_key nodes key) key (without_key-local key) depth old new page i tree place (λ p. copies-once (pages (suc depth) old page) p once)
    (subst (Altered (λ nodes. without_key nodes key) key depth old new) (sym child) (c.if-not-remove_below.ensures.kept refl)))

pub page_mut-requires-2 : goal.page_mut-requires-2
page_mut-requires-2 t c =
    let old = c.args.space.now in
    let key = c.args.key.now in
    let page = c.args.page in
    let i = c.child-i.result in
    let below = c.read_u32-below.result in
    let depth = c.args.depth - 1 in
    let here : c.args.depth ≡ suc depth = omega (arith, c.if-depth-eq0.false) in
    let tree : IsSubtree (suc depth) old page = subst (λ n. IsSubtree n old page) here c.requires.tree in
    let once : AllPairs (λ p q. p ≢ q) (pages (suc depth) old page) = subst (λ n. AllPairs (λ p q. p ≢ q) (pages n old page)) here c.requires.once in
    let inner : page_in old page ≡ c.page-inner.result.now = page_is old page c.page-inner.result.now c.page-inner.ensures in
    let place : IsChildPlace (page_in old page).nodes key i = subst (λ (p : PageContents). IsChildPlace p.nodes key i) (sym inner) c.child-i.ensures in
    let child = child_read old page i below c.page-inner.result.now c.data.result.now c.page-inner.ensures c.data.ensures c.read_u32-below.ensures in
    let between = c.remove_below.new.space in
    let middle = set between below None in
    let u : Unlinks key depth old between middle page i below = record {
      tree = tree;
      once = λ p. copies-once (pages (suc depth) old page) p once;
      place = place;
      child = child;
      emptied = c.if-not-remove_below.ensures.emptied refl;
      stay = λ p ne. refl;
    } in
    let same : page_at c.give_back.new.self page ≡ page_at old page = ap (λ (f : Frames). page_at f page) c.give_back.ensures ∙ parent_same key depth old between middle page i below u in
    taken_same old c.give_back.new.self page same tree.0.taken

pub unlink-requires-clause-place : goal.unlink-requires-clause-place
unlink-requires-clause-place t c =
    let old = c.args.space.now in
    let key = c.args.key.now in
    let page = c.args.page in
    let i = c.child-i.result in
    let below = c.read_u32-below.result in
    let depth = c.args.depth - 1 in
    let here : c.args.depth ≡ suc depth = omega (arith, c.if-depth-eq0.false) in
    let tree : IsSubtree (suc depth) old page = subst (λ n. IsSubtree n old page) here c.requires.tree in
    let once : AllPairs (λ p q. p ≢ q) (pages (suc depth) old page) = subst (λ n. AllPairs (λ p q. p ≢ q) (pages n old page)) here c.requires.once in
    let inner : page_in old page ≡ c.page-inner.result.now = page_is old page c.page-inner.result.now c.page-inner.ensures in
    let place : IsChildPlace (page_in old page).nodes key i = subst (λ (p : PageContents). IsChildPlace p.nodes key i) (sym inner) c.child-i.ensures in
    let child = child_read old page i below c.page-inner.result.now c.data.result.now c.page-inner.ensures c.data.ensures c.read_u32-below.ensures in
    let between = c.remove_below.new.space in
    let middle = set between below None in
    let u : Unlinks key depth old between middle page i below = record {
      tree = tree;
      once = λ p. copies-once (pages (suc depth) old page) p once;
      place = place;
      child = child;
      emptied = c.if-not-remove_below.ensures.emptied refl;
      stay = λ p ne. refl;
    } in
    let same : page_at c.give_back.new.self page ≡ page_at old page = ap (λ (f : Frames). page_at f page) c.give_back.ensures ∙ parent_same key depth old between middle page i below u in
    let was : page_in old page ≡ c.page_mut-2.result.now = page_is old page c.page_mut-2.result.now (sym same ∙ c.page_mut-2.ensures.value) in
    subst (λ (p : PageContents). i < length p.nodes) was place.within

pub unlink-requires-clause-inner : goal.unlink-requires-clause-inner
unlink-requires-clause-inner t c =
    let old = c.args.space.now in
    let key = c.args.key.now in
    let page = c.args.page in
    let i = c.child-i.result in
    let below = c.read_u32-below.result in
    let depth = c.args.depth - 1 in
    let here : c.args.depth ≡ suc depth = omega (arith, c.if-depth-eq0.false) in
    let tree : IsSubtree (suc depth) old page = subst (λ n. IsSubtree n old page) here c.requires.tree in
    let once : AllPairs (λ p q. p ≢ q) (pages (suc depth) old page) = subst (λ n. AllPairs (λ p q. p ≢ q) (pages n old page)) here c.requires.once in
    let inner : page_in old page ≡ c.page-inner.result.now = page_is old page c.page-inner.result.now c.page-inner.ensures in
    let place : IsChildPlace (page_in old page).nodes key i = subst (λ (p : PageContents). IsChildPlace p.nodes key i) (sym inner) c.child-i.ensures in
    let child = child_read old page i below c.page-inner.result.now c.data.result.now c.page-inner.ensures c.data.ensures c.read_u32-below.ensures in
    let between = c.remove_below.new.space in
    let middle = set between below None in
    let u : Unlinks key depth old between middle page i below = record {
      tree = tree;
      once = λ p. copies-once (pages (suc depth) old page) p once;
      place = place;
      child = child;
      emptied = c.if-not-remove_below.ensures.emptied refl;
      stay = λ p ne. refl;
    } in
    let same : page_at c.give_back.new.self page ≡ page_at old page = ap (λ (f : Frames). page_at f page) c.give_back.ensures ∙ parent_same key depth old between middle page i below u in
    let was : page_in old page ≡ c.page_mut-2.result.now = page_is old page c.page_mut-2.result.now (sym same ∙ c.page_mut-2.ensures.value) in
    subst (λ (p : PageContents). IsInner p.nodes) was tree.1

pub returns-clause-kept : goal.returns-clause-kept
returns-clause-kept t c kept =
    let old = c.args.space.now in
    let key = c.args.key.now in
    let page = c.args.page in
    let i = c.child-i.result in
    let below = c.read_u32-below.result in
    let depth = c.args.depth - 1 in
    let here : c.args.depth ≡ suc depth = omega (arith, c.if-depth-eq0.false) in
    let tree : IsSubtree (suc depth) old page = subst (λ n. IsSubtree n old page) here c.requires.tree in
    let once : AllPairs (λ p q. p ≢ q) (pages (suc depth) old page) = subst (λ n. AllPairs (λ p q. p ≢ q) (pages n old page)) here c.requires.once in
    let inner : page_in old page ≡ c.page-inner.result.now = page_is old page c.page-inner.result.now c.page-inner.ensures in
    let place : IsChildPlace (page_in old page).nodes key i = subst (λ (p : PageContents). IsChildPlace p.nodes key i) (sym inner) c.child-i.ensures in
    let child = child_read old page i below c.page-inner.result.now c.data.result.now c.page-inner.ensures c.data.ensures c.read_u32-below.ensures in
    let between = c.remove_below.new.space in
    let middle = set between below None in
    let u : Unlinks key depth old between (set c.give_back.new.self page (Some c.unlink.new.page)) page i below = record {
      tree = tree;
      once = λ p. copies-once (pages (suc depth) old page) p once;
      place = place;
      child = child;
      emptied = c.if-not-remove_below.ensures.emptied refl;
      stay = subst (λ (f : Frames). StayBut f (set c.give_back.new.self page (Some c.unlink.new.page)) page) c.give_back.ensures (set-stays c.give_back.new.self page (Some c.unlink.new.page));
    } in
    let same : page_at c.give_back.new.self page ≡ page_at old page = ap (λ (f : Frames). page_at f page) c.give_back.ensures ∙ parent_same key depth old between (set c.give_back.new.self page (Some c.unlink.new.page)) page i below u in
    let was : page_in old page ≡ c.page_mut-2.result.now = page_is old page c.page_mut-2.result.now (sym same ∙ c.page_mut-2.ensures.value) in
    let new = set c.give_back.new.self page (Some c.unlink.new.page) in
    let at : page_at new page ≡ Some c.unlink.new.page = wrote c.give_back.new.self page c.unlink.new.page (taken_same old c.give_back.new.self page same tree.0.taken) in
    let e = c.unlink.ensures.kept kept in
    let value : c.unlink.new.page ≡ record (page_in old page) { nodes = unlinked (page_in old page).nodes i } = e.1 ∙ ap (λ (p : PageContents). record p { nodes = unlinked p.nodes i }) (sym was) in
    let more : 1 < length (page_in old page).nodes = subst (λ (p : PageContents). 1 < length p.nodes) (sym was) e.0 in
    subst (λ n. Altered (λ nodes. without_key nodes key) key n old new page) (sym here)
    (unlinks_kept key depth old between new page i below u more (at ∙ ap Some value) (subst IsPage value e.2))

pub returns-clause-emptied : goal.returns-clause-emptied
returns-clause-emptied t c emptied =
    let old = c.args.space.now in
    let key = c.args.key.now in
    let page = c.args.page in
    let i = c.child-i.result in
    let below = c.read_u32-below.result in
    let depth = c.args.depth - 1 in
    let here : c.args.depth ≡ suc depth = omega (arith, c.if-depth-eq0.false) in
    let tree : IsSubtree (suc depth) old page = subst (λ n. IsSubtree n old page) here c.requires.tree in
    let once : AllPairs (λ p q. p ≢ q) (pages (suc depth) old page) = subst (λ n. AllPairs (λ p q. p ≢ q) (pages n old page)) here c.requires.once in
    let inner : page_in old page ≡ c.page-inner.result.now = page_is old page c.page-inner.result.now c.page-inner.ensures in
    let place : IsChildPlace (page_in old page).nodes key i = subst (λ (p : PageContents). IsChildPlace p.nodes key i) (sym inner) c.child-i.ensures in
    let child = child_read old page i below c.page-inner.result.now c.data.result.now c.page-inner.ensures c.data.ensures c.read_u32-below.ensures in
    let between = c.remove_below.new.space in
    let middle = set between below None in
    let u : Unlinks key depth old between (set c.give_back.new.self page (Some c.unlink.new.page)) page i below = record {
      tree = tree;
      once = λ p. copies-once (pages (suc depth) old page) p once;
      place = place;
      child = child;
      emptied = c.if-not-remove_below.ensures.emptied refl;
      stay = subst (λ (f : Frames). StayBut f (set c.give_back.new.self page (Some c.unlink.new.page)) page) c.give_back.ensures (set-stays c.give_back.new.self page (Some c.unlink.new.page));
    } in
    let same : page_at c.give_back.new.self page ≡ page_at old page = ap (λ (f : Frames). page_at f page) c.give_back.ensures ∙ parent_same key depth old between (set c.give_back.new.self page (Some c.unlink.new.page)) page i below u in
    let was : page_in old page ≡ c.page_mut-2.result.now = page_is old page c.page_mut-2.result.now (sym same ∙ c.page_mut-2.ensures.value) in
    let new = set c.give_back.new.self page (Some c.unlink.new.page) in
    let at : page_at new page ≡ Some c.unlink.new.page = wrote c.give_back.new.self page c.unlink.new.page (taken_same old c.give_back.new.self page same tree.0.taken) in
    let one : length (page_in old page).nodes ≡ 1 = ap (λ (p : PageContents). length p.nodes) was ∙ c.unlink.ensures.last emptied in
    subst (λ n. Emptied key n old new page) (sym here)
    (unlinks_emptied key depth old between new page i below u one (some_is_taken new page c.unlink.new.page at))

-- Each step goes to the child that the key belongs to.
use Rattle.std.proofs.Common.{refl, ◌≡◌, ◌≢◌, ◌+◌, ◌-◌, ℕ, suc, sym, ap, subst, ◌∙◌, arith}
use Rattle.std.specs.Prelude.{Option, unwrap_or, find, AllPairs, Contains}
use Rattle.byteorder.specs.Endian.{little_number}
use Rattle.page_image.specs.Page.{PageContents, node_at}
use Rattle.page_space.specs.Frames.{empty_page}
use Rattle.btree_node.specs.Cut.{IsChildPlace}
use Rattle.btree_inplace.specs.Order.{has_key}
use Rattle.btree_inplace.specs.Shape.{IsSubtree, child_of, entries, page_in, pages}
use Rattle.btree_inplace.specs.Changes.{Changed}
use Rattle.btree_inplace.proofs.Below.{find_child, other_above, other_below}
use Rattle.btree_inplace.proofs.Changing.{child_among, child_once, lift}
use Rattle.btree_inplace.proofs.Tree.leaf.Goals as goal

pub loop-level-preserved : goal.loop-level-preserved
loop-level-preserved c =
    let frames = c.args.space.now in
    let key = c.args.key.now in
    let p = has_key key in
    let page = c.loop-level.page in
    let i = c.child-i.result in
    let depth = c.args.self.now.depth - c.loop-level.level - 1 in
    let here : c.args.self.now.depth - c.loop-level.level ≡ suc depth = omega (arith, c.loop-level-test.true) in
    let below : c.args.self.now.depth - (c.loop-level.level + 1) ≡ depth = omega arith in
    let tree : IsSubtree (suc depth) frames page = subst (λ (n : ℕ). IsSubtree n frames page) here c.loop-level.invariant.shape in
    let inner : page_in frames page ≡ c.page-inner.result.now = ap (λ (o : Option PageContents). unwrap_or o (empty_page page)) c.page-inner.ensures in
    let place : IsChildPlace (page_in frames page).nodes key i = subst (λ (q : PageContents). IsChildPlace q.nodes key i) (sym inner) c.child-i.ensures in
    let next : c.read_u32-page.result ≡ child_of (node_at (page_in frames page).nodes i) = c.read_u32-page.ensures ∙ ap (little_number 4) c.data.ensures ∙ ap (λ (q : PageContents). child_of (node_at q.nodes i)) (sym inner) in
    let once : AllPairs (λ a b. a ≢ b) (pages (suc depth) frames page) = subst (λ (n : ℕ). AllPairs (λ a b. a ≢ b) (pages n frames page)) here c.loop-level.invariant.once in
    let down = λ (leaf : ℕ) (at : Contains (pages (c.args.self.now.depth - (c.loop-level.level + 1)) frames c.read_u32-page.result) leaf). subst (λ (q : ℕ). Contains (pages depth frames q) leaf) next (subst (λ (n : ℕ). Contains (pages n frames c.read_u32-page.result) leaf) below at) in
    record {
      shape = subst (λ (n : ℕ). IsSubtree n frames c.read_u32-page.result) (sym below) (subst (λ (q : ℕ). IsSubtree depth frames q) (sym next) (tree.2 i place.within));
      found =
          ap (λ n. find p (entries n frames c.read_u32-page.result)) below ∙ ap (λ q. find p (entries depth frames q)) next
          ∙ find_child p depth frames page key i (λ n. other_below n key) (λ n. other_above n key) tree place
          ∙ ap (λ n. find p (entries n frames page)) (sym here) ∙ c.loop-level.invariant.found;
      once = subst (λ (n : ℕ). AllPairs (λ a b. a ≢ b) (pages n frames c.read_u32-page.result)) (sym below) (subst (λ (q : ℕ). AllPairs (λ a b. a ≢ b) (pages depth frames q)) (sym next) (child_once depth frames page i once place.within));
      own = λ leaf at. c.loop-level.invariant.own leaf (subst (λ (n : ℕ). Contains (pages n frames page) leaf) (sym here) (child_among depth frames page i leaf place.within (down leaf at)));
      lifts = λ change new leaf local at stay changed.
          c.loop-level.invariant.lifts change new leaf local (subst (λ (n : ℕ). Contains (pages n frames page) leaf) (sym here) (child_among depth frames page i leaf place.within (down leaf at))) stay
          (subst (λ (n : ℕ). Changed change key n frames new page) (sym here)
          (lift change key local depth frames new page i leaf tree place once (down leaf at) stay
          (subst (λ (q : ℕ). Changed change key depth frames new q) next (subst (λ (n : ℕ). Changed change key n frames new c.read_u32-page.result) below changed))));
    }

pub returns-clause-lifts : goal.returns-clause-lifts
returns-clause-lifts c change new local stay changed =
    let down : c.args.self.now.depth - c.loop-level.level ≡ 0 = omega (arith, c.loop-level-test.false) in
    c.loop-level.invariant.lifts change new c.loop-level.page local
    (subst (λ (n : ℕ). Contains (pages n c.args.space.now c.loop-level.page) c.loop-level.page) (sym down) (0, omega arith, refl)) stay
    (subst (λ (n : ℕ). Changed change c.args.key.now n c.args.space.now new c.loop-level.page) (sym down) changed)

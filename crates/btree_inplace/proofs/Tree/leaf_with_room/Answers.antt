-- Each page of the path is entered in turn.
use Rattle.std.proofs.Common.{◌≡◌, ◌+◌, ◌-◌, ◌≤◌, ℕ, suc, sym, subst, arith}
use Rattle.page_space.specs.Frames.{Frames}
use Rattle.common_lemmas.proofs.Results.{OnErr-from}
use Rattle.btree_inplace.specs.Alterations.{AlteredTree, copies}
use Rattle.btree_inplace.specs.Shape.{IsSubtree, pages}
use Rattle.btree_inplace.proofs.Counting.{AllPairs-copies}
use Rattle.btree_inplace.proofs.Entering.{Going, going_ends, going_on, going_start, going_stops}
use Rattle.btree_inplace.proofs.Tree.leaf_with_room.Goals as goal

pub loop-level-init : goal.loop-level-init
loop-level-init c =
    let tree' = c.raise.new.self in
    subst (λ n. Going c.args.key.now c.args.need c.args.space.now c.args.self.now tree' n c.raise.new.space tree'.root) (omega arith)
    (going_start c.args.key.now c.args.need c.args.space.now c.raise.new.space c.args.self.now tree' c.raise.ensures.same c.in_ok-raise.ensures.room)

pub enter-requires-clause-tree : goal.enter-requires-clause-tree
enter-requires-clause-tree c =
    let here : c.raise.new.self.depth - c.loop-level.level ≡ suc (c.raise.new.self.depth - 1 - c.loop-level.level) = omega (arith, c.loop-level-test.true) in
    subst (λ n. IsSubtree n c.loop-level.space c.loop-level.page) here c.loop-level.invariant.shape

pub enter-requires-clause-once : goal.enter-requires-clause-once
enter-requires-clause-once c =
    let here : c.raise.new.self.depth - c.loop-level.level ≡ suc (c.raise.new.self.depth - 1 - c.loop-level.level) = omega (arith, c.loop-level-test.true) in
    AllPairs-copies (pages (suc (c.raise.new.self.depth - 1 - c.loop-level.level)) c.loop-level.space c.loop-level.page)
    (subst (λ n. (p : ℕ) → copies p (pages n c.loop-level.space c.loop-level.page) ≤ 1) here c.loop-level.invariant.once)

pub returns-in_err-page-clause-err : goal.returns-in_err-page-clause-err
returns-in_err-page-clause-err c =
    OnErr-from c.from_residual-in_err-page.result _
    (subst (λ (f : Frames). AlteredTree (λ nodes. nodes) c.args.space.now c.args.self.now f c.raise.new.self) (sym c.in_err-page.ensures.err)
    (going_stops c.args.key.now c.args.need c.args.space.now c.args.self.now c.raise.new.self (c.raise.new.self.depth - c.loop-level.level) c.loop-level.space c.loop-level.page c.loop-level.invariant))

pub loop-level-preserved : goal.loop-level-preserved
loop-level-preserved c =
    let tree' = c.raise.new.self in
    let depth = tree'.depth - 1 - c.loop-level.level in
    let here : tree'.depth - c.loop-level.level ≡ suc depth = omega (arith, c.loop-level-test.true) in
    let next : depth ≡ tree'.depth - (c.loop-level.level + 1) = omega arith in
    subst (λ n. Going c.args.key.now c.args.need c.args.space.now c.args.self.now tree' n c.enter.new.space c.in_ok-page.page) next
    (going_on c.args.key.now c.args.need c.args.space.now c.args.self.now tree' depth c.loop-level.space c.enter.new.space c.loop-level.page c.in_ok-page.page
    (subst (λ n. Going c.args.key.now c.args.need c.args.space.now c.args.self.now tree' n c.loop-level.space c.loop-level.page) here c.loop-level.invariant)
    c.in_ok-page.ensures.ok c.in_ok-page.ensures.room)

pub returns-clause-ok : goal.returns-clause-ok
returns-clause-ok c =
    let tree' = c.raise.new.self in
    let down : tree'.depth - c.loop-level.level ≡ 0 = omega (arith, c.loop-level-test.false) in
    going_ends c.args.key.now c.args.need c.args.space.now c.args.self.now tree' c.loop-level.space c.loop-level.page
    (subst (λ n. Going c.args.key.now c.args.need c.args.space.now c.args.self.now tree' n c.loop-level.space c.loop-level.page) down c.loop-level.invariant)

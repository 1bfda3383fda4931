-- The leaf has the node, or the neighbor ends with it.
use Rattle.std.proofs.Common.{◌≡◌, ◌+◌, ◌-◌, ℕ, suc, sym, ap, subst, ◌∙◌, arith}
use Rattle.std.specs.Prelude.{find}
use Rattle.btree_inplace.specs.Order.{has_key}
use Rattle.btree_inplace.specs.Neighbors.{found_left}
use Rattle.btree_inplace.specs.Shape.{IsSubtree, entries}
use Rattle.btree_inplace.proofs.Tree.left_path.Goals as goal

pub step_left-requires-clause-tree : goal.step_left-requires-clause-tree
step_left-requires-clause-tree c =
    let here : c.args.self.now.depth - c.loop-level.level ≡ suc (c.args.self.now.depth - 1 - c.loop-level.level) = omega (arith, c.loop-level-test.true) in
    subst (λ (n : ℕ). IsSubtree n c.args.space.now c.loop-level.page) here c.loop-level.invariant.shape

pub loop-level-preserved : goal.loop-level-preserved
loop-level-preserved c =
    let here : c.args.self.now.depth - c.loop-level.level ≡ suc (c.args.self.now.depth - 1 - c.loop-level.level) = omega (arith, c.loop-level-test.true) in
    let below : c.args.self.now.depth - (c.loop-level.level + 1) ≡ c.args.self.now.depth - 1 - c.loop-level.level = omega arith in
    record {
      shape = subst (λ (n : ℕ). IsSubtree n c.args.space.now c.step_left.result.0) (sym below) c.step_left.ensures.tree;
      beside = c.step_left.ensures.next;
      found = λ test passes.
          ap (λ n. found_left c.args.space.now n c.step_left.result.0 c.step_left.result.1 test) below ∙ c.step_left.ensures.found test passes
          ∙ ap (λ n. found_left c.args.space.now n c.loop-level.page c.loop-level.next test) (sym here) ∙ c.loop-level.invariant.found test passes;
      same =
          ap (λ n. find (has_key c.args.key.now) (entries n c.args.space.now c.step_left.result.0)) below ∙ c.step_left.ensures.same
          ∙ ap (λ n. find (has_key c.args.key.now) (entries n c.args.space.now c.loop-level.page)) (sym here) ∙ c.loop-level.invariant.same;
    }

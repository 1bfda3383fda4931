-- What each kind of place asks of the tree.
use Rattle.std.proofs.Common.{◌≡◌, Bool, true, false, option_map, refl, sym, ap, ◌∙◌}
use Rattle.std.specs.Ordering.{is_gt}
use Rattle.common_lemmas.proofs.Finding.{last_nothing}
use Rattle.index_derive.specs.declared.entries.Place.{Place}
use Rattle.index_derive.specs.declared.entries.Place.TheVariants.{After, On, Gap}
use Rattle.btree_inplace.specs.Order.{at_or_before_in, before_in, is_upto, is_under, key_and_data}
use Rattle.table_trees.specs.NodeTrees.{nodes_in}
use Rattle.table_trees.specs.StoredNodes.{node_before}
use Rattle.table_trees.proofs.BookmarkOrder.{order, short_upto, short_under}
use Rattle.table_trees.proofs.NodeChanges.{before_is}
use Rattle.table_trees.proofs.nodes.NodeTree.before.Goals as goal

pub returns-in-After : goal.returns-in-After
returns-in-After c =
    let nodes = nodes_in c.args.space.now c.args.self.now in
    before_is After nodes (λ _. true) _ (λ n. refl) c.last.ensures ∙ ap (λ (p : Place). node_before p nodes) (sym c.in-After.is)

pub returns-in-Before : goal.returns-in-Before
returns-in-Before c =
    let nodes = nodes_in c.args.space.now c.args.self.now in
    ap (option_map key_and_data) (last_nothing nodes) ∙ ap (λ (p : Place). node_before p nodes) (sym c.in-Before.is)

pub returns-then-is_gt : goal.returns-then-is_gt
returns-then-is_gt c =
    let nodes = nodes_in c.args.space.now c.args.self.now in
    let passes : is_gt (order c.in-On.bookmark c.in-On.key) ≡ true = ap is_gt (sym c.cmp.ensures) ∙ sym c.is_gt.ensures ∙ c.if-is_gt.true in
    before_is (On c.in-On.key c.in-On.bookmark) nodes (is_upto c.in-On.key) _ (λ n. short_upto c.in-On.key c.in-On.bookmark n.key passes) (c.at_or_before.ensures ∙ ap (at_or_before_in nodes) c.as_bytes.ensures.value)
    ∙ ap (λ (p : Place). node_before p nodes) (sym c.in-On.is)

pub returns-else-is_gt : goal.returns-else-is_gt
returns-else-is_gt c =
    let nodes = nodes_in c.args.space.now c.args.self.now in
    let fails : is_gt (order c.in-On.bookmark c.in-On.key) ≡ false = ap is_gt (sym c.cmp.ensures) ∙ sym c.is_gt.ensures ∙ c.if-is_gt.false in
    before_is (On c.in-On.key c.in-On.bookmark) nodes (is_under c.in-On.key) _ (λ n. short_under c.in-On.key c.in-On.bookmark n.key fails) (c.before-else-is_gt.ensures ∙ ap (before_in nodes) c.as_bytes-else-is_gt.ensures.value)
    ∙ ap (λ (p : Place). node_before p nodes) (sym c.in-On.is)

pub returns-then-above : goal.returns-then-above
returns-then-above c =
    let nodes = nodes_in c.args.space.now c.args.self.now in
    before_is (Gap c.in-Gap.key true) nodes (is_upto c.in-Gap.key) _ (λ n. refl) (c.at_or_before-then-above.ensures ∙ ap (at_or_before_in nodes) c.as_bytes-then-above.ensures.value)
    ∙ ap (λ (above : Bool). node_before (Gap c.in-Gap.key above) nodes) (sym c.if-above.true)
    ∙ ap (λ (p : Place). node_before p nodes) (sym c.in-Gap.is)

pub returns-else-above : goal.returns-else-above
returns-else-above c =
    let nodes = nodes_in c.args.space.now c.args.self.now in
    before_is (Gap c.in-Gap.key false) nodes (is_under c.in-Gap.key) _ (λ n. refl) (c.before-else-above.ensures ∙ ap (before_in nodes) c.as_bytes-else-above.ensures.value)
    ∙ ap (λ (above : Bool). node_before (Gap c.in-Gap.key above) nodes) (sym c.if-above.false)
    ∙ ap (λ (p : Place). node_before p nodes) (sym c.in-Gap.is)

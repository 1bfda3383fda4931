-- What each kind of place asks of the tree.
use Rattle.std.proofs.Common.{◌≡◌, Bool, true, false, option_map, refl, sym, ap, ◌∙◌}
use Rattle.std.specs.Ordering.{is_lt}
use Rattle.common_lemmas.proofs.Finding.{find_nothing}
use Rattle.index_derive.specs.declared.entries.Place.{Place}
use Rattle.index_derive.specs.declared.entries.Place.TheVariants.{Before, On, Gap}
use Rattle.btree_inplace.specs.Order.{at_or_after_in, after_in, is_from, is_above, key_and_data}
use Rattle.table_trees.specs.NodeTrees.{nodes_in}
use Rattle.table_trees.specs.StoredNodes.{node_after}
use Rattle.table_trees.proofs.BookmarkOrder.{order, beyond_from, beyond_above, beyond_gap_above, beyond_gap_below}
use Rattle.table_trees.proofs.NodeChanges.{after_is}
use Rattle.table_trees.proofs.nodes.NodeTree.after.Goals as goal

pub returns-in-Before : goal.returns-in-Before
returns-in-Before c =
    let nodes = nodes_in c.args.space.now c.args.self.now in
    after_is Before nodes (λ _. true) _ (λ n. refl) c.first.ensures ∙ ap (λ (p : Place). node_after p nodes) (sym c.in-Before.is)

pub returns-in-After : goal.returns-in-After
returns-in-After c =
    let nodes = nodes_in c.args.space.now c.args.self.now in
    ap (option_map key_and_data) (find_nothing nodes) ∙ ap (λ (p : Place). node_after p nodes) (sym c.in-After.is)

pub returns-then-is_lt : goal.returns-then-is_lt
returns-then-is_lt c =
    let nodes = nodes_in c.args.space.now c.args.self.now in
    let passes : is_lt (order c.in-On.bookmark c.in-On.key) ≡ true = ap is_lt (sym c.cmp.ensures) ∙ sym c.is_lt.ensures ∙ c.if-is_lt.true in
    after_is (On c.in-On.key c.in-On.bookmark) nodes (is_from c.in-On.key) _ (λ n. beyond_from c.in-On.key c.in-On.bookmark n.key passes) (c.at_or_after.ensures ∙ ap (at_or_after_in nodes) c.as_bytes.ensures.value)
    ∙ ap (λ (p : Place). node_after p nodes) (sym c.in-On.is)

pub returns-else-is_lt : goal.returns-else-is_lt
returns-else-is_lt c =
    let nodes = nodes_in c.args.space.now c.args.self.now in
    let fails : is_lt (order c.in-On.bookmark c.in-On.key) ≡ false = ap is_lt (sym c.cmp.ensures) ∙ sym c.is_lt.ensures ∙ c.if-is_lt.false in
    after_is (On c.in-On.key c.in-On.bookmark) nodes (is_above c.in-On.key) _ (λ n. beyond_above c.in-On.key c.in-On.bookmark n.key fails) (c.after.ensures ∙ ap (after_in nodes) c.as_bytes-else-is_lt.ensures.value)
    ∙ ap (λ (p : Place). node_after p nodes) (sym c.in-On.is)

pub returns-then-above : goal.returns-then-above
returns-then-above c =
    let nodes = nodes_in c.args.space.now c.args.self.now in
    after_is (Gap c.in-Gap.key true) nodes (is_above c.in-Gap.key) _ (λ n. beyond_gap_above c.in-Gap.key n.key) (c.after-then-above.ensures ∙ ap (after_in nodes) c.as_bytes-then-above.ensures.value)
    ∙ ap (λ (above : Bool). node_after (Gap c.in-Gap.key above) nodes) (sym c.if-above.true)
    ∙ ap (λ (p : Place). node_after p nodes) (sym c.in-Gap.is)

pub returns-else-above : goal.returns-else-above
returns-else-above c =
    let nodes = nodes_in c.args.space.now c.args.self.now in
    after_is (Gap c.in-Gap.key false) nodes (is_from c.in-Gap.key) _ (λ n. beyond_gap_below c.in-Gap.key n.key) (c.at_or_after-else-above.ensures ∙ ap (at_or_after_in nodes) c.as_bytes-else-above.ensures.value)
    ∙ ap (λ (above : Bool). node_after (Gap c.in-Gap.key above) nodes) (sym c.if-above.false)
    ∙ ap (λ (p : Place). node_after p nodes) (sym c.in-Gap.is)

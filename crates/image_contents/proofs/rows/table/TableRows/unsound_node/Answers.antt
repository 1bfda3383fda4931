use Rattle.std.proofs.Common.{[], sym, ap, subst, ◌∙◌}
use Rattle.image_contents.specs.NodesLeft.{node_in}
use Rattle.image_contents.specs.RowsRead.{HaveWholeRows, contents_read, unsound_read, values_read}
use Rattle.image_contents.proofs.Least.{sound_first, unsound_first}
use Rattle.image_contents.proofs.Loop.{smaller}
use Rattle.image_contents.proofs.rows.table.TableRows.unsound_node.Goals as goal

pub new-walk-requires : goal.new-walk-requires
new-walk-requires c = c.requires.tree

pub loop-node-init : goal.loop-node-init
loop-node-init c = (ap (unsound_read c.args.self.now c.args.versions.now) c.new-walk.ensures, subst (HaveWholeRows (values_read c.args.self.now)) (sym c.new-walk.ensures) c.requires.whole)

pub is_sound_node-requires-clause-readable : goal.is_sound_node-requires-clause-readable
is_sound_node-requires-clause-readable c = c.requires.readable

pub is_sound_node-requires-clause-whole : goal.is_sound_node-requires-clause-whole
is_sound_node-requires-clause-whole c = (subst (HaveWholeRows (values_read c.args.self.now)) c.in-Some.ensures c.loop-node.invariant.1).0

pub loop-node-smaller : goal.loop-node-smaller
loop-node-smaller c = smaller c.loop-node.walk c.next.new.self (node_in c.in-Some.node) c.in-Some.ensures

pub loop-node-preserved : goal.loop-node-preserved
loop-node-preserved c = (
  sym (sound_first c.args.self.now.number c.args.versions.now (contents_read c.args.self.now []) (node_in c.in-Some.node) c.next.new.self (sym c.in-Ok-true.ensures ∙ c.in-Ok-true.field-0-test))
      ∙ sym (ap (unsound_read c.args.self.now c.args.versions.now) c.in-Some.ensures)
      ∙ c.loop-node.invariant.0,
  (subst (HaveWholeRows (values_read c.args.self.now)) c.in-Some.ensures c.loop-node.invariant.1).1,
)

pub returns-in-Ok-false : goal.returns-in-Ok-false
returns-in-Ok-false c =
    sym (unsound_first c.args.self.now.number c.args.versions.now (contents_read c.args.self.now []) (node_in c.in-Some.node) c.next.new.self (sym c.in-Ok-false.ensures ∙ c.in-Ok-false.field-0-test))
    ∙ sym (ap (unsound_read c.args.self.now c.args.versions.now) c.in-Some.ensures)
    ∙ c.loop-node.invariant.0

pub returns : goal.returns
returns c = sym (ap (unsound_read c.args.self.now c.args.versions.now) c.in_default.ensures.0) ∙ c.loop-node.invariant.0

use Rattle.std.proofs.Common.{ap, ◌∙◌}
use Rattle.image_findings.specs.LiveFindings.{leaves_node}
use Rattle.version_store.specs.Answers.{told_change}
use Rattle.image_live.proofs.NodesFound.{no_node, node_is, tree_of}
use Rattle.image_live.proofs.tables.ImageTables.leaves_node.Goals as goal

pub returns-in_default : goal.returns-in_default
returns-in_default c = λ tables are. ap (leaves_node c.args.change.kind) (no_node c.args.self.now tables (told_change c.args.change) c.in_default.ensures are)

pub get-requires : goal.get-requires
get-requires c = tree_of c.args.self.now c.requires.0 c.args.change.table.0 c.in-Some.trees.now c.in-Some.ensures c.requires.1

pub returns-in-Some-get : goal.returns-in-Some-get
returns-in-Some-get c = λ tables are.
    c.left_so.ensures ∙ ap (leaves_node c.args.change.kind) (node_is c.args.self.now tables (told_change c.args.change) c.in-Some.trees.now _ c.in-Some.ensures c.in-Some-get.ensures are)

pub returns-in-None : goal.returns-in-None
returns-in-None c = λ tables are.
    ap (leaves_node c.args.change.kind) (node_is c.args.self.now tables (told_change c.args.change) c.in-Some.trees.now _ c.in-Some.ensures c.in-None.ensures are)

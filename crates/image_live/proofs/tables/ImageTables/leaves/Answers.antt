use Rattle.std.proofs.Common.{◌+◌, drop, sym, ◌∙◌}
use Rattle.std.specs.List.{list_any}
use Rattle.common_lemmas.proofs.Options.{same_some}
use Rattle.image_findings.specs.LiveFindings.{leaves_node, node_under}
use Rattle.version_store.specs.Answers.{told_change}
use Rattle.version_store.specs.HeldChanges.{is_record}
use Rattle.image_live.proofs.Leaving.{last_decides, later_comes, same_leaves}
use Rattle.image_live.proofs.tables.ImageTables.leaves.Goals as goal

pub returns-then-not-is_last : goal.returns-then-not-is_last
returns-then-not-is_last c = λ tables h are at.
    later_comes (list_any (is_record h.table h.bookmark) (drop (c.args.place + 1) c.args.changes.now)) (leaves_node h.kind (node_under tables h)) (sym c.if-not-is_last.true ∙ c.is_last.ensures h at)

pub leaves_node-requires : goal.leaves_node-requires
leaves_node-requires c = c.requires.tables

pub returns : goal.returns
returns c = λ tables h are at.
    last_decides (list_any (is_record h.table h.bookmark) (drop (c.args.place + 1) c.args.changes.now)) (leaves_node h.kind (node_under tables h)) c.leaves_node.result (sym c.if-not-is_last.false ∙ c.is_last.ensures h at)
    (c.leaves_node.ensures tables are ∙ same_leaves tables h (told_change c.change_at.result) (same_some (told_change c.change_at.result) h (sym c.change_at.ensures ∙ at)))

use Rattle.std.proofs.Common.{◌+◌, sym, refl, ◌∙◌}
use Rattle.image_contents.proofs.RowsReferring.{change_first}
use Rattle.version_store.specs.Answers.{told_change}
use Rattle.image_contents.proofs.values.referring.ReferringRows.next.Goals as goal

pub returns : goal.returns
returns c =
    let at = c.self.inside in
    let first = change_first at.table.0 at.nodes c.next.new.self at.versions.now at.next (at.next + 1) (told_change c.change_at-change.result) c.values_before.result.now c.is_undone.result
    c.in_default.ensures c.change_at-change.ensures refl c.values_before.ensures c.is_undone.ensures in
    (first.0, first.1, sym c.self.view_is ∙ first.2)

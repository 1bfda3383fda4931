-- There is a held change for each item.
use Rattle.std.proofs.Common.{length, ap, sym, ◌∙◌}
use Rattle.version_store.specs.HeldChanges.{HeldChange}
use Rattle.version_store.proofs.HeldLemmas.{length-held}
use Rattle.version_store.proofs.versions.Versions.len.Goals as goal

pub returns : goal.returns
returns c =
    let a = c.self.inside in
    c.len.ensures ∙ a.items.ok.0 ∙ sym (length-held a.items.items a.rows.pieces c.self.invariant.keeps.are_rows) ∙ ap (length {A = HeldChange}) c.self.view_is

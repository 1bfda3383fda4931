-- Whether the item at the place is concurrent.
use Rattle.std.proofs.Common.{◌<◌, Some, length, sym, ap, ◌∙◌, arith}
use Rattle.version_store.specs.HeldChanges.{HeldChange, is_concurrent}
use Rattle.version_store.proofs.HeldLemmas.{length-held, read-at}
use Rattle.version_store.proofs.versions.Versions.is_concurrent_at.Goals as goal

pub index-requires : goal.index-requires
index-requires c =
    let a = c.self.inside in
    omega (arith, a.items.ok.0, length-held a.items.items a.rows.pieces c.self.invariant.keeps.are_rows, c.requires, ap (length {A = HeldChange}) c.self.view_is)

pub returns : goal.returns
returns c =
    let a = c.self.inside in
    let within : c.args.place < length a.items.items = omega (arith, length-held a.items.items a.rows.pieces c.self.invariant.keeps.are_rows, c.requires, ap (length {A = HeldChange}) c.self.view_is) in
    read-at (is_concurrent c.args.reader) a.items.items a.rows.pieces c.args.self.now c.args.place c.index.result.now c.self.invariant.keeps.are_rows c.self.view_is within c.index.ensures ∙ ap Some (sym c.is_concurrent.ensures)

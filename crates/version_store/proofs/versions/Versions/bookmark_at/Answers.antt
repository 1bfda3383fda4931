-- The bookmark of the item at the place.
use Rattle.std.proofs.Common.{◌<◌, Some, List, [], map, length, get_or, sym, ap, ◌∙◌, arith}
use Rattle.std.specs.Prelude.{slice_get}
use Rattle.version_store.specs.HeldChanges.{HeldChange}
use Rattle.version_store.specs.Items.{held_change, held_changes}
use Rattle.version_store.proofs.HeldLemmas.{get-map, held-item, length-held}
use Rattle.version_store.proofs.versions.Versions.bookmark_at.Goals as goal

pub index-requires : goal.index-requires
index-requires c =
    let a = c.self.inside in
    omega (arith, a.items.ok.0, length-held a.items.items a.rows.pieces c.self.invariant.keeps.are_rows, c.requires, ap (length {A = HeldChange}) c.self.view_is)

pub returns : goal.returns
returns c =
    let a = c.self.inside in let x = c.index.result.now in let place = c.args.place in
    let within : place < length a.items.items = omega (arith, length-held a.items.items a.rows.pieces c.self.invariant.keeps.are_rows, c.requires, ap (length {A = HeldChange}) c.self.view_is) in
    ap (λ (l : List HeldChange). slice_get (map (λ (h : HeldChange). h.bookmark) l) place) (sym c.self.view_is)
    ∙ get-map (λ (h : HeldChange). h.bookmark) (held_changes a.items.items a.rows.pieces) place (held_change x (get_or a.rows.pieces place [])) (held-item a.items.items a.rows.pieces place x c.self.invariant.keeps.are_rows within c.index.ensures)
    ∙ ap Some (sym c.as_bytes.ensures)

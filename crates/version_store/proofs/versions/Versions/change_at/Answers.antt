-- The item at the place with its row.
use Rattle.std.proofs.Common.{◌≡◌, ℕ, ◌<◌, List, [], Option, Some, length, get_or, sym, ap, ◌∙◌, arith}
use Rattle.std.specs.Prelude.{option_copied, slice_get}
use Rattle.common_lemmas.proofs.Options.{same_some}
use Rattle.version_store.specs.HeldChanges.{HeldChange}
use Rattle.version_store.specs.Items.{held_change, row_of}
use Rattle.version_store.proofs.HeldLemmas.{held-item, length-held, read-at}
use Rattle.version_store.proofs.versions.Versions.change_at.Goals as goal

pub index-item-requires : goal.index-item-requires
index-item-requires c =
    let a = c.self.inside in
    omega (arith, a.items.ok.0, length-held a.items.items a.rows.pieces c.self.invariant.keeps.are_rows, c.requires, ap (length {A = HeldChange}) c.self.view_is)

pub returns : goal.returns
returns c =
    let a = c.self.inside in let x = c.index-item.result.now in let place = c.args.place in
    let within : place < length a.items.items = omega (arith, length-held a.items.items a.rows.pieces c.self.invariant.keeps.are_rows, c.requires, ap (length {A = HeldChange}) c.self.view_is) in
    let row : List ℕ = get_or a.rows.pieces place [] in
    let before : row_of x.had_row row ≡ option_copied c.before_at-before.result =
    same_some (row_of x.had_row row) (option_copied c.before_at-before.result)
    (sym (read-at (λ (h : HeldChange). h.before) a.items.items a.rows.pieces c.args.self.now place x c.self.invariant.keeps.are_rows c.self.view_is within c.index-item.ensures) ∙ c.before_at-before.ensures) in
    ap (λ (l : List HeldChange). slice_get l place) (sym c.self.view_is)
    ∙ held-item a.items.items a.rows.pieces place x c.self.invariant.keeps.are_rows within c.index-item.ensures
    ∙ ap (λ (o : Option (List ℕ)). let h : HeldChange = record { number = x.number; session = x.session.0; level = x.level; kind = x.kind; table = x.table.0; bookmark = x.bookmark; before = o; status = (held_change x row).status } in Some h) before
    ∙ ap (λ (m : List ℕ). let h : HeldChange = record { number = x.number; session = x.session.0; level = x.level; kind = x.kind; table = x.table.0; bookmark = m; before = option_copied c.before_at-before.result; status = (held_change x row).status } in Some h) (sym c.as_bytes.ensures)

-- The piece at the place is the row of the item there.
use Rattle.std.proofs.Common.{◌≡◌, ℕ, ◌+◌, ◌-◌, ◌<◌, Bool, Some, List, [], map, length, get_or, sym, ap, ◌∙◌, arith}
use Rattle.std.specs.Prelude.{slice_get}
use Rattle.version_store.specs.HeldChanges.{HeldChange}
use Rattle.version_store.specs.Items.{held_change, held_changes, row_of}
use Rattle.version_store.proofs.HeldLemmas.{get-map, held-item, length-held}
use Rattle.version_store.proofs.versions.Versions.before_at.Goals as goal

pub index-requires : goal.index-requires
index-requires c =
    let a = c.self.inside in
    omega (arith, a.items.ok.0, length-held a.items.items a.rows.pieces c.self.invariant.keeps.are_rows, c.requires, ap (length {A = HeldChange}) c.self.view_is)

pub overflow_add-first : goal.overflow_add-first
overflow_add-first c =
    let a = c.self.inside in
    omega (arith, c.first.ensures.value, c.first.ensures.limit, c.self.invariant.keeps.are_rows, length-held a.items.items a.rows.pieces c.self.invariant.keeps.are_rows, c.requires, ap (length {A = HeldChange}) c.self.view_is)

pub get-requires : goal.get-requires
get-requires c =
    let a = c.self.inside in
    let within : c.args.place < length a.rows.pieces = omega (arith, c.self.invariant.keeps.are_rows, length-held a.items.items a.rows.pieces c.self.invariant.keeps.are_rows, c.requires, ap (length {A = HeldChange}) c.self.view_is) in
    (omega (arith, c.first.ensures.value), omega (arith, c.first.ensures.value))

pub returns-then-index : goal.returns-then-index
returns-then-index c =
    let a = c.self.inside in let x = c.index.result.now in let place = c.args.place in
    let within : place < length a.items.items = omega (arith, length-held a.items.items a.rows.pieces c.self.invariant.keeps.are_rows, c.requires, ap (length {A = HeldChange}) c.self.view_is) in
    let row : List ℕ = get_or a.rows.pieces place [] in
    let is_row : c.get.result.now ≡ row = c.get.ensures ∙ ap (λ (n : ℕ). get_or a.rows.pieces n []) (let e : c.first.result + place - a.rows.first ≡ place = omega (arith, c.first.ensures.value) in e) in
    ap (λ (l : List HeldChange). slice_get (map (λ (h : HeldChange). h.before) l) place) (sym c.self.view_is)
    ∙ get-map (λ (h : HeldChange). h.before) (held_changes a.items.items a.rows.pieces) place (held_change x row) (held-item a.items.items a.rows.pieces place x c.self.invariant.keeps.are_rows within c.index.ensures)
    ∙ ap (λ (b : Bool). Some (row_of b row)) c.if-index.true ∙ ap (λ (r : List ℕ). Some (Some r)) (sym is_row)

pub returns-else-index : goal.returns-else-index
returns-else-index c =
    let a = c.self.inside in let x = c.index.result.now in let place = c.args.place in
    let within : place < length a.items.items = omega (arith, length-held a.items.items a.rows.pieces c.self.invariant.keeps.are_rows, c.requires, ap (length {A = HeldChange}) c.self.view_is) in
    let row : List ℕ = get_or a.rows.pieces place [] in
    ap (λ (l : List HeldChange). slice_get (map (λ (h : HeldChange). h.before) l) place) (sym c.self.view_is)
    ∙ get-map (λ (h : HeldChange). h.before) (held_changes a.items.items a.rows.pieces) place (held_change x row) (held-item a.items.items a.rows.pieces place x c.self.invariant.keeps.are_rows within c.index.ensures)
    ∙ ap (λ (b : Bool). Some (row_of b row)) c.if-index.false

use Rattle.std.proofs.Common.{◌≡◌, ◌-◌, Some, length, List, ℕ, ⊎_elim, sym, ap, subst, ◌∙◌}
use Rattle.std.specs.Prelude.{slice_get}
use Rattle.script_text.specs.Pieces.{OpenCalls, AreRead, IsOfLast}
use Rattle.script_text.proofs.PieceLaws.{read-set, said_by_last, place_of_last}
use Rattle.script_text.proofs.open_piece.OpenPiece.remember.Goals as goal

pub invariant_of-self : goal.invariant_of-self
invariant_of-self c =
    let calls = c.self.inside.calls.items in
    let order = c.self.inside.order.items in
    let last : slice_get order (length order - 1) ≡ Some c.in-Some.place.now = ap (λ (l : List ℕ). slice_get l (length l - 1)) (sym c.deref.ensures.value) ∙ sym c.in-Some.ensures.value in
    let said = subst (λ (v : OpenCalls). IsOfLast c.args.line.now v.calls) (sym c.self.view_is) c.requires in
    record {
      room = c.self.invariant.room;
      lines = c.self.invariant.lines;
      within = c.self.invariant.within;
      placed = c.self.invariant.placed;
      read = ⊎_elim
          (λ same. subst (AreRead calls) (sym same) c.self.invariant.read)
          (λ there. subst (AreRead calls) (sym there.1) (read-set calls c.self.inside.recent there.0 c.in-Some.place.now c.args.line.now (place_of_last calls order c.in-Some.place.now c.self.invariant.placed last)
          (said_by_last calls order c.in-Some.place.now c.args.line.now last said) c.self.invariant.read))
          c.remember.ensures;
    }

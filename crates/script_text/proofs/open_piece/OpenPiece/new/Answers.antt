use Rattle.std.proofs.Common.{rules, ◌<◌, length, sym, subst}
use Rattle.std.proofs.lemmas.List.Elements.{All-nil}
use Rattle.script_text.specs.Pieces.{AreRead}
use Rattle.script_text.proofs.PieceLaws.{ArePlaced, read-none}
use Rattle.script_text.proofs.open_piece.OpenPiece.new.Goals as goal

pub invariant_of-result : goal.invariant_of-result
invariant_of-result c =
    let calls = c.in_ok-with_capacity.field-0.items in
    record {
      room = search rules;
      lines = search rules;
      within = search rules;
      placed = subst (ArePlaced calls) (sym c.in_ok-with_capacity-2.ensures.items) (All-nil (λ place. place < length calls));
      read = subst (AreRead calls) (sym c.in_ok-new.ensures) (read-none calls);
    }

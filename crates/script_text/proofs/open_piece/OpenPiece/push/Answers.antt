use Rattle.std.proofs.Common.{rules, ◌≡◌, length, ◌∷◌, [], ◌++◌, List, ℕ, sym, ap, subst, ◌∙◌, arith}
use Rattle.script_text.proofs.PieceLaws.{Call, ArePlaced, placed_with_new, calls_at-new, read-more}
use Rattle.std.specs.Prelude.{vec_len}
use Rattle.script_text.specs.Pieces.{OpenCalls, calls_at, AreRead}
use Rattle.script_text.proofs.open_piece.OpenPiece.push.Goals as goal

pub invariant_of-self : goal.invariant_of-self
invariant_of-self c =
    let calls = c.self.inside.calls.items in
    let order = c.self.inside.order.items in
    let long : vec_len c.self.inside.calls ≡ length calls = c.self.inside.calls.ok.0 in
    let places = c.push_reserved.ensures.items ∙ ap (λ n. order ++ n ∷ []) (c.len.ensures ∙ long) in
    record {
      room = omega (arith, c.push_reserved-2.ensures.capacity, c.self.invariant.room);
      lines = omega (arith, c.push_reserved.ensures.capacity, c.self.invariant.lines);
      within = search rules;
      placed = subst (λ (l : List Call). ArePlaced l c.push_reserved.new.self.items) (sym c.push_reserved-2.ensures.items)
          (subst (λ (l : List ℕ). ArePlaced (calls ++ c.args.call ∷ []) l) (sym places) (placed_with_new calls c.args.call order c.self.invariant.placed));
      read = subst (λ (l : List Call). AreRead l c.self.inside.recent) (sym c.push_reserved-2.ensures.items) (read-more calls c.args.call c.self.inside.recent c.self.invariant.read);
    }

pub returns : goal.returns
returns c =
    let calls = c.self.inside.calls.items in
    let order = c.self.inside.order.items in
    let long : vec_len c.self.inside.calls ≡ length calls = c.self.inside.calls.ok.0 in
    ap (λ (l : List Call). calls_at l c.push_reserved.new.self.items) c.push_reserved-2.ensures.items
    ∙ ap (calls_at (calls ++ c.args.call ∷ [])) (c.push_reserved.ensures.items ∙ ap (λ n. order ++ n ∷ []) (c.len.ensures ∙ long))
    ∙ calls_at-new calls c.args.call order c.self.invariant.placed
    ∙ ap (λ (v : OpenCalls). v.calls ++ c.args.call ∷ []) c.self.view_is

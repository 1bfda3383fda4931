use Rattle.std.proofs.Common.{◌≡◌, ◌∷◌, [], ◌++◌, ◌<◌, Some, get_or, length, refl, sym, ap, subst, ◌∙◌, arith}
use Rattle.std.proofs.lemmas.List.Elements.{All-push}
use Rattle.std.proofs.lemmas.List.{get_or_default}
use Rattle.std.specs.Prelude.{vec_len}
use Rattle.script_text.specs.Parsed.{call_of}
use Rattle.script_text.specs.Pieces.{OpenCalls, calls_at, no_call}
use Rattle.script_text.proofs.PieceLaws.{Call, ArePlaced, calls_at-again}
use Rattle.script_text.proofs.open_piece.OpenPiece.repeat.Goals as goal

pub index-requires : goal.index-requires
index-requires c =
    let long : vec_len c.self.inside.calls ≡ length c.self.inside.calls.items = c.self.inside.calls.ok.0 in
    omega (arith, long, (c.self.invariant.read c.args.line.now c.in_ok-place.place c.in_ok-place.ensures.found (c.in_ok-place.ensures.some_bytes refl)).0)

pub invariant_of-self : goal.invariant_of-self
invariant_of-self c =
    let calls = c.self.inside.calls.items in
    let read = c.self.invariant.read c.args.line.now c.in_ok-place.place c.in_ok-place.ensures.found (c.in_ok-place.ensures.some_bytes refl) in
    record {
      room = c.self.invariant.room;
      lines = omega (arith, c.push_reserved.ensures.capacity, c.self.invariant.lines);
      within = c.self.invariant.within;
      placed = subst (ArePlaced calls) (sym c.push_reserved.ensures.items) (All-push (λ place. place < length calls) c.self.inside.order.items c.in_ok-place.place c.self.invariant.placed read.0);
      read = c.self.invariant.read;
    }

pub returns-clause-some : goal.returns-clause-some
returns-clause-some c =
    let calls = c.self.inside.calls.items in
    let read = c.self.invariant.read c.args.line.now c.in_ok-place.place c.in_ok-place.ensures.found (c.in_ok-place.ensures.some_bytes refl) in
    let call = c.index.result.now in
    let here : get_or calls c.in_ok-place.place no_call ≡ call = get_or_default calls c.in_ok-place.place no_call call read.0 ∙ sym c.index.ensures in (
      call.1,
      ap (calls_at calls) c.push_reserved.ensures.items ∙ calls_at-again calls c.self.inside.order.items c.in_ok-place.place
          ∙ ap (λ (last : Call). calls_at calls c.self.inside.order.items ++ last ∷ []) here
          ∙ ap (λ (v : OpenCalls). v.calls ++ call ∷ []) c.self.view_is,
      read.1 ∙ ap (λ (last : Call). Some (call_of last)) here,
    )

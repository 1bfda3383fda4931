use Rattle.std.proofs.Common.{◌≡◌, ◌∙◌, List, ℕ, take, drop, subst, arith, length-take, length-drop}
use Rattle.std.specs.Io.KnownBytes.{append_known}
use Rattle.std.proofs.lemmas.List.{take_rest}
use Rattle.jet_io.proofs.Known.{writes_on}
use Rattle.jet_io.proofs.whole.write_all.Goals as goal

pub loop-written-preserved : goal.loop-written-preserved
loop-written-preserved g c =
    let rest = take_rest c.args.piece.now c.loop-written.written in
    let count = c.in_ok-written.field-0 in
    let writes : g.K.Sink.taken c.write.new.self ≡ append_known (g.K.Sink.taken c.loop-written.sink) (take count (drop c.loop-written.written c.args.piece.now)) =
    subst (λ (l : List ℕ). g.K.Sink.taken c.write.new.self ≡ append_known (g.K.Sink.taken c.loop-written.sink) (take count l)) rest c.in_ok-written.ensures.bytes in
    record {
      within = omega (arith, c.in_ok-written.ensures.within, length-take {A = ℕ}, length-drop {A = ℕ});
      taken = writes_on _ _ _ c.args.piece.now c.loop-written.written count c.loop-written.invariant.taken writes;
      faults = c.in_ok-written.ensures.faults ∙ c.loop-written.invariant.faults;
    }

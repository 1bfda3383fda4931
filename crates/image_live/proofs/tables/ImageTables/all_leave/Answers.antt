use Rattle.std.proofs.Common.{sym, ◌∙◌, arith}
use Rattle.image_live.proofs.Fronts.{At, stands_at}
use Rattle.image_live.proofs.Leaving.{leave_done, rest_fails, rest_goes}
use Rattle.image_live.proofs.tables.ImageTables.all_leave.Goals as goal

pub leaves-requires-clause-tables : goal.leaves-requires-clause-tables
leaves-requires-clause-tables c = c.requires

pub returns-then-not-leaves : goal.returns-then-not-leaves
returns-then-not-leaves c = λ tables are.
    let here : At c.args.changes.now c.loop-place.place = stands_at c.args.changes.now c.loop-place.place (omega (arith, c.loop-place-test.true, c.len-place-end.ensures)) in
    rest_fails tables c.args.changes.now c.loop-place.place here.item here.is_at (sym c.if-not-leaves.true ∙ c.leaves.ensures tables here.item are here.is_at) (c.loop-place.invariant tables are)

pub loop-place-preserved : goal.loop-place-preserved
loop-place-preserved c = λ tables are.
    let here : At c.args.changes.now c.loop-place.place = stands_at c.args.changes.now c.loop-place.place (omega (arith, c.loop-place-test.true, c.len-place-end.ensures)) in
    rest_goes tables c.args.changes.now c.loop-place.place here.item here.is_at (sym c.if-not-leaves.false ∙ c.leaves.ensures tables here.item are here.is_at) (c.loop-place.invariant tables are)

pub returns : goal.returns
returns c = λ tables are. leave_done tables c.args.changes.now c.loop-place.place (omega (arith, c.loop-place-test.false, c.len-place-end.ensures)) (c.loop-place.invariant tables are)

use Rattle.std.proofs.Common.{inl, inr, arith}
use Rattle.load_gen.proofs.Lengths.{guess_small, records_at}
use Rattle.load_gen.proofs.records.records_before.Goals as goal
use Rattle.load_gen.proofs.records.records_before.Goals.{then-calls_of_records-place, else-calls_of_records-place}

pub overflow_mul-place : goal.overflow_mul-place
overflow_mul-place c = omega (arith, (guess_small c.args.records c.args.place c.requires (omega (arith, c.ranges.records.fits))).0)

pub calls_of_records-requires : goal.calls_of_records-requires
calls_of_records-requires c =
    omega (arith, c.saturating_sub-guess.ensures, (guess_small c.args.records c.args.place c.requires (omega (arith, c.ranges.records.fits))).0)

pub overflow_cast-result : goal.overflow_cast-result
overflow_cast-result c =
    let found = records_at c.args.records c.args.place c.saturating_sub-guess.result c.calls_of_records.result c.if-calls_of_records-place.before c.requires c.saturating_sub-guess.ensures c.calls_of_records.ensures
    (elim c.if-calls_of_records-place.branch [
      | then-calls_of_records-place w ↦ inl (w.if-calls_of_records-place.true, w.before-is)
      | else-calls_of_records-place w ↦ inr (w.if-calls_of_records-place.false, w.before-is)
    ]) in
    omega (arith, found.0, c.ranges.records.fits)

pub returns-clause-fewer : goal.returns-clause-fewer
returns-clause-fewer c =
    (records_at c.args.records c.args.place c.saturating_sub-guess.result c.calls_of_records.result c.if-calls_of_records-place.before c.requires c.saturating_sub-guess.ensures c.calls_of_records.ensures
    (elim c.if-calls_of_records-place.branch [
      | then-calls_of_records-place w ↦ inl (w.if-calls_of_records-place.true, w.before-is)
      | else-calls_of_records-place w ↦ inr (w.if-calls_of_records-place.false, w.before-is)
    ])).0

pub returns-clause-least : goal.returns-clause-least
returns-clause-least c =
    (records_at c.args.records c.args.place c.saturating_sub-guess.result c.calls_of_records.result c.if-calls_of_records-place.before c.requires c.saturating_sub-guess.ensures c.calls_of_records.ensures
    (elim c.if-calls_of_records-place.branch [
      | then-calls_of_records-place w ↦ inl (w.if-calls_of_records-place.true, w.before-is)
      | else-calls_of_records-place w ↦ inr (w.if-calls_of_records-place.false, w.before-is)
    ])).1.0

pub returns-clause-most : goal.returns-clause-most
returns-clause-most c =
    (records_at c.args.records c.args.place c.saturating_sub-guess.result c.calls_of_records.result c.if-calls_of_records-place.before c.requires c.saturating_sub-guess.ensures c.calls_of_records.ensures
    (elim c.if-calls_of_records-place.branch [
      | then-calls_of_records-place w ↦ inl (w.if-calls_of_records-place.true, w.before-is)
      | else-calls_of_records-place w ↦ inr (w.if-calls_of_records-place.false, w.before-is)
    ])).1.1

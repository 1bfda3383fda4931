use Rattle.std.proofs.Common.{◌≡◌, ap, arith, false, ◌∙◌}
use Rattle.std.specs.Prelude.{◌==◌}
use Rattle.std.proofs.lemmas.Bool.Decides.{nat_tests}
use Rattle.session_local.specs.Outcome.{Outcome}
use Rattle.engine_parts.proofs.Retrieved.{column_shown-value}
use Rattle.engine_parts.proofs.record_calls.value_in.Goals as goal

pub returns-clause-answer : goal.returns-clause-answer
returns-clause-answer c asked most =
    let ne : (c.args.sequence == 0) ≡ false = grind (arith, nat_tests) in
    ap (λ (o : Outcome). o.answered) (column_shown-value asked c.args.sequence most c.args.row.now c.args.column.now ne)
    ∙ c.value_at.ensures.answer asked most

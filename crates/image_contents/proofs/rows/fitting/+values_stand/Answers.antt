use Rattle.std.proofs.Common.{false, ◌&&◌, sym, ap, ◌∙◌, List}
use Rattle.std.specs.Prelude.{Some, option_copied}
use Rattle.common_lemmas.proofs.Options.{some_apart}
use Rattle.image_contents.proofs.ValuesStand.{stand_first, stand_none}
use Rattle.image_contents.proofs.rows.fitting.+values_stand.Goals as goal
use Rattle.image_contents.specs.FoundValues.{told_by, values_stand}

pub returns-then-value_stands : goal.returns-then-value_stands
returns-then-value_stands t c xs stand =
    stand_first c.args.columns.now c.args.last c.args.values.now c.in-Some.rest.now (told_by c.in-Some.value) c.values_stand.result (λ e. some_apart _ (c.in-Some.ensures.end e)) c.in-Some.ensures.value
    (λ ys st. c.values_stand.ensures ys st ∙ ap (λ b. b && values_stand c.args.columns.now (Some c.in-Some.value.column) ys) (sym c.if-value_stands.true ∙ c.value_stands.ensures)) xs stand

pub returns-else-value_stands : goal.returns-else-value_stands
returns-else-value_stands t c xs stand =
    stand_first c.args.columns.now c.args.last c.args.values.now c.in-Some.rest.now (told_by c.in-Some.value) false (λ e. some_apart _ (c.in-Some.ensures.end e)) c.in-Some.ensures.value
    (λ ys st. ap (λ b. b && values_stand c.args.columns.now (Some c.in-Some.value.column) ys) (sym c.if-value_stands.false ∙ c.value_stands.ensures)) xs stand

pub returns-in-None : goal.returns-in-None
returns-in-None t c xs stand = stand_none c.args.columns.now c.args.last c.args.values.now (λ value left may is. let h = c.in-None.ensures.value value left may is in h) xs stand

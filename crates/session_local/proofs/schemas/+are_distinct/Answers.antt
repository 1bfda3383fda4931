use Rattle.std.proofs.Common.{not, ◌&&◌, map, sym, ◌∙◌, ap}
use Rattle.session_local.specs.SessionSide.{are_distinct}
use Rattle.session_local.specs.WellFormed.{number_of_column}
use Rattle.session_local.proofs.ColumnNumbers.{behind, distinct_cons}
use Rattle.session_local.proofs.schemas.+are_distinct.Goals as goal

pub returns-then-not-has_number : goal.returns-then-not-has_number
returns-then-not-has_number t c =
    let whole = distinct_cons c.args.columns.now c.first-item.result c.has_number.result c.in-len1-up.len_at_least c.first-item.is c.has_number.ensures in
    c.are_distinct.ensures ∙ sym (whole ∙ ap (λ b. not b && are_distinct (map number_of_column (behind c.args.columns.now))) c.if-not-has_number.true)

pub returns-else-not-has_number : goal.returns-else-not-has_number
returns-else-not-has_number t c =
    let whole = distinct_cons c.args.columns.now c.first-item.result c.has_number.result c.in-len1-up.len_at_least c.first-item.is c.has_number.ensures in
    ap not c.if-not-has_number.false ∙ sym (whole ∙ ap (λ b. not b && are_distinct (map number_of_column (behind c.args.columns.now))) c.if-not-has_number.false)

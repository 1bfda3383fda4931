use Rattle.std.proofs.Common.{ap, ◌∙◌}
use Rattle.column_set.specs.Rows.{here_fields}
use Rattle.long_rows.specs.WholeRows.{record_in}
use Rattle.long_rows.proofs.AllHere.{all_kept, all_shown, all_whole, names_none}
use Rattle.long_rows.proofs.standing.rows_without_long_values.Goals as goal

pub returns-clause-shown : goal.returns-clause-shown
returns-clause-shown c values fields = all_shown values fields

pub returns-clause-here : goal.returns-clause-here
returns-clause-here c values row e = ap (record_in values) e ∙ all_shown values (here_fields row)

pub returns-clause-whole : goal.returns-clause-whole
returns-clause-whole c values fields = all_whole values fields

pub returns-clause-names : goal.returns-clause-names
returns-clause-names c fields = names_none fields

pub returns-clause-kept : goal.returns-clause-kept
returns-clause-kept c found fields short = all_kept found 0 fields short

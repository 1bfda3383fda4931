use Rattle.column_set.proofs.AnotherValue.{formed_then, found_one, same_length, whole_then}
use Rattle.column_set.proofs.numbers.rows_with_another_value.Goals as goal

pub returns-clause-formed : goal.returns-clause-formed
returns-clause-formed c = formed_then

pub returns-clause-length : goal.returns-clause-length
returns-clause-length c = same_length

pub returns-clause-found : goal.returns-clause-found
returns-clause-found c = found_one

pub returns-clause-whole : goal.returns-clause-whole
returns-clause-whole c = whole_then

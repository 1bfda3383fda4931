use Rattle.long_rows.proofs.ChangedValues.{value_laws}
use Rattle.long_rows.proofs.GivenBack.{all_given_back}
use Rattle.long_rows.proofs.InUse.{given_back}
use Rattle.long_rows.proofs.counting.values_that_are_given_back.Goals as goal

pub returns-clause-one : goal.returns-clause-one
returns-clause-one c = given_back value_laws

pub returns-clause-all : goal.returns-clause-all
returns-clause-all c = all_given_back value_laws

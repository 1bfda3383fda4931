use Rattle.long_value.proofs.laws.values_after_a_change.Goals as goal
use Rattle.long_value.specs.ChangedValues.{value_beside, value_gone, value_left, value_put}

pub returns-clause-put : goal.returns-clause-put
returns-clause-put c values id value = value_put values id value

pub returns-clause-beside : goal.returns-clause-beside
returns-clause-beside c values id other value n = value_beside values id other value n

pub returns-clause-gone : goal.returns-clause-gone
returns-clause-gone c values id = value_gone values id

pub returns-clause-left : goal.returns-clause-left
returns-clause-left c values id other n = value_left values id other n

use Rattle.long_value.proofs.laws.references_after_a_change.Goals as goal
use Rattle.long_value.specs.ChangedValues.{less_beside, less_there, more_beside, more_there}

pub returns-clause-more : goal.returns-clause-more
returns-clause-more c values id value e = more_there values id value e

pub returns-clause-more_beside : goal.returns-clause-more_beside
returns-clause-more_beside c values id other n = more_beside values id other n

pub returns-clause-less : goal.returns-clause-less
returns-clause-less c values id value e = less_there values id value e

pub returns-clause-less_beside : goal.returns-clause-less_beside
returns-clause-less_beside c values id other n = less_beside values id other n

use Rattle.std.proofs.Common.{refl}
use Rattle.laws_engine.proofs.HeldLemmas.PlainSteps.{plain_read_no_sums, stays_plain}
use Rattle.laws_engine.proofs.held.steps.indexes_never_read_sums.Goals as goal

pub returns-clause-empty : goal.returns-clause-empty
returns-clause-empty c = record { order = record { ids = tt; given = tt; rows = tt }; numbers = refl; plain = refl }

pub returns-clause-kept : goal.returns-clause-kept
returns-clause-kept c = stays_plain

pub returns-clause-read : goal.returns-clause-read
returns-clause-read c = plain_read_no_sums

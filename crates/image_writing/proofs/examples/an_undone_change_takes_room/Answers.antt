use Rattle.std.proofs.Common.{refl}
use Rattle.database_state.specs.VersionStore.{version_span}
use Rattle.image_writing.proofs.examples.an_undone_change_takes_room.Goals as goal

pub returns-clause-span : goal.returns-clause-span
unfolding version_span
returns-clause-span c = refl

pub returns-clause-undone : goal.returns-clause-undone
returns-clause-undone c = refl

pub returns-clause-settled : goal.returns-clause-settled
unfolding version_span
returns-clause-settled c = refl

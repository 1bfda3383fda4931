use Rattle.recovered_states.proofs.Spelled.{all_built, all_typed}
use Rattle.recovered_states.proofs.laws.spelled_entries_make_what_is_built.Goals as goal

pub returns : goal.returns
returns c = record { built = all_built; typed = all_typed }

use Rattle.loggable_steps.proofs.Replaying.{first_logged, same_logged, step_logged, trimmed_logged}
use Rattle.loggable_steps.proofs.replays.a_log_goes_on_with_its_engine.Goals as goal

pub returns : goal.returns
returns c = record { first = first_logged; step = step_logged; same = same_logged; trimmed = trimmed_logged }

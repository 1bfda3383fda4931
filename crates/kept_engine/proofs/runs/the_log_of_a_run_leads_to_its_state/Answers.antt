use Rattle.kept_engine.proofs.Pairs.{run_state}
use Rattle.kept_engine.proofs.runs.the_log_of_a_run_leads_to_its_state.Goals as goal

pub returns : goal.returns
returns c = run_state

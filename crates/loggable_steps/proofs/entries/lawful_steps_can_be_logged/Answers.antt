use Rattle.laws_versions.proofs.KeyLemmas.OneEntry.{one_entry}
use Rattle.laws_engine.proofs.LawfulLemmas.ReachedStates.{reaches}
use Rattle.loggable_steps.proofs.Spelled.{entries_spelled, step_loggable}
use Rattle.loggable_steps.proofs.entries.lawful_steps_can_be_logged.Goals as goal

pub returns : goal.returns
returns c = record {
  made = step_loggable one_entry (reaches one_entry);
  all = entries_spelled;
}

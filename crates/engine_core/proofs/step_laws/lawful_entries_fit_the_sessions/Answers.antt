use Rattle.engine_core.proofs.Fitting.{label_new, levels_few, levels_inner, sessions_few}
use Rattle.engine_core.proofs.step_laws.lawful_entries_fit_the_sessions.Goals as goal

pub returns : goal.returns
returns c = record {
  new_label = label_new c.sessions_are_told.ensures.live;
  few = sessions_few c.sessions_are_told.ensures.count;
  levels = levels_few c.sessions_are_told.ensures.levels;
  inner = levels_inner c.sessions_are_told.ensures.levels;
}

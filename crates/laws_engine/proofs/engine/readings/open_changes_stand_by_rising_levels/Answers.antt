use Rattle.laws_engine.proofs.EngineLemmas.OpenLevels.{levels_rise, within_levels}
use Rattle.laws_engine.proofs.engine.readings.open_changes_stand_by_rising_levels.Goals as goal

pub returns : goal.returns
returns c = record { rise = levels_rise; levels = within_levels }

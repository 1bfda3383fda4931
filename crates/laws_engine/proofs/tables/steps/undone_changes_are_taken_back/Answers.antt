use Rattle.laws_engine.proofs.TableLemmas.Undoing.{all_undone_holds, left_holds, undone_holds}
use Rattle.laws_engine.proofs.tables.steps.undone_changes_are_taken_back.Goals as goal

pub returns : goal.returns
returns c = record { level = undone_holds; levels = all_undone_holds; session = left_holds }

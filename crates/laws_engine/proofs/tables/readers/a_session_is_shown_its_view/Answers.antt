use Rattle.laws_versions.proofs.KeyLemmas.FoundKeys.{found_without_sums}
use Rattle.laws_engine.proofs.TableLemmas.Views.{is_shown}
use Rattle.laws_engine.proofs.tables.readers.a_session_is_shown_its_view.Goals as goal

pub returns : goal.returns
returns c = is_shown found_without_sums

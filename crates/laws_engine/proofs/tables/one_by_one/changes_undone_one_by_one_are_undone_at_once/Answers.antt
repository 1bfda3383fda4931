use Rattle.std.proofs.Common.{refl}
use Rattle.laws_engine.proofs.TableLemmas.OneByOne.{none_undone, one_undone_first}
use Rattle.laws_engine.proofs.tables.one_by_one.changes_undone_one_by_one_are_undone_at_once.Goals as goal

pub returns : goal.returns
returns c = record {
  first = one_undone_first;
  none_left = none_undone;
  level = λ session level held. refl;
  session = λ session held. refl;
}

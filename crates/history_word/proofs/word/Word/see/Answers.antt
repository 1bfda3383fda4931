use Rattle.std.proofs.Common.{rules}
use mathlib.Core.Option.{none}
use Rattle.atomic_table.specs.Table.{step}
use Rattle.history_word.proofs.Keeps.{looks}
use Rattle.history_word.proofs.word.Word.see.Goals as goal

pub load-requires : goal.load-requires
load-requires c = (search rules, search rules, looks _ _ _ (step 0 0 0 0 none) c.requires.turn)

use Rattle.std.proofs.Common.{rules, ◌≤◌, ℕ, sym, subst}
use mathlib.Core.Option.{none}
use Rattle.atomic_table.specs.Table.{step}
use Rattle.history_word.proofs.Keeps.{trims}
use Rattle.history_word.proofs.word.Word.cut.Goals as goal

pub load-requires : goal.load-requires
load-requires g c = (search rules, search rules, trims _ _ _ _ (step 0 0 0 0 none) c.requires.turn.0 c.requires.turn.1 (subst (λ (n : ℕ). n ≤ c.args.both.now.me.0.guest.given) (sym c.requires.told) c.requires.given))

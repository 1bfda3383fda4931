use Rattle.std.proofs.Common.{rules, ◌≤◌, ℕ, sym, subst}
use mathlib.Core.Option.{none}
use Rattle.atomic_table.specs.Table.{step}
use Rattle.history_word.proofs.Keeps.{gives}
use Rattle.history_word.proofs.word.Word.raise.Goals as goal

pub load-requires : goal.load-requires
load-requires g c = (
  search rules,
  search rules,
  gives _ _ _ _ _ (step 0 0 0 0 none) c.requires.store (subst (λ (n : ℕ). c.args.seat.now.me.0.mine.given ≤ n) (sym c.requires.told.0) c.requires.later.0) (subst (λ (n : ℕ). c.args.seat.now.me.0.mine.faults ≤ n) (sym c.requires.told.1) c.requires.later.1),
)

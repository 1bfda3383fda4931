use Rattle.std.proofs.Common.{rules, ◌≡◌, List, true, ap, sym, ◌∙◌, subst, length}
use mathlib.Core.Option.{none}
use Rattle.atomic_table.specs.Table.{step}
use Rattle.index_derive.specs.declared.log.Entry.{Entry}
use Rattle.history_word.specs.Parts.{are_own}
use Rattle.history_word.proofs.Keeps.{appends, few}
use Rattle.history_word.proofs.word.Word.grow.Goals as goal

pub fetch_add-requires : goal.fetch_add-requires
fetch_add-requires g c =
    let is = c.requires.entries in (
      search rules,
      search rules,
      appends _ _ _ _ _ (step 0 0 0 0 none) c.requires.turn (subst (λ (es : List Entry). are_own c.args.both.now.me.0.guest.rights es ≡ true) (sym is) c.requires.right) (c.len.ensures ∙ ap length (sym is)) (few _ _ c.len.ensures) c.requires.room,
    )

use Rattle.std.proofs.Common.{sym, ◌∙◌}
use Rattle.common_lemmas.proofs.Booleans.{impossible}
use Rattle.image_opening.proofs.Whole.{whole_when}
use Rattle.image_opening.proofs.told.are_whole.Goals.{then-numbers_rise, else-numbers_rise}
use Rattle.image_opening.proofs.told.are_whole.Goals as goal

pub returns-then-parts_rise : goal.returns-then-parts_rise
returns-then-parts_rise c = λ greatest. elim c.if-numbers_rise.branch [
  | then-numbers_rise w ↦
      whole_when greatest c.args.count c.args.tables.now c.tells_all.result (sym c.numbers_rise.ensures ∙ w.if-numbers_rise.true) (sym w.parts_rise.ensures ∙ sym w.value-is ∙ c.if-parts_rise.true) (c.tells_all.ensures greatest)
  | else-numbers_rise w ↦ impossible (sym w.if-numbers_rise.false ∙ sym w.value-is ∙ c.if-parts_rise.true)
]

use Rattle.std.proofs.Common.{◌≡◌}
use Rattle.std.specs.Prelude.{drop}
use Rattle.image_opening.specs.MarkedPages.{unmarked_from}
use Rattle.image_opening.proofs.forest.unmarked_page.Given as goal

abbrev pub invariant-loop-number : goal.invariant-loop-number
invariant-loop-number l = unmarked_from 0 l.fn.space l.fn.marks ≡ unmarked_from l.number (drop l.number l.fn.space) l.fn.marks

-- A page is copied where it is taken.
use Rattle.std.proofs.Common.{◌≡◌, Some, true, false, sym, ap, ◌∙◌}
use Rattle.page_space.specs.Frames.{page_at}
use Rattle.page_space.proofs.FrameLemmas.{not_there}
use Rattle.page_space.proofs.Space.copy_at.Goals as goal

pub returns-then-is_taken : goal.returns-then-is_taken
returns-then-is_taken c = ap Some c.copy.ensures.value ∙ sym c.page.ensures

pub returns-else-is_taken : goal.returns-else-is_taken
returns-else-is_taken c = not_there (page_at c.args.self.now c.args.page) (λ some. never (sym c.if-is_taken.false ∙ c.is_taken.ensures.1 some))
  where
    never : false ≡ true → ⊥
    never e = cc

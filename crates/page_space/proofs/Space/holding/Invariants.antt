use Rattle.page_space.proofs.FrameLemmas.{Boxed}
use Rattle.page_space.proofs.Space.holding.Given as goal

abbrev pub invariant-loop-page : goal.invariant-loop-page
invariant-loop-page l = Boxed l.yielded l.blocks.items l.taken.items

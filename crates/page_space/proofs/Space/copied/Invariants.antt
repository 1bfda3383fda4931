use Rattle.std.proofs.Common.{◌≡◌, take}
use Rattle.page_space.proofs.Space.copied.Given as goal

abbrev pub invariant-loop-page : goal.invariant-loop-page
invariant-loop-page l = l.pages.items ≡ take l.page l.self

use Rattle.std.proofs.Common.{◌≡◌, take}
use Rattle.checkpoint.proofs.loading.copy_pages.Given as goal

abbrev pub invariant-loop-number : goal.invariant-loop-number
invariant-loop-number l = l.copy.items ≡ take l.number l.pages

use Rattle.std.proofs.Common.{take}
use Rattle.std.specs.Prelude.{IfSome}
use Rattle.std.specs.List.{AllByRecursion}
use Rattle.engine_image.specs.MadeEngines.{HasByteNodes}
use Rattle.engine_image.proofs.bytes.pages_are_bytes.Given as goal

-- So are the pages so far.
abbrev pub invariant-loop-page : goal.invariant-loop-page
invariant-loop-page l = AllByRecursion (λ o. IfSome o HasByteNodes) (take l.page-index l.pages)

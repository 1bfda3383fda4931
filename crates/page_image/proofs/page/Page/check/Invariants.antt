use Rattle.std.proofs.Common.{◌≡◌, take}
use Rattle.page_image.specs.Page.{PageContents, IsPage, page_bytes}
use Rattle.page_image.proofs.page.Page.check.Given as goal

abbrev pub invariant-loop : goal.invariant-loop
invariant-loop l = (p : PageContents) → IsPage p → l.bytes ≡ page_bytes p → l.page ≡ record p { nodes = take l.counter p.nodes }

use Rattle.std.proofs.Common.{Option, arith}
use Rattle.std.specs.Prelude.{IfSome}
use Rattle.page_image.specs.Page.{PageContents}
use Rattle.engine_image.specs.MadeEngines.{HasByteNodes}
use Rattle.engine_image.proofs.ByteNodes.{taken_all, taken_next}
use Rattle.engine_image.proofs.bytes.pages_are_bytes.Goals as goal

pub loop-page-preserved : goal.loop-page-preserved
loop-page-preserved c =
    taken_next (λ (o : Option PageContents). IfSome o HasByteNodes) c.args.pages.now c.loop-page.page-index c.page-item.result c.loop-page.invariant c.loop-page-test.true c.page-item.is c.nodes_are_bytes.ensures

pub returns : goal.returns
returns c = taken_all (λ (o : Option PageContents). IfSome o HasByteNodes) c.args.pages.now c.loop-page.page-index c.loop-page.invariant (omega (arith, c.loop-page-test.false))

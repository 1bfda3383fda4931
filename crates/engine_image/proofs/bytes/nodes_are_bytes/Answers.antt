use Rattle.std.proofs.Common.{Option, sym, subst}
use Rattle.std.specs.Prelude.{IfSome}
use Rattle.page_image.specs.Page.{PageContents}
use Rattle.engine_image.specs.MadeEngines.{HasByteNodes}
use Rattle.engine_image.proofs.bytes.nodes_are_bytes.Goals as goal

pub returns-in-Some : goal.returns-in-Some
returns-in-Some c =
    let is = c.nodes_are_bytes.ensures in
    subst (λ (o : Option PageContents). IfSome o HasByteNodes) (sym c.in-Some.is) (record { page = record { form = is.page; nodes = is.values }; keys = is.keys })

pub returns-in-None : goal.returns-in-None
returns-in-None c = subst (λ (o : Option PageContents). IfSome o HasByteNodes) (sym c.in-None.is) tt

use Rattle.std.proofs.Common.{ap, sym}
use Rattle.image_findings.specs.CatalogFindings.{CatalogTold}
use Rattle.image_opening.proofs.OpenedParts.{numbered_tables}
use Rattle.image_opening.proofs.catalog.opened_catalog.Goals as goal

pub of-requires : goal.of-requires
of-requires c = numbered_tables c.args.told.now c.told.inside.greatest c.in-Ok.tables.items c.requires c.in-Ok.ensures.sound (ap (λ (t : CatalogTold). t.greatest) (sym c.told.view_is)) c.in-Ok.ensures.tables

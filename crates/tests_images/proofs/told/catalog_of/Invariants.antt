use Rattle.catalog_record.specs.CatalogTrees.{IsCatalogTree}
use Rattle.tests_images.proofs.told.catalog_of.Given as goal

abbrev pub invariant-loop-number : goal.invariant-loop-number
invariant-loop-number g l = IsCatalogTree l.space l.catalog

use Rattle.laws_images.proofs.SoundLemmas.Catalogs.{catalog_empty, catalog_kept}
use Rattle.laws_images.proofs.sound.the_catalog_stays_within_its_limits.Goals as goal

pub returns-clause-empty : goal.returns-clause-empty
returns-clause-empty c = catalog_empty

pub returns-clause-kept : goal.returns-clause-kept
returns-clause-kept c state made h e = catalog_kept state made h e

use Rattle.image_contents.proofs.Legal.{all_legal}
use Rattle.image_contents.proofs.rows.laws.tables_of_a_sound_catalog_have_legal_rules.Goals as goal

pub returns : goal.returns
returns c nodes told is sound = all_legal told.greatest told.tables sound (c.tables_that_a_sound_catalog_tells_are_built.ensures nodes told is sound)

use Rattle.own_images.proofs.ReadBack.{is_sound, tables_are, told_again_of}
use Rattle.own_images.proofs.laws.the_catalog_of_a_store_is_read_back.Goals as goal

pub returns-clause-told : goal.returns-clause-told
returns-clause-told c store own = told_again_of store own

pub returns-clause-tables : goal.returns-clause-tables
returns-clause-tables c store own = tables_are store own

pub returns-clause-sound : goal.returns-clause-sound
returns-clause-sound c store own = is_sound store own

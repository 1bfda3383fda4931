use Rattle.std.proofs.Common.{sym, ◌∙◌}
use Rattle.image_opening.proofs.UnsoundCatalogs.{many_found}
use Rattle.image_opening.proofs.catalog.sound_catalog.Goals as goal

pub returns-then-has_many_indexes-clause-fault : goal.returns-then-has_many_indexes-clause-fault
returns-then-has_many_indexes-clause-fault c = many_found c.args.told.now (sym c.has_many_indexes.ensures ∙ c.if-has_many_indexes.true)

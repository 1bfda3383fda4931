use Rattle.image_writing.specs.EngineImages.{contents_of}
use Rattle.esentutl.proofs.FoundTexts.{for_ok, image_told}
use Rattle.esentutl.proofs.inspections.space_of_engine.Goals as goal

pub space_of_image-requires-clause-consistent : goal.space_of_image-requires-clause-consistent
space_of_image-requires-clause-consistent c = let holds = c.requires.holds.2 in (c.in-Ok.ensures.shows holds.state holds.holds holds.sound c.requires.room).consistent

pub space_of_image-requires-clause-few : goal.space_of_image-requires-clause-few
space_of_image-requires-clause-few c = c.in-Ok.ensures.shape.pages

pub returns-in-Ok : goal.returns-in-Ok
returns-in-Ok c =
    for_ok c.space_of_image.result (λ text is checkpoint stream holds. image_told checkpoint stream c.args.engine.now holds (contents_of c.in-Ok.image) text.items (c.in-Ok.ensures.shows holds.state holds.holds holds.sound c.requires.room) is)
    c.space_of_image.ensures

use Rattle.std.proofs.Common.{sym, ap, subst, ◌∙◌, Some}
use Rattle.image_writing.specs.EngineImages.{contents_of}
use Rattle.page_space.specs.Frames.{Frames}
use Rattle.tool_dump.specs.SoundTrees.{HasSoundTrees}
use Rattle.tool_dump.specs.SpaceTexts.{space_text}
use Rattle.esentutl.proofs.FoundTexts.{for_ok}
use Rattle.esentutl.proofs.inspections.space_of_image.Goals as goal

pub holding-requires : goal.holding-requires
holding-requires c = c.requires.few

pub space-requires : goal.space-requires
space-requires c =
    subst (λ (frames : Frames). HasSoundTrees frames c.args.image.catalog_root) (sym c.in-Ok.ensures) (c.trees_of_a_consistent_image_are_sound.ensures (contents_of c.args.image) c.requires.consistent)

pub returns-in-Ok : goal.returns-in-Ok
returns-in-Ok c = for_ok c.space.result (λ text is. is ∙ ap (λ (frames : Frames). space_text frames (Some c.args.image.catalog_root)) c.in-Ok.ensures) c.space.ensures

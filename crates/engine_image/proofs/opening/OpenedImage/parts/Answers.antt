use Rattle.std.proofs.Common.{refl}
use Rattle.engine_image.proofs.Forests.{parts_are}
use Rattle.engine_image.proofs.opening.OpenedImage.parts.Goals as goal

pub returns : goal.returns
returns c image is = parts_are image c.args.self.now _ is refl refl c.as_slice.ensures.value refl refl

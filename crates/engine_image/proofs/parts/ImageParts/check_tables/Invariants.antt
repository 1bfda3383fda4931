use Rattle.std.proofs.Common.{◌≡◌, ℕ, ◌<◌, None}
use Rattle.image_findings.specs.Images.{ImageContents}
use Rattle.engine_image.specs.Checks.{finding_at}
use Rattle.engine_image.specs.OpenedImages.{AreParts}
use Rattle.engine_image.proofs.parts.ImageParts.check_tables.Given as goal

-- Nothing was found of the tables so far.
abbrev pub invariant-loop-place : goal.invariant-loop-place
invariant-loop-place l = (image : ImageContents) → AreParts image l.self → (k : ℕ) → k < l.place → finding_at l.check image k ≡ None

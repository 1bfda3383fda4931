-- The checks that are made of each table of an image, and what each finds first.
use Rattle.std.specs.Prelude.{◌≡◌, ℕ, true, map, Option, Some, None, slice_get, if◌then◌else◌}
use Rattle.std.specs.Option.{option_or}
use Rattle.image_findings.specs.CountFindings.{count_finding}
use Rattle.image_findings.specs.EntryFindings.{entry_finding}
use Rattle.image_findings.specs.Findings.{contents_in, engine_of_parts, history_of, live_finding, live_of, whole_of}
use Rattle.image_findings.specs.Images.{Finding, ImageContents, first_of}
use Rattle.image_findings.specs.Images.Finding.{Live}
use Rattle.image_findings.specs.KeyFindings.{key_finding}
use Rattle.image_findings.specs.LiveFindings.{is_sound_live}
use Rattle.image_findings.specs.RowFindings.{row_finding}
use Rattle.image_findings.specs.TableContents.{TableContents}
use Rattle.image_findings.specs.ValueFindings.{value_finding}
use Rattle.live_part.specs.LiveBytes.{LivePart}
use Rattle.live_part.specs.LiveReading.{whole_in}
use Rattle.engine_image.specs.OpenedImages.{AreParts, held_of}
use Rattle.engine_image.specs.declared.checks.TableCheck.{TableCheck}
use Rattle.engine_image.specs.declared.checks.TableCheck.TheVariants as check
use Rattle.engine_image.specs.declared.parts.ImageParts.{ImageParts}

-- what a check finds of a table
abbrev pub table_finding : TableCheck → ImageContents → TableContents → Option Finding
table_finding check.Values image t = value_finding image.number (held_of image) t
table_finding check.Rows image t = row_finding image.number (held_of image) t
table_finding check.Entries image t = entry_finding (held_of image) t
table_finding check.Keys image t = key_finding (history_of (engine_of_parts 0 image.number 0 (contents_in image) (live_of image))) (held_of image) t
table_finding check.Counts image t = count_finding (held_of image) t

abbrev pub finding_of_some : TableCheck → ImageContents → Option TableContents → Option Finding
finding_of_some check image None = None
finding_of_some check image (Some t) = table_finding check image t

-- of the table at a place
abbrev pub finding_at : TableCheck → ImageContents → ℕ → Option Finding
finding_at check image place = finding_of_some check image (slice_get (contents_in image) place)

-- of all tables, in their order
abbrev pub check_finding : TableCheck → ImageContents → Option Finding
check_finding check image = first_of (map (table_finding check image) (contents_in image))

-- what is found of the live part
abbrev pub live_part_finding : ImageContents → Option LivePart → Option Finding
live_part_finding image None = Some Live
live_part_finding image (Some whole) = if is_sound_live image.number (contents_in image) whole then None else Some Live

-- what is found of an image whose trees are opened, in order
abbrev pub checks_finding : ImageContents → Option Finding
checks_finding image = option_or (check_finding check.Values image) (live_finding image.number (contents_in image) (whole_in image.live))

-- what is found of rows, entries, keys and counts
abbrev pub records_found : ImageContents → Option Finding
records_found image = option_or (check_finding check.Rows image) (option_or (check_finding check.Entries image) (option_or (check_finding check.Keys image) (check_finding check.Counts image)))

-- The live part has its form, and is sound.
pub record HasSoundLive (image : ImageContents) : Type 0 where
  pub formed : whole_in image.live ≡ Some (whole_of image)
  pub sound : is_sound_live image.number (contents_in image) (whole_of image) ≡ true

-- what is to be asked, and found in order, before a check
abbrev pub IsReady : TableCheck → ImageContents → Type 0
IsReady check.Values image = Unit {0}
IsReady check.Rows image = check_finding check.Values image ≡ None
IsReady check.Entries image = (check_finding check.Values image ≡ None) × HasSoundLive image × (check_finding check.Rows image ≡ None)
IsReady check.Keys image = (check_finding check.Values image ≡ None) × HasSoundLive image × (check_finding check.Rows image ≡ None)
IsReady check.Counts image = Unit {0}

-- The parts are those of an image, and of each such image a check may be made.
pub record MayCheck (check : TableCheck) (parts : ImageParts) : Type 0 where
  pub image : ImageContents
  pub are_parts : AreParts image parts
  pub ready : (other : ImageContents) → AreParts other parts → IsReady check other

-- Nothing is found of long values, and the live part is sound.
pub record HasNamedValues (image : ImageContents) : Type 0 where
  pub values : check_finding check.Values image ≡ None
  pub live : HasSoundLive image

pub record MayCheckRecords (parts : ImageParts) : Type 0 where
  pub image : ImageContents
  pub are_parts : AreParts image parts
  pub ready : (other : ImageContents) → AreParts other parts → HasNamedValues other

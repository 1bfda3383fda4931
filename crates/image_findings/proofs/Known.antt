-- What is known of the held changes, tables and records of a consistent image.
use Rattle.std.proofs.Common.{◌≡◌, true, ◌&&◌, ap, sym, ◌∙◌}
use Rattle.std.specs.List.{AllByRecursion, list_all}
use Rattle.std.specs.Prelude.{map}
use Rattle.common_lemmas.proofs.Booleans.{and_right}
use Rattle.laws_images.specs.ShowableEngines.{EachIn, IsSoundRecord}
use Rattle.laws_versions.specs.Records.{records_of}
use Rattle.live_part.specs.LiveBytes.{live_bytes, live_fits, standing}
use Rattle.image_findings.specs.CatalogFindings.{is_sound_table}
use Rattle.image_findings.specs.Findings.{catalog_marks, contents_in, live_of, told_in, whole_of}
use Rattle.image_findings.specs.ImageBytes.{IsOfBytes}
use Rattle.image_findings.specs.Images.{ImageContents}
use Rattle.image_findings.specs.LiveFindings.{are_in_order, are_sound_sessions, is_sound_change}
use Rattle.image_findings.specs.NoFindings.{HasNoFinding}
use Rattle.image_findings.specs.TableContents.{TableContents, newest_table}
use Rattle.image_findings.proofs.Befores.{ArePlain}
use Rattle.image_findings.proofs.Changes.{IsKnown, all_known}
use Rattle.image_findings.proofs.Indexes.{plain_indexes}
use Rattle.image_findings.proofs.Newest.{newest_sound}
use Rattle.image_findings.proofs.Nodes.{each_of_bytes, each_rises}
use Rattle.image_findings.proofs.Rows.{each_sound_rows}
use Rattle.image_findings.proofs.SoundRecords.{are_bytes, bytes_are}
use Rattle.image_findings.proofs.Tables.{each_sound_table}
use Rattle.image_findings.proofs.Turns.{AllOrdered, HasTurn}

-- the bytes of the live part are its spelling, and it has one
abbrev pub IsSpelled : ImageContents → Type 0
IsSpelled image = (image.live ≡ live_bytes (whole_of image)) × (live_fits (whole_of image) ≡ true)

pub sound_of : (image : ImageContents) → HasNoFinding image → AllByRecursion (λ (t : TableContents). is_sound_table t.table ≡ true) (contents_in image)
sound_of image n = each_sound_table image.pages (told_in image).greatest (told_in image).tables n.catalog

pub known_in : (image : ImageContents) → IsOfBytes image → HasNoFinding image → IsSpelled image → AllByRecursion (IsKnown image.number (contents_in image) (whole_of image).sessions) (live_of image).held
known_in image bytes n live =
    all_known image.number (contents_in image) (whole_of image) (sound_of image n) n.values (each_sound_rows image.number (live_of image).held (contents_in image) n.values n.rows) n.live live.1
    (ap are_bytes (sym live.0) ∙ bytes_are image.live bytes.live)

pub plain_in : (image : ImageContents) → HasNoFinding image → ArePlain (map newest_table (contents_in image))
plain_in image n id = plain_indexes image.pages (told_in image).greatest (told_in image).tables n.catalog id

pub ordered_in : (image : ImageContents) → IsOfBytes image → HasNoFinding image → AllOrdered (contents_in image)
ordered_in image bytes n = each_rises image.pages bytes.pages (told_in image).tables (catalog_marks image) n.trees

pub newest_in : (image : ImageContents) → IsOfBytes image → HasNoFinding image → EachIn IsSoundRecord image.number (map newest_table (contents_in image)) (records_of (map newest_table (contents_in image)))
newest_in image bytes n =
    newest_sound image.number (live_of image).held (contents_in image) (sound_of image n) (each_sound_rows image.number (live_of image).held (contents_in image) n.values n.rows) (each_of_bytes image.pages bytes.pages (told_in image).tables)

pub turn_in : (image : ImageContents) → IsOfBytes image → HasNoFinding image → IsSpelled image → HasTurn image.number (contents_in image) (whole_of image).sessions (live_of image).held
turn_in image bytes n live = record {
  each = known_in image bytes n live;
  order = and_right (list_all (is_sound_change image.number (contents_in image) (whole_of image).sessions) (whole_of image).held) (are_in_order (contents_in image) (whole_of image).sessions (standing (whole_of image).held))
      (and_right (are_sound_sessions image.number (contents_in image) (whole_of image).sessions) (list_all (is_sound_change image.number (contents_in image) (whole_of image).sessions) (whole_of image).held && are_in_order (contents_in image) (whole_of image).sessions (standing (whole_of image).held)) n.live);
}

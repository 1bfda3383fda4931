-- All checks of an opened image, one after another.
use Rattle.std.proofs.Common.{◌≡◌, Bool, List, Option, Some, None, sym, ap, ◌∙◌}
use Rattle.std.specs.Prelude.{map, Result, if◌then◌else◌}
use Rattle.std.specs.Option.{option_or}
use Rattle.image_findings.specs.CountFindings.{count_finding}
use Rattle.image_findings.specs.EntryFindings.{entry_finding}
use Rattle.image_findings.specs.Findings.{contents_in, engine_of_parts, held_in, history_of, live_finding, live_of, records_finding}
use Rattle.image_findings.specs.Images.{Finding, ImageContents, first_of}
use Rattle.image_findings.specs.Images.Finding.{Live}
use Rattle.image_findings.specs.KeyFindings.{key_finding}
use Rattle.image_findings.specs.LiveFindings.{is_sound_live}
use Rattle.image_findings.specs.RowFindings.{row_finding}
use Rattle.live_part.specs.LiveBytes.{LivePart, without_undone}
use Rattle.live_part.specs.LiveReading.{whole_in}
use Rattle.version_store.specs.HeldChanges.{HeldChange}
use Rattle.engine_image.specs.Checks.{HasSoundLive, MayCheck, MayCheckRecords, check_finding, checks_finding, live_part_finding, records_found}
use Rattle.engine_image.specs.FoundFaults.{Refuses, Tells}
use Rattle.engine_image.specs.OpenedImages.{AreParts}
use Rattle.engine_image.specs.declared.checks.TableCheck.{TableCheck}
use Rattle.engine_image.specs.declared.checks.TableCheck.TheVariants as check
use Rattle.engine_image.specs.declared.fault.ImageFault.{ImageFault}
use Rattle.engine_image.specs.declared.parts.ImageParts.{ImageParts}
use Rattle.engine_image.proofs.FirstOf.{first_stays, tells_same, tells_then, then_found}

-- what a check told of each image of the parts
abbrev pub NoneFound : TableCheck → ImageParts → Type 0
NoneFound c parts = (image : ImageContents) → AreParts image parts → check_finding c image ≡ None

-- ---- before each check

pub may_rows : (parts : ImageParts) → MayCheckRecords parts → MayCheck check.Rows parts
may_rows parts may = record { image = may.image; are_parts = may.are_parts; ready = λ other is. (may.ready other is).values }

pub may_entries : (parts : ImageParts) → MayCheckRecords parts → NoneFound check.Rows parts → MayCheck check.Entries parts
may_entries parts may rows = record { image = may.image; are_parts = may.are_parts; ready = λ other is. ((may.ready other is).values, (may.ready other is).live, rows other is) }

pub may_keys : (parts : ImageParts) → MayCheckRecords parts → NoneFound check.Rows parts → MayCheck check.Keys parts
may_keys parts may rows = record { image = may.image; are_parts = may.are_parts; ready = λ other is. ((may.ready other is).values, (may.ready other is).live, rows other is) }

pub may_counts : (parts : ImageParts) → MayCheckRecords parts → MayCheck check.Counts parts
may_counts parts may = record { image = may.image; are_parts = may.are_parts; ready = λ other is. tt }

-- ---- rows, entries, keys and counts

pub rows_refuse : (image : ImageContents) (why : ImageFault) → Refuses (check_finding check.Rows image) why → Refuses (records_found image) why
rows_refuse image why h = first_stays (check_finding check.Rows image) (option_or (check_finding check.Entries image) (option_or (check_finding check.Keys image) (check_finding check.Counts image))) why h

pub entries_refuse : (image : ImageContents) (why : ImageFault) → check_finding check.Rows image ≡ None → Refuses (check_finding check.Entries image) why → Refuses (records_found image) why
entries_refuse image why rows h =
    let behind = option_or (check_finding check.Keys image) (check_finding check.Counts image) in
    then_found (check_finding check.Rows image) (option_or (check_finding check.Entries image) behind) why rows (first_stays (check_finding check.Entries image) behind why h)

pub keys_refuse : (image : ImageContents) (why : ImageFault) → check_finding check.Rows image ≡ None → check_finding check.Entries image ≡ None → Refuses (check_finding check.Keys image) why → Refuses (records_found image) why
keys_refuse image why rows entries h =
    let behind = option_or (check_finding check.Keys image) (check_finding check.Counts image) in
    then_found (check_finding check.Rows image) (option_or (check_finding check.Entries image) behind) why rows
    (then_found (check_finding check.Entries image) behind why entries (first_stays (check_finding check.Keys image) (check_finding check.Counts image) why h))

pub counts_tell : {X : Type 0} (image : ImageContents) (r : Result X ImageFault) → check_finding check.Rows image ≡ None → check_finding check.Entries image ≡ None → check_finding check.Keys image ≡ None → Tells (check_finding check.Counts image) r → Tells (records_found image) r
counts_tell image r rows entries keys h =
    let behind = option_or (check_finding check.Keys image) (check_finding check.Counts image) in
    tells_then (check_finding check.Rows image) (option_or (check_finding check.Entries image) behind) r rows
    (tells_then (check_finding check.Entries image) behind r entries (tells_then (check_finding check.Keys image) (check_finding check.Counts image) r keys h))

-- ---- all of them

abbrev found_with : ImageContents → List HeldChange → Option Finding
found_with image held =
    option_or (first_of (map (row_finding image.number held) (contents_in image)))
    (option_or (first_of (map (entry_finding held) (contents_in image)))
    (option_or (first_of (map (key_finding (history_of (engine_of_parts 0 image.number 0 (contents_in image) (live_of image))) held) (contents_in image)))
    (first_of (map (count_finding held) (contents_in image)))))

live_found_is : (image : ImageContents) → HasSoundLive image → live_finding image.number (contents_in image) (whole_in image.live) ≡ records_found image
live_found_is image live =
    ap (live_finding image.number (contents_in image)) live.formed
    ∙ ap (λ (b : Bool). option_or (if b then None else Some Live) (records_finding image.number (contents_in image) (live_of image))) live.sound
    ∙ ap (found_with image) (sym (ap held_in live.formed))

live_refuses : (image : ImageContents) (o : Option LivePart) (why : ImageFault) → Refuses (live_part_finding image o) why → Refuses (live_finding image.number (contents_in image) o) why
live_refuses image None why h = h
live_refuses image (Some whole) why h =
    first_stays (if is_sound_live image.number (contents_in image) whole then None else Some Live) (records_finding image.number (contents_in image) (without_undone whole)) why h

pub may_record : (parts : ImageParts) (image : ImageContents) → AreParts image parts → NoneFound check.Values parts → ((other : ImageContents) → AreParts other parts → HasSoundLive other) → MayCheckRecords parts
may_record parts image is values live = record { image = image; are_parts = is; ready = λ other has. record { values = values other has; live = live other has } }

pub may_values : (parts : ImageParts) (image : ImageContents) → AreParts image parts → MayCheck check.Values parts
may_values parts image is = record { image = image; are_parts = is; ready = λ other has. tt }

pub may_live : (parts : ImageParts) (image : ImageContents) → AreParts image parts → NoneFound check.Values parts → MayCheck check.Rows parts
may_live parts image is values = record { image = image; are_parts = is; ready = values }

pub values_refuse : (image : ImageContents) (why : ImageFault) → Refuses (check_finding check.Values image) why → Refuses (checks_finding image) why
values_refuse image why h = first_stays (check_finding check.Values image) (live_finding image.number (contents_in image) (whole_in image.live)) why h

pub live_part_refuses : (image : ImageContents) (why : ImageFault) → check_finding check.Values image ≡ None → Refuses (live_part_finding image (whole_in image.live)) why → Refuses (checks_finding image) why
live_part_refuses image why values h =
    then_found (check_finding check.Values image) (live_finding image.number (contents_in image) (whole_in image.live)) why values (live_refuses image (whole_in image.live) why h)

pub records_tell : {X : Type 0} (image : ImageContents) (r : Result X ImageFault) → check_finding check.Values image ≡ None → HasSoundLive image → Tells (records_found image) r → Tells (checks_finding image) r
records_tell image r values live h =
    tells_then (check_finding check.Values image) (live_finding image.number (contents_in image) (whole_in image.live)) r values
    (tells_same (records_found image) (live_finding image.number (contents_in image) (whole_in image.live)) r (sym (live_found_is image live)) h)

-- The checks of one table: what is known before each, and what it finds.
use Rattle.std.proofs.Common.{◌≡◌, ℕ, true, List, Option, Some, None, sym, ap, subst, ◌∙◌}
use Rattle.std.specs.Prelude.{option_map, slice_get}
use Rattle.database_state.specs.Table.{Table, schema_of}
use Rattle.image_contents.specs.FoundEntries as entries
use Rattle.image_contents.specs.FoundEntries.{IsShown}
use Rattle.image_contents.specs.LegalRules.{HasLegalRules}
use Rattle.image_contents.specs.ReadVariants.{AreReadableVariants}
use Rattle.image_contents.specs.RowsRead.{HasReadableRows}
use Rattle.image_contents.specs.declared.entries.indexes.DifferingEntry.{DifferingEntry}
use Rattle.image_contents.specs.declared.entries.variants.TableVariants.{TableVariants}
use Rattle.engine_image.proofs.NoFindings.{each_none}
use Rattle.image_findings.specs.CountFindings.{count_finding}
use Rattle.image_findings.specs.EntryFindings.{entry_finding}
use Rattle.image_findings.specs.Findings.{contents_in, engine_of_parts, held_in, history_of, live_of, whole_of}
use Rattle.image_findings.specs.Images.{Finding, ImageContents, least_key}
use Rattle.image_findings.specs.Images.Finding.{Row}
use Rattle.image_findings.specs.KeyFindings.{key_finding}
use Rattle.image_findings.specs.LiveFindings.{is_sound_live}
use Rattle.image_findings.specs.RowFindings.{row_finding, unsound_bookmarks}
use Rattle.image_findings.specs.TableContents.{TableContents, contents_with_id}
use Rattle.image_findings.specs.ValueFindings.{value_finding}
use Rattle.image_live.specs.FoundKeys as keys
use Rattle.image_live.specs.KeptRows.{HasSoundChanges}
use Rattle.image_live.specs.declared.keys.duplicate.DuplicateKey.{DuplicateKey}
use Rattle.image_opening.specs.OpenedTrees.{HasContents}
use Rattle.image_opening.specs.declared.opened.OpenedTable.{OpenedTable}
use Rattle.live_part.specs.LiveBytes.{LivePart, live_fits, standing, without_undone}
use Rattle.live_part.specs.LiveReading.{whole_in}
use Rattle.page_space.specs.Frames.{Frames}
use Rattle.version_store.specs.HeldChanges.{HeldChange}
use Rattle.engine_image.specs.Checks.{HasSoundLive, check_finding, finding_at, finding_of_some, table_finding}
use Rattle.engine_image.specs.OpenedImages.{AreParts, IsReadLive, ShownAt, held_of}
use Rattle.engine_image.specs.declared.checks.TableCheck.{TableCheck}
use Rattle.engine_image.specs.declared.checks.TableCheck.TheVariants as check
use Rattle.engine_image.specs.declared.contents.ReadLive.{ReadLive}
use Rattle.engine_image.specs.declared.parts.ImageParts.{ImageParts}
use Rattle.engine_image.proofs.TablesShown.{all_at}

abbrev pub RowsLaw : Type 0
RowsLaw = (frames : Frames) (table : OpenedTable) (t : TableContents) (number : ℕ) (held : List HeldChange) → HasContents frames table t → HasLegalRules (schema_of t.table) → value_finding number held t ≡ None → HasReadableRows t

abbrev pub VariantsLaw : Type 0
VariantsLaw = (v : TableVariants) (t : TableContents) (number : ℕ) (tables : List TableContents) (live : LivePart) → IsShown v t → HasLegalRules (schema_of t.table) → contents_with_id tables t.table.id ≡ Some t → v.versions.now ≡ standing live.held
    → value_finding number v.versions.now t ≡ None → is_sound_live number tables live ≡ true → row_finding number v.versions.now t ≡ None → AreReadableVariants v

-- ---- at a place

at_place : (check : TableCheck) (image : ImageContents) (place : ℕ) (t : TableContents) → slice_get (contents_in image) place ≡ Some t → finding_at check image place ≡ table_finding check image t
at_place check image place t at = ap (finding_of_some check image) at

pub none_at : (check : TableCheck) (image : ImageContents) (place : ℕ) (t : TableContents) → check_finding check image ≡ None → slice_get (contents_in image) place ≡ Some t → table_finding check image t ≡ None
none_at check image place t none at = all_at (λ (u : TableContents). table_finding check image u ≡ None) (contents_in image) place t (each_none (table_finding check image) (contents_in image) none) at

-- ---- before a check

pub values_ready : (image : ImageContents) (place : ℕ) (v : TableVariants) → ShownAt image place v → (t : TableContents) × HasContents v.space.now v.opened.now t
values_ready image place v s = (s.t, s.shown.contents)

pub rows_ready : RowsLaw → (image : ImageContents) (place : ℕ) (v : TableVariants) → ShownAt image place v → check_finding check.Values image ≡ None → (t : TableContents) × HasContents v.space.now v.opened.now t × (v.table.now ≡ t.table) × HasReadableRows t
rows_ready law image place v s none =
    (s.t, s.shown.contents, s.shown.table, law v.space.now v.opened.now s.t image.number (held_of image) s.shown.contents s.rules (none_at check.Values image place s.t none s.at))

standing_is : (image : ImageContents) → HasSoundLive image → held_of image ≡ standing (whole_of image).held
standing_is image live = ap held_in live.formed

pub variants_ready : VariantsLaw → (image : ImageContents) (place : ℕ) (v : TableVariants) → ShownAt image place v → check_finding check.Values image ≡ None → HasSoundLive image → check_finding check.Rows image ≡ None → AreReadableVariants v
variants_ready law image place v s values live rows =
    law v s.t image.number (contents_in image) (whole_of image) s.shown s.rules s.found (s.versions ∙ standing_is image live)
    (ap (λ (held : List HeldChange). value_finding image.number held s.t) s.versions ∙ none_at check.Values image place s.t values s.at) live.sound
    (ap (λ (held : List HeldChange). row_finding image.number held s.t) s.versions ∙ none_at check.Rows image place s.t rows s.at)

-- what was read where the live part has its form
pub read_whole : (o : Option LivePart) (whole : LivePart) (live : ReadLive) → IsReadLive o live → o ≡ Some whole → (whole.sessions ≡ live.part.sessions) × (standing whole.held ≡ live.part.versions) × (live_fits whole ≡ true)
read_whole o whole live h e = by (subst (λ (p : Option LivePart). IsReadLive p live) e h)
  where
    by : IsReadLive (Some whole) live → (whole.sessions ≡ live.part.sessions) × (standing whole.held ≡ live.part.versions) × (live_fits whole ≡ true)
    by r = (r.1.sessions, r.1.versions, r.2)

pub changes_ready : (image : ImageContents) (parts : ImageParts) (place : ℕ) (v : TableVariants) → AreParts image parts → ShownAt image place v → HasSoundLive image → HasSoundChanges parts.live.now.part.sessions v
changes_ready image parts place v is s live =
    let read = read_whole (whole_in image.live) (whole_of image) parts.live.now is.live live.formed in
    record {
      number = image.number;
      tables = contents_in image;
      live = whole_of image;
      contents = s.t;
      shown = s.shown;
      found = s.found;
      fits = read.2;
      sessions_are = read.0;
      held_are = sym (s.versions ∙ standing_is image live);
      sound = live.sound;
    }

-- ---- what a check finds

pub values_told : (image : ImageContents) (place : ℕ) (v : TableVariants) (number : ℕ) (o : Option Finding) → number ≡ image.number → ShownAt image place v
    → ((t : TableContents) → HasContents v.space.now v.opened.now t → o ≡ value_finding number v.versions.now t) → o ≡ finding_at check.Values image place
values_told image place v number o same s h =
    h s.t s.shown.contents ∙ ap (λ (n : ℕ). value_finding n v.versions.now s.t) same ∙ ap (λ (held : List HeldChange). value_finding image.number held s.t) s.versions ∙ sym (at_place check.Values image place s.t s.at)

pub rows_told : (image : ImageContents) (place : ℕ) (v : TableVariants) (number : ℕ) (key : Option (List ℕ)) → number ≡ image.number → ShownAt image place v
    → ((t : TableContents) → HasContents v.space.now v.opened.now t → v.table.now ≡ t.table → key ≡ least_key (unsound_bookmarks number v.versions.now t)) → option_map (Row v.table.now.name) key ≡ finding_at check.Rows image place
rows_told image place v number key same s h =
    ap (λ (table : Table). option_map (Row table.name) key) s.shown.table
    ∙ ap (option_map (Row s.t.table.name)) (h s.t s.shown.contents s.shown.table)
    ∙ ap (λ (n : ℕ). row_finding n v.versions.now s.t) same
    ∙ ap (λ (held : List HeldChange). row_finding image.number held s.t) s.versions
    ∙ sym (at_place check.Rows image place s.t s.at)

pub entries_told : (image : ImageContents) (place : ℕ) (v : TableVariants) (found : Option DifferingEntry) → ShownAt image place v
    → ((t : TableContents) → IsShown v t → option_map (entries.finding_in t.table) found ≡ entry_finding v.versions.now t) → option_map (entries.finding_in v.table.now) found ≡ finding_at check.Entries image place
entries_told image place v found s h =
    ap (λ (table : Table). option_map (entries.finding_in table) found) s.shown.table ∙ h s.t s.shown ∙ ap (λ (held : List HeldChange). entry_finding held s.t) s.versions ∙ sym (at_place check.Entries image place s.t s.at)

pub keys_told : (image : ImageContents) (parts : ImageParts) (place : ℕ) (v : TableVariants) (found : Option DuplicateKey) → AreParts image parts → ShownAt image place v → HasSoundLive image
    → ((kept : HasSoundChanges parts.live.now.part.sessions v) → option_map (keys.finding_in kept.contents.table) found ≡ key_finding (history_of (engine_of_parts 0 kept.number 0 kept.tables (without_undone kept.live))) (standing kept.live.held) kept.contents)
    → option_map (keys.finding_in v.table.now) found ≡ finding_at check.Keys image place
unfolding changes_ready
keys_told image parts place v found is s live h =
    ap (λ (table : Table). option_map (keys.finding_in table) found) s.shown.table
    ∙ h (changes_ready image parts place v is s live)
    ∙ ap (λ (held : List HeldChange). key_finding (history_of (engine_of_parts 0 image.number 0 (contents_in image) (live_of image))) held s.t) (sym (standing_is image live))
    ∙ sym (at_place check.Keys image place s.t s.at)

pub counts_told : (image : ImageContents) (place : ℕ) (v : TableVariants) (o : Option Finding) → ShownAt image place v
    → ((t : TableContents) → HasContents v.space.now v.opened.now t → o ≡ count_finding v.versions.now t) → o ≡ finding_at check.Counts image place
counts_told image place v o s h =
    h s.t s.shown.contents ∙ ap (λ (held : List HeldChange). count_finding held s.t) s.versions ∙ sym (at_place check.Counts image place s.t s.at)

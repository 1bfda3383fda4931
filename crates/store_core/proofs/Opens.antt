-- What is found on a volume is what its store has a copy of.
use Rattle.std.proofs.Common.{◌≡◌, ℕ, List, true, if◌then◌else◌, Option, Some, None, refl, sym, ◌∙◌, ap, subst}
use Rattle.jet_volume.specs.declared.files.LogStart.{LogStart}
use Rattle.jet_volume.specs.declared.files.File.{File}
use Rattle.jet_volume.specs.Image.{Image as Files}
use Rattle.page_image.specs.Page.{PageContents}
use Rattle.jet_volume.specs.Crash.{CrashLeaves, IsSettled}
use Rattle.jet_volume.specs.Moments.{leaves_now, goes_on_by, leaves_weaker}
use Rattle.log_ring.specs.Blocks.{Scans}
use Rattle.log_ring.specs.Writes.{LooksOnly}
use Rattle.checkpoint.specs.declared.image.Image.{Image}
use Rattle.checkpoint.specs.declared.image.Standing.{Standing}
use Rattle.checkpoint.specs.declared.image.Found.{Found}
use Rattle.checkpoint.specs.declared.image.Found.TheVariants.{New, Old}
use Rattle.checkpoint.specs.declared.fault.CheckFault.{CheckFault}
use Rattle.checkpoint.specs.declared.fault.CheckFault.TheVariants.{CheckpointCorrupt, LogSequenceEnd, ReadVerifyFailure, VolumeFault, OutOfMemory}
use Rattle.checkpoint.specs.Contents.{Contents, may_go_on}
use Rattle.checkpoint.specs.Opening.{verdict, verdict_at, is_empty, IsNew, HasCheckpoint}
use Rattle.checkpoint.specs.Opening.Verdict.{New as SaysNew, Corrupt as SaysCorrupt, SequenceEnd as SaysEnded, Stands as SaysStands}
use Rattle.checkpoint.specs.Found.{Finds, IsAnswer, IsRead, Explains, IsFromOutside, contents_read}
use Rattle.store_core.specs.Stands.{Checkpoint, contents_in_slots, start_of, ShowsIn, Stands}
use Rattle.store_core.specs.Store.{checkpoint_of, checkpoint_found, may_be_opened, IsCopyOf}

-- two looks, one after the other
pub looks_on : {V : Type 0} (moment : V → ℕ) (left_at : V → ℕ → Files → Type 0) (old mid new : V) → LooksOnly moment left_at old mid → LooksOnly moment left_at mid new → LooksOnly moment left_at old new
looks_on moment left_at old mid new first next =
    goes_on_by moment left_at old mid new (left_at old (moment old)) first
    (leaves_weaker moment left_at mid new (left_at mid (moment mid)) (left_at old (moment old)) (leaves_now moment left_at old mid (left_at old (moment old)) first) next)

pub found_copy : (found : Found) (standing : Standing) → IsAnswer found standing → IsCopyOf (checkpoint_found found standing) standing
found_copy New standing is = record { number = is.number; start = is.start; pages = is.pages; no_slots = λ none. is.slots }
found_copy (Old image) standing is = record { number = refl; start = refl; pages = is.pages; no_slots = λ none. cc }

pub found_shows : (files : Files) (found : Found) (standing : Standing) → IsAnswer found standing → Finds files found standing → ShowsIn standing.slots.items (checkpoint_found found standing) files
found_shows files New standing is finds = finds.1
found_shows files (Old image) standing is finds =
    subst (λ (slots : List ℕ). HasCheckpoint files (contents_in_slots slots (checkpoint_of standing.number standing.start image)) image.pages.items) (sym is.slots) finds.checkpoint

-- what was found stands there
pub found_stands : (files : Files) (found : Found) (standing : Standing) (stream : List ℕ) (end : LogStart) → IsAnswer found standing → Finds files found standing → Scans files.log standing.start stream end
    → Stands (checkpoint_found found standing) stream files
found_stands files found standing stream end is finds scans = record {
  slots = standing.slots.items;
  shows = found_shows files found standing is finds;
  gives = (end, subst (λ (from : LogStart). Scans files.log from stream end) (found_copy found standing is).start scans);
}

-- what a refusal from the outside says of the files
pub outside_explains : (files : Files) (cause : CheckFault) → IsFromOutside cause → Explains files cause
outside_explains files CheckpointCorrupt is = absurd is
outside_explains files LogSequenceEnd is = absurd is
outside_explains files ReadVerifyFailure is = absurd is
outside_explains files VolumeFault is = tt
outside_explains files OutOfMemory is = tt

new_verdict : (files : Files) → IsNew files → verdict files ≡ SaysNew
new_verdict files new = ap (λ (file : Option File). verdict_at file files) new.no_gate ∙ ap (λ (log : List ℕ). if is_empty log then SaysNew else SaysCorrupt) new.no_log

-- a checkpoint that stands is the one that is read
abbrev pub ReadsWhatStands : Type 0
ReadsWhatStands = (files : Files) (c : Contents) (pages : List (Option PageContents)) → HasCheckpoint files c pages
    → (answer : Found) (standing : Standing) → Finds files answer standing → IsRead c pages answer standing

-- a log has one stream
abbrev pub ScansOnce : Type 0
ScansOnce = (log : List ℕ) (from : LogStart) (one other : List ℕ) (end last : LogStart) → Scans log from one end → Scans log from other last → one ≡ other

same_checkpoint : (image : Image) (standing : Standing) (slots : List ℕ) (c : Checkpoint) → contents_read image standing ≡ contents_in_slots slots c → image.pages.items ≡ c.pages
    → checkpoint_of standing.number standing.start image ≡ c
same_checkpoint image standing slots c says pages =
    ap (λ (k : Contents). with_pages k image.pages.items) says ∙ ap (λ (p : List (Option PageContents)). with_pages (contents_in_slots slots c) p) pages
  where
    with_pages : Contents → List (Option PageContents) → Checkpoint
    with_pages k p = record { number = k.number; entries = k.entries; start = k.start; catalog_root = k.catalog_root; pages = p; live = k.live }

pub found_same : ReadsWhatStands → (files : Files) (found : Found) (standing : Standing) (checkpoint : Option Checkpoint) (stream : List ℕ) → Finds files found standing → Stands checkpoint stream files
    → checkpoint_found found standing ≡ checkpoint
found_same reads files New standing None stream finds stands = refl
found_same reads files (Old image) standing None stream finds stands = absurd (never (sym (new_verdict files stands.shows) ∙ finds.stands))
  where
    never : SaysNew ≡ SaysStands (contents_read image standing) → ⊥
    never e = cc
found_same reads files New standing (Some c) stream finds stands =
    absurd (reads files (contents_in_slots stands.slots c) c.pages stands.shows New standing finds)
found_same reads files (Old image) standing (Some c) stream finds stands =
    let is = reads files (contents_in_slots stands.slots c) c.pages stands.shows (Old image) standing finds in
    ap (λ (k : Checkpoint). Some k) (same_checkpoint image standing stands.slots c is.0 is.1)

pub found_stream : ScansOnce → (files : Files) (found : Found) (standing : Standing) (bytes : List ℕ) (end : LogStart) (checkpoint : Option Checkpoint) (stream : List ℕ) → IsAnswer found standing
    → Scans files.log standing.start bytes end → Stands checkpoint stream files → checkpoint_found found standing ≡ checkpoint → bytes ≡ stream
found_stream once files found standing bytes end checkpoint stream is scans stands same =
    let at : standing.start ≡ start_of checkpoint = (found_copy found standing is).start ∙ ap start_of same in
    once files.log (start_of checkpoint) bytes stream end stands.gives.0 (subst (λ (from : LogStart). Scans files.log from bytes end) at scans) stands.gives.1

-- what may be opened is refused from the outside alone
pub surely_found : ((files : Files) (c : Contents) (pages : List (Option PageContents)) → HasCheckpoint files c pages → may_go_on c ≡ true → (fault : CheckFault) → Explains files fault → IsFromOutside fault)
    → (files : Files) (checkpoint : Option Checkpoint) (stream : List ℕ) (cause : CheckFault) → Stands checkpoint stream files → may_be_opened checkpoint ≡ true → Explains files cause → IsFromOutside cause
surely_found never files (Some c) stream cause stands may explains = never files (contents_in_slots stands.slots c) c.pages stands.shows may cause explains
surely_found never files None stream cause stands may explains = new_never cause (new_verdict files stands.shows) explains
  where
    new_never : (cause : CheckFault) → verdict files ≡ SaysNew → Explains files cause → IsFromOutside cause
    new_never CheckpointCorrupt new is = absurd (corrupt (sym new ∙ is))
      where
        corrupt : SaysNew ≡ SaysCorrupt → ⊥
        corrupt e = cc
    new_never LogSequenceEnd new is = absurd (ended (sym new ∙ is))
      where
        ended : SaysNew ≡ SaysEnded → ⊥
        ended e = cc
    new_never ReadVerifyFailure new is = absurd (stood is.0 (sym new ∙ is.1))
      where
        stood : (c : Contents) → SaysNew ≡ SaysStands c → ⊥
        stood c e = cc
    new_never VolumeFault new is = tt
    new_never OutOfMemory new is = tt

module _ {V : Type 0} (seen : V → Files) (moment : V → ℕ) (left_at : V → ℕ → Files → Type 0) where
  -- a settled volume stays settled under looks
  pub settled_shows : (old new : V) (found : Found) (standing : Standing) → IsAnswer found standing → Finds (seen old) found standing → IsSettled moment left_at seen old → LooksOnly moment left_at old new
      → CrashLeaves moment left_at new (ShowsIn standing.slots.items (checkpoint_found found standing))
  settled_shows old new found standing is finds settled looks = λ image left.
      subst (λ (i : Files). ShowsIn standing.slots.items (checkpoint_found found standing) i) (sym (settled image (leaves_now moment left_at old new (left_at old (moment old)) looks image left)))
      (found_shows (seen old) found standing is finds)

  pub settled_log : (old new : V) → IsSettled moment left_at seen old → LooksOnly moment left_at old new → seen new ≡ seen old → CrashLeaves moment left_at new (λ image. image.log ≡ (seen new).log)
  settled_log old new settled looks same = λ image left.
      ap (λ (i : Files). i.log) (settled image (leaves_now moment left_at old new (left_at old (moment old)) looks image left) ∙ sym same)

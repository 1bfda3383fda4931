-- Files are refused for one cause at most, and for none where a state is recovered from what stands on them.
use Rattle.std.proofs.Common.{◌≡◌, ℕ, true, false, ◌==◌, List, Option, Some, None, refl, sym, ap, subst, ◌∙◌}
use Rattle.checkpoint.specs.Contents.{Contents, may_go_on}
use Rattle.checkpoint.specs.Found.{Explains, IsFromOutside}
use Rattle.checkpoint.specs.Opening.{HasCheckpoint, IsNew, Verdict, verdict}
use Rattle.checkpoint.specs.Opening.Verdict.{Corrupt, SequenceEnd, Stands as Says}
use Rattle.checkpoint.specs.declared.fault.CheckFault.{CheckFault}
use Rattle.checkpoint.specs.declared.fault.CheckFault.TheVariants as check
use Rattle.database_state.specs.State.{DatabaseState}
use Rattle.engine_image.specs.FoundFaults.{finding_told}
use Rattle.engine_image.specs.declared.fault.Finding.{Finding as Told}
use Rattle.engine_image.specs.declared.fault.Finding.TheVariants as told
use Rattle.image_findings.specs.Findings.{finding}
use Rattle.image_findings.specs.Images.{Finding}
use Rattle.image_findings.specs.Images.Finding.{Pages, Tree, Catalog, Row, Live, Index, Unique, Long}
use Rattle.jet_volume.specs.Image.{Image as Files}
use Rattle.page_image.specs.Page.{PageContents}
use Rattle.recovered_states.specs.Recovers.{RecoversFrom, image_of}
use Rattle.store_core.specs.Stands.{Checkpoint, Stands, contents_in_slots}
use Rattle.store_core.specs.Store.{may_be_opened}
use Rattle.soft_recovery.specs.Refusals.{HasConsistentImage, HasCorruptLog, HasFinding, Refuses, StandsWith}
use Rattle.soft_recovery.specs.declared.refusals.RecoverCause.{RecoverCause}
use Rattle.soft_recovery.specs.declared.refusals.RecoverCause.TheVariants as cause
use Rattle.soft_recovery.proofs.ShownEngines.{shown_consistent}

-- ---- findings

some_once : {A : Type 0} (a b : A) → Some a ≡ Some b → a ≡ b
some_once a b same = cc

none_some : {A : Type 0} (o : Option A) (a : A) → o ≡ None → o ≡ Some a → ⊥
none_some o a none some = cc

abbrev told_back : Finding → Told
told_back (Pages page) = told.Pages page
told_back (Tree root page) = told.Tree root page
told_back Catalog = told.Catalog
told_back (Row table bookmark) = told.Row table bookmark
told_back Live = told.Live
told_back (Index table index key have want) = told.Index table index key (have == 1)
told_back (Unique table index key) = told.Unique table index key
told_back (Long entry place have want) = told.Long (record { entry = entry; place = place; have = have; wanted = want })

back : (found : Told) → told_back (finding_told found) ≡ found
back (told.Pages page) = refl
back (told.Tree root page) = refl
back told.Catalog = refl
back (told.Row table bookmark) = refl
back told.Live = refl
back (told.Index table index key true) = refl
back (told.Index table index key false) = refl
back (told.Unique table index key) = refl
back (told.Long value) = refl

same_told : (one other : Told) → finding_told one ≡ finding_told other → one ≡ other
same_told one other same = sym (back one) ∙ ap told_back same ∙ back other

-- an image has one first finding, and none where it is consistent
one_finding : (checkpoint : Option Checkpoint) (one other : Told) → HasFinding one checkpoint → HasFinding other checkpoint → one ≡ other
one_finding None one other has also = absurd has
one_finding (Some c) one other has also = same_told one other (some_once (finding_told one) (finding_told other) (sym has ∙ also))

unfound : (checkpoint : Option Checkpoint) (found : Told) → HasFinding found checkpoint → HasConsistentImage checkpoint → ⊥
unfound None found has consistent = has
unfound (Some c) found has consistent = none_some (finding (image_of c)) (finding_told found) consistent has

-- ---- the first checks

corrupt_ends : (v : Verdict) → v ≡ Corrupt → v ≡ SequenceEnd → ⊥
corrupt_ends v one other = cc

corrupt_says : (v : Verdict) (c : Contents) → v ≡ Corrupt → v ≡ Says c → ⊥
corrupt_says v c one other = cc

ends_says : (v : Verdict) (c : Contents) → v ≡ SequenceEnd → v ≡ Says c → ⊥
ends_says v c one other = cc

-- ---- what stands

-- One checkpoint and one stream stand on files, and what stands within its bounds is not refused by the checks of the files.
pub record StandingLaws : Type 0 where
  pub once : (files : Files) (one other : Option Checkpoint) (stream bytes : List ℕ) → Stands one stream files → Stands other bytes files → (other ≡ one) × (bytes ≡ stream)
  pub old : (files : Files) (c : Contents) (pages : List (Option PageContents)) → HasCheckpoint files c pages → may_go_on c ≡ true → (fault : CheckFault) → Explains files fault → IsFromOutside fault
  pub new : (files : Files) → IsNew files → (fault : CheckFault) → Explains files fault → IsFromOutside fault

module _ (laws : StandingLaws) where
  checked : (files : Files) (checkpoint : Option Checkpoint) (stream : List ℕ) → Stands checkpoint stream files → may_be_opened checkpoint ≡ true → (fault : CheckFault) → Explains files fault → IsFromOutside fault
  checked files None stream stands within = laws.new files stands.shows
  checked files (Some c) stream stands within = laws.old files (contents_in_slots stands.slots c) c.pages stands.shows within

  abbrev Anything : Option Checkpoint → List ℕ → Type 0
  Anything checkpoint stream = Unit {0}

  -- what stands with one thing stands with the other
  meets : (files : Files) (P Q : Option Checkpoint → List ℕ → Type 0) (one : StandsWith P files) → StandsWith Q files → Q one.checkpoint one.stream
  meets files P Q one other =
      let same = laws.once files one.checkpoint other.checkpoint one.stream other.stream one.stands other.stands in
      subst (λ (bytes : List ℕ). Q one.checkpoint bytes) same.1 (subst (λ (c : Option Checkpoint). Q c other.stream) same.0 other.is)

  clash : (files : Files) (P : Option Checkpoint → List ℕ → Type 0) (fault : CheckFault) → Explains files fault → StandsWith P files → IsFromOutside fault
  clash files P fault why with_it = checked files with_it.checkpoint with_it.stream with_it.stands with_it.within fault why

  abbrev Finds : Told → Option Checkpoint → List ℕ → Type 0
  Finds found checkpoint stream = HasFinding found checkpoint

  -- a finding and a corrupt log
  apart : (files : Files) (found : Told) → StandsWith (Finds found) files → StandsWith HasCorruptLog files → ⊥
  apart files found one other = unfound one.checkpoint found one.is (meets files (Finds found) HasCorruptLog one other).consistent

  both_found : (files : Files) (one other : Told) → StandsWith (Finds one) files → StandsWith (Finds other) files → one ≡ other
  both_found files one other has also = one_finding has.checkpoint one other has.is (meets files (Finds one) (Finds other) has also)

  pub once : (files : Files) (one other : RecoverCause) → Refuses files one → Refuses files other → one ≡ other
  once files cause.CheckpointCorrupt cause.CheckpointCorrupt a b = refl
  once files cause.CheckpointCorrupt cause.LogSequenceEnd a b = absurd (corrupt_ends (verdict files) a b)
  once files cause.CheckpointCorrupt cause.ReadVerifyFailure a b = absurd (corrupt_says (verdict files) b.0 a b.1)
  once files cause.CheckpointCorrupt (cause.DatabaseCorrupted found) a b = absurd (clash files (Finds found) check.CheckpointCorrupt a b)
  once files cause.CheckpointCorrupt cause.LogFileCorrupt a b = absurd (clash files HasCorruptLog check.CheckpointCorrupt a b)
  once files cause.LogSequenceEnd cause.CheckpointCorrupt a b = absurd (corrupt_ends (verdict files) b a)
  once files cause.LogSequenceEnd cause.LogSequenceEnd a b = refl
  once files cause.LogSequenceEnd cause.ReadVerifyFailure a b = absurd (ends_says (verdict files) b.0 a b.1)
  once files cause.LogSequenceEnd (cause.DatabaseCorrupted found) a b = absurd (clash files (Finds found) check.LogSequenceEnd a b)
  once files cause.LogSequenceEnd cause.LogFileCorrupt a b = absurd (clash files HasCorruptLog check.LogSequenceEnd a b)
  once files cause.ReadVerifyFailure cause.CheckpointCorrupt a b = absurd (corrupt_says (verdict files) a.0 b a.1)
  once files cause.ReadVerifyFailure cause.LogSequenceEnd a b = absurd (ends_says (verdict files) a.0 b a.1)
  once files cause.ReadVerifyFailure cause.ReadVerifyFailure a b = refl
  once files cause.ReadVerifyFailure (cause.DatabaseCorrupted found) a b = absurd (clash files (Finds found) check.ReadVerifyFailure a b)
  once files cause.ReadVerifyFailure cause.LogFileCorrupt a b = absurd (clash files HasCorruptLog check.ReadVerifyFailure a b)
  once files (cause.DatabaseCorrupted found) cause.CheckpointCorrupt a b = absurd (clash files (Finds found) check.CheckpointCorrupt b a)
  once files (cause.DatabaseCorrupted found) cause.LogSequenceEnd a b = absurd (clash files (Finds found) check.LogSequenceEnd b a)
  once files (cause.DatabaseCorrupted found) cause.ReadVerifyFailure a b = absurd (clash files (Finds found) check.ReadVerifyFailure b a)
  once files (cause.DatabaseCorrupted one) (cause.DatabaseCorrupted other) a b = ap (λ (found : Told). cause.DatabaseCorrupted found) (both_found files one other a b)
  once files (cause.DatabaseCorrupted found) cause.LogFileCorrupt a b = absurd (apart files found a b)
  once files cause.LogFileCorrupt cause.CheckpointCorrupt a b = absurd (clash files HasCorruptLog check.CheckpointCorrupt b a)
  once files cause.LogFileCorrupt cause.LogSequenceEnd a b = absurd (clash files HasCorruptLog check.LogSequenceEnd b a)
  once files cause.LogFileCorrupt cause.ReadVerifyFailure a b = absurd (clash files HasCorruptLog check.ReadVerifyFailure b a)
  once files cause.LogFileCorrupt (cause.DatabaseCorrupted found) a b = absurd (apart files found b a)
  once files cause.LogFileCorrupt cause.LogFileCorrupt a b = refl
  once files cause.CheckpointCorrupt cause.VolumeFault a b = absurd b
  once files cause.CheckpointCorrupt cause.OutOfMemory a b = absurd b
  once files cause.LogSequenceEnd cause.VolumeFault a b = absurd b
  once files cause.LogSequenceEnd cause.OutOfMemory a b = absurd b
  once files cause.ReadVerifyFailure cause.VolumeFault a b = absurd b
  once files cause.ReadVerifyFailure cause.OutOfMemory a b = absurd b
  once files (cause.DatabaseCorrupted found) cause.VolumeFault a b = absurd b
  once files (cause.DatabaseCorrupted found) cause.OutOfMemory a b = absurd b
  once files cause.LogFileCorrupt cause.VolumeFault a b = absurd b
  once files cause.LogFileCorrupt cause.OutOfMemory a b = absurd b
  once files cause.VolumeFault other a b = absurd a
  once files cause.OutOfMemory other a b = absurd a

  -- what recovers is not refused
  pub not_refused : (files : Files) (checkpoint : Option Checkpoint) (stream : List ℕ) (state : DatabaseState) → Stands checkpoint stream files → may_be_opened checkpoint ≡ true → RecoversFrom checkpoint stream state
      → (why : RecoverCause) → Refuses files why → ⊥
  not_refused files checkpoint stream state stands within from cause.CheckpointCorrupt refuses = checked files checkpoint stream stands within check.CheckpointCorrupt refuses
  not_refused files checkpoint stream state stands within from cause.LogSequenceEnd refuses = checked files checkpoint stream stands within check.LogSequenceEnd refuses
  not_refused files checkpoint stream state stands within from cause.ReadVerifyFailure refuses = checked files checkpoint stream stands within check.ReadVerifyFailure refuses
  not_refused files checkpoint stream state stands within from (cause.DatabaseCorrupted found) refuses =
      unfound checkpoint found (meets files Anything (Finds found) (record { checkpoint = checkpoint; stream = stream; stands = stands; within = within; is = tt }) refuses)
      (shown_consistent checkpoint from.shown from.shows)
  not_refused files checkpoint stream state stands within from cause.LogFileCorrupt refuses =
      (meets files Anything HasCorruptLog (record { checkpoint = checkpoint; stream = stream; stands = stands; within = within; is = tt }) refuses).none state from
  not_refused files checkpoint stream state stands within from cause.VolumeFault refuses = refuses
  not_refused files checkpoint stream state stands within from cause.OutOfMemory refuses = refuses

-- What stands on a volume has one answer.
use Rattle.std.proofs.Common.{◌≡◌, ℕ, ◌<◌, List, Bool, true, false, Option, Some, None, if◌then◌else◌, get_or, sym, ◌∙◌, ap, subst, arith}
use Rattle.jet_volume.specs.declared.files.File.{File}
use Rattle.jet_volume.specs.Image.{Image as Files, file_bytes}
use Rattle.page_image.specs.Page.{PageContents}
use Rattle.checkpoint.specs.declared.image.Found.{Found}
use Rattle.checkpoint.specs.declared.image.Found.TheVariants as found
use Rattle.checkpoint.specs.declared.image.Standing.{Standing}
use Rattle.checkpoint.specs.declared.fault.CheckFault.{CheckFault}
use Rattle.checkpoint.specs.declared.fault.CheckFault.TheVariants.{CheckpointCorrupt, LogSequenceEnd, ReadVerifyFailure, VolumeFault, OutOfMemory}
use Rattle.checkpoint.specs.Contents.{Contents, contents_in, file_of, is_checkpoint_file, may_go_on}
use Rattle.checkpoint.specs.Opening.{Verdict, file_verdict, verdict, verdict_at, is_empty, HasBadSlot, HasCheckpoint, IsNew, HoldsPage, HoldsPages, SlotSays}
use Rattle.checkpoint.specs.Opening.Verdict.{New, Corrupt, SequenceEnd, Stands}
use Rattle.checkpoint.specs.Found.{contents_read, Explains, Finds, IsFromOutside, IsNewAnswer, IsRead}

stands_once : (a b : Contents) → Stands a ≡ Stands b → a ≡ b
stands_once a b same = cc

not_corrupt : (c : Contents) → Corrupt ≡ Stands c → ⊥
not_corrupt c same = cc

not_end : (c : Contents) → SequenceEnd ≡ Stands c → ⊥
not_end c same = cc

new_stands : (c : Contents) → New ≡ Stands c → ⊥
new_stands c same = cc

new_corrupt : New ≡ Corrupt → ⊥
new_corrupt same = cc

new_end : New ≡ SequenceEnd → ⊥
new_end same = cc

-- the verdict where a checkpoint stands: its contents, where its numbers may go on
abbrev pub goes_or_ends : Bool → Contents → Verdict
goes_or_ends goes c = if goes then Stands c else SequenceEnd

not_new : (goes : Bool) (c : Contents) → New ≡ goes_or_ends goes c → ⊥
not_new true c same = cc
not_new false c same = cc

these_stand : (goes : Bool) (a c : Contents) → Stands a ≡ goes_or_ends goes c → a ≡ c
these_stand true a c same = stands_once a c same
these_stand false a c same = absurd (not_end a (sym same))

file_stands : (file : File) (bytes : List ℕ) (c : Contents) → is_checkpoint_file file bytes ≡ true → contents_in bytes ≡ c → file_verdict file bytes ≡ goes_or_ends (may_go_on c) c
file_stands file bytes c is says =
    ap (λ b. if b then goes_or_ends (may_go_on (contents_in bytes)) (contents_in bytes) else Corrupt) is
    ∙ ap (λ (k : Contents). goes_or_ends (may_go_on k) k) says

no_bad_slot : (database : List ℕ) (p slot : ℕ) (page : Option PageContents) → SlotSays database p slot page → slot < 2 → ((page : PageContents) → HoldsPage database p slot page → ⊥) → ⊥
no_bad_slot database p slot None says used none = omega (arith, says, used)
no_bad_slot database p slot (Some page) says used none = none page says

none_bad : (database slots : List ℕ) (pages : List (Option PageContents)) → HoldsPages database slots pages → HasBadSlot database slots → ⊥
none_bad database slots pages holds bad =
    no_bad_slot database bad.0 (get_or slots bad.0 2) (get_or pages bad.0 None) (holds.each bad.0 (omega (arith, bad.1, holds.count))) bad.2 bad.3

module _ (files : Files) (c : Contents) (pages : List (Option PageContents)) (has : HasCheckpoint files c pages) where
  verdict_is : verdict files ≡ goes_or_ends (may_go_on c) c
  verdict_is = ap (λ f. verdict_at f files) has.file ∙ file_stands (file_of c.number) (file_bytes (file_of c.number) files) c has.is_file has.says

  pub one_answer : (answer : Found) (standing : Standing) → Finds files answer standing → IsRead c pages answer standing
  one_answer found.New standing finds = not_new (may_go_on c) c (sym finds.0 ∙ verdict_is)
  one_answer (found.Old image) standing finds =
      let same : contents_read image standing ≡ c = these_stand (may_go_on c) (contents_read image standing) c (sym finds.stands ∙ verdict_is) in
      let slots : c.slots ≡ image.slots.items = sym (ap (λ (k : Contents). k.slots) same) in
      (same, sym (finds.only pages (subst (λ (l : List ℕ). HoldsPages files.database l pages) slots has.holds)))

  module _ (goes_on : may_go_on c ≡ true) where
    stands : verdict files ≡ Stands c
    stands = verdict_is ∙ ap (λ goes. goes_or_ends goes c) goes_on

    pub no_refusal : (fault : CheckFault) → Explains files fault → IsFromOutside fault
    no_refusal CheckpointCorrupt says = not_corrupt c (sym says ∙ stands)
    no_refusal LogSequenceEnd says = not_end c (sym says ∙ stands)
    no_refusal ReadVerifyFailure says =
        let same : says.0 ≡ c = stands_once says.0 c (sym says.1 ∙ stands) in
        none_bad files.database c.slots pages has.holds (subst (λ (k : Contents). HasBadSlot files.database k.slots) same says.2)
    no_refusal VolumeFault says = tt
    no_refusal OutOfMemory says = tt

module _ (files : Files) (new : IsNew files) where
  is_new : verdict files ≡ New
  is_new = ap (λ f. verdict_at f files) new.no_gate ∙ ap (λ (log : List ℕ). if is_empty log then New else Corrupt) new.no_log

  pub new_answer : (answer : Found) (standing : Standing) → Finds files answer standing → IsNewAnswer answer
  new_answer found.New standing finds = tt
  new_answer (found.Old image) standing finds = new_stands (contents_read image standing) (sym is_new ∙ finds.stands)

  pub new_no_refusal : (fault : CheckFault) → Explains files fault → IsFromOutside fault
  new_no_refusal CheckpointCorrupt says = new_corrupt (sym is_new ∙ says)
  new_no_refusal LogSequenceEnd says = new_end (sym is_new ∙ says)
  new_no_refusal ReadVerifyFailure says = new_stands says.0 (sym is_new ∙ says.1)
  new_no_refusal VolumeFault says = tt
  new_no_refusal OutOfMemory says = tt

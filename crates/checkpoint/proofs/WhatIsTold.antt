-- What was told of a checkpoint stands on the volume.
use Rattle.std.proofs.Common.{◌≡◌, ℕ, List, Bool, true, ◌&&◌, Option, Some, eqb, leb, length, take, drop, codes, refl, sym, ◌∙◌, ap, subst}
use Rattle.std.specs.Str.{bytes_eq}
use Rattle.common_lemmas.proofs.Booleans.{and_left, and_right}
use Rattle.jet_volume.specs.declared.files.File.{File}
use Rattle.jet_volume.specs.declared.files.File.TheVariants.{Database, CheckpointA, CheckpointB, Log}
use Rattle.jet_volume.specs.Image.{Image as Files, file_bytes, is_file}
use Rattle.page_image.specs.Page.{PageContents}
use Rattle.checkpoint.specs.declared.image.Image.{Image}
use Rattle.checkpoint.specs.declared.image.Standing.{Standing}
use Rattle.checkpoint.specs.declared.file.FileContents.{FileContents}
use Rattle.checkpoint.specs.declared.fault.CheckFault.{CheckFault}
use Rattle.checkpoint.specs.declared.fault.CheckFault.TheVariants.{CheckpointCorrupt, LogSequenceEnd, ReadVerifyFailure, VolumeFault, OutOfMemory}
use Rattle.checkpoint.specs.Contents.{Contents, contents_in, file_of, has_head, has_live, has_slots, is_checkpoint_file, number_at}
use Rattle.checkpoint.specs.Opening.{verdict, verdict_at, HasBadSlot, HasCheckpoint, HoldsPages}
use Rattle.checkpoint.specs.Opening.Verdict.{Stands}
use Rattle.checkpoint.specs.Shape.{contents_with}
use Rattle.checkpoint.specs.Found.{contents_read, Explains, FindsImage, HoldsOnly}
use Rattle.checkpoint.specs.Parts.{ExplainsSlots, IsLookedAt}

-- two files that are the same one
pub same_file : (a b : File) → is_file a b ≡ true → a ≡ b
same_file Database Database is = refl
same_file CheckpointA CheckpointA is = refl
same_file CheckpointB CheckpointB is = refl
same_file Log Log is = refl
same_file Database CheckpointA is = cc
same_file Database CheckpointB is = cc
same_file Database Log is = cc
same_file CheckpointA Database is = cc
same_file CheckpointA CheckpointB is = cc
same_file CheckpointA Log is = cc
same_file CheckpointB Database is = cc
same_file CheckpointB CheckpointA is = cc
same_file CheckpointB Log is = cc
same_file Log Database is = cc
same_file Log CheckpointA is = cc
same_file Log CheckpointB is = cc

-- a checkpoint file bears a number that belongs into it
pub head_file : (file : File) (bytes : List ℕ) → has_head file bytes ≡ true → file ≡ file_of (number_at 8 10 bytes)
unfolding has_head
head_file file bytes head =
    let belongs : Bool = is_file file (file_of (number_at 8 10 bytes)) in
    let bounds : Bool = leb 1 (number_at 8 26 bytes) && (leb (number_at 4 34 bytes) 1048575 && leb (number_at 4 50 bytes) 16777216) in
    let from_number : Bool = leb 1 (number_at 8 10 bytes) && (belongs && bounds) in
    let from_format : Bool = eqb (number_at 4 6 bytes) 1 && from_number in
    let mark : Bool = bytes_eq (take 5 (drop 1 bytes)) (codes "JETCK") in
    same_file file (file_of (number_at 8 10 bytes))
    (and_left belongs bounds
    (and_right (leb 1 (number_at 8 10 bytes)) (belongs && bounds)
    (and_right (eqb (number_at 4 6 bytes) 1) from_number
    (and_right mark from_format (and_right (leb 54 (length bytes)) (mark && from_format) head)))))

module _ (told : FileContents) (files : Files) (by : IsLookedAt told files) where
  abbrev pub contents : Contents
  contents = contents_with told.head told.slots.items told.live.items

  pub told_verdict : verdict files ≡ Stands contents
  told_verdict = ap (λ f. verdict_at f files) by.looked_at ∙ by.verdict

  told_file : by.file ≡ file_of contents.number
  told_file =
      let bytes = file_bytes by.file files in
      head_file by.file bytes (and_left (has_head by.file bytes) (has_slots bytes && has_live bytes) by.says.is_file)
      ∙ ap file_of (sym (ap (λ (k : Contents). k.number) by.says.says))

  pub told_checkpoint : (pages : List (Option PageContents)) → HoldsPages files.database told.slots.items pages → HasCheckpoint files contents pages
  told_checkpoint pages holds = record {
    file = by.looked_at ∙ ap Some told_file;
    is_file = subst (λ f. is_checkpoint_file f (file_bytes f files) ≡ true) told_file by.says.is_file;
    says = subst (λ f. contents_in (file_bytes f files) ≡ contents) told_file (sym by.says.says);
    holds = holds;
  }

  pub told_image : (image : Image) (standing : Standing) (pages : List (Option PageContents)) → HoldsOnly files.database told.slots.items pages → contents_read image standing ≡ contents
      → image.slots.items ≡ told.slots.items → image.pages.items ≡ pages → FindsImage files image standing
  told_image image standing pages holds says slots same = record {
    stands = told_verdict ∙ ap Stands (sym says);
    checkpoint = subst (λ (c : Contents). HasCheckpoint files c image.pages.items) (sym says)
        (subst (λ (l : List (Option PageContents)). HasCheckpoint files contents l) (sym same) (told_checkpoint pages holds.0));
    only = λ others has. holds.1 others (subst (λ (l : List ℕ). HoldsPages files.database l others) slots has) ∙ sym same;
  }

  pub told_refusal : (fault : CheckFault) → ExplainsSlots (HasBadSlot files.database told.slots.items) fault → Explains files fault
  told_refusal CheckpointCorrupt bad = absurd bad
  told_refusal LogSequenceEnd bad = absurd bad
  told_refusal ReadVerifyFailure bad = (contents, told_verdict, bad)
  told_refusal VolumeFault bad = tt
  told_refusal OutOfMemory bad = tt

-- What is said of the files without their log stays where the log alone changes.
use Rattle.std.proofs.Common.{◌≡◌, inl, inr, ℕ, ◌≤◌, ◌%◌, Bool, true, false, ◌&&◌, ◌==◌, nat_le, if◌then◌else◌, List, [], Option, Some, None, length, take, drop, codes, refl, sym, ◌∙◌, ap, subst}
use Rattle.std.proofs.lemmas.Bool.{and_parts, leb-true}
use Rattle.std.specs.Str.{bytes_eq}
use Rattle.jet_volume.specs.declared.files.File.{File}
use Rattle.jet_volume.specs.declared.files.File.TheVariants.{CheckpointA, CheckpointB, Log}
use Rattle.jet_volume.specs.Image.{Image, file_bytes, is_file, SameBut}
use Rattle.page_image.specs.Page.{PageContents}
use Rattle.log_ring.specs.Appends.{Gives, GivesBeforeOrAfter}
use Rattle.checkpoint.specs.declared.image.Standing.{Standing}
use Rattle.checkpoint.specs.Contents.{Contents, contents_in, file_of, has_head, has_slots, has_live, is_checkpoint_file, number_at}
use Rattle.checkpoint.specs.Opening.{HasCheckpoint, KeepsCheckpoint}
use Rattle.checkpoint.specs.Shape.{IsStanding}
use Rattle.checkpoint.specs.Steps.{KeepsOrBrings}
use Rattle.store_core.specs.Stands.{Checkpoint, contents_in_slots, start_of, ShowsIn, StandsBeforeOrAfter, StandsOldOrNew}
use Rattle.store_core.specs.Store.{IsCopyOf}

-- the files with another log
abbrev with_log : List ℕ → Image → Image
with_log log image = record image { log = log }

same_but_log : (a b : Image) → SameBut Log a b → b ≡ with_log b.log a
same_but_log a b same = ap (with_log b.log) same

file_kept : (odd : Bool) (log : List ℕ) (a : Image) → file_bytes (if odd then CheckpointA else CheckpointB) (with_log log a) ≡ file_bytes (if odd then CheckpointA else CheckpointB) a
file_kept true log a = refl
file_kept false log a = refl

has_still : (c : Contents) (pages : List (Option PageContents)) (log : List ℕ) (a : Image) → HasCheckpoint a c pages → HasCheckpoint (with_log log a) c pages
has_still c pages log a has =
    let same : file_bytes (file_of c.number) (with_log log a) ≡ file_bytes (file_of c.number) a = file_kept (c.number % 2 == 1) log a in
    record {
      file = has.file;
      is_file = ap (is_checkpoint_file (file_of c.number)) same ∙ has.is_file;
      says = ap contents_in same ∙ has.says;
      holds = has.holds;
    }

-- a checkpoint stands still where the log alone changes
pub shows_still : (slots : List ℕ) (c : Checkpoint) (a b : Image) → SameBut Log a b → ShowsIn slots (Some c) a → ShowsIn slots (Some c) b
shows_still slots c a b same shows =
    subst (λ (i : Image). HasCheckpoint i (contents_in_slots slots c) c.pages) (sym (same_but_log a b same)) (has_still (contents_in_slots slots c) c.pages b.log a shows)

-- the number of a checkpoint that stands is from 1 on
fourth : (a b c d e : Bool) → (a && (b && (c && (d && e)))) ≡ true → d ≡ true
fourth a b c d e is = (and_parts d e (and_parts c (d && e) (and_parts b (c && (d && e)) (and_parts a (b && (c && (d && e))) is).1).1).1).0

head_numbered : (file : File) (bytes : List ℕ) → has_head file bytes ≡ true → 1 ≤ number_at 8 10 bytes
unfolding has_head
head_numbered file bytes is =
    leb-true 1 (number_at 8 10 bytes)
    (fourth (nat_le 54 (length bytes)) (bytes_eq (take 5 (drop 1 bytes)) (codes "JETCK")) (number_at 4 6 bytes == 1) (nat_le 1 (number_at 8 10 bytes))
    (is_file file (file_of (number_at 8 10 bytes)) && (nat_le 1 (number_at 8 26 bytes) && (nat_le (number_at 4 34 bytes) 1048575 && nat_le (number_at 4 50 bytes) 16777216))) is)

pub numbered : (slots : List ℕ) (c : Checkpoint) (image : Image) → ShowsIn slots (Some c) image → 1 ≤ c.number
numbered slots c image shows =
    let bytes = file_bytes (file_of c.number) image in
    let head : has_head (file_of c.number) bytes ≡ true = (and_parts (has_head (file_of c.number) bytes) (has_slots bytes && has_live bytes) shows.is_file).0 in
    subst (λ (n : ℕ). 1 ≤ n) (ap (λ (k : Contents). k.number) shows.says) (head_numbered (file_of c.number) bytes head)

-- the copy in memory is the standing checkpoint
pub stands_by : (checkpoint : Option Checkpoint) (standing : Standing) (image : Image) → IsCopyOf checkpoint standing → ShowsIn standing.slots.items checkpoint image → IsStanding standing image
stands_by None standing image copy shows = inl (copy.number, shows, copy.no_slots refl, copy.pages)
stands_by (Some c) standing image copy shows = inr (
  contents_in_slots standing.slots.items c,
  subst (λ (pages : List (Option PageContents)). HasCheckpoint image (contents_in_slots standing.slots.items c) pages) (sym copy.pages) shows,
  sym copy.number,
  refl,
)

-- what stood before stands still
kept : (checkpoint : Option Checkpoint) (slots : List ℕ) (before image : Image) → KeepsCheckpoint before image → ShowsIn slots checkpoint before → ShowsIn slots checkpoint image
kept None slots before image keeps shows = keeps.new shows
kept (Some c) slots before image keeps shows = keeps.old (contents_in_slots slots c) c.pages shows

-- while the next checkpoint is written, the old one stands with its stream, or the new one with none
pub old_or_new : (checkpoint : Option Checkpoint) (stream : List ℕ) (c : Checkpoint) (slots log : List ℕ) (before image : Image) → ShowsIn slots checkpoint before → before.log ≡ log
    → Gives (start_of checkpoint) stream log → Gives c.start [] log → KeepsOrBrings (λ s. contents_in_slots s c) c.pages before image → StandsOldOrNew checkpoint stream c image
old_or_new checkpoint stream c slots log before image shows is gives none (inl keeps) = inl (record {
  slots = slots;
  shows = kept checkpoint slots before image keeps shows;
  gives = subst (λ (l : List ℕ). Gives (start_of checkpoint) stream l) (sym (keeps.log ∙ is)) gives;
})
old_or_new checkpoint stream c slots log before image shows is gives none (inr brings) = inr (record {
  slots = brings.0;
  shows = brings.1.stands;
  gives = subst (λ (l : List ℕ). Gives c.start [] l) (sym (brings.1.log ∙ is)) none;
})

-- and the log stays
pub log_kept : (contents : List ℕ → Contents) (pages : List (Option PageContents)) (before image : Image) → KeepsOrBrings contents pages before image → image.log ≡ before.log
log_kept contents pages before image (inl keeps) = keeps.log
log_kept contents pages before image (inr brings) = brings.1.log

-- the stream from before, or with the new bytes, behind the same checkpoint
pub before_or_after : (checkpoint : Option Checkpoint) (slots stream bytes : List ℕ) (image : Image) → ShowsIn slots checkpoint image → GivesBeforeOrAfter (start_of checkpoint) stream bytes image.log
    → StandsBeforeOrAfter checkpoint stream bytes image
before_or_after checkpoint slots stream bytes image shows (inl gives) = inl (record { slots = slots; shows = shows; gives = gives })
before_or_after checkpoint slots stream bytes image shows (inr gives) = inr (record { slots = slots; shows = shows; gives = gives })

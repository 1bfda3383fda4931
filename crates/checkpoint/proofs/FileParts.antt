-- What the pieces of a checkpoint file say of the whole.
use Rattle.std.proofs.Common.{◌≡◌, ℕ, ◌+◌, ◌≤◌, List, true, false, ◌&&◌, Option, Some, None, MatchOption, leb, length, take, drop, sym, ◌∙◌, ap, arith}
use Rattle.std.proofs.lemmas.Bool.{and_from, and_right, le-leb}
use Rattle.std.proofs.lemmas.List.{drop-drop, take-take}
use Rattle.std.specs.List.{list_all}
use Rattle.byteorder.specs.Endian.{little_number}
use Rattle.jet_volume.specs.declared.files.File.{File}
use Rattle.checkpoint.specs.declared.file.Slots.{Slots}
use Rattle.checkpoint.specs.Contents.{Contents, contents_in, has_head, has_live, has_slots, is_checkpoint_file, is_slot, live_length, number_at, page_count, slot_bytes}
use Rattle.checkpoint.specs.Parts.{IsSlotsOf}
use Rattle.checkpoint.proofs.Fronts.{number_front}

number_behind : (n at from : ℕ) (bytes : List ℕ) → number_at n at (drop from bytes) ≡ number_at n (from + at) bytes
unfolding number_at
number_behind n at from bytes = ap (λ (l : List ℕ). little_number n l) (drop-drop at from bytes)

slots_of_piece : (bytes piece : List ℕ) (count : ℕ) → count ≡ page_count bytes → piece ≡ take (count + 4) (drop 54 bytes) → take count piece ≡ slot_bytes bytes
slots_of_piece bytes piece count is read =
    ap (λ (l : List ℕ). take count l) read ∙ take-take count (count + 4) (drop 54 bytes) (omega arith) ∙ ap (λ k. take k (drop 54 bytes)) is

length_of_piece : (bytes piece : List ℕ) (count : ℕ) → count ≡ page_count bytes → piece ≡ take (count + 4) (drop 54 bytes) → number_at 4 count piece ≡ live_length bytes
length_of_piece bytes piece count is read =
    ap (λ (l : List ℕ). number_at 4 count l) read ∙ number_front 4 count (count + 4) (drop 54 bytes) (omega arith) ∙ number_behind 4 count 54 bytes
    ∙ ap (λ k. number_at 4 (54 + k) bytes) is

-- the slots in a piece are those of the file
pub slots_found : (found : Option Slots) (bytes piece : List ℕ) (count : ℕ) → count ≡ page_count bytes → (54 + (count + 4) ≤ length bytes) × (piece ≡ take (count + 4) (drop 54 bytes))
    → MatchOption found (list_all is_slot (take count piece) ≡ false) (λ s. (list_all is_slot s.items.items ≡ true) × (s.items.items ≡ take count piece) × (s.live_length ≡ number_at 4 count piece))
    → MatchOption found (has_slots bytes ≡ false) (λ s. IsSlotsOf s bytes)
slots_found None bytes piece count is read bad =
    and_right (leb (58 + page_count bytes) (length bytes)) (list_all is_slot (slot_bytes bytes)) (ap (λ (l : List ℕ). list_all is_slot l) (sym (slots_of_piece bytes piece count is read.1)) ∙ bad)
slots_found (Some s) bytes piece count is read good =
    let items : s.items.items ≡ slot_bytes bytes = good.1 ∙ slots_of_piece bytes piece count is read.1 in
    record {
      has = and_from (leb (58 + page_count bytes) (length bytes)) (list_all is_slot (slot_bytes bytes)) (le-leb (58 + page_count bytes) (length bytes) (omega (arith, read.0, is)))
          (ap (λ (l : List ℕ). list_all is_slot l) (sym items) ∙ good.0);
      items = items;
      live_length = good.2 ∙ length_of_piece bytes piece count is read.1;
    }

-- the fixed part, the slots and the live part are all of a checkpoint file
pub told_is_file : (file : File) (bytes : List ℕ) (count n : ℕ) → has_head file bytes ≡ true → has_slots bytes ≡ true → count ≡ page_count bytes → n ≡ live_length bytes → 58 + count + n ≤ length bytes
    → is_checkpoint_file file bytes ≡ true
told_is_file file bytes count n head slots is live_is live =
    and_from (has_head file bytes) (has_slots bytes && has_live bytes) head
    (and_from (has_slots bytes) (has_live bytes) slots (le-leb (58 + page_count bytes + live_length bytes) (length bytes) (omega (arith, is, live_is, live))))

pub told_says : (bytes slots live : List ℕ) (count n : ℕ) → slots ≡ slot_bytes bytes → count ≡ page_count bytes → n ≡ live_length bytes → live ≡ take n (drop (58 + count) bytes)
    → record (contents_in bytes) { slots = slots; live = live } ≡ contents_in bytes
told_says bytes slots live count n slots_are is live_is read =
    let with_parts : List ℕ → List ℕ → Contents = λ s l. record (contents_in bytes) { slots = s; live = l } in
    ap (λ (s : List ℕ). with_parts s live) slots_are
    ∙ ap (λ (l : List ℕ). with_parts (slot_bytes bytes) l)
    (read ∙ ap (λ k. take k (drop (58 + count) bytes)) live_is ∙ ap (λ k. take (live_length bytes) (drop (58 + k) bytes)) is)

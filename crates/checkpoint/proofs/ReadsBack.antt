-- What was written to a checkpoint file is read from it.
use Rattle.std.proofs.Common.{◌≡◌, ℕ, suc, ◌+◌, ◌<◌, ◌≤◌, ◌^◌, List, [], ◌∷◌, ◌++◌, true, ◌&&◌, length, take, drop, refl, sym, ◌∙◌, ap, arith, append_assoc, length-append, length-drop, All, Some, None, if◌then◌else◌, codes}
use Rattle.std.proofs.lemmas.Bool.{and_from, le-leb, eq-eqb}
use Rattle.std.proofs.lemmas.List.{take_at, drop_at, drop-drop}
use Rattle.std.specs.List.{list_all}
use Rattle.std.specs.Str.{bytes_eq}
use Rattle.byteorder.specs.Endian.{little_bytes, little_number}
use Rattle.byteorder.specs.Numbers.{little_number-reads_back, length-bytes_low_first}
use Rattle.jet_volume.specs.declared.files.File.{File}
use Rattle.jet_volume.specs.declared.files.File.TheVariants.{Database, CheckpointA, CheckpointB, Log}
use Rattle.jet_volume.specs.Image.{is_file}
use Rattle.checkpoint.specs.Contents.{Contents, IsLawful, head_bytes, bytes_behind_gate, number_at, page_count, live_length, slot_bytes, contents_in, file_of, has_head, has_slots, has_live, is_slot, is_checkpoint_file}
use Rattle.checkpoint.specs.Opening.{has_open_gate, shown_number}

file_is_itself : (f : File) → is_file f f ≡ true
file_is_itself Database = refl
file_is_itself CheckpointA = refl
file_is_itself CheckpointB = refl
file_is_itself Log = refl

all_slots : (slots : List ℕ) → All (λ slot. slot ≤ 2) slots → list_all is_slot slots ≡ true
all_slots [] all = refl
all_slots (s ∷ slots) all =
    and_from (is_slot s) (list_all is_slot slots) (le-leb s 2 (all 0 s (omega arith))) (all_slots slots (λ k d lt. all (suc k) d (omega (arith, lt))))

module _ (gate : ℕ) (c : Contents) (tail : List ℕ) where
  abbrev pub whole : List ℕ
  whole = gate ∷ (bytes_behind_gate c ++ tail)

  module _ (lawful : IsLawful c) where
    number_is : number_at 8 10 whole ≡ c.number
    unfolding head_bytes number_at
    number_is = little_number-reads_back 8 c.number (drop 18 whole) lawful.number_fits

    entries_is : number_at 8 18 whole ≡ c.entries
    unfolding head_bytes number_at
    entries_is = little_number-reads_back 8 c.entries (drop 26 whole) lawful.entries

    generation_is : number_at 8 26 whole ≡ c.start.generation
    unfolding head_bytes number_at
    generation_is = little_number-reads_back 8 c.start.generation (drop 34 whole) lawful.generation_fits

    offset_fits : c.start.offset < 256 ^ 4
    offset_fits = omega (arith, lawful.offset)

    offset_is : number_at 4 34 whole ≡ c.start.offset
    unfolding head_bytes number_at
    offset_is = little_number-reads_back 4 c.start.offset (drop 38 whole) offset_fits

    position_is : number_at 8 38 whole ≡ c.start.position
    unfolding head_bytes number_at
    position_is = little_number-reads_back 8 c.start.position (drop 46 whole) lawful.position

    root_is : number_at 4 46 whole ≡ c.catalog_root
    unfolding head_bytes number_at
    root_is = little_number-reads_back 4 c.catalog_root (drop 50 whole) lawful.catalog_root

    count_fits : length c.slots < 256 ^ 4
    count_fits = omega (arith, lawful.pages)

    count_is : page_count whole ≡ length c.slots
    unfolding head_bytes number_at
    count_is = little_number-reads_back 4 (length c.slots) (drop 54 whole) count_fits

    format_is : number_at 4 6 whole ≡ 1
    unfolding head_bytes number_at
    format_is = little_number-reads_back 4 1 (drop 10 whole) (omega arith)

    slots_on : drop 54 whole ≡ c.slots ++ (little_bytes 4 (length c.live) ++ (c.live ++ tail))
    unfolding head_bytes
    slots_on =
        append_assoc c.slots (little_bytes 4 (length c.live) ++ c.live) tail
        ∙ ap (λ (l : List ℕ). c.slots ++ l) (append_assoc (little_bytes 4 (length c.live)) c.live tail)

    size_on : drop (54 + length c.slots) whole ≡ little_bytes 4 (length c.live) ++ (c.live ++ tail)
    size_on =
        sym (drop-drop (length c.slots) 54 whole) ∙ ap (λ (l : List ℕ). drop (length c.slots) l) slots_on
        ∙ drop_at c.slots (little_bytes 4 (length c.live) ++ (c.live ++ tail)) (length c.slots) refl

    live_on : drop (58 + length c.slots) whole ≡ c.live ++ tail
    live_on =
        let place : 58 + length c.slots ≡ (54 + length c.slots) + 4 = omega arith in
        ap (λ k. drop k whole) place ∙ sym (drop-drop 4 (54 + length c.slots) whole) ∙ ap (λ (l : List ℕ). drop 4 l) size_on
        ∙ drop_at (little_bytes 4 (length c.live)) (c.live ++ tail) 4 (length-bytes_low_first 0 4 (length c.live))

    slots_are : slot_bytes whole ≡ c.slots
    slots_are =
        ap (λ k. take k (drop 54 whole)) count_is ∙ ap (λ (l : List ℕ). take (length c.slots) l) slots_on
        ∙ take_at c.slots (little_bytes 4 (length c.live) ++ (c.live ++ tail)) (length c.slots) refl

    size_is : live_length whole ≡ length c.live
    unfolding number_at
    size_is =
        ap (λ k. little_number 4 (drop (54 + k) whole)) count_is ∙ ap (λ (l : List ℕ). little_number 4 l) size_on
        ∙ little_number-reads_back 4 (length c.live) (c.live ++ tail) lawful.live

    live_is : take (live_length whole) (drop (58 + page_count whole) whole) ≡ c.live
    live_is =
        ap (λ k. take k (drop (58 + page_count whole) whole)) size_is ∙ ap (λ k. take (length c.live) (drop (58 + k) whole)) count_is
        ∙ ap (λ (l : List ℕ). take (length c.live) l) live_on ∙ take_at c.live tail (length c.live) refl

    -- what is read is what was written
    pub contents_read : contents_in whole ≡ c
    contents_read =
        ap (λ k. record {
          number = k;
          entries = number_at 8 18 whole;
          start = record { generation = number_at 8 26 whole; offset = number_at 4 34 whole; position = number_at 8 38 whole };
          catalog_root = number_at 4 46 whole;
          slots = slot_bytes whole;
          live = take (live_length whole) (drop (58 + page_count whole) whole);
        }) number_is
        ∙ ap (λ k. record {
          number = c.number;
          entries = k;
          start = record { generation = number_at 8 26 whole; offset = number_at 4 34 whole; position = number_at 8 38 whole };
          catalog_root = number_at 4 46 whole;
          slots = slot_bytes whole;
          live = take (live_length whole) (drop (58 + page_count whole) whole);
        }) entries_is
        ∙ ap (λ k. record {
          number = c.number;
          entries = c.entries;
          start = record { generation = k; offset = number_at 4 34 whole; position = number_at 8 38 whole };
          catalog_root = number_at 4 46 whole;
          slots = slot_bytes whole;
          live = take (live_length whole) (drop (58 + page_count whole) whole);
        }) generation_is
        ∙ ap (λ k. record {
          number = c.number;
          entries = c.entries;
          start = record { generation = c.start.generation; offset = k; position = number_at 8 38 whole };
          catalog_root = number_at 4 46 whole;
          slots = slot_bytes whole;
          live = take (live_length whole) (drop (58 + page_count whole) whole);
        }) offset_is
        ∙ ap (λ k. record {
          number = c.number;
          entries = c.entries;
          start = record { generation = c.start.generation; offset = c.start.offset; position = k };
          catalog_root = number_at 4 46 whole;
          slots = slot_bytes whole;
          live = take (live_length whole) (drop (58 + page_count whole) whole);
        }) position_is
        ∙ ap (λ k. record { number = c.number; entries = c.entries; start = c.start; catalog_root = k; slots = slot_bytes whole; live = take (live_length whole) (drop (58 + page_count whole) whole) }) root_is
        ∙ ap (λ (l : List ℕ). record { number = c.number; entries = c.entries; start = c.start; catalog_root = c.catalog_root; slots = l; live = take (live_length whole) (drop (58 + page_count whole) whole) }) slots_are
        ∙ ap (λ (l : List ℕ). record { number = c.number; entries = c.entries; start = c.start; catalog_root = c.catalog_root; slots = c.slots; live = l }) live_is

    long : 58 + length c.slots + length c.live ≤ length whole
    long =
        omega (
          arith,
          ap length live_on,
          length-drop (58 + length c.slots) whole,
          length-append c.live tail,
          ap length size_on,
          length-drop (54 + length c.slots) whole,
          length-append (little_bytes 4 (length c.live)) (c.live ++ tail),
          length-bytes_low_first 0 4 (length c.live),
        )

    mark_is : bytes_eq (take 5 (drop 1 whole)) (codes "JETCK") ≡ true
    unfolding head_bytes
    mark_is = refl

    head_is : has_head (file_of c.number) whole ≡ true
    unfolding has_head
    head_is =
        and_from _ _ (le-leb 54 (length whole) (omega (arith, long)))
        (and_from _ _ mark_is
        (and_from _ _ (eq-eqb (number_at 4 6 whole) 1 format_is)
        (and_from _ _ (le-leb 1 (number_at 8 10 whole) (omega (arith, number_is, lawful.number)))
        (and_from _ _ (ap (λ k. is_file (file_of c.number) (file_of k)) number_is ∙ file_is_itself (file_of c.number))
        (and_from _ _ (le-leb 1 (number_at 8 26 whole) (omega (arith, generation_is, lawful.generation)))
        (and_from _ _ (le-leb (number_at 4 34 whole) 1048575 (omega (arith, offset_is, lawful.offset)))
        (le-leb (number_at 4 50 whole) 16777216 (omega (arith, count_is, lawful.pages)))))))))

    -- the file is one of a checkpoint
    pub file_reads : is_checkpoint_file (file_of c.number) whole ≡ true
    file_reads =
        and_from (has_head (file_of c.number) whole) (has_slots whole && has_live whole) head_is
        (and_from (has_slots whole) (has_live whole)
        (and_from _ _ (le-leb (58 + page_count whole) (length whole) (omega (arith, long, count_is))) (ap (λ (l : List ℕ). list_all is_slot l) slots_are ∙ all_slots c.slots lawful.slots))
        (le-leb (58 + page_count whole + live_length whole) (length whole) (omega (arith, long, count_is, size_is))))

    pub number_shows : shown_number whole ≡ Some c.number
    number_shows = ap (λ b. if b then Some (number_at 8 10 whole) else None) (le-leb 18 (length whole) (omega (arith, long))) ∙ ap (λ k. Some k) number_is

  pub opened : gate ≡ 1 → has_open_gate whole ≡ true
  unfolding head_bytes
  opened one = and_from _ _ (le-leb 2 (length whole) (omega arith)) (eq-eqb gate 1 one)

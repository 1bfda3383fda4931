-- The bytes of a checkpoint file, and what they say.
use Rattle.std.specs.Prelude.{ℕ, ◌+◌, ◌%◌, ◌^◌, ◌<◌, ◌≤◌, List, ◌++◌, Bool, ◌&&◌, ◌==◌, nat_le, nat_lt, if◌then◌else◌, length, take, drop, All, codes}
use Rattle.std.specs.List.{list_all}
use Rattle.std.specs.Str.{bytes_eq}
use Rattle.byteorder.specs.Endian.{little_bytes, little_number}
use Rattle.jet_volume.specs.declared.files.File.{File}
use Rattle.jet_volume.specs.declared.files.File.TheVariants.{CheckpointA, CheckpointB}
use Rattle.jet_volume.specs.declared.files.LogStart.{LogStart}
use Rattle.jet_volume.specs.Image.{is_file}
use Rattle.checkpoint.specs.declared.rest.TheConstants.{FORMAT_VERSION, LENGTH_BYTES, MAX_OFFSET, SLOTS_AT}
use Rattle.checkpoint.specs.declared.image.TheConstants.{MAX_PAGES}

-- What a checkpoint file says behind its gate: the checkpoint's own number, the number of log entries that it
-- holds, where the log goes on, the root of the catalog, for each page number the slot in use, 0 or 1, or 2 for
-- a free page, and the live part.
pub record Contents : Type 0 where
  pub number : ℕ
  pub entries : ℕ
  pub start : LogStart
  pub catalog_root : ℕ
  pub slots : List ℕ
  pub live : List ℕ

-- the 53 bytes behind the gate: the mark, the version of the format, and numbers, the lowest byte first
unfoldable pub head_bytes : Contents → List ℕ
head_bytes c =
    codes "JETCK" ++ (little_bytes 4 FORMAT_VERSION ++ (little_bytes 8 c.number ++ (little_bytes 8 c.entries
    ++ (little_bytes 8 c.start.generation ++ (little_bytes 4 c.start.offset ++ (little_bytes 8 c.start.position
    ++ (little_bytes 4 c.catalog_root ++ little_bytes 4 (length c.slots))))))))

-- all bytes behind the gate
abbrev pub bytes_behind_gate : Contents → List ℕ
bytes_behind_gate c = head_bytes c ++ (c.slots ++ (little_bytes 4 (length c.live) ++ c.live))

-- the number in n bytes of a file, from a place on, the lowest byte first
unfoldable pub number_at : ℕ → ℕ → List ℕ → ℕ
number_at n at bytes = little_number n (drop at bytes)

-- a file's count of pages, and the length of its live part
abbrev pub page_count : List ℕ → ℕ
page_count bytes = number_at 4 50 bytes

abbrev pub live_length : List ℕ → ℕ
live_length bytes = number_at 4 (SLOTS_AT + page_count bytes) bytes

-- one byte for each page: the slot in use, or 2 for a free page
abbrev pub slot_bytes : List ℕ → List ℕ
slot_bytes bytes = take (page_count bytes) (drop SLOTS_AT bytes)

-- what the bytes of a file say
abbrev pub contents_in : List ℕ → Contents
contents_in bytes = record {
  number = number_at 8 10 bytes;
  entries = number_at 8 18 bytes;
  start = record { generation = number_at 8 26 bytes; offset = number_at 4 34 bytes; position = number_at 8 38 bytes };
  catalog_root = number_at 4 46 bytes;
  slots = slot_bytes bytes;
  live = take (live_length bytes) (drop (SLOTS_AT + LENGTH_BYTES + page_count bytes) bytes);
}

-- a checkpoint of odd number goes to the one file, a checkpoint of even number to the other
abbrev pub file_of : ℕ → File
file_of number = if number % 2 == 1 then CheckpointA else CheckpointB

-- the fixed part: the mark, the version of the format, a number from 1 on that belongs into the file, and numbers within
-- their bounds
unfoldable pub has_head : File → List ℕ → Bool
has_head file bytes =
    nat_le SLOTS_AT (length bytes) && (bytes_eq (take 5 (drop 1 bytes)) (codes "JETCK") && (number_at 4 6 bytes == FORMAT_VERSION
    && (nat_le 1 (number_at 8 10 bytes) && (is_file file (file_of (number_at 8 10 bytes))
    && (nat_le 1 (number_at 8 26 bytes) && (nat_le (number_at 4 34 bytes) MAX_OFFSET && nat_le (number_at 4 50 bytes) MAX_PAGES))))))

-- a slot is 0, 1, or 2 for a free page
abbrev pub is_slot : ℕ → Bool
is_slot slot = nat_le slot 2

-- the file has the slots of all its pages, and the length of the live part behind them
abbrev pub has_slots : List ℕ → Bool
has_slots bytes = nat_le (SLOTS_AT + LENGTH_BYTES + page_count bytes) (length bytes) && list_all is_slot (slot_bytes bytes)

-- the file has its live part; what stands behind it is not looked at
abbrev pub has_live : List ℕ → Bool
has_live bytes = nat_le (SLOTS_AT + LENGTH_BYTES + page_count bytes + live_length bytes) (length bytes)

-- the bytes behind the gate are those of a checkpoint in this file
abbrev pub is_checkpoint_file : File → List ℕ → Bool
is_checkpoint_file file bytes = has_head file bytes && (has_slots bytes && has_live bytes)

-- the numbers that a checkpoint may have to be read: those that go on growing are below 2^62
abbrev pub may_go_on : Contents → Bool
may_go_on c = nat_lt c.number (2 ^ 62) && (nat_lt c.entries (2 ^ 62) && (nat_lt c.start.generation (2 ^ 62) && nat_lt c.start.position (2 ^ 62)))

-- What a checkpoint may say, so that its bytes are read as they are written.
pub record IsLawful (c : Contents) : Type 0 where
  pub number : 1 ≤ c.number
  pub number_fits : c.number < 2 ^ 64
  pub entries : c.entries < 2 ^ 64
  pub generation : 1 ≤ c.start.generation
  pub generation_fits : c.start.generation < 2 ^ 64
  pub offset : c.start.offset ≤ MAX_OFFSET
  pub position : c.start.position < 2 ^ 64
  pub catalog_root : c.catalog_root < 2 ^ 32
  pub pages : length c.slots ≤ MAX_PAGES
  pub slots : All (λ slot. slot ≤ 2) c.slots
  pub live : length c.live < 2 ^ 32

-- The log file as bytes: generations in eight slots, blocks in a generation, and what a scan finds.
use Rattle.std.specs.Prelude.{◌≡◌, ℕ, ◌+◌, ◌-◌, ◌*◌, ◌%◌, ◌≤◌, ◌<◌, Bool, ◌==◌, ◌&&◌, nat_le, nat_lt, if◌then◌else◌, Option, Some, None, List, [], ◌∷◌, ◌++◌, length, take, drop, slice_index}
use Rattle.std.specs.Int.{w32, w64, to_le_bytes, from_le_bytes}
use Rattle.jet_volume.specs.declared.files.LogStart.{LogStart}

-- where the slot of a generation begins: there are eight slots of 2^20 bytes
abbrev pub slot_start : ℕ → ℕ
slot_start generation = 1048576 * ((generation - 1) % 8)

-- where a place is in the file
abbrev pub address : LogStart → ℕ
address place = slot_start place.generation + place.offset

-- what the file has from a place to the end of its slot
abbrev pub slot_rest : List ℕ → LogStart → List ℕ
slot_rest log place = take (1048576 - place.offset) (drop (address place) log)

-- A block is a gate, its generation in 8 bytes, its start in 8, its length in 4, the lowest byte first, and the payload.
-- The start is the count of payload bytes before it, since the volume was made. These are the bytes of a block behind its
-- gate, and the closed gate of what comes after it.
abbrev pub behind_gate : LogStart → List ℕ → List ℕ
behind_gate place payload = to_le_bytes w64 place.generation ++ to_le_bytes w64 place.position ++ to_le_bytes w32 (length payload) ++ payload ++ 0 ∷ []

-- the length that a block says it has
unfoldable pub length_field : List ℕ → ℕ
length_field block = from_le_bytes w32 (take 4 (drop 17 block))

-- generation and start are those of the place
unfoldable pub is_of : LogStart → List ℕ → Bool
is_of place block = from_le_bytes w64 (take 8 (drop 1 block)) == place.generation && from_le_bytes w64 (take 8 (drop 9 block)) == place.position

-- its first 21 bytes are those of an open block of the place
abbrev pub begins_block : LogStart → List ℕ → Bool
begins_block place block =
    slice_index block 0 == 1 && is_of place block && nat_le 1 (length_field block) && nat_le (length_field block) 65500
    && nat_le (place.offset + 22 + length_field block) 1048576

-- A block is open exactly where its gate is 1, its generation and start are the expected ones, its length is from 1 to
-- 65,500, it fits into the slot with the next gate, and the file has all its bytes.
abbrev pub is_open : LogStart → List ℕ → Bool
is_open place block = begins_block place block && nat_le (21 + length_field block) (length block)

-- the payload of the block at a place, where it is open
abbrev pub block_at : LogStart → List ℕ → Option (List ℕ)
block_at place block = if is_open place block then Some (take (length_field block) (drop 21 block)) else None

abbrev pub open_payload : List ℕ → LogStart → Option (List ℕ)
open_payload log place = block_at place (slot_rest log place)

-- the place behind a block of so many payload bytes
abbrev pub behind : LogStart → ℕ → LogStart
behind place len = record { generation = place.generation; offset = place.offset + 21 + len; position = place.position + len }

-- the beginning of the next generation
abbrev pub next_generation : LogStart → LogStart
next_generation place = record { generation = place.generation + 1; offset = 0; position = place.position }

-- the first of two blocks, of each its place and its payload
abbrev pub first_block : LogStart → Option (List ℕ) → Option (LogStart × List ℕ) → Option (LogStart × List ℕ)
first_block place (Some payload) other = Some (place, payload)
first_block place None other = other

-- The block that a scan finds next: the one at the place, or the first one of the next generation. A generation counts
-- only less than 8 above the one in which the scan began.
abbrev pub next_block : ℕ → List ℕ → LogStart → Option (LogStart × List ℕ)
next_block first log place =
    first_block place (open_payload log place)
    (if nat_lt (place.generation + 1) (first + 8) then first_block (next_generation place) (open_payload log (next_generation place)) None else None)

-- from a place on, a scan finds these blocks, one behind the other, and comes to that end
abbrev pub Leads : ℕ → List ℕ → LogStart → List (LogStart × List ℕ) → LogStart → Type 0
Leads first log place [] end = place ≡ end
Leads first log place (block ∷ blocks) end = (next_block first log place ≡ Some block) × Leads first log (behind block.0 (length block.1)) blocks end

-- the payload bytes of blocks, in order
abbrev pub payloads : List (LogStart × List ℕ) → List ℕ
payloads [] = []
payloads (block ∷ blocks) = block.1 ++ payloads blocks

-- A scan from a place gives the payload bytes of the open blocks, and the place where no block is found.
pub record Scans (log : List ℕ) (from : LogStart) (stream : List ℕ) (end : LogStart) : Type 0 where
  pub blocks : List (LogStart × List ℕ)
  pub leads : Leads from.generation log from blocks end
  pub ends : next_block from.generation log end ≡ None
  pub stream_is : stream ≡ payloads blocks

-- what a reader of the block at a place finds, and the bytes that it read so far
abbrev pub ReadsBlock : List ℕ → LogStart → Option ℕ → List ℕ → List ℕ → Type 0
ReadsBlock log place None old new = open_payload log place ≡ None
ReadsBlock log place (Some len) old new = (payload : List ℕ) × (open_payload log place ≡ Some payload) × (length payload ≡ len) × (new ≡ old ++ payload)

-- whatever the volume gives, a block that is found lies within its slot
abbrev pub ReadsWithin : LogStart → Option ℕ → List ℕ → List ℕ → Type 0
ReadsWithin place None old new = new ≡ old
ReadsWithin place (Some len) old new = (1 ≤ len) × (len ≤ 65500) × (place.offset + 22 + len ≤ 1048576) × (length new ≡ length old + len)

-- what a scan finds next, as its place and how many bytes it has
abbrev pub FindsNext : ℕ → List ℕ → LogStart → Option LogStart → List ℕ → List ℕ → Type 0
FindsNext first log place None old new = next_block first log place ≡ None
FindsNext first log place (Some next) old new =
    (at : LogStart) × (payload : List ℕ) × (next_block first log place ≡ Some (at, payload)) × (next ≡ behind at (length payload)) × (new ≡ old ++ payload)

-- whatever the volume gives, a scan moves on by what it has read, and stays less than 8 generations above its start
abbrev pub MovesOn : ℕ → LogStart → Option LogStart → List ℕ → List ℕ → Type 0
MovesOn first place None old new = new ≡ old
MovesOn first place (Some next) old new =
    (place.generation ≤ next.generation) × (next.generation < first + 8) × (next.offset < 1048576) × (next.position + length old ≡ place.position + length new) × (length old < length new)
    × (length new + 4294967296 * place.generation + place.offset ≤ length old + 4294967296 * next.generation + next.offset)
    × (place.offset < 1048576 → length new + 1048576 * place.generation + place.offset ≤ length old + 1048576 * next.generation + next.offset)

-- where a scan ends: less than 8 generations above its start, inside the slot where it began so, and as many bytes on as
-- it gave; these are at most those of eight slots where it began inside one
pub record EndsNear (from : LogStart) (bytes : List ℕ) (end : LogStart) : Type 0 where
  pub from_start : from.generation ≤ end.generation
  pub near : end.generation < from.generation + 8
  pub inside : from.offset < 1048576 → end.offset < 1048576
  pub position : end.position ≡ from.position + length bytes
  pub few : length bytes ≤ 34359738368
  pub bytes_bound : length bytes + 4294967296 * from.generation + from.offset ≤ 4294967296 * end.generation + end.offset
  pub few_inside : from.offset < 1048576 → length bytes ≤ 8388608
  pub bytes_inside : from.offset < 1048576 → length bytes + 1048576 * from.generation + from.offset ≤ 1048576 * end.generation + end.offset

-- Gates that are closed, and generations that are barred.
use Rattle.std.specs.Prelude.{◌≡◌, ◌≢◌, ◌⊎◌, ℕ, ◌+◌, ◌<◌, Bool, true, false, not, ◌==◌, ◌&&◌, nat_le, nat_lt, if◌then◌else◌, Option, Some, None, List, [], ◌∷◌, length, take, drop, slice_index}
use Rattle.std.specs.Int.{w64, from_le_bytes}
use Rattle.jet_volume.specs.Crash.{Torn, written}
use Rattle.jet_volume.specs.declared.files.LogStart.{LogStart}
use Rattle.log_ring.specs.Blocks.{slot_start, address, behind_gate, next_generation}

-- eight bytes that are the number of a generation
unfoldable pub is_number : ℕ → List ℕ → Bool
is_number generation bytes = from_le_bytes w64 bytes == generation

-- by the first nine bytes of its slot that the file has, a generation is barred: no block of it can be open there
abbrev pub bars : ℕ → List ℕ → Bool
bars generation front =
    if length front == 0 then not (slot_start generation == 0)
    else if slice_index front 0 == 1 then length front == 9 && not (is_number generation (take 8 (drop 1 front)))
    else true

-- A generation is barred where the first byte of its slot is in the file and is not 1, or is 1 before eight bytes in the
-- file that are not its number, or is not in the file and the slot is not the first one.
abbrev pub is_barred : ℕ → List ℕ → Bool
is_barred generation log = bars generation (take 9 (drop (slot_start generation) log))

-- the log with a generation barred: where it is not barred yet, by a 0 in the first byte of its slot
abbrev pub barred : ℕ → List ℕ → List ℕ
barred generation log = if is_barred generation log then log else written (slot_start generation) (0 ∷ []) log

-- a gate needs a 0: it is 1, or, where that counts, it is not in the file
abbrev pub needs_zero : Bool → List ℕ → Bool
needs_zero missing_counts [] = missing_counts
needs_zero missing_counts (gate ∷ rest) = gate == 1

-- the log with the gate at an offset closed, where it needs a 0
abbrev pub closed : Bool → ℕ → List ℕ → List ℕ
closed missing_counts at log = if needs_zero missing_counts (take 1 (drop at log)) then written at (0 ∷ []) log else log

-- the byte there is in the file and is not 1
pub record IsClosed (at : ℕ) (log : List ℕ) : Type 0 where
  pub there : at < length log
  pub shut : slice_index log at ≢ 1

-- while a generation is barred: the log as it is, or one byte of it torn, where it was not barred yet
abbrev pub BarringLeaves : ℕ → List ℕ → List ℕ → Type 0
BarringLeaves generation log new = (new ≡ log) ⊎ ((is_barred generation log ≡ false) × Torn (slot_start generation) 1 log new)

-- while a gate is closed: the log as it is, or one byte of it torn, where it needs a 0
abbrev pub ClosingLeaves : Bool → ℕ → List ℕ → List ℕ → Type 0
ClosingLeaves missing_counts at log new = (new ≡ log) ⊎ ((needs_zero missing_counts (take 1 (drop at log)) ≡ true) × Torn at 1 log new)

-- while both is done, the one after the other
abbrev pub ReadyingLeaves : ℕ → Bool → ℕ → List ℕ → List ℕ → Type 0
ReadyingLeaves generation missing_counts at log new = BarringLeaves generation log new ⊎ ClosingLeaves missing_counts at (barred generation log) new

-- the log as a recovery leaves it: the generation after the end's is barred, and the gate at the end is closed; at the
-- beginning of a generation a gate that is not in the file stays so
abbrev pub sealed : LogStart → List ℕ → List ℕ
sealed end log = closed (nat_lt 0 end.offset) (address end) (barred (end.generation + 1) log)

-- the log before a block is written: at the beginning of a generation the one after it is barred, and its own first gate
-- is closed
abbrev pub begun : LogStart → List ℕ → List ℕ
begun place log = if place.offset == 0 then closed true (address place) (barred (place.generation + 1) log) else log

-- the log with a block behind its closed gate
abbrev pub staged : LogStart → List ℕ → List ℕ → List ℕ
staged place payload log = written (address place + 1) (behind_gate place payload) log

-- the log with a block, whose gate is opened last
abbrev pub appended : LogStart → List ℕ → List ℕ → List ℕ
appended place payload log = written (address place) (1 ∷ []) (staged place payload (begun place log))

-- Where a block of so many payload bytes goes: behind the last one where it fits there, and else into the next
-- generation, which there is room for where it is less than 8 above the standing checkpoint's.
abbrev pub place_for : ℕ → LogStart → ℕ → Option LogStart
place_for standing end len =
    if nat_le (end.offset + 22 + len) 1048576 then Some end
    else if nat_lt (end.generation + 1) (standing + 8) then Some (next_generation end)
    else None

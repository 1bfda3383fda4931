-- The log of a store by its numbers, and when a checkpoint is due: lengths alone decide it.
use Rattle.std.specs.Prelude.{ℕ, ◌+◌, Bool, ◌||◌, nat_le, nat_lt, if◌then◌else◌}
use Rattle.jet_volume.specs.declared.files.LogStart.{LogStart}
use Rattle.store_core.specs.declared.store.Store.{Store}
use Rattle.store_core.specs.Store.{store_end, store_standing}
use Rattle.log_keeper.specs.Blocks.{Given, given_in}

-- the number of the standing checkpoint, where the log behind it starts, and where it ends
pub record LogSpan : Type 0 where
  pub number : ℕ
  pub start : LogStart
  pub end : LogStart

abbrev pub span_of : {V : Type 0} → Store V → LogSpan
span_of store = record { number = (store_standing store).number; start = (store_standing store).start; end = store_end store }

-- with the next checkpoint, behind which the log goes on at its end
abbrev pub with_checkpoint : LogSpan → LogSpan
with_checkpoint span = record { number = span.number + 1; start = span.end; end = span.end }

-- ---- a flush

-- where the log ends once so many bytes are given in blocks, and how many of them found no room
abbrev pub given_behind : LogSpan → ℕ → Given
given_behind span count = given_in span.start.generation span.end count

abbrev pub with_given : LogSpan → ℕ → LogSpan
with_given span count = record span { end = (given_behind span count).end }

-- Whether a checkpoint is due: some bytes found no room, or as many as the depth stand behind the standing one.
abbrev pub is_due : ℕ → LogSpan → ℕ → Bool
is_due depth span left = nat_lt 0 left || nat_le (span.start.position + depth) span.end.position

abbrev pub with_due : ℕ → LogSpan → ℕ → LogSpan
with_due depth span left = if is_due depth span left then with_checkpoint span else span

-- a flush of so many bytes, with the checkpoint that takes their place or follows where one is due
abbrev pub is_due_after : ℕ → LogSpan → ℕ → Bool
is_due_after depth span count = is_due depth (with_given span count) (given_behind span count).left

abbrev pub span_after : ℕ → LogSpan → ℕ → LogSpan
span_after depth span count = with_due depth (with_given span count) (given_behind span count).left

-- What the objects in memory show.
use Rattle.std.specs.Prelude.{ℕ, List, drop, Bool, vec_len, ◌==◌, ◌||◌}
use Rattle.jet_io.specs.declared.memory.MemSource.{MemSource}
use Rattle.jet_io.specs.declared.memory.MemSink.{MemSink}
use Rattle.jet_io.specs.declared.schedule.Schedule.{Schedule}
use Rattle.jet_io.specs.Schedule.{fails_next}

-- the bytes that were not read yet
abbrev pub bytes_left : MemSource → List ℕ
bytes_left s = drop s.next s.bytes.items

-- which calls of the source fail
abbrev pub source_schedule : MemSource → Schedule
source_schedule s = s.schedule

-- the source's count of faults
abbrev pub source_faults : MemSource → ℕ
source_faults s = s.faults

-- the bytes that the sink has taken
abbrev pub bytes_taken : MemSink → List ℕ
bytes_taken s = s.taken.items

-- how many bytes the sink takes in all
abbrev pub room_of : MemSink → ℕ
room_of s = s.room

-- which calls of the sink fail, whatever its room
abbrev pub sink_schedule : MemSink → Schedule
sink_schedule s = s.schedule

-- the sink's count of faults
abbrev pub sink_faults : MemSink → ℕ
sink_faults s = s.faults

-- the next write fails: it is scheduled to, or the room is full
abbrev pub refuses_next : MemSink → Bool
refuses_next s = fails_next s.schedule || vec_len s.taken == s.room

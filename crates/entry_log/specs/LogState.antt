-- The bytes of log entries from a position on, as contracts see them.
use Rattle.std.specs.Prelude.{◌≡◌, ◌≤◌, ◌+◌, ◌-◌, ℕ, List, [], ◌++◌, drop, length, max}

-- Positions count the bytes of all entries, from 0. Those from one position on are kept.
pub record KeptStream : Type 0 where
  pub from : ℕ
  pub bytes : List ℕ

-- what is kept, and how many bytes more take no memory
pub record LogState : Type 0 where
  pub stream : KeptStream
  pub room : ℕ

-- no byte was written yet
abbrev pub empty_stream : KeptStream
empty_stream = record { from = 0; bytes = [] }

-- the position behind the last entry
abbrev pub stream_end : KeptStream → ℕ
stream_end stream = stream.from + length stream.bytes

-- the bytes from a position on
abbrev pub bytes_from : ℕ → KeptStream → List ℕ
bytes_from position stream = drop (position - stream.from) stream.bytes

-- bytes behind those that are there
abbrev pub appended : List ℕ → KeptStream → KeptStream
appended bytes stream = record { from = stream.from; bytes = stream.bytes ++ bytes }

-- without the bytes before a position
abbrev pub trimmed_to : ℕ → KeptStream → KeptStream
trimmed_to position stream = record { from = max stream.from position; bytes = bytes_from position stream }

-- What is kept are the bytes of a whole stream but for those before the first position that is kept.
pub record IsKeptOf (whole : List ℕ) (stream : KeptStream) : Type 0 where
  pub within : stream.from ≤ length whole
  pub bytes_are : stream.bytes ≡ drop stream.from whole

-- How many entries an engine has at most, and how many bytes its log.
use Rattle.std.specs.Prelude.{◌≡◌, ◌⊎◌, ℕ, ◌+◌, ◌*◌, ◌^◌, [], min}
use Rattle.laws_engine.specs.EngineState.{EngineState, HasRoomForEnds}

-- The number of the log has room for all that is to end, or is still that of the opening, where no session is live.
abbrev pub IsBounded : ℕ → EngineState → Type 0
IsBounded opening engine = HasRoomForEnds engine ⊎ ((engine.number ≡ opening) × (engine.sessions ≡ []))

-- The bytes that a log has at most, by the number of its engine. An entry has fewer than 2^27 bytes. One that makes the number
-- greater than 2^34 + 1 ends something, by at most 13 bytes, and none makes it greater than 2^35 + 1.
unfoldable pub most_bytes : ℕ → ℕ
most_bytes number = 2 ^ 27 * min number (2 ^ 34 + 1) + 13 * min number (2 ^ 35 + 1)

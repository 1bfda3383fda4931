-- What a session of the code holds, as the definitions see it.
use Rattle.std.specs.Prelude.{◌≡◌, ℕ, ◌≤◌, ◌==◌, true, List, [], Option, Some, None, map, position, vec_len, vec_capacity}
use Rattle.session_local.specs.declared.local.Local.TheInside.{Inside}
use Rattle.session_local.specs.declared.begun.Begun.TheInside as begun
use Rattle.session_local.specs.declared.buffers.Buffers.TheInside as buffers
use Rattle.session_local.specs.declared.reply_buffer.ReplyBuffer.TheInside as buffer
use Rattle.session_local.specs.declared.temps.Temps.TheInside as temps
use Rattle.session_local.specs.Local.{LocalState, OpenCursor, no_session}
use Rattle.session_local.specs.SessionSide.{SessionSide, HeldState, label_of, are_distinct}

-- the state of a session that was begun and holds this
abbrev pub local_of : HeldState → LocalState
local_of held = record { begun = true; cursors = held.cursors; temps = held.temps }

-- the state of a session that was begun, with these cursors and no temporary table
abbrev pub begun_with_cursors : List OpenCursor → LocalState
begun_with_cursors cursors = record { begun = true; cursors = cursors; temps = [] }

abbrev pub side_with : ℕ → Option HeldState → SessionSide
side_with session None = record { session = session; state = no_session; reply = [] }
side_with session (Some held) = record { session = session; state = local_of held; reply = held.reply }

abbrev pub side : Inside → SessionSide
side local = side_with local.session.0 local.begun

abbrev pub held : begun.Inside → HeldState
held inside = record { cursors = inside.cursors.items; temps = inside.temps; reply = inside.reply }

-- A reply buffer has room for 1,048,576 bytes, and no more of them.
pub record HasItsRoom (inside : buffer.Inside) : Type 0 where
  pub room : 1048576 ≤ vec_capacity inside.bytes
  pub few : vec_len inside.bytes ≤ 1048576

-- No label stands twice, and there is room for 16 cursors and no more of them.
pub record IsHeld (inside : begun.Inside) : Type 0 where
  pub distinct : are_distinct (map label_of inside.cursors.items) ≡ true
  pub few : vec_len inside.cursors ≤ 16
  pub room : 16 ≤ vec_capacity inside.cursors

-- There is room for 4 temporary tables and no more of them.
pub record HaveTheirRoom (inside : temps.Inside) : Type 0 where
  pub few : vec_len inside.tables ≤ 4
  pub room : 4 ≤ vec_capacity inside.tables

-- There is room for 16 cursors and none of them, and no temporary table.
pub record AreTaken (inside : buffers.Inside) : Type 0 where
  pub none : vec_len inside.cursors ≡ 0
  pub room : 16 ≤ vec_capacity inside.cursors
  pub temps : inside.temps ≡ []

-- the place of the first cursor with this label
abbrev pub position_of : ℕ → List OpenCursor → Option ℕ
position_of label cursors = position (λ c. c.label == label) cursors

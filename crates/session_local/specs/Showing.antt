-- What a call that shows a value answers, before its bytes are written to the reply buffer.
use Rattle.std.specs.Prelude.{◌≡◌, ◌≤◌, ℕ, Bool, true, List, ◌++◌, drop, length, min, take, nat_le, nat_lt, Option, Some, None, Result, Ok, Err, if◌then◌else◌, IsTrue}
use Rattle.jet_base.specs.declared.replies.Jet.{Jet}
use Rattle.jet_base.specs.declared.replies.Jet.TheVariants as jet
use Rattle.jet_base.specs.declared.memory.OutOfMemory.{OutOfMemory}
use Rattle.session_local.specs.declared.reply.Reply.{Reply}
use Rattle.session_local.specs.declared.reply.Value.{Value}
use Rattle.session_local.specs.declared.reply.Value.TheVariants as value
use Rattle.session_local.specs.declared.showing.Shown.{Shown}
use Rattle.session_local.specs.declared.showing.Shown.TheVariants as shown
use Rattle.session_local.specs.Answer.{Answered, Nothing, Number, Bytes}

-- bytes up to the most that was asked for
abbrev pub bytes_answered : ℕ → List ℕ → Answered
bytes_answered most bytes = record {
  jet = if nat_lt most (length bytes) then jet.BufferTruncated else jet.Success;
  shown = Bytes (take most bytes) (length bytes);
}

-- the same of a value, or that there is none
abbrev pub value_answered : ℕ → Option (List ℕ) → Answered
value_answered most None = record { jet = jet.ColumnNull; shown = Nothing }
value_answered most (Some bytes) = bytes_answered most bytes

abbrev pub answered_with : ℕ → Shown → Answered
answered_with most (shown.Number number) = record { jet = jet.Success; shown = Number number }
answered_with most (shown.Bytes bytes) = bytes_answered most bytes.now

abbrev pub answered_or : ℕ → Result Shown Jet → Answered
answered_or most (Ok value) = answered_with most value
answered_or most (Err reply) = record { jet = reply; shown = Nothing }

-- the bytes have room in the reply buffer
abbrev pub HasRoom : Shown → Type 0
HasRoom (shown.Number number) = Unit {0}
HasRoom (shown.Bytes bytes) = length bytes.now ≤ 1048576

-- whether a value names at most so many bytes of the reply buffer
abbrev pub names_within : Value → ℕ → Bool
names_within (value.Bytes count whole) most = nat_le count most
names_within _ most = true

-- the reply, if there is one, names at most so many
abbrev pub NamesWithin : Result (Option Reply) OutOfMemory → ℕ → Type 0
NamesWithin (Ok (Some reply)) most = IsTrue (names_within reply.value most)
NamesWithin (Ok None) most = Unit {0}
NamesWithin (Err fault) most = Unit {0}

-- The first bytes of a value were read, as many as there was room for: how many were, and how many it has. What was behind them
-- stays.
abbrev pub IsRead : Option (List ℕ) → Option (ℕ × ℕ) → List ℕ → List ℕ → Type 0
IsRead None None old new = new ≡ old
IsRead (Some bytes) (Some read) old new = (read.0 ≡ min (length old) (length bytes)) × (read.1 ≡ length bytes) × (new ≡ take read.0 bytes ++ drop read.0 old)
IsRead None (Some read) old new = ⊥
IsRead (Some bytes) None old new = ⊥

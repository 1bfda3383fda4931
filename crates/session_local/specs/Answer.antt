-- What a call answers, with the bytes themselves in the place of a part of a buffer.
use Rattle.std.specs.Prelude.{ℕ, ℤ, List, take}
use Rattle.jet_base.specs.declared.replies.Jet.{Jet}
use Rattle.session_local.specs.declared.request.Request.{Request}
use Rattle.session_local.specs.declared.reply.Reply.{Reply}
use Rattle.session_local.specs.declared.reply.Value.{Value}
use Rattle.session_local.specs.declared.reply.Value.TheVariants as value

-- the value of an answer: none, a number of the data, a count, or the first bytes of a value and its whole length
pub data ShownValue : Type 0 where
  Nothing : ShownValue
  Number : ℤ → ShownValue
  Count : ℕ → ShownValue
  Bytes : List ℕ → ℕ → ShownValue

-- an answer: success, a warning or a refusal, and its value
pub record Answered : Type 0 where
  pub jet : Jet
  pub shown : ShownValue

-- a call that was answered: its number, the label of its session, the call and the answer
pub record Row : Type 0 where
  pub n : ℕ
  pub session : ℕ
  pub request : Request
  pub answered : Answered

-- the value that a reply shows, whose bytes lie at the front of the buffer
abbrev pub shown_by : Value → List ℕ → ShownValue
shown_by value.Nothing buffer = Nothing
shown_by (value.Number number) buffer = Number number
shown_by (value.Count count) buffer = Count count
shown_by (value.Bytes count whole) buffer = Bytes (take count buffer) whole

-- the answer that a reply and its buffer give
abbrev pub answered_by : Reply → List ℕ → Answered
answered_by reply buffer = record { jet = reply.jet; shown = shown_by reply.value buffer }

-- What a transcript is seen as.
use Rattle.std.specs.Prelude.{◌≡◌, ℕ, ◌<◌, ◌≤◌, ◌-◌, List, [], take, if◌then◌else◌, IsTrue, vec_len, vec_capacity}
use Rattle.script_transcript.specs.declared.transcript.Head.{Head}
use Rattle.script_transcript.specs.declared.transcript.Transcript.TheInside.{Inside}
use Rattle.script_transcript.specs.TranscriptLine.{line_head}

-- the text so far, and how many bytes more it takes with no further memory
pub record Written : Type 0 where
  pub text : List ℕ
  pub room : ℕ

abbrev pub written : Inside → Written
written inside = record { text = if inside.empty then [] else inside.bytes.items; room = vec_capacity inside.bytes - (if inside.empty then 0 else vec_len inside.bytes) }

-- bytes begin with the head of a line, if that has a length
abbrev pub BeginsWith : Head → List ℕ → Type 0
BeginsWith head bytes = 0 < head.length → take head.length bytes ≡ line_head head.number head.session.0

-- The bytes begin with the head that is kept, and have no more where the text is empty.
pub record KeepsItsHead (inside : Inside) : Type 0 where
  pub begins : BeginsWith inside.head inside.bytes.items
  pub short : inside.head.length ≤ 41
  pub within : inside.head.length ≤ vec_len inside.bytes
  pub empty : IsTrue inside.empty → vec_len inside.bytes ≡ inside.head.length

-- What bytes begin with, as more are put behind them.
use Rattle.std.proofs.Common.{◌∙◌, ℕ, ◌≤◌, List, ◌++◌, length}
use Rattle.std.proofs.Math.Seq.{take-length}
use Rattle.std.proofs.lemmas.List.{take-append-le}
use Rattle.script_transcript.specs.declared.transcript.Head.{Head}
use Rattle.script_transcript.specs.Written.{BeginsWith}

pub begins_with_more : (head : Head) (bytes more : List ℕ) → head.length ≤ length bytes → BeginsWith head bytes → BeginsWith head (bytes ++ more)
begins_with_more head bytes more within begins some = take-append-le head.length bytes more within ∙ begins some

pub ruleset heads = (begins_with_more, take-length, take-append-le)

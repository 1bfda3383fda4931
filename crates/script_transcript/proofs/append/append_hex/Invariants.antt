use Rattle.std.proofs.Common.{◌≡◌, ◌+◌, ◌*◌, ◌≤◌, ◌++◌, vec_len, length}
use Rattle.std.specs.Vec.{vec_capacity}
use Rattle.std.specs.List.{flat_map}
use Rattle.script_transcript.specs.TranscriptLine.{byte_digits}
use Rattle.script_transcript.proofs.append.append_hex.Given as goal

-- the digits so far and those of the bytes that are left are those of all bytes, and there is room for them
abbrev pub invariant-loop-rest : goal.invariant-loop-rest
invariant-loop-rest l = record {
  items : l.text.items ++ flat_map byte_digits l.rest ≡ l.fn.text.items ++ flat_map byte_digits l.bytes;
  len : vec_len l.text + 2 * length l.rest ≡ vec_len l.fn.text + 2 * length l.bytes;
  room : vec_capacity l.fn.text ≤ vec_capacity l.text;
}

abbrev pub decreases-loop-rest : goal.decreases-loop-rest
decreases-loop-rest l = length l.rest

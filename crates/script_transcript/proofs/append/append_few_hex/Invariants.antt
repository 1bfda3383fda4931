use Rattle.std.proofs.Common.{◌≡◌, ◌+◌, ◌*◌, ◌≤◌, ◌++◌, vec_len, take}
use Rattle.std.specs.Vec.{vec_capacity}
use Rattle.std.specs.List.{flat_map}
use Rattle.script_transcript.specs.TranscriptLine.{byte_digits}
use Rattle.script_transcript.proofs.append.append_few_hex.Given as goal

-- the digits of the bytes so far stand at the end, and there is room for the others
abbrev pub invariant-loop-byte : goal.invariant-loop-byte
invariant-loop-byte l = record {
  items : l.text.items ≡ l.fn.text.items ++ flat_map byte_digits (take l.byte-index l.bytes);
  len : vec_len l.text ≡ vec_len l.fn.text + 2 * l.byte-index;
  room : vec_capacity l.fn.text ≤ vec_capacity l.text;
}

use Rattle.std.proofs.Common.{◌≡◌, ◌++◌, take}
use Rattle.image_findings.specs.FindingTexts.{key_digits}
use Rattle.tool_integrity.proofs.lines.append_digits.Given as goal

-- the digits of the bytes so far stand at the end
abbrev pub invariant-loop-byte : goal.invariant-loop-byte
invariant-loop-byte l = l.text.items ≡ l.fn.text.items ++ key_digits (take l.byte-index l.bytes)

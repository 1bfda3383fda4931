use Rattle.std.proofs.Common.{◌≡◌, ◌++◌, length, List, ℕ}
use Rattle.std.specs.Option.{option_map}
use Rattle.script_words.specs.Words.{hex_bytes_of}
use Rattle.script_words.proofs.texts.hex_bytes.Given as goal

-- the bytes so far and those of the digits that are left are those of all digits
abbrev pub invariant-loop-rest : goal.invariant-loop-rest
invariant-loop-rest l = option_map (λ (more : List ℕ). l.bytes.items ++ more) (hex_bytes_of l.rest) ≡ hex_bytes_of l.digits

abbrev pub decreases-loop-rest : goal.decreases-loop-rest
decreases-loop-rest l = length l.rest

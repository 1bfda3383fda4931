-- The digits of numbers: how many there are, and the hexadecimal ones by their values.
use Rattle.std.proofs.Common.{◌≡◌, ℕ, ◌^◌, ◌<◌, ◌≤◌, length, get_or, map, [], arith}
use Rattle.script_transcript.specs.TranscriptLine.{byte_digits}
use Rattle.std.specs.Fmt.{decimal}
use Rattle.std.specs.List.{range_with_len}
use Rattle.std.proofs.lemmas.Fmt.{decimal_digit, length-decimal-le}
use Rattle.std.proofs.lemmas.List.FromFn.{get_or-map-range_with_len}

pub length-decimal_20 : (n : ℕ) → n < 2 ^ 64 → length (decimal n) ≤ 20
length-decimal_20 n high = let above : n < 10 ^ 20 = omega arith in length-decimal-le 20 n (omega arith) above high

pub ruleset decimal_digits = (length-decimal_20, decimal_digit)

-- the table of the digits of bytes, read at a byte
pub byte_digits_row : (n : ℕ) → n < 256 → get_or (map byte_digits (range_with_len 0 256)) n [] ≡ byte_digits n
byte_digits_row n low = get_or-map-range_with_len byte_digits 0 256 n n [] low (omega arith)

pub ruleset hexadecimal = byte_digits_row

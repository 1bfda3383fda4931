-- Identifiers by their bytes.
use Rattle.std.proofs.Common.{◌≡◌, ℕ, ◌<◌, List, [], ◌++◌, drop, sym, ap, ◌∙◌}
use Rattle.byteorder.specs.Endian.{big_bytes, big_number}
use Rattle.byteorder.specs.Numbers.{big_number-reads_back}

pub same_entry : (a b x y : ℕ) → a < 18446744073709551616 → b < 18446744073709551616 → big_bytes 8 a ++ big_bytes 4 x ≡ big_bytes 8 b ++ big_bytes 4 y → a ≡ b
same_entry a b x y low low' e = sym (big_number-reads_back 8 a (big_bytes 4 x) low) ∙ ap (big_number 8) e ∙ big_number-reads_back 8 b (big_bytes 4 y) low'

pub same_place : (a b x y : ℕ) → x < 4294967296 → y < 4294967296 → big_bytes 8 a ++ big_bytes 4 x ≡ big_bytes 8 b ++ big_bytes 4 y → x ≡ y
same_place a b x y low low' e = sym (big_number-reads_back 4 x [] low) ∙ ap (λ (l : List ℕ). big_number 4 (drop 8 l)) e ∙ big_number-reads_back 4 y [] low'

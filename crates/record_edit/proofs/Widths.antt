-- Numbers and their bytes, the lowest first.
use Rattle.std.proofs.Common.{◌≡◌, ◌≤◌, ◌<◌, ℕ, zero, suc, ◌+◌, ◌-◌, ◌*◌, ◌/◌, ◌%◌, ◌^◌, Bool, true, false, IsTrue, List, [], ◌∷◌, ◌++◌, length, refl, sym, ap, ◌∙◌, arith, append_assoc}
use Rattle.std.proofs.Math.Nat.{pow-le-pow_right, pow-succ'}
use Rattle.std.specs.Prelude.{ℤ, pos, negsuc}
use Rattle.std.proofs.lemmas.Bool.{false≢true}
use Rattle.std.specs.Int.{w64, cast_unsigned}
use Rattle.jet_base.specs.declared.words.ColType.{ColType}
use Rattle.jet_base.specs.declared.words.ColType.TheVariants.{Bit, UnsignedByte, Short, UnsignedShort, Long, UnsignedLong, LongLong, Currency, Guid, Binary, Text, LongBinary, LongText}
use Rattle.jet_base.specs.ColumnType.{little_endian, twos_complement, largest_value, is_number_type}
use Rattle.jet_base.specs.Given.{number_fits}

-- seven bytes write no more than this
pub seven_bytes : (n : ℕ) → n ≤ 7 → 256 ^ n ≤ 72057594037927936
seven_bytes n h = pow-le-pow_right (omega arith) h

pub number_width : (kind : ColType) → IsTrue (is_number_type kind) → largest_value kind ≤ 8
number_width Bit h = omega arith
number_width UnsignedByte h = omega arith
number_width Short h = omega arith
number_width UnsignedShort h = omega arith
number_width Long h = omega arith
number_width UnsignedLong h = omega arith
number_width LongLong h = omega arith
number_width Currency h = omega arith
number_width Guid h = absurd (false≢true h)
number_width Binary h = cc
number_width Text h = cc
number_width LongBinary h = cc
number_width LongText h = cc

-- the next byte of a number
pub lowest_more : (width i n : ℕ) (front : List ℕ) → i < width
    → (front ++ n % 256 ∷ []) ++ little_endian (width - (i + 1)) (n / 256) ≡ front ++ little_endian (width - i) n
lowest_more width i n front h =
    let e : width - i ≡ suc (width - (i + 1)) = omega arith in
    rw e (append_assoc front (n % 256 ∷ []) (little_endian (width - (i + 1)) (n / 256)))

-- what lies above so many bytes is not written
little_endian-above : (width n k : ℕ) → little_endian width (n + k * 256 ^ width) ≡ little_endian width n
little_endian-above zero n k = refl
little_endian-above (suc width) n k =
    let more : n + k * 256 ^ suc width ≡ n + 256 * (k * 256 ^ width) = rw (pow-succ' 256 width) (omega arith) in
    let low : (n + 256 * (k * 256 ^ width)) % 256 ≡ n % 256 = omega arith in
    let high : (n + 256 * (k * 256 ^ width)) / 256 ≡ n / 256 + k * 256 ^ width = omega arith in
    rw (more, low, high, little_endian-above width (n / 256) k)

-- a negative number in 64 bits and in fewer
cut_negative : (width n k bits : ℕ) → 18446744073709551616 - suc n ≡ bits - n - 1 + k * 256 ^ width
    → little_endian width (18446744073709551616 - suc n) ≡ little_endian width (bits - n - 1)
cut_negative width n k bits e = ap (little_endian width) e ∙ little_endian-above width (bits - n - 1) k

short_negative : (n : ℕ) → IsTrue (number_fits Short (negsuc n)) → n ≤ 32767
short_negative n h = grind arith

long_negative : (n : ℕ) → IsTrue (number_fits Long (negsuc n)) → n ≤ 2147483647
long_negative n h = grind arith

whole_negative : (n : ℕ) → little_endian 8 (18446744073709551616 - suc n) ≡ little_endian 8 (18446744073709551616 - n - 1)
whole_negative n = let e : 18446744073709551616 - suc n ≡ 18446744073709551616 - n - 1 = omega arith in ap (little_endian 8) e

pub lowest_of_fitting : (kind : ColType) (n : ℤ) → IsTrue (number_fits kind n)
    → little_endian (largest_value kind) (cast_unsigned w64 n) ≡ little_endian (largest_value kind) (twos_complement (8 * largest_value kind) n)
lowest_of_fitting kind (pos n) h = refl
lowest_of_fitting Short (negsuc n) h = cut_negative 2 n 281474976710655 65536 (omega (arith, short_negative n h))
lowest_of_fitting Long (negsuc n) h = cut_negative 4 n 4294967295 4294967296 (omega (arith, long_negative n h))
lowest_of_fitting LongLong (negsuc n) h = whole_negative n
lowest_of_fitting Currency (negsuc n) h = whole_negative n
lowest_of_fitting Bit (negsuc n) h = absurd (false≢true h)
lowest_of_fitting UnsignedByte (negsuc n) h = absurd (false≢true h)
lowest_of_fitting UnsignedShort (negsuc n) h = absurd (false≢true h)
lowest_of_fitting UnsignedLong (negsuc n) h = absurd (false≢true h)
lowest_of_fitting Guid (negsuc n) h = absurd (false≢true h)
lowest_of_fitting Binary (negsuc n) h = absurd (false≢true h)
lowest_of_fitting Text (negsuc n) h = absurd (false≢true h)
lowest_of_fitting LongBinary (negsuc n) h = absurd (false≢true h)
lowest_of_fitting LongText (negsuc n) h = absurd (false≢true h)

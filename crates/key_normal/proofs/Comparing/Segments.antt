-- The segments of a column compare as its values and NULL do.
use Rattle.std.proofs.Common.{◌≡◌, ℕ, zero, suc, ◌-◌, ◌<◌, ◌≤◌, Bool, true, false, cond, ◌&&◌, nat_lt, nat_le, nat_eq, lit<, List, [], ◌∷◌, ◌++◌, length, reverse, take, drop, replicate, Some, None, pos, refl, sym, ap, subst, ◌∙◌, arith, inl, inr}
use Rattle.std.proofs.lemmas.Bool.{cases_lt, ltb-true, eqb-true, and_parts}
use Rattle.std.proofs.lemmas.List.{length-reverse, reverse-append, length-drop}
use Rattle.std.specs.List.{list_all}
use Rattle.std.specs.Ordering.{nat_cmp, int_cmp}
use Rattle.std.specs.Cmp.Lexicographic.{slice_cmp}
use Rattle.jet_base.specs.declared.words.ColType.{ColType}
use Rattle.jet_base.specs.declared.words.ColType.TheVariants.{Bit, UnsignedByte, Short, UnsignedShort, Long, UnsignedLong, LongLong, Currency, Guid, Binary, Text, LongBinary, LongText}
use Rattle.jet_base.specs.ColumnType.{from_little_endian}
use Rattle.jet_base.specs.Given.{width_fits}
use Rattle.key_normal.specs.KeyBytes.{folded, folded_byte, in_groups, with_top_bit_turned, value_bytes, ascending_bytes}
use Rattle.key_normal.specs.KeyOrder.{value_order, is_value}
use Rattle.key_normal.proofs.Groups.{in_groups-long, in_groups-short}
use Rattle.key_normal.proofs.Comparing.Aligned.{AreBytes, aligned, aligned-long}
use Rattle.key_normal.proofs.Comparing.Groups.{aligned-in_groups}
use Rattle.key_normal.proofs.Comparing.Numbers.{cmp-reverse, cmp-signed, int-pos, half_of, half_of-length, signed_at, length-with_top_bit_turned}

-- ---- what a value of a type is

are-bytes : (xs : List ℕ) → list_all (λ byte. nat_lt byte 256) xs ≡ true → AreBytes xs
are-bytes [] e = tt
are-bytes (x ∷ xs) e = let parts = and_parts (nat_lt x 256) (list_all (λ byte. nat_lt byte 256) xs) e in (ltb-true x 256 parts.0, are-bytes xs parts.1)

pub value-bytes : (kind : ColType) (xs : List ℕ) → is_value kind xs ≡ true → AreBytes xs
value-bytes kind xs e = are-bytes xs (and_parts (width_fits kind (length xs)) (list_all (λ byte. nat_lt byte 256) xs) e).1

width : (kind : ColType) (xs : List ℕ) → is_value kind xs ≡ true → width_fits kind (length xs) ≡ true
width kind xs e = (and_parts (width_fits kind (length xs)) (list_all (λ byte. nat_lt byte 256) xs) e).0

-- ---- numbers

signed : (h w : ℕ) (xs ys zs : List ℕ) → 0 < w → length xs ≡ w → length ys ≡ w → length zs ≡ w → half_of zs ≡ h → AreBytes xs → AreBytes ys
    → aligned (with_top_bit_turned (reverse xs)) (with_top_bit_turned (reverse ys)) ≡ Some (int_cmp (signed_at h (from_little_endian xs)) (signed_at h (from_little_endian ys)))
signed h w xs ys zs some a b c half p q =
    let long : length (with_top_bit_turned (reverse xs)) ≡ length (with_top_bit_turned (reverse ys)) =
    length-with_top_bit_turned (reverse xs) ∙ length-reverse xs ∙ a ∙ sym b ∙ sym (length-reverse ys) ∙ sym (length-with_top_bit_turned (reverse ys)) in
    aligned-long (with_top_bit_turned (reverse xs)) (with_top_bit_turned (reverse ys)) long
    ∙ ap Some (cmp-signed h xs ys (omega arith) (a ∙ sym b) (half_of-length xs zs (a ∙ sym c) ∙ half) p q)

unsigned : (xs ys : List ℕ) → length xs ≡ length ys → AreBytes xs → AreBytes ys → aligned (reverse xs) (reverse ys) ≡ Some (int_cmp (pos (from_little_endian xs)) (pos (from_little_endian ys)))
unsigned xs ys e p q =
    aligned-long (reverse xs) (reverse ys) (length-reverse xs ∙ e ∙ sym (length-reverse ys))
    ∙ ap Some (cmp-reverse xs ys p q e ∙ sym (int-pos (from_little_endian xs) (from_little_endian ys)))

-- ---- values of each type

fixed-case : (kind : ColType) (nulls_high : Bool) (w : ℕ) (xs ys : List ℕ) → 0 < w → length xs ≡ w → length ys ≡ w → aligned (value_bytes kind xs) (value_bytes kind ys) ≡ Some (value_order kind xs ys)
    → aligned (ascending_bytes kind (Some xs) nulls_high) (ascending_bytes kind (Some ys) nulls_high) ≡ Some (value_order kind xs ys)
fixed-case kind nulls_high w [] ys some a b e = absurd (omega arith)
fixed-case kind nulls_high w (x ∷ xs) [] some a b e = absurd (omega arith)
fixed-case kind nulls_high w (x ∷ xs) (y ∷ ys) some a b e = e

long-as : (kind : ColType) (w : ℕ) (xs : List ℕ) → (width_fits kind (length xs) ≡ true → nat_eq (length xs) w ≡ true) → is_value kind xs ≡ true → length xs ≡ w
long-as kind w xs fits e = eqb-true (length xs) w (fits (width kind xs e))

one-byte : (xs ys : List ℕ) → length xs ≡ 1 → length ys ≡ 1 → AreBytes xs → AreBytes ys → aligned xs ys ≡ Some (int_cmp (pos (from_little_endian xs)) (pos (from_little_endian ys)))
one-byte (x ∷ []) (y ∷ []) a b p q = unsigned (x ∷ []) (y ∷ []) refl p q
one-byte xs ys a b p q = absurd (omega arith)

-- a column of any length: the bytes behind 7F compare as they should, and nothing comes before something
groups : (xs ys : List ℕ) → aligned (in_groups xs) (in_groups ys) ≡ Some (slice_cmp nat_cmp xs ys)
groups xs ys = aligned-in_groups xs ys

pub aligned-values : (kind : ColType) (nulls_high : Bool) (xs ys : List ℕ) → is_value kind xs ≡ true → is_value kind ys ≡ true
    → aligned (ascending_bytes kind (Some xs) nulls_high) (ascending_bytes kind (Some ys) nulls_high) ≡ Some (value_order kind xs ys)
aligned-values Bit h xs ys p q =
    let a = long-as Bit 1 xs (λ e. e) p in
    let b = long-as Bit 1 ys (λ e. e) q in
    fixed-case Bit h 1 xs ys (lit< tt) a b (one-byte xs ys a b (value-bytes Bit xs p) (value-bytes Bit ys q))
aligned-values UnsignedByte h xs ys p q =
    let a = long-as UnsignedByte 1 xs (λ e. e) p in
    let b = long-as UnsignedByte 1 ys (λ e. e) q in
    fixed-case UnsignedByte h 1 xs ys (lit< tt) a b (one-byte xs ys a b (value-bytes UnsignedByte xs p) (value-bytes UnsignedByte ys q))
aligned-values Short h xs ys p q =
    let a = long-as Short 2 xs (λ e. e) p in
    let b = long-as Short 2 ys (λ e. e) q in
    fixed-case Short h 2 xs ys (lit< tt) a b (signed 32768 2 xs ys (0 ∷ 0 ∷ []) (lit< tt) a b refl refl (value-bytes Short xs p) (value-bytes Short ys q))
aligned-values UnsignedShort h xs ys p q =
    let a = long-as UnsignedShort 2 xs (λ e. e) p in
    let b = long-as UnsignedShort 2 ys (λ e. e) q in
    fixed-case UnsignedShort h 2 xs ys (lit< tt) a b (unsigned xs ys (a ∙ sym b) (value-bytes UnsignedShort xs p) (value-bytes UnsignedShort ys q))
aligned-values Long h xs ys p q =
    let a = long-as Long 4 xs (λ e. e) p in
    let b = long-as Long 4 ys (λ e. e) q in
    fixed-case Long h 4 xs ys (lit< tt) a b (signed 2147483648 4 xs ys (0 ∷ 0 ∷ 0 ∷ 0 ∷ []) (lit< tt) a b refl refl (value-bytes Long xs p) (value-bytes Long ys q))
aligned-values UnsignedLong h xs ys p q =
    let a = long-as UnsignedLong 4 xs (λ e. e) p in
    let b = long-as UnsignedLong 4 ys (λ e. e) q in
    fixed-case UnsignedLong h 4 xs ys (lit< tt) a b (unsigned xs ys (a ∙ sym b) (value-bytes UnsignedLong xs p) (value-bytes UnsignedLong ys q))
aligned-values LongLong h xs ys p q =
    let a = long-as LongLong 8 xs (λ e. e) p in
    let b = long-as LongLong 8 ys (λ e. e) q in
    fixed-case LongLong h 8 xs ys (lit< tt) a b
    (signed 9223372036854775808 8 xs ys (0 ∷ 0 ∷ 0 ∷ 0 ∷ 0 ∷ 0 ∷ 0 ∷ 0 ∷ []) (lit< tt) a b refl refl (value-bytes LongLong xs p) (value-bytes LongLong ys q))
aligned-values Currency h xs ys p q =
    let a = long-as Currency 8 xs (λ e. e) p in
    let b = long-as Currency 8 ys (λ e. e) q in
    fixed-case Currency h 8 xs ys (lit< tt) a b
    (signed 9223372036854775808 8 xs ys (0 ∷ 0 ∷ 0 ∷ 0 ∷ 0 ∷ 0 ∷ 0 ∷ 0 ∷ []) (lit< tt) a b refl refl (value-bytes Currency xs p) (value-bytes Currency ys q))
aligned-values Guid h xs ys p q =
    let a = long-as Guid 16 xs (λ e. e) p in
    let b = long-as Guid 16 ys (λ e. e) q in
    fixed-case Guid h 16 xs ys (lit< tt) a b (aligned-long xs ys (a ∙ sym b))
aligned-values Binary h [] [] p q = refl
aligned-values Binary h [] (y ∷ ys) p q = refl
aligned-values Binary h (x ∷ xs) [] p q = refl
aligned-values Binary h (x ∷ xs) (y ∷ ys) p q = groups (x ∷ xs) (y ∷ ys)
aligned-values LongBinary h [] [] p q = refl
aligned-values LongBinary h [] (y ∷ ys) p q = refl
aligned-values LongBinary h (x ∷ xs) [] p q = refl
aligned-values LongBinary h (x ∷ xs) (y ∷ ys) p q = groups (x ∷ xs) (y ∷ ys)
aligned-values Text h [] [] p q = refl
aligned-values Text h [] (y ∷ ys) p q = refl
aligned-values Text h (x ∷ xs) [] p q = refl
aligned-values Text h (x ∷ xs) (y ∷ ys) p q = groups (folded (x ∷ xs)) (folded (y ∷ ys))
aligned-values LongText h [] [] p q = refl
aligned-values LongText h [] (y ∷ ys) p q = refl
aligned-values LongText h (x ∷ xs) [] p q = refl
aligned-values LongText h (x ∷ xs) (y ∷ ys) p q = groups (folded (x ∷ xs)) (folded (y ∷ ys))

-- ---- the bytes of a segment are bytes

bytes-append : (xs ys : List ℕ) → AreBytes xs → AreBytes ys → AreBytes (xs ++ ys)
bytes-append [] ys p q = q
bytes-append (x ∷ xs) ys p q = (p.0, bytes-append xs ys p.1 q)

bytes-take : (n : ℕ) (xs : List ℕ) → AreBytes xs → AreBytes (take n xs)
bytes-take zero xs p = tt
bytes-take (suc n) [] p = tt
bytes-take (suc n) (x ∷ xs) p = (p.0, bytes-take n xs p.1)

bytes-drop : (n : ℕ) (xs : List ℕ) → AreBytes xs → AreBytes (drop n xs)
bytes-drop zero xs p = p
bytes-drop (suc n) [] p = tt
bytes-drop (suc n) (x ∷ xs) p = bytes-drop n xs p.1

bytes-zeros : (n : ℕ) → AreBytes (replicate n 0)
bytes-zeros zero = tt
bytes-zeros (suc n) = (lit< tt, bytes-zeros n)

bytes-reverse : (xs : List ℕ) → AreBytes xs → AreBytes (reverse xs)
bytes-reverse [] p = tt
bytes-reverse (x ∷ xs) p = subst AreBytes (sym (reverse-append (x ∷ []) xs)) (bytes-append (reverse xs) (x ∷ []) (bytes-reverse xs p.1) (p.0, tt))

bytes-top : (xs : List ℕ) → AreBytes xs → AreBytes (with_top_bit_turned xs)
bytes-top [] p = tt
bytes-top (x ∷ xs) p = (omega arith, p.1)

folded-below : (x : ℕ) → x < 256 → folded_byte x < 256
folded-below x p = elim (nat_le 97 x && nat_le x 122) as (λ b. cond b (x - 32) x < 256) [ true ↦ omega arith | false ↦ p ]

bytes-folded : (xs : List ℕ) → AreBytes xs → AreBytes (folded xs)
bytes-folded [] p = tt
bytes-folded (x ∷ xs) p = (folded-below x p.0, bytes-folded xs p.1)

bytes-short : (xs : List ℕ) → length xs ≤ 8 → AreBytes xs → AreBytes (in_groups xs)
bytes-short xs short p =
    subst AreBytes (sym (in_groups-short xs short))
    (bytes-append (xs ++ replicate (8 - length xs) 0) (length xs ∷ []) (bytes-append xs (replicate (8 - length xs) 0) p (bytes-zeros (8 - length xs))) (omega arith, tt))

bytes-within : (fuel : ℕ) (xs : List ℕ) → length xs ≤ fuel → AreBytes xs → AreBytes (in_groups xs)
bytes-within zero xs h p = bytes-short xs (omega arith) p
bytes-within (suc fuel) xs h p = elim (cases_lt 8 (length xs)) [
  | inl long ↦ subst AreBytes (sym (in_groups-long xs long))
      (bytes-append (take 8 xs) (9 ∷ in_groups (drop 8 xs)) (bytes-take 8 xs p) (lit< tt, bytes-within fuel (drop 8 xs) (omega (arith, length-drop 8 xs)) (bytes-drop 8 xs p)))
  | inr short ↦ bytes-short xs short p
]

bytes-in_groups : (xs : List ℕ) → AreBytes xs → AreBytes (in_groups xs)
bytes-in_groups xs p = bytes-within (length xs) xs (omega arith) p

bytes-value_bytes : (kind : ColType) (xs : List ℕ) → AreBytes xs → AreBytes (value_bytes kind xs)
bytes-value_bytes Bit xs p = p
bytes-value_bytes UnsignedByte xs p = p
bytes-value_bytes Short xs p = bytes-top (reverse xs) (bytes-reverse xs p)
bytes-value_bytes UnsignedShort xs p = bytes-reverse xs p
bytes-value_bytes Long xs p = bytes-top (reverse xs) (bytes-reverse xs p)
bytes-value_bytes UnsignedLong xs p = bytes-reverse xs p
bytes-value_bytes LongLong xs p = bytes-top (reverse xs) (bytes-reverse xs p)
bytes-value_bytes Currency xs p = bytes-top (reverse xs) (bytes-reverse xs p)
bytes-value_bytes Guid xs p = p
bytes-value_bytes Binary xs p = bytes-in_groups xs p
bytes-value_bytes Text xs p = bytes-in_groups (folded xs) (bytes-folded xs p)
bytes-value_bytes LongBinary xs p = bytes-in_groups xs p
bytes-value_bytes LongText xs p = bytes-in_groups (folded xs) (bytes-folded xs p)

pub bytes-ascending : (kind : ColType) (nulls_high : Bool) (xs : List ℕ) → AreBytes xs → AreBytes (ascending_bytes kind (Some xs) nulls_high)
bytes-ascending kind h [] p = (lit< tt, tt)
bytes-ascending kind h (x ∷ xs) p = (lit< tt, bytes-value_bytes kind (x ∷ xs) p)

pub bytes-null : (kind : ColType) (nulls_high : Bool) → AreBytes (ascending_bytes kind None nulls_high)
bytes-null kind true = (lit< tt, tt)
bytes-null kind false = (lit< tt, tt)

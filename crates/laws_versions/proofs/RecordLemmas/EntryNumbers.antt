-- The numbers of entries, as bookmarks.
use Rattle.std.proofs.Common.{◌≡◌, ℕ, zero, suc, ◌+◌, ◌*◌, ◌/◌, ◌<◌, ◌≤◌, Bool, true, false, ◌&&◌, List, length, refl, sym, subst, arith}
use Rattle.std.specs.Prelude.{◌==◌, ◌^◌, nat_le}
use Rattle.std.proofs.lemmas.Bool.Decides.{nat_tests}
use Rattle.std.proofs.lemmas.Bool.{and_from, leb-true}
use Rattle.common_lemmas.proofs.Booleans.{and_left, and_right}
use Rattle.jet_base.specs.ColumnType.{big_endian, little_endian, from_little_endian}
use Rattle.database_state.specs.Lawful.{log_limit}
use Rattle.laws_versions.specs.Bookmarks.{is_entry_number, number_of_bookmark}

-- so many bytes hold the number
abbrev Holds : ℕ → ℕ → Type 0
Holds zero n = n ≡ 0
Holds (suc width) n = Holds width (n / 256)

exact : (width n : ℕ) → Holds width n → from_little_endian (little_endian width n) ≡ n
exact zero n h = sym h
exact (suc width) n h = let rest = exact width (n / 256) h in omega (arith, rest)

part : (n most : ℕ) → n < 256 * most → n / 256 < most
part n most h = omega arith

holds : (n : ℕ) → n < 1099511627776 → Holds 8 n
holds n h =
    let a = part n 4294967296 h in
    let b = part (n / 256) 16777216 a in
    let c = part (n / 256 / 256) 65536 b in
    let d = part (n / 256 / 256 / 256) 256 c in
    let e = part (n / 256 / 256 / 256 / 256) 1 d in
    omega (arith, e)

pub entry_number-own : (n : ℕ) → 1 ≤ n → n < 2 ^ 40 → is_entry_number n (big_endian 8 n) ≡ true
entry_number-own n some small = subst (λ (m : ℕ). (nat_le 1 m && nat_le m n) ≡ true) (sym (exact 8 n (holds n small))) (own n some)
  where
    own : (n : ℕ) → 1 ≤ n → (nat_le 1 n && nat_le n n) ≡ true
    own n some = grind (arith, nat_tests)

-- that of a change that may come
pub entry_number-new : (number : ℕ) → nat_le number log_limit ≡ true → is_entry_number (number + 1) (big_endian 8 (number + 1)) ≡ true
entry_number-new number few = entry_number-own (number + 1) (counted number) (small log_limit (2 ^ 40) number few (omega arith))
  where
    counted : (n : ℕ) → 1 ≤ n + 1
    counted n = omega arith

    small : (limit most n : ℕ) → nat_le n limit ≡ true → limit + 1 < most → n + 1 < most
    small limit most n few room = let le : n ≤ limit = leb-true n limit few in omega (arith, le, room)

and_false : (a b : Bool) → b ≡ false → (a && b) ≡ false
and_false true b h = h
and_false false b h = refl

above : (n number : ℕ) → number < n → nat_le n number ≡ false
above n number h = grind (arith, nat_tests)

pub entry_number-later : (number later : ℕ) → number < later → later < 2 ^ 40 → is_entry_number number (big_endian 8 later) ≡ false
entry_number-later number later less small =
    subst (λ (m : ℕ). (nat_le 1 m && nat_le m number) ≡ false) (sym (exact 8 later (holds later small))) (and_false (nat_le 1 later) (nat_le later number) (above later number less))

-- what was a number of an entry stays one
pub entry_number-stays : (number : ℕ) (bookmark : List ℕ) → is_entry_number number bookmark ≡ true → is_entry_number (number + 1) bookmark ≡ true
entry_number-stays number bookmark h =
    let within = and_right (length bookmark == 8) (nat_le 1 (number_of_bookmark bookmark) && nat_le (number_of_bookmark bookmark) number) h in
    and_from _ _ (and_left (length bookmark == 8) _ h)
    (and_from _ _ (and_left (nat_le 1 (number_of_bookmark bookmark)) _ within) (more (number_of_bookmark bookmark) number (and_right (nat_le 1 (number_of_bookmark bookmark)) _ within)))
  where
    more : (a n : ℕ) → nat_le a n ≡ true → nat_le a (n + 1) ≡ true
    more a n e = grind (arith, nat_tests)

-- Records of which only a front stands there.
use Rattle.std.proofs.Common.{◌≡◌, ℕ, zero, suc, ◌+◌, ◌-◌, ◌*◌, ◌^◌, ◌%◌, ◌/◌, ◌<◌, ◌≤◌, Bool, true, false, ltb, leb, eqb, ◌&&◌, cond, List, [], ◌∷◌, ◌++◌, length, take, drop, None, refl, sym, ap, ◌∙◌, arith, ◌⊎◌, inl, inr}
use Rattle.std.specs.Int.{w16, w32, to_le_bytes, from_le_bytes}
use Rattle.std.proofs.lemmas.Bool.{cases_Bool, and_parts, and_from, eqb-true, eq-eqb, leb-true, le-leb, ltb-true, lt-ltb}
use Rattle.std.proofs.lemmas.List.{length-append}
use Rattle.std.proofs.lemmas.Nat.{le_bytes_4, from_le_bytes-to_le_bytes_4}
use Rattle.column_set.specs.NumberReading.{number_at, IsBytes}
use Rattle.log_record.specs.EntryCuts.{after, filled, bytes_cut, size_part, values_cut}
use Rattle.log_record.proofs.CutLaws.{Completed, Then}
use Rattle.log_record.proofs.CutSteps.{Decides, IsFew, Where, decides_end, decides_field, decides_where, decides_bytes, filled_from, filled_parts, no_bytes, too_short}
use Rattle.log_record.proofs.CutCases.{decides_case16}
use Rattle.log_record.proofs.CutFields.{Text, bytes_cut_none}
use Rattle.log_grammar.proofs.Laws.{laws32}

-- ---- the length of a value

four_bytes : (a b c d : ℕ) → a < 256 → b < 256 → c < 256 → d < 256 → IsBytes (a ∷ b ∷ c ∷ d ∷ [])
four_bytes a b c d la lb lc ld zero = la
four_bytes a b c d la lb lc ld (suc zero) = lb
four_bytes a b c d la lb lc ld (suc (suc zero)) = lc
four_bytes a b c d la lb lc ld (suc (suc (suc zero))) = ld
four_bytes a b c d la lb lc ld (suc (suc (suc (suc i)))) = omega arith

pub spelled : (a b c d n : ℕ) → a < 256 → b < 256 → c < 256 → d < 256 → n ≡ a + (256 * b + (65536 * c + 16777216 * d)) → to_le_bytes w32 n ≡ a ∷ b ∷ c ∷ d ∷ []
spelled a b c d n la lb lc ld is = le_bytes_4 (a ∷ b ∷ c ∷ d ∷ []) n refl (four_bytes a b c d la lb lc ld) (omega (arith, is))

-- a number that has the front
record HasFront (front : List ℕ) (n : ℕ) : Type 0 where
  more : List ℕ
  written : to_le_bytes w32 n ≡ front ++ more

exact_front : (front : List ℕ) (n : ℕ) → IsBytes front → length front < 4 → n < 2 ^ 32 → n % 256 ^ length front ≡ from_le_bytes w32 front → HasFront front n
exact_front [] n b short lt is = record { more = to_le_bytes w32 n; written = refl }
exact_front (x ∷ []) n b short lt is =
    let same : n % 256 ≡ x = is ∙ omega arith in
    let lx : x < 256 = b 0 in
    record { more = (n / 256 % 256) ∷ (n / 65536 % 256) ∷ (n / 16777216) ∷ []; written = spelled x (n / 256 % 256) (n / 65536 % 256) (n / 16777216) n lx (omega arith) (omega arith) (omega (arith, lt)) (omega (arith, lt, same)) }
exact_front (x ∷ y ∷ []) n b short lt is =
    let same : n % 65536 ≡ x + 256 * y = is ∙ omega arith in
    let lx : x < 256 = b 0 in
    let ly : y < 256 = b 1 in
    record { more = (n / 65536 % 256) ∷ (n / 16777216) ∷ []; written = spelled x y (n / 65536 % 256) (n / 16777216) n lx ly (omega arith) (omega (arith, lt)) (omega (arith, lt, same)) }
exact_front (x ∷ y ∷ z ∷ []) n b short lt is =
    let same : n % 16777216 ≡ x + (256 * y + 65536 * z) = is ∙ omega arith in
    let lx : x < 256 = b 0 in
    let ly : y < 256 = b 1 in
    let lz : z < 256 = b 2 in
    record { more = (n / 16777216) ∷ []; written = spelled x y z (n / 16777216) n lx ly lz (omega (arith, lt)) (omega (arith, lt, same)) }
exact_front (x ∷ y ∷ z ∷ w ∷ front) n b short lt is = absurd (omega arith)

-- the least number that has the front
record LeastFront (front : List ℕ) : Type 0 where
  small : from_le_bytes w32 front < 2 ^ 32
  has : HasFront front (from_le_bytes w32 front)

least_front : (front : List ℕ) → IsBytes front → length front < 4 → LeastFront front
least_front [] b short = record { small = omega arith; has = record { more = to_le_bytes w32 0; written = refl } }
least_front (x ∷ []) b short =
    let lx : x < 256 = b 0 in
    record { small = omega (arith, lx); has = record { more = 0 ∷ 0 ∷ 0 ∷ []; written = spelled x 0 0 0 _ lx (omega arith) (omega arith) (omega arith) (omega arith) } }
least_front (x ∷ y ∷ []) b short =
    let lx : x < 256 = b 0 in
    let ly : y < 256 = b 1 in
    record { small = omega (arith, lx, ly); has = record { more = 0 ∷ 0 ∷ []; written = spelled x y 0 0 _ lx ly (omega arith) (omega arith) (omega arith) } }
least_front (x ∷ y ∷ z ∷ []) b short =
    let lx : x < 256 = b 0 in
    let ly : y < 256 = b 1 in
    let lz : z < 256 = b 2 in
    record { small = omega (arith, lx, ly, lz); has = record { more = 0 ∷ []; written = spelled x y z 0 _ lx ly lz (omega arith) (omega arith) } }
least_front (x ∷ y ∷ z ∷ w ∷ front) b short = absurd (omega arith)

record FrontOf (front : List ℕ) (n : ℕ) : Type 0 where
  remainder : n % 256 ^ length front ≡ from_le_bytes w32 front
  least : from_le_bytes w32 front ≤ n

front_of : (front more : List ℕ) (n : ℕ) → IsBytes front → length front < 4 → n < 2 ^ 32 → to_le_bytes w32 n ≡ front ++ more → FrontOf front n
front_of [] more n b short lt e = record { remainder = omega arith; least = omega arith }
front_of (x ∷ []) more n b short lt e =
    let lx : x < 256 = b 0 in
    let value : n ≡ from_le_bytes w32 (x ∷ more) = sym (from_le_bytes-to_le_bytes_4 n lt) ∙ ap (from_le_bytes w32) e in
    record { remainder = omega (arith, lx, value); least = omega (arith, value) }
front_of (x ∷ y ∷ []) more n b short lt e =
    let lx : x < 256 = b 0 in
    let ly : y < 256 = b 1 in
    let value : n ≡ from_le_bytes w32 (x ∷ y ∷ more) = sym (from_le_bytes-to_le_bytes_4 n lt) ∙ ap (from_le_bytes w32) e in
    record { remainder = omega (arith, lx, ly, value); least = omega (arith, value) }
front_of (x ∷ y ∷ z ∷ []) more n b short lt e =
    let lx : x < 256 = b 0 in
    let ly : y < 256 = b 1 in
    let lz : z < 256 = b 2 in
    let value : n ≡ from_le_bytes w32 (x ∷ y ∷ z ∷ more) = sym (from_le_bytes-to_le_bytes_4 n lt) ∙ ap (from_le_bytes w32) e in
    record { remainder = omega (arith, lx, ly, lz, value); least = omega (arith, value) }
front_of (x ∷ y ∷ z ∷ w ∷ front) more n b short lt e = absurd (omega arith)

-- ---- values

pub not_zero : (n : ℕ) → eqb (suc n) 0 ≡ false
not_zero n =
    elim (cases_Bool (eqb (suc n) 0)) [
      | inl is ↦ absurd (omega (arith, eqb-true _ _ is))
      | inr is ↦ is
    ]

-- so many values, whose columns do not fall
abbrev pub Values : ℕ → ℕ → List ℕ → Type 0
Values zero least bytes = bytes ≡ []
Values (suc others) least bytes = Then (to_le_bytes w16) (λ n. ltb n (2 ^ 16)) (λ column. Where (leb least column) (Then (to_le_bytes w32) (λ n. ltb n (2 ^ 32)) (λ n. Text n (Values others column)))) bytes

abbrev Sized : ℕ → ℕ → List ℕ → Type 0
Sized others column bytes = Then (to_le_bytes w32) (λ n. ltb n (2 ^ 32)) (λ n. Text n (Values others column)) bytes

abbrev size_cut : ℕ → ℕ → List ℕ → ℕ → Bool
size_cut others column bytes missing = after (number_at w32 bytes) (λ n. bytes_cut n (values_cut others column)) missing (size_part others bytes missing)

-- no value is left and no byte, or there are enough bytes for those that are left
pub few_values : (count least left : ℕ) → values_cut count least [] left ≡ true → ((count ≡ 0) × (left ≡ 0)) ⊎ ((1 ≤ count) × (6 * count ≤ left))
few_values zero least left h = inl (refl, eqb-true _ _ h)
few_values (suc others) least left h =
    let le : 6 + 6 * others ≤ left = leb-true _ _ h in
    inr (omega arith, omega arith)

pub none_left : (least : ℕ) → values_cut 0 least [] 0 ≡ true
none_left least = refl

pub many_values : (count least left : ℕ) → 1 ≤ count → 6 * count ≤ left → values_cut count least [] left ≡ true
many_values zero least left one le = absurd (omega (arith, one))
many_values (suc others) least left one le = le-leb _ _ (omega (arith, le))

record SizeParts (others : ℕ) (front : List ℕ) (missing : ℕ) : Type 0 where
  within : 4 - length front ≤ missing
  fills : cond (eqb others 0) (eqb ((missing - (4 - length front)) % 256 ^ length front) (from_le_bytes w32 front)) (leb (from_le_bytes w32 front + 6 * others) (missing - (4 - length front))) ≡ true

size_parts : (others : ℕ) (front : List ℕ) (missing : ℕ) → size_part others front missing ≡ true → SizeParts others front missing
size_parts others front missing h =
    let p = and_parts (leb (4 - length front) missing) (cond (eqb others 0) (eqb ((missing - (4 - length front)) % 256 ^ length front) (from_le_bytes w32 front)) (leb (from_le_bytes w32 front + 6 * others) (missing - (4 - length front)))) h in
    record { within = leb-true _ _ p.0; fills = p.1 }

size_from : (others : ℕ) (front : List ℕ) (missing : ℕ) → SizeParts others front missing → size_part others front missing ≡ true
size_from others front missing p =
    and_from (leb (4 - length front) missing) (cond (eqb others 0) (eqb ((missing - (4 - length front)) % 256 ^ length front) (from_le_bytes w32 front)) (leb (from_le_bytes w32 front + 6 * others) (missing - (4 - length front)))) (le-leb _ _ p.within) p.fills

-- a length that completes the front, and what is left for the values behind it
record SizeChosen (others column : ℕ) (front : List ℕ) (missing : ℕ) : Type 0 where
  size : ℕ
  left : ℕ
  small : size < 2 ^ 32
  has : HasFront front size
  counted : missing ≡ (4 - length front) + (size + left)
  goes_on : values_cut others column [] left ≡ true

choose : (others column : ℕ) (front : List ℕ) (missing : ℕ) → IsBytes front → length front < 4 → IsFew missing → SizeParts others front missing → SizeChosen others column front missing
choose zero column front missing b short few p =
    let n = missing - (4 - length front) in
    let lt : n < 2 ^ 32 = omega (arith, few) in
    let same : n % 256 ^ length front ≡ from_le_bytes w32 front = eqb-true _ _ p.fills in
    record { size = n; left = 0; small = lt; has = exact_front front n b short lt same; counted = omega (arith, p.within); goes_on = none_left column }
choose (suc others) column front missing b short few p =
    let f = least_front front b short in
    let n = from_le_bytes w32 front in
    let rest = missing - (4 - length front) in
    let fills : leb (n + 6 * suc others) rest ≡ true = sym (ap (λ b. cond b (eqb (rest % 256 ^ length front) n) (leb (n + 6 * suc others) rest)) (not_zero others)) ∙ p.fills in
    let le : n + 6 * suc others ≤ rest = leb-true _ _ fills in
    record { size = n; left = rest - n; small = f.small; has = f.has; counted = omega (arith, p.within, le); goes_on = many_values (suc others) column (rest - n) (omega arith) (omega (arith, le)) }

chosen : (others column : ℕ) (front : List ℕ) (missing size left : ℕ) → FrontOf front size → missing ≡ (4 - length front) + (size + left) → values_cut others column [] left ≡ true → SizeParts others front missing
chosen zero column front missing size left f counted h =
    let none : left ≡ 0 = eqb-true _ _ h in
    let is : missing - (4 - length front) ≡ size = omega (arith, counted, none) in
    let same : (missing - (4 - length front)) % 256 ^ length front ≡ from_le_bytes w32 front = ap (λ n. n % 256 ^ length front) is ∙ f.remainder in
    record { within = omega (arith, counted); fills = eq-eqb _ _ same }
chosen (suc others) column front missing size left f counted h =
    let le : 6 + 6 * others ≤ left = leb-true _ _ h in
    let least : from_le_bytes w32 front ≤ size = f.least in
    let rest = missing - (4 - length front) in
    let n = from_le_bytes w32 front in
    let fits : n + 6 * suc others ≤ rest = omega (arith, counted, le, least) in
    record { within = omega (arith, counted); fills = ap (λ b. cond b (eqb (rest % 256 ^ length front) n) (leb (n + 6 * suc others) rest)) (not_zero others) ∙ le-leb _ _ fits }

decides_size : (others column : ℕ) → Decides (values_cut others column) (Values others column) → Decides (size_cut others column) (Sized others column)
decides_size others column d =
    decides_field (to_le_bytes w32) (λ n. ltb n (2 ^ 32)) (number_at w32) (λ n. Text n (Values others column)) (λ n. bytes_cut n (values_cut others column)) (size_part others) laws32 (λ n h. each n) part_sound part_complete where
      each : (n : ℕ) → Decides (bytes_cut n (values_cut others column)) (Text n (Values others column))
      each n = decides_bytes n (values_cut others column) (Values others column) d

      is_short : (front : List ℕ) → number_at w32 front ≡ None → length front < 4
      is_short front none = too_short (length front) 4 (from_le_bytes w32 (take 4 front), drop 4 front) none

      missing_of : (front more : List ℕ) (n : ℕ) → length front < 4 → to_le_bytes w32 n ≡ front ++ more → length more ≡ 4 - length front
      missing_of front more n short e = let four : 4 ≡ length (front ++ more) = ap length e in omega (arith, length-append front more, short)

      part_sound : (front : List ℕ) (missing : ℕ) → IsBytes front → IsFew missing → number_at w32 front ≡ None → size_part others front missing ≡ true → Completed (to_le_bytes w32) (λ n. ltb n (2 ^ 32)) (λ n. Text n (Values others column)) front missing
      part_sound front missing b few none h =
          let short = is_short front none in
          let c = choose others column front missing b short few (size_parts others front missing h) in
          let many = missing_of front c.has.more c.size short c.has.written in
          record {
            value = c.size;
            missing = c.has.more;
            value_fits = lt-ltb _ _ c.small;
            written = c.has.written;
            left = c.size + c.left;
            counted = c.counted ∙ ap (λ n. n + (c.size + c.left)) (sym many);
            goes_on = (each c.size).sound [] (c.size + c.left) no_bytes (omega (arith, few, c.counted)) (bytes_cut_none c.size (values_cut others column) (c.size + c.left) ∙ filled_from c.size (values_cut others column) (c.size + c.left) c.left refl c.goes_on);
          }

      part_complete : (front : List ℕ) (missing : ℕ) → IsBytes front → IsFew missing → number_at w32 front ≡ None → Completed (to_le_bytes w32) (λ n. ltb n (2 ^ 32)) (λ n. Text n (Values others column)) front missing → size_part others front missing ≡ true
      part_complete front missing b few none c =
          let short = is_short front none in
          let many = missing_of front c.missing c.value short c.written in
          let lt : c.value < 2 ^ 32 = ltb-true _ _ c.value_fits in
          let f = front_of front c.missing c.value b short lt c.written in
          let goes : filled c.value (values_cut others column) c.left ≡ true = sym (bytes_cut_none c.value (values_cut others column) c.left) ∙ (each c.value).complete [] c.left no_bytes (omega (arith, few, c.counted)) c.goes_on in
          let p = filled_parts c.value (values_cut others column) c.left goes in
          size_from others front missing (chosen others column front missing c.value (c.left - c.value) f (omega (arith, c.counted, many, p.counted)) p.goes_on)

pub decides_values : (count least : ℕ) → least < 2 ^ 16 → Decides (values_cut count least) (Values count least)
decides_values zero least lt = decides_end
decides_values (suc others) least lt =
    decides_case16 (λ column behind left. leb least column && size_cut others column behind left) (λ column. Where (leb least column) (Sized others column)) (λ left. leb (6 + 6 * others) left) (λ low left. leb least (low + 65280) && leb (5 + 6 * others) left)
    (λ column small. decides_where (leb least column) (size_cut others column) (Sized others column) (λ h. decides_size others column (decides_values others column small)))
    (λ missing few h.
    let le : 6 + 6 * others ≤ missing = leb-true _ _ h in
    (65535, missing - 2, omega arith, omega (arith, le), both_from 65535 (missing - 2) (omega (arith, lt)) (omega (arith, le)) (omega (arith, few))))
    (λ n left few small h. le-leb (6 + 6 * others) (2 + left) (let le = both_le n left few h in omega (arith, le)))
    (λ a missing few small h.
    let p = and_parts (leb least (a + 65280)) (leb (5 + 6 * others) missing) h in
    let high : least ≤ a + 65280 = leb-true _ _ p.0 in
    let le : 5 + 6 * others ≤ missing = leb-true _ _ p.1 in
    (255, missing - 1, omega arith, omega (arith, le), both_from (a + 256 * 255) (missing - 1) (omega (arith, high)) (omega (arith, le)) (omega (arith, few))))
    (λ a h left few small high is.
    let p = and_parts (leb least (a + 256 * h)) (size_cut others (a + 256 * h) [] left) is in
    let above : least ≤ a + 256 * h = leb-true _ _ p.0 in
    let le = size_le (a + 256 * h) left (omega (arith, few)) p.1 in
    and_from (leb least (a + 65280)) (leb (5 + 6 * others) (1 + left)) (le-leb _ _ (omega (arith, above, high))) (le-leb _ _ (omega (arith, le))))
  where
    -- a value and those behind it
    size_any : (column left : ℕ) → 4 + 6 * others ≤ left → left < 2 ^ 32 → size_cut others column [] left ≡ true
    size_any column left le few = size_from others [] left (fill others le) where
      fill : (k : ℕ) → 4 + 6 * k ≤ left → SizeParts k [] left
      fill zero le =
          let same : (left - 4) % 1 ≡ 0 = omega arith in
          record { within = omega (arith, le); fills = eq-eqb _ _ same }
      fill (suc k) le =
          let fits : 0 + 6 * suc k ≤ left - 4 = omega (arith, le) in
          record { within = omega (arith, le); fills = ap (λ b. cond b (eqb ((left - 4) % 1) 0) (leb (0 + 6 * suc k) (left - 4))) (not_zero k) ∙ le-leb _ _ fits }

    size_le : (column left : ℕ) → left < 2 ^ 32 → size_cut others column [] left ≡ true → 4 + 6 * others ≤ left
    size_le column left few h = least_of others (size_parts others [] left h) where
      least_of : (k : ℕ) → SizeParts k [] left → 4 + 6 * k ≤ left
      least_of zero p = omega (arith, p.within)
      least_of (suc k) p =
          let fills : leb (0 + 6 * suc k) (left - 4) ≡ true = sym (ap (λ b. cond b (eqb ((left - 4) % 1) 0) (leb (0 + 6 * suc k) (left - 4))) (not_zero k)) ∙ p.fills in
          let le : 0 + 6 * suc k ≤ left - 4 = leb-true _ _ fills in
          omega (arith, p.within, le)

    both_from : (column left : ℕ) → least ≤ column → 4 + 6 * others ≤ left → left < 2 ^ 32 → (leb least column && size_cut others column [] left) ≡ true
    both_from column left above le few = and_from (leb least column) (size_cut others column [] left) (le-leb _ _ above) (size_any column left le few)

    both_le : (column left : ℕ) → IsFew (2 + left) → (leb least column && size_cut others column [] left) ≡ true → 4 + 6 * others ≤ left
    both_le column left few h = size_le column left (omega (arith, few)) (and_parts (leb least column) (size_cut others column [] left) h).1

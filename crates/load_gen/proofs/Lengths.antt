-- How many calls and entries the records have.
use Rattle.std.proofs.Common.{◌≡◌, inl, inr, ℕ, zero, suc, ◌+◌, ◌-◌, ◌*◌, ◌/◌, ◌%◌, ◌^◌, ◌<◌, ◌≤◌, length, refl, ap, sym, subst, ◌∙◌, arith}
use Rattle.std.proofs.lemmas.Bool.{cases_lt}
use Rattle.std.specs.Prelude.{◌⊎◌, ◌==◌, if◌then◌else◌, slice_get}
use Rattle.std.proofs.lemmas.List.{length-append}
use Rattle.load_gen.specs.declared.table.LoadIndex.{LoadIndex}
use Rattle.load_gen.specs.declared.table.LoadIndex.TheVariants as index
use Rattle.load_gen.specs.Records.{record_calls, records_calls}
use Rattle.load_gen.specs.Script.{entries_in, entries_of_record}
use Rattle.load_gen.proofs.Divisions.{guess_above, guess_below, hundredth_begin, hundredth_step, tenth_step, third_step}
use Rattle.load_gen.proofs.Pieces.{flat_map_more, get_piece, sum_more}
use Rattle.load_gen.proofs.RecordCalls.{length-record_calls}

-- ---- calls

pub no_records : length (records_calls 0) ≡ 0
unfolding records_calls
no_records = refl

-- one record more
records_more : (m : ℕ) → length (records_calls (m + 1)) ≡ length (records_calls m) + length (record_calls (m + 1))
unfolding records_calls
records_more m =
    let same : m + 1 ≡ suc m = omega arith in
    let turned : 1 + m ≡ m + 1 = omega arith in
    ap (λ k. length (records_calls k)) same
    ∙ ap length (flat_map_more record_calls 1 m)
    ∙ length-append (records_calls m) (record_calls (1 + m))
    ∙ ap (λ k. length (records_calls m) + length (record_calls k)) turned

-- its calls by the number before it
next_length : (m : ℕ) → length (record_calls (m + 1))
    ≡ (if m % 100 == 0 then 1 else 0) + (40 + (m + 1) % 3 + (if (m + 1) % 10 == 0 then 0 else 1) + (if (m + 1) % 100 == 0 then 1 else 0))
next_length m =
    let back : m + 1 - 1 ≡ m = omega arith in
    length-record_calls (m + 1)
    ∙ ap (λ k. (if k % 100 == 0 then 1 else 0) + (40 + (m + 1) % 3 + (if (m + 1) % 10 == 0 then 0 else 1) + (if (m + 1) % 100 == 0 then 1 else 0))) back

-- the step over plain numbers
step : (f g m begins thirds tenths ends a b c d e h k q r : ℕ)
    → f + a + b ≡ 42 * m + c + d + e → g ≡ f + (begins + (40 + thirds + tenths + ends))
    → thirds + 2 * c ≡ 1 + h + a → tenths + k ≡ 1 + b → ends + e ≡ q → begins + d ≡ r
    → g + c + k ≡ 42 * (m + 1) + h + r + q
step f g m begins thirds tenths ends a b c d e h k q r p1 p2 p3 p4 p5 p6 = omega arith

-- what the calls of m records are, without a difference
abbrev CallsSum : ℕ → Type 0
CallsSum m = length (records_calls m) + m / 3 + m / 10 ≡ 42 * m + (m + 1) / 3 + (m + 99) / 100 + m / 100

records_sum : (m : ℕ) → CallsSum m
records_sum zero = omega (arith, no_records)
records_sum (suc m) =
    let same : m + 1 ≡ suc m = omega arith in
    let old : CallsSum m = records_sum m in
    let more : length (records_calls (m + 1)) ≡ length (records_calls m)
    + ((if m % 100 == 0 then 1 else 0) + (40 + (m + 1) % 3 + (if (m + 1) % 10 == 0 then 0 else 1) + (if (m + 1) % 100 == 0 then 1 else 0)))
    = records_more m ∙ ap (λ l. length (records_calls m) + l) (next_length m) in
    subst CallsSum same
    (step (length (records_calls m)) (length (records_calls (m + 1))) m
    (if m % 100 == 0 then 1 else 0) ((m + 1) % 3) (if (m + 1) % 10 == 0 then 0 else 1) (if (m + 1) % 100 == 0 then 1 else 0)
    (m / 3) (m / 10) ((m + 1) / 3) ((m + 99) / 100) (m / 100) ((m + 1 + 1) / 3) ((m + 1) / 10) ((m + 1) / 100) ((m + 1 + 99) / 100)
    old more (third_step m) (tenth_step m) (hundredth_step m) (hundredth_begin m))

pub length-records_calls : (m : ℕ) → length (records_calls m) ≡ 42 * m + ((m + 1) / 3 + (m + 99) / 100 + m / 100) - (m / 3 + m / 10)
length-records_calls m = omega (arith, records_sum m)

pub ruleset records_length = length-records_calls

-- they fit where their number does
pub records_fit : (m : ℕ) → length (records_calls m) ≤ 42 * m + 3
records_fit m = omega (arith, guess_below m (length (records_calls m)) (records_sum m))

-- ---- the record at a place

pub below_calls : (m : ℕ) → 25 * length (records_calls m) ≤ 1048 * m + 73
below_calls m = guess_below m (length (records_calls m)) (records_sum m)

pub above_calls : (m : ℕ) → 1048 * m ≤ 25 * length (records_calls m) + 25
above_calls m = guess_above m (length (records_calls m)) (records_sum m)

-- more records have no fewer calls
pub records_grow : (m d : ℕ) → length (records_calls m) ≤ length (records_calls (m + d))
records_grow m zero = let same : m ≡ m + 0 = omega arith in omega (arith, ap (λ k. length (records_calls k)) same)
records_grow m (suc d) =
    let same : m + d + 1 ≡ m + suc d = omega arith in
    omega (arith, records_grow m d, records_more (m + d), ap (λ k. length (records_calls k)) same)

-- fewer records stand before a call than there are
pub fewer_before : (n r place : ℕ) → place < length (records_calls n) → length (records_calls r) ≤ place → r < n
fewer_before n r place most least = cases (cases_lt r n)
  where
    cases : (r < n) ⊎ (n ≤ r) → r < n
    cases (inl below) = below
    cases (inr above) =
        let same : n + (r - n) ≡ r = omega arith in
        absurd (omega (arith, records_grow n (r - n), ap (λ k. length (records_calls k)) same))

-- the quotient is that record or one less
pub guess_least : (place guess : ℕ) → guess ≡ (25 * place - 73) / 1048 → length (records_calls guess) ≤ place
guess_least place guess e = cases (cases_lt (25 * place) 73)
  where
    cases : (25 * place < 73) ⊎ (73 ≤ 25 * place) → length (records_calls guess) ≤ place
    cases (inl low) =
        let first : guess ≡ 0 = omega arith in
        omega (arith, ap (λ k. length (records_calls k)) first, no_records)
    cases (inr high) = omega (arith, below_calls guess)

pub guess_most : (place guess : ℕ) → guess ≡ (25 * place - 73) / 1048 → place < length (records_calls (guess + 1 + 1))
guess_most place guess e = omega (arith, above_calls (guess + 1 + 1))

pub guess_small : (n place : ℕ) → place < length (records_calls n) → n < 2 ^ 32 → (25 * place < 2 ^ 44) × ((25 * place - 73) / 1048 + 1 < 2 ^ 40)
guess_small n place within small = (omega (arith, below_calls n), omega (arith, below_calls n))

-- which of the two it is
pub records_at : (n place rest called before : ℕ) → place < length (records_calls n) → rest ≡ 25 * place - 73 → called ≡ length (records_calls (rest / 1048 + 1))
    → ((called ≤ place) × (before ≡ rest / 1048 + 1)) ⊎ ((place < called) × (before ≡ rest / 1048))
    → (before < n) × ((length (records_calls before) ≤ place) × (place < length (records_calls (before + 1))))
records_at n place rest called before within e many (inl found) =
    let guess : rest / 1048 ≡ (25 * place - 73) / 1048 = ap (λ k. k / 1048) e in
    let here : length (records_calls before) ≡ called = ap (λ k. length (records_calls k)) found.1 ∙ sym many in
    let next : length (records_calls (before + 1)) ≡ length (records_calls (rest / 1048 + 1 + 1)) = ap (λ k. length (records_calls (k + 1))) found.1 in
    let least : length (records_calls before) ≤ place = omega (arith, here, found.0) in
    let most : place < length (records_calls (before + 1)) = omega (arith, next, guess_most place (rest / 1048) guess) in
    (fewer_before n before place within least, (least, most))
records_at n place rest called before within e many (inr found) =
    let guess : rest / 1048 ≡ (25 * place - 73) / 1048 = ap (λ k. k / 1048) e in
    let here : length (records_calls before) ≡ length (records_calls (rest / 1048)) = ap (λ k. length (records_calls k)) found.1 in
    let next : length (records_calls (before + 1)) ≡ called = ap (λ k. length (records_calls (k + 1))) found.1 ∙ sym many in
    let least : length (records_calls before) ≤ place = omega (arith, here, guess_least place (rest / 1048) guess) in
    let most : place < length (records_calls (before + 1)) = omega (arith, next, found.0) in
    (fewer_before n before place within least, (least, most))

inside : (r place start : ℕ) → length (records_calls r) ≡ start → start ≤ place → place < length (records_calls (r + 1)) → place - start < length (record_calls (r + 1))
inside r place start e least most = omega (arith, records_more r)

pub call_at : (n place r start : ℕ) → place < length (records_calls n) → length (records_calls r) ≡ start → start ≤ place → place < length (records_calls (r + 1))
    → slice_get (records_calls n) place ≡ slice_get (record_calls (r + 1)) (place - start)
unfolding records_calls
call_at n place r start within e least most =
    let turned : r + 1 ≡ 1 + r = omega arith in
    let behind : length (records_calls r) ≤ place = omega arith in
    get_piece record_calls 1 n r place start (fewer_before n r place within behind) e least
    (subst (λ k. place - start < length (record_calls k)) turned (inside r place start e least most))
    ∙ ap (λ k. slice_get (record_calls k) (place - start)) (sym turned)

-- ---- entries

no_entries : (walked : LoadIndex) → entries_in walked 0 ≡ 0
unfolding entries_in
no_entries walked = refl

entries_more : (walked : LoadIndex) (m : ℕ) → entries_in walked (m + 1) ≡ entries_in walked m + entries_of_record walked (m + 1)
unfolding entries_in
entries_more walked m =
    let same : m + 1 ≡ suc m = omega arith in
    let turned : 1 + m ≡ m + 1 = omega arith in
    ap (entries_in walked) same
    ∙ sum_more (entries_of_record walked) 1 m
    ∙ ap (λ k. entries_in walked m + entries_of_record walked k) turned

pub entries_primary : (m : ℕ) → entries_in index.Primary m ≡ m
entries_primary zero = no_entries index.Primary
entries_primary (suc m) =
    let same : m + 1 ≡ suc m = omega arith in
    subst (λ k. entries_in index.Primary k ≡ k) same (entries_more index.Primary m ∙ ap (λ k. k + 1) (entries_primary m))

pub entries_name : (m : ℕ) → entries_in index.Name m ≡ m
entries_name zero = no_entries index.Name
entries_name (suc m) =
    let same : m + 1 ≡ suc m = omega arith in
    subst (λ k. entries_in index.Name k ≡ k) same (entries_more index.Name m ∙ ap (λ k. k + 1) (entries_name m))

pub entries_note : (m : ℕ) → entries_in index.Note m ≡ 3 * m
entries_note zero = no_entries index.Note
entries_note (suc m) =
    let same : m + 1 ≡ suc m = omega arith in
    let more : entries_in index.Note (m + 1) ≡ entries_in index.Note m + 3 = entries_more index.Note m in
    let old : entries_in index.Note m ≡ 3 * m = entries_note m in
    let sum : entries_in index.Note (m + 1) ≡ 3 * (m + 1) = omega arith in
    subst (λ k. entries_in index.Note k ≡ 3 * k) same sum

mail_sum : (m : ℕ) → entries_in index.Mail m + m / 3 ≡ 2 * m + (m + 1) / 3
mail_sum zero = omega (arith, no_entries index.Mail)
mail_sum (suc m) =
    let same : m + 1 ≡ suc m = omega arith in
    let more : entries_in index.Mail (m + 1) ≡ entries_in index.Mail m + (1 + (m + 1) % 3) = entries_more index.Mail m in
    let old : entries_in index.Mail m + m / 3 ≡ 2 * m + (m + 1) / 3 = mail_sum m in
    let grown : (m + 1) % 3 + 2 * ((m + 1) / 3) ≡ 1 + (m + 1 + 1) / 3 + m / 3 = third_step m in
    let sum : entries_in index.Mail (m + 1) + (m + 1) / 3 ≡ 2 * (m + 1) + (m + 1 + 1) / 3 = omega arith in
    subst (λ k. entries_in index.Mail k + k / 3 ≡ 2 * k + (k + 1) / 3) same sum

group_step : (e g m tenth a b : ℕ) → e + a ≡ m → g ≡ e + tenth → tenth + b ≡ 1 + a → g + b ≡ m + 1
group_step e g m tenth a b p q r = omega arith

group_sum : (m : ℕ) → entries_in index.Group m + m / 10 ≡ m
group_sum zero = omega (arith, no_entries index.Group)
group_sum (suc m) =
    let same : m + 1 ≡ suc m = omega arith in
    subst (λ k. entries_in index.Group k + k / 10 ≡ k) same
    (group_step (entries_in index.Group m) (entries_in index.Group (m + 1)) m (if (m + 1) % 10 == 0 then 0 else 1) (m / 10) ((m + 1) / 10)
    (group_sum m) (entries_more index.Group m) (tenth_step m))

conditional_sum : (m : ℕ) → entries_in index.Conditional m + m / 10 ≡ m
conditional_sum zero = omega (arith, no_entries index.Conditional)
conditional_sum (suc m) =
    let same : m + 1 ≡ suc m = omega arith in
    subst (λ k. entries_in index.Conditional k + k / 10 ≡ k) same
    (group_step (entries_in index.Conditional m) (entries_in index.Conditional (m + 1)) m (if (m + 1) % 10 == 0 then 0 else 1) (m / 10) ((m + 1) / 10)
    (conditional_sum m) (entries_more index.Conditional m) (tenth_step m))

pub entries_mail : (m : ℕ) → entries_in index.Mail m ≡ 2 * m + (m + 1) / 3 - m / 3
entries_mail m = omega (arith, mail_sum m)

pub entries_group : (m : ℕ) → entries_in index.Group m ≡ m - m / 10
entries_group m = omega (arith, group_sum m)

pub entries_conditional : (m : ℕ) → entries_in index.Conditional m ≡ m - m / 10
entries_conditional m = omega (arith, conditional_sum m)

pub ruleset entries = (entries_primary, entries_name, entries_mail, entries_group, entries_note, entries_conditional)

pub entries_small : (walked : LoadIndex) (m : ℕ) → entries_in walked m ≤ 3 * m
entries_small index.Primary m = omega (arith, entries_primary m)
entries_small index.Name m = omega (arith, entries_name m)
entries_small index.Mail m = omega (arith, entries_mail m)
entries_small index.Group m = omega (arith, entries_group m)
entries_small index.Note m = omega (arith, entries_note m)
entries_small index.Conditional m = omega (arith, entries_conditional m)

pub ruleset entries_bound = entries_small

pub entries_fit : (walked : LoadIndex) (n e : ℕ) → e ≡ entries_in walked n → n < 2 ^ 32 → 2 + e ≤ 2 ^ 34
entries_fit walked n e same small = omega (arith, same, entries_small walked n)

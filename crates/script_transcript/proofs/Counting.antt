-- The head of a line and that of the next number: the last digit alone differs, unless it is 9.
use Rattle.std.proofs.Common.{◌≡◌, ◌∙◌, ⊎_elim, sym, ap, subst, ℕ, ◌+◌, ◌-◌, ◌/◌, ◌%◌, ◌^◌, ◌<◌, ◌≤◌, List, [], ◌∷◌, ◌++◌, length, get_or, set, append_assoc, arith}
use Rattle.std.proofs.Math.Seq.{set-append_seam, get_or-append_seam}
use Rattle.std.specs.Fmt.{decimal}
use Rattle.std.proofs.lemmas.Fmt.{decimal_step, decimal_digit}
use Rattle.std.proofs.lemmas.List.{length-append}
use Rattle.std.proofs.lemmas.Bool.{cases_lt}
use Rattle.script_transcript.specs.TranscriptLine.{line_head}

-- the digits of a number before its last one, with which those of the next number begin too unless the last one is 9
Split : ℕ → Type 0
Split n = (front : List ℕ) × (decimal n ≡ front ++ (48 + n % 10) ∷ []) × (n % 10 < 9 → n + 1 < 2 ^ 64 → decimal (n + 1) ≡ front ++ (48 + n % 10 + 1) ∷ [])

split_small : (n : ℕ) → n < 10 → Split n
unfolding Split
split_small n low =
    let self : n ≡ n % 10 = omega (arith, low) in (
      [],
      decimal_digit n low ∙ ap (λ (d : ℕ). (48 + d) ∷ []) self,
      λ below more.
          let next_low : n + 1 < 10 = omega (arith, below, low) in
          let same : 48 + (n + 1) ≡ 48 + n % 10 + 1 = omega (arith, low) in
          decimal_digit (n + 1) next_low ∙ ap (λ (d : ℕ). d ∷ []) same,
    )

split_large : (n : ℕ) → 10 ≤ n → n < 2 ^ 64 → Split n
unfolding Split
split_large n above high = (
  decimal (n / 10),
  decimal_step n above high,
  λ below more.
      let next_above : 10 ≤ n + 1 = omega (arith, above) in
      let tens : (n + 1) / 10 ≡ n / 10 = omega (arith, below) in
      let ones : 48 + (n + 1) % 10 ≡ 48 + n % 10 + 1 = omega (arith, below) in
      decimal_step (n + 1) next_above more ∙ ap (λ (t : ℕ). decimal t ++ (48 + (n + 1) % 10) ∷ []) tens ∙ ap (λ (d : ℕ). decimal (n / 10) ++ d ∷ []) ones,
)

split : (n : ℕ) → n < 2 ^ 64 → Split n
split n high = ⊎_elim (split_small n) (λ (above : 10 ≤ n). split_large n above high) (cases_lt n 10)

-- a head of a session of one digit, with the last digit of its number told
head_split : (n s : ℕ) (front : List ℕ) (digit : ℕ) → s < 10 → decimal n ≡ front ++ digit ∷ [] → line_head n s ≡ front ++ digit ∷ 32 ∷ (48 + s) ∷ []
head_split n s front digit low is =
    let told : line_head n s ≡ (front ++ digit ∷ []) ++ 32 ∷ [] ++ decimal s = ap (λ (d : List ℕ). d ++ 32 ∷ [] ++ decimal s) is in
    let space : (front ++ digit ∷ []) ++ 32 ∷ [] ++ decimal s ≡ (front ++ digit ∷ []) ++ 32 ∷ decimal s = append_assoc (front ++ digit ∷ []) (32 ∷ []) (decimal s) in
    let split_off : (front ++ digit ∷ []) ++ 32 ∷ decimal s ≡ front ++ digit ∷ 32 ∷ decimal s = append_assoc front (digit ∷ []) (32 ∷ decimal s) in
    let one_digit : front ++ digit ∷ 32 ∷ decimal s ≡ front ++ digit ∷ 32 ∷ (48 + s) ∷ [] = ap (λ (d : List ℕ). front ++ digit ∷ 32 ∷ d) (decimal_digit s low) in
    told ∙ space ∙ split_off ∙ one_digit

third_last : (front : List ℕ) (a b c : ℕ) → length (front ++ a ∷ b ∷ c ∷ []) ≡ length front + 3
third_last front a b c = length-append front (a ∷ b ∷ c ∷ [])

-- what is told of the bytes of a head, and of the place of its number's last digit
pub record Counts (bytes : List ℕ) (n s : ℕ) : Type 0 where
  pub long : 3 ≤ length bytes
  pub digit : (d : ℕ) → get_or bytes (length bytes - 3) d ≡ 48 + n % 10
  pub next : n % 10 < 9 → n + 1 < 2 ^ 64 → set bytes (length bytes - 3) (48 + n % 10 + 1) ≡ line_head (n + 1) s

counts-of : (front : List ℕ) (n s : ℕ) → s < 10 → (n % 10 < 9 → n + 1 < 2 ^ 64 → decimal (n + 1) ≡ front ++ (48 + n % 10 + 1) ∷ []) → Counts (front ++ (48 + n % 10) ∷ 32 ∷ (48 + s) ∷ []) n s
counts-of front n s low next =
    let bytes = front ++ (48 + n % 10) ∷ 32 ∷ (48 + s) ∷ [] in
    let count : length bytes ≡ length front + 3 = third_last front (48 + n % 10) 32 (48 + s) in
    let at : length bytes - 3 ≡ length front = omega (arith, count) in
    record {
      long = omega (arith, count);
      digit = λ d. ap (λ (i : ℕ). get_or bytes i d) at ∙ get_or-append_seam front (48 + n % 10) (32 ∷ (48 + s) ∷ []) d;
      next = λ below more. ap (λ (i : ℕ). set bytes i (48 + n % 10 + 1)) at ∙ set-append_seam front (48 + n % 10) (32 ∷ (48 + s) ∷ []) (48 + n % 10 + 1)
          ∙ sym (head_split (n + 1) s front (48 + n % 10 + 1) low (next below more));
    }

pub counts : (bytes : List ℕ) (n s : ℕ) → bytes ≡ line_head n s → n < 2 ^ 64 → s < 10 → Counts bytes n s
unfolding Split
counts bytes n s is high low =
    let (front, now, next) = split n high in
    subst (λ (b : List ℕ). Counts b n s) (sym (is ∙ head_split n s front (48 + n % 10) low now)) (counts-of front n s low next)

-- the last digit of the number, read
pub digit_read : (bytes : List ℕ) (n s count digit : ℕ) → Counts bytes n s → count ≡ length bytes → digit ≡ get_or bytes (count - 3) digit → digit ≡ 48 + n % 10
digit_read bytes n s count digit is counted read = read ∙ ap (λ (k : ℕ). get_or bytes (k - 3) digit) counted ∙ is.digit digit

-- the last digit of the number, one higher
pub digit_raised : (bytes : List ℕ) (n s count digit : ℕ) → Counts bytes n s → count ≡ length bytes → digit ≡ get_or bytes (count - 3) digit → (digit ≡ 57 → ⊥) → n + 1 < 2 ^ 64
    → set bytes (count - 3) (digit + 1) ≡ line_head (n + 1) s
digit_raised bytes n s count digit is counted read other more =
    let told = digit_read bytes n s count digit is counted read in
    let below : n % 10 < 9 = omega (arith, told, other) in
    ap (λ (k : ℕ). set bytes (k - 3) (digit + 1)) counted ∙ ap (λ (d : ℕ). set bytes (length bytes - 3) (d + 1)) told ∙ is.next below more

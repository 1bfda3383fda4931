-- The bytes of hexadecimal digits, pair by pair.
use Rattle.std.proofs.Common.{◌≡◌, ℕ, ◌<◌, ◌≤◌, Option, Some, None, List, [], ◌∷◌, ◌++◌, length, ◌-◌, take, drop, get_or, refl, sym, ap, ◌∙◌, arith, append_assoc}
use Rattle.std.specs.Option.{option_map}
use Rattle.script_words.proofs.Cuts.{tail_slice}
use Rattle.script_words.specs.Words.{◌>>=◌, byte_of, hex_bytes_of}

hex_bytes_of-pair : (high low : ℕ) (rest : List ℕ) → hex_bytes_of (high ∷ low ∷ rest) ≡ (byte_of high low >>= λ byte. hex_bytes_of rest >>= λ bytes. Some (byte ∷ bytes))
unfolding hex_bytes_of
hex_bytes_of-pair high low rest = refl

push_front : (front : List ℕ) (byte : ℕ) (rest : Option (List ℕ)) → option_map (λ (more : List ℕ). (front ++ byte ∷ []) ++ more) rest ≡ option_map (λ (more : List ℕ). front ++ more) (rest >>= λ bytes. Some (byte ∷ bytes))
push_front front byte None = refl
push_front front byte (Some more) = ap Some (append_assoc front (byte ∷ []) more)

-- one pair read: its byte goes to those so far
pub hex_pair : (front xs : List ℕ) (byte : ℕ) (all : Option (List ℕ)) → 2 ≤ length xs → byte_of (get_or xs 0 0) (get_or xs 1 0) ≡ Some byte
    → option_map (λ (more : List ℕ). front ++ more) (hex_bytes_of xs) ≡ all → option_map (λ (more : List ℕ). (front ++ byte ∷ []) ++ more) (hex_bytes_of (drop 2 xs)) ≡ all
hex_pair front [] byte all long is kept = absurd (omega arith)
hex_pair front (a ∷ []) byte all long is kept = absurd (omega arith)
hex_pair front (a ∷ b ∷ xs) byte all long is kept =
    push_front front byte (hex_bytes_of xs)
    ∙ ap (λ (o : Option ℕ). option_map (λ (more : List ℕ). front ++ more) (o >>= λ byte. hex_bytes_of xs >>= λ bytes. Some (byte ∷ bytes))) (sym is)
    ∙ ap (option_map (λ (more : List ℕ). front ++ more)) (sym (hex_bytes_of-pair a b xs))
    ∙ kept

-- a pair that is no byte makes all of it none
pub hex_pair_bad : (front xs : List ℕ) (all : Option (List ℕ)) → 2 ≤ length xs → byte_of (get_or xs 0 0) (get_or xs 1 0) ≡ None
    → option_map (λ (more : List ℕ). front ++ more) (hex_bytes_of xs) ≡ all → all ≡ None
hex_pair_bad front [] all long is kept = absurd (omega arith)
hex_pair_bad front (a ∷ []) all long is kept = absurd (omega arith)
hex_pair_bad front (a ∷ b ∷ xs) all long is kept =
    sym kept
    ∙ ap (option_map (λ (more : List ℕ). front ++ more)) (hex_bytes_of-pair a b xs)
    ∙ ap (λ (o : Option ℕ). option_map (λ (more : List ℕ). front ++ more) (o >>= λ byte. hex_bytes_of xs >>= λ bytes. Some (byte ∷ bytes))) is

-- so does a digit without another
pub hex_odd : (front xs : List ℕ) (all : Option (List ℕ)) → 0 < length xs → length xs < 2
    → option_map (λ (more : List ℕ). front ++ more) (hex_bytes_of xs) ≡ all → all ≡ None
unfolding hex_bytes_of
hex_odd front [] all some few kept = absurd (omega arith)
hex_odd front (a ∷ []) all some few kept = sym kept
hex_odd front (a ∷ b ∷ xs) all some few kept = absurd (omega arith)

append_nil : (xs : List ℕ) → xs ++ [] ≡ xs
append_nil [] = refl
append_nil (x ∷ xs) = ap (λ (rest : List ℕ). x ∷ rest) (append_nil xs)

-- where no digit is left, the bytes so far are all of them
pub hex_end : (front xs : List ℕ) (all : Option (List ℕ)) → length xs ≡ 0
    → option_map (λ (more : List ℕ). front ++ more) (hex_bytes_of xs) ≡ all → all ≡ Some front
unfolding hex_bytes_of
hex_end front [] all empty kept = sym kept ∙ ap Some (append_nil front)
hex_end front (a ∷ xs) all empty kept = absurd (omega arith)

-- the same, as the code has it: the bytes with one more, and the slice behind the pair
pub hex_pair_next : (front items xs tail : List ℕ) (byte : ℕ) (all : Option (List ℕ)) → 2 ≤ length xs → byte_of (get_or xs 0 0) (get_or xs 1 0) ≡ Some byte
    → option_map (λ (more : List ℕ). front ++ more) (hex_bytes_of xs) ≡ all → items ≡ front ++ byte ∷ [] → tail ≡ take (length xs - 2) (drop 2 xs)
    → option_map (λ (more : List ℕ). items ++ more) (hex_bytes_of tail) ≡ all
hex_pair_next front items xs tail byte all long is kept pushed cut =
    ap (λ (bs : List ℕ). option_map (λ (more : List ℕ). bs ++ more) (hex_bytes_of tail)) pushed
    ∙ ap (λ (ds : List ℕ). option_map (λ (more : List ℕ). (front ++ byte ∷ []) ++ more) (hex_bytes_of ds)) (cut ∙ tail_slice 2 xs)
    ∙ hex_pair front xs byte all long is kept

pub ruleset pairs = (hex_pair, hex_pair_bad, hex_odd, hex_end)

-- What stands of a key after more bytes are given.
use Rattle.std.proofs.Common.{◌≡◌, ℕ, suc, zero, ◌<◌, ◌≤◌, Bool, false, ◌||◌, nat_eq, true≢false, Some, List, [], ◌∷◌, ◌++◌, length, take, drop, map, replicate, refl, sym, ap, ◌∙◌, arith, append_assoc, length-append, length-take}
use Rattle.std.proofs.lemmas.List.{append-nil, length-map, map-append, take-map, drop-map, drop-replicate}
use Rattle.std.proofs.lemmas.List.Sums.{fold-append}
use Rattle.jet_base.specs.declared.words.ColType.{ColType}
use Rattle.key_normal.specs.KeyBytes.{in_groups, cut_key, is_cut, segment_bytes, value_bytes, in_direction}
use Rattle.key_normal.specs.KeySoFar.{KeySoFar, key_so_far, with_byte, with_bytes}
use Rattle.key_normal.specs.Spelling.{spelled}
use Rattle.key_normal.proofs.Groups.{in_groups-long, in_groups-short}

take-front : (most : ℕ) (given more : List ℕ) → take most (take most given ++ more) ≡ take most (given ++ more)
take-front zero given more = refl
take-front (suc most) [] more = refl
take-front (suc most) (x ∷ given) more = ap (λ r. x ∷ r) (take-front most given more)

lost-front : (most : ℕ) (given : List ℕ) (byte : ℕ) → (is_cut most given || is_cut most (cut_key most given ++ byte ∷ [])) ≡ is_cut most (given ++ byte ∷ [])
lost-front most given byte = simp (length-append, length-take) (grind arith)

with_byte-key_so_far : (most : ℕ) (given : List ℕ) (byte : ℕ) → with_byte (key_so_far most given) byte ≡ key_so_far most (given ++ byte ∷ [])
with_byte-key_so_far most given byte = λ i. record { most = most; bytes = take-front most given (byte ∷ []) i; lost = lost-front most given byte i }

-- bytes that are given one after the other are given together
pub with_bytes_key_so_far : (most : ℕ) (given more : List ℕ) → with_bytes (key_so_far most given) more ≡ key_so_far most (given ++ more)
with_bytes_key_so_far most given [] = ap (key_so_far most) (sym (append-nil given))
with_bytes_key_so_far most given (byte ∷ more) =
    ap (λ k. with_bytes k more) (with_byte-key_so_far most given byte) ∙ with_bytes_key_so_far most (given ++ byte ∷ []) more ∙ ap (key_so_far most) (append_assoc given (byte ∷ []) more)

-- a group of eight bytes, and that more follows
pub with_bytes_group : (f sp : ℕ → ℕ) (key : KeySoFar) (xs : List ℕ) → 8 < length xs
    → with_bytes (with_byte (with_bytes key (map f (map sp (take 8 xs)))) (f 9)) (map f (in_groups (map sp (drop 8 xs)))) ≡ with_bytes key (map f (in_groups (map sp xs)))
with_bytes_group f sp key xs long =
    let longer : 8 < length (map sp xs) = rw length-map long in
    rw (in_groups-long (map sp xs) longer, map-append f (take 8 (map sp xs)) (9 ∷ in_groups (drop 8 (map sp xs))), fold-append, take-map, drop-map)

pub unchanged : (xs : List ℕ) → map (spelled false) xs ≡ xs
unchanged [] = refl
unchanged (x ∷ xs) = ap (λ r. x ∷ r) (unchanged xs)

-- the last group, filled up with zeros, and how much of it is used
pub with_bytes_last_group : (f sp : ℕ → ℕ) (key : KeySoFar) (xs : List ℕ) → length xs ≤ 8
    → with_byte (with_bytes (with_bytes key (map f (map sp xs))) (map f (map (spelled false) (drop (length xs) (replicate 8 0))))) (f (length xs)) ≡ with_bytes key (map f (in_groups (map sp xs)))
with_bytes_last_group f sp key xs short =
    let shorter : length (map sp xs) ≤ 8 = rw length-map short in
    rw (in_groups-short (map sp xs) shorter, length-map, unchanged, drop-replicate) (simp (map-append, fold-append))

-- the segment of a value that has a byte
pub segment_of_value : (kind : ColType) (xs : List ℕ) (descending nulls_high : Bool) → nat_eq (length xs) 0 ≡ false → segment_bytes kind (Some xs) descending nulls_high ≡ map (in_direction descending) (127 ∷ value_bytes kind xs)
segment_of_value kind [] descending nulls_high some = absurd (true≢false some)
segment_of_value kind (x ∷ xs) descending nulls_high some = refl

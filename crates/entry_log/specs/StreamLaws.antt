-- Laws of a stream and of what is kept of it.
use Rattle.std.proofs.Common.{◌≡◌, ℕ, zero, suc, ◌+◌, ◌-◌, ◌≤◌, List, [], ◌∷◌, ◌++◌, drop, length, max, refl, sym, ap, ◌∙◌, arith}
use Rattle.std.proofs.lemmas.List.{length-append, length-drop}
use Rattle.entry_log.specs.LogState.{IsKeptOf, KeptStream, appended, bytes_from, empty_stream, stream_end, trimmed_to}

drop-append : (n : ℕ) (xs ys : List ℕ) → n ≤ length xs → drop n (xs ++ ys) ≡ drop n xs ++ ys
drop-append zero xs ys le = refl
drop-append (suc n) [] ys le = absurd (omega arith)
drop-append (suc n) (x ∷ xs) ys le = drop-append n xs ys (omega arith)

abbrev nothing : List ℕ
nothing = []

nothing_dropped : (n : ℕ) → drop n nothing ≡ nothing
nothing_dropped zero = refl
nothing_dropped (suc n) = refl

drop-drop : (n m k : ℕ) (xs : List ℕ) → k ≡ m + n → drop n (drop m xs) ≡ drop k xs
drop-drop n zero k xs e = let same : n ≡ k = omega arith in ap (λ (j : ℕ). drop j xs) same
drop-drop n (suc m) k [] e = nothing_dropped n ∙ sym (nothing_dropped k)
drop-drop n (suc m) zero (x ∷ xs) e = absurd (omega arith)
drop-drop n (suc m) (suc k) (x ∷ xs) e = drop-drop n m k xs (omega arith)

pub first_stream : IsKeptOf [] empty_stream
first_stream = record { within = omega arith; bytes_are = refl }

pub goes_on : (whole bytes : List ℕ) (stream : KeptStream) → IsKeptOf whole stream → IsKeptOf (whole ++ bytes) (appended bytes stream)
goes_on whole bytes stream kept = record {
  within = omega (arith, kept.within, length-append whole bytes);
  bytes_are = ap (λ (xs : List ℕ). xs ++ bytes) kept.bytes_are ∙ sym (drop-append stream.from whole bytes kept.within);
}

pub ends_with : (whole : List ℕ) (stream : KeptStream) → IsKeptOf whole stream → stream_end stream ≡ length whole
ends_with whole stream kept = omega (arith, ap length kept.bytes_are, length-drop stream.from whole, kept.within)

pub read_from : (whole : List ℕ) (position : ℕ) (stream : KeptStream) → IsKeptOf whole stream → stream.from ≤ position → bytes_from position stream ≡ drop position whole
read_from whole position stream kept le =
    ap (λ (xs : List ℕ). drop (position - stream.from) xs) kept.bytes_are
    ∙ drop-drop (position - stream.from) stream.from position whole (omega arith)

pub trimmed_stream : (whole : List ℕ) (position : ℕ) (stream : KeptStream) → IsKeptOf whole stream → position ≤ stream_end stream → IsKeptOf whole (trimmed_to position stream)
trimmed_stream whole position stream kept le = record {
  within = omega (arith, kept.within, le, ends_with whole stream kept);
  bytes_are = ap (λ (xs : List ℕ). drop (position - stream.from) xs) kept.bytes_are ∙ drop-drop (position - stream.from) stream.from (max stream.from position) whole (omega arith);
}

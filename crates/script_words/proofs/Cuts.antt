-- The first part of a text, by the place where it ends.
use Rattle.std.proofs.Common.{◌≡◌, ℕ, ◌+◌, ◌-◌, ◌<◌, ◌≤◌, Bool, true, false, cond, not, Some, None, List, [], ◌∷◌, length, take, drop, refl, sym, ap, ◌∙◌, arith}
use Rattle.std.specs.Prelude.{nat_lt, ◌==◌, Option}
use Rattle.std.specs.List.{slice_split, onto_first, position, position_or_len}
use Rattle.std.proofs.Math.Seq.{take-length}
use Rattle.std.proofs.lemmas.List.{length-drop}
use Rattle.std.proofs.lemmas.List.Splits.{slice_split_first}
use Rattle.std.proofs.lemmas.Bool.Decides.{nat_tests}
use Rattle.std.proofs.lemmas.List.Sums.{prefix_len_is}
use Rattle.std.proofs.lemmas.Bool.{not_from_true}
use Rattle.memchr.specs.Find.{IsFirstByte, is_byte}
use Rattle.script_words.specs.Words.{is_empty_list}

whole_from : {X : Type 0} (x : X) (xs : List X) (rest : ℕ) (parts : List (List X)) (passes : Bool) → (length xs ≤ rest → parts ≡ xs ∷ []) → length (x ∷ xs) ≤ cond (not passes) (1 + rest) 0
    → cond passes ([] ∷ parts) (onto_first x parts) ≡ (x ∷ xs) ∷ []
whole_from x xs rest parts true others h = absurd (omega arith)
whole_from x xs rest parts false others h = ap (onto_first x) (others (omega arith))

-- where the separator does not stand, the text is the one part
slice_split-whole : {X : Type 0} (p : X → Bool) (xs : List X) → length xs ≤ position_or_len p xs → slice_split p xs ≡ xs ∷ []
slice_split-whole p [] h = refl
slice_split-whole p (x ∷ xs) h = whole_from x xs (position_or_len p xs) (slice_split p xs) (p x) (slice_split-whole p xs) h

where_found : (b : Bool) (i end : ℕ) → cond b (Some i) None ≡ Some end → (b ≡ true) × (i ≡ end)
where_found true i end h = (refl, cc)
where_found false i end h = absurd cc

where_none : (b : Bool) (i : ℕ) → cond b (Some i) None ≡ None → b ≡ false
where_none true i h = absurd cc
where_none false i h = refl

-- where the separator stands, the first part ends there, and the others stand behind it
pub slice_split-found : (p : ℕ → Bool) (xs : List ℕ) (end : ℕ) → position p xs ≡ Some end → slice_split p xs ≡ take end xs ∷ slice_split p (drop (end + 1) xs)
slice_split-found p xs end h =
    let (below, here) = where_found (nat_lt (position_or_len p xs) (length xs)) (position_or_len p xs) end h in
    let inside : position_or_len p xs < length xs = grind (arith, nat_tests) in
    rw here at (slice_split_first p xs 0 inside)

-- where it does not, the text is the one part
pub slice_split-none : (p : ℕ → Bool) (xs : List ℕ) → position p xs ≡ None → slice_split p xs ≡ xs ∷ []
slice_split-none p xs h =
    let beyond : nat_lt (position_or_len p xs) (length xs) ≡ false = where_none (nat_lt (position_or_len p xs) (length xs)) (position_or_len p xs) h in
    slice_split-whole p xs (grind (arith, nat_tests))

part_from : (x : ℕ) (passes : Bool) (parts : List (List ℕ)) → is_empty_list (cond passes ([] ∷ parts) (onto_first x parts)) ≡ false
part_from x true parts = refl
part_from x false [] = refl
part_from x false (part ∷ parts) = refl

-- a text has a part
pub has_part : (p : ℕ → Bool) (xs : List ℕ) → is_empty_list (slice_split p xs) ≡ false
has_part p [] = refl
has_part p (x ∷ xs) = part_from x (p x) (slice_split p xs)

not_passed : (b : Bool) → (b ≡ true → ⊥) → not b ≡ true
not_passed true h = absurd (h refl)
not_passed false h = refl

position_none : (p : ℕ → Bool) (xs : List ℕ) → length xs ≤ position_or_len p xs → None ≡ position p xs
position_none p xs h =
    let beyond : nat_lt (position_or_len p xs) (length xs) ≡ false = grind (arith, nat_tests) in
    rw beyond refl

position_some : (p : ℕ → Bool) (xs : List ℕ) (k : ℕ) → position_or_len p xs ≡ k → k < length xs → Some k ≡ position p xs
position_some p xs k here inside =
    let within : nat_lt (position_or_len p xs) (length xs) ≡ true = grind (arith, nat_tests) in
    rw within (ap Some (sym here))

-- what a search for a byte finds is its first place
pub first_byte : (byte : ℕ) (text : List ℕ) (found : Option ℕ) → IsFirstByte (is_byte byte) text found → found ≡ position (λ b. b == byte) text
first_byte byte text None nowhere =
    let all : position_or_len (λ b. b == byte) text ≡ length text =
    prefix_len_is (λ b. not (b == byte)) text (length text) 0 (omega arith) (λ k h. not_passed _ (nowhere k (omega arith) h)) (λ h. absurd (omega arith)) in
    position_none (λ b. b == byte) text (omega arith)
first_byte byte text (Some k) (first, here) =
    let inside : k < length text = first.high in
    let at : position_or_len (λ b. b == byte) text ≡ k =
    prefix_len_is (λ b. not (b == byte)) text k 0 (omega arith) (λ j h. not_passed _ (first.before j (omega arith) h)) (λ h. not_from_true _ here) in
    position_some (λ b. b == byte) text k at inside

pub ruleset first_bytes = first_byte

pub ruleset cuts = (slice_split-found, slice_split-none, has_part)

-- what `&xs[i..]` gives
pub tail_slice : (i : ℕ) (xs : List ℕ) → take (length xs - i) (drop i xs) ≡ drop i xs
tail_slice i xs = ap (λ n. take n (drop i xs)) (sym (length-drop i xs)) ∙ take-length (drop i xs)

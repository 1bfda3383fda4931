-- No key of values of the columns' types is a proper front of another, cut or not.
use Rattle.std.proofs.Common.{◌≡◌, ℕ, ◌+◌, ◌≤◌, Bool, List, [], ◌∷◌, ◌++◌, length, take, drop, Option, refl, sym, ap, ◌∙◌, inl, inr, arith, append_assoc, append-nil, take-append-drop, length-take, length-append, take_all}
use Rattle.std.proofs.lemmas.Bool.{cases_lt}
use Rattle.std.proofs.lemmas.List.{nil_from_length}
use Rattle.key_normal.specs.KeyBytes.{KeyColumn, key_bytes, segment_bytes}
use Rattle.laws_versions.proofs.IndexLemmas.Segments.{IsOfType, same_segments}

-- a value or NULL of its type for each column
abbrev pub AreOfTypes : List KeyColumn → List (Option (List ℕ)) → Type 0
AreOfTypes [] [] = Unit {0}
AreOfTypes (column ∷ columns) (value ∷ values) = IsOfType column.kind value × AreOfTypes columns values
AreOfTypes _ _ = ⊥

pub same_rest : (columns : List KeyColumn) (nulls_high : Bool) (xs ys : List (Option (List ℕ))) (one other : List ℕ) → AreOfTypes columns xs → AreOfTypes columns ys
    → key_bytes columns nulls_high xs ++ one ≡ key_bytes columns nulls_high ys ++ other → one ≡ other
same_rest [] nulls_high [] [] one other h k e = e
same_rest (column ∷ columns) nulls_high (x ∷ xs) (y ∷ ys) one other h k e =
    let first = segment_bytes column.kind x column.descending nulls_high in
    let second = segment_bytes column.kind y column.descending nulls_high in
    let parted : first ++ (key_bytes columns nulls_high xs ++ one) ≡ second ++ (key_bytes columns nulls_high ys ++ other) =
    sym (append_assoc first (key_bytes columns nulls_high xs) one) ∙ e ∙ append_assoc second (key_bytes columns nulls_high ys) other in
    same_rest columns nulls_high xs ys one other h.1 k.1
    (same_segments column.kind x y column.descending nulls_high (key_bytes columns nulls_high xs ++ one) (key_bytes columns nulls_high ys ++ other) h.0 k.0 parted).1
same_rest [] nulls_high (x ∷ xs) ys one other h k e = absurd h
same_rest [] nulls_high [] (y ∷ ys) one other h k e = absurd k
same_rest (column ∷ columns) nulls_high [] ys one other h k e = absurd h
same_rest (column ∷ columns) nulls_high (x ∷ xs) [] one other h k e = absurd k

whole : (most : ℕ) (x y rest : List ℕ) → ((one other : List ℕ) → x ++ one ≡ y ++ other → one ≡ other) → length x ≤ most → take most y ≡ take most x ++ rest → rest ≡ []
whole most x y rest apart short e =
    let left = drop most y in
    let behind : x ++ (rest ++ left) ≡ y ++ [] =
    sym (append_assoc x rest left) ∙ ap (λ b. (b ++ rest) ++ left) (sym (take_all most x short)) ∙ ap (λ b. b ++ left) (sym e) ∙ take-append-drop most y ∙ sym (append-nil y) in
    front_nothing rest left (apart (rest ++ left) [] behind)
  where
    front_nothing : (xs ys : List ℕ) → xs ++ ys ≡ [] → xs ≡ []
    front_nothing [] ys e = refl
    front_nothing (x ∷ xs) ys e = cc

cut : (most : ℕ) (x y rest : List ℕ) → most ≤ length x → take most y ≡ take most x ++ rest → rest ≡ []
cut most x y rest long e =
    let lengths : length (take most y) ≡ length (take most x) + length rest = ap length e ∙ length-append (take most x) rest in
    nil_from_length rest (omega (arith, lengths, length-take most x, length-take most y))

pub apart_keys : (columns : List KeyColumn) (nulls_high : Bool) (most : ℕ) (xs ys : List (Option (List ℕ))) (rest : List ℕ) → AreOfTypes columns xs → AreOfTypes columns ys
    → take most (key_bytes columns nulls_high ys) ≡ take most (key_bytes columns nulls_high xs) ++ rest → rest ≡ []
apart_keys columns nulls_high most xs ys rest h k e =
    let x = key_bytes columns nulls_high xs in
    let y = key_bytes columns nulls_high ys in
    elim (cases_lt (length x) most) [
      | inl short ↦ whole most x y rest (λ one other same. same_rest columns nulls_high xs ys one other h k same) (omega arith) e
      | inr long ↦ cut most x y rest long e
    ]

-- The parts of a record's texts, row by row.
use Rattle.std.proofs.Common.{◌≡◌, ℕ, ◌+◌, ◌-◌, suc, List, [], ◌∷◌, ◌++◌, length, get_or, take, drop, map, refl, sym, ap, ◌∙◌, arith, add-one}
use Rattle.std.specs.Prelude.{Some, flat_map}
use Rattle.index_derive.specs.Entries.{KeyValues, parts_of_text}
use Rattle.index_derive.specs.Walks.{from_on, rows_from}
use Rattle.index_derive.proofs.Combining.{map_from, from_later, rows_later}

-- the part from a start on
abbrev part_from : List ℕ → ℕ → List ℕ
part_from text k = take 10 (drop k text)

part_later : (a : ℕ) (text : List ℕ) (k : ℕ) → part_from (a ∷ text) (k + 1) ≡ part_from text k
part_later a text k = ap (part_from (a ∷ text)) (add-one k)

parts_are : (text : List ℕ) → parts_of_text text ≡ from_on (part_from text) 0 (length text - 2)
parts_are [] = refl
parts_are (a ∷ []) = refl
parts_are (a ∷ b ∷ []) = refl
parts_are (a ∷ b ∷ c ∷ rest) =
    let text = b ∷ c ∷ rest in
    let n = length rest in
    let shorter : suc (suc n) - 2 ≡ n = omega arith in
    let longer : suc n ≡ suc (suc (suc n)) - 2 = omega arith in
    ap (λ r. take 10 (a ∷ text) ∷ r)
    (parts_are (b ∷ c ∷ rest) ∙ ap (from_on (part_from text) 0) shorter ∙ (λ i. from_on (λ k. sym (part_later a text k) i) 0 n) ∙ sym (from_later (part_from (a ∷ text)) 0 n))
    ∙ ap (from_on (part_from (a ∷ text)) 0) longer

-- a row for each element
pub rows_are : {V X : Type 0} (f : V → ℕ → X) (len : V → ℕ) (h : V → List X) (d : V) → ((v : V) → h v ≡ from_on (f v) 0 (len v))
    → (vs : List V) → flat_map h vs ≡ rows_from (λ r. f (get_or vs r d)) (λ r. len (get_or vs r d)) 0 (length vs)
rows_are f len h d same [] = refl
rows_are f len h d same (v ∷ vs) =
    let later : (r : ℕ) → get_or (v ∷ vs) (r + 1) d ≡ get_or vs r d = λ r. ap (λ k. get_or (v ∷ vs) k d) (add-one r) in
    (λ i. same v i ++ rows_are f len h d same vs i)
    ∙ ap (λ l. from_on (f v) 0 (len v) ++ l)
    ((λ i. rows_from (λ r. f (sym (later r) i)) (λ r. len (sym (later r) i)) 0 (length vs))
    ∙ sym (rows_later (λ r. f (get_or (v ∷ vs) r d)) (λ r. len (get_or (v ∷ vs) r d)) 0 (length vs)))

-- the parts of a value, each as the values of a key
abbrev part_values : List ℕ → List KeyValues
part_values value = map (λ part. Some part ∷ []) (parts_of_text (take 1024 value))

part_values_are : (value : List ℕ) → part_values value ≡ from_on (λ k. Some (part_from (take 1024 value) k) ∷ []) 0 (length (take 1024 value) - 2)
part_values_are value = ap (map (λ part. Some part ∷ [])) (parts_are (take 1024 value)) ∙ map_from (λ part. Some part ∷ []) (part_from (take 1024 value)) 0 (length (take 1024 value) - 2)

pub text_rows : (values : List (List ℕ)) → flat_map (λ value. map (λ part. Some part ∷ []) (parts_of_text (take 1024 value))) values
    ≡ rows_from (λ r k. Some (take 10 (drop k (take 1024 (get_or values r [])))) ∷ []) (λ r. length (take 1024 (get_or values r [])) - 2) 0 (length values)
text_rows values = rows_are (λ (v : List ℕ) k. Some (part_from (take 1024 v) k) ∷ []) (λ v. length (take 1024 v) - 2) part_values [] part_values_are values

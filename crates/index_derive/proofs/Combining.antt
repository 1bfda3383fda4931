-- The combinations of a record's values, row by row.
use Rattle.std.proofs.Common.{◌≡◌, ℕ, ◌+◌, ◌≤◌, suc, zero, Bool, true, false, ◌||◌, ◌&&◌, not, cond, max, List, [], ◌∷◌, ◌++◌, length, take, map, refl, sym, ap, ◌∙◌, arith, add-one}
use Rattle.std.specs.Prelude.{Option, Some, flat_map}
use Rattle.std.specs.Option.{option_map}
use Rattle.std.specs.List.{slice_get}
use Rattle.std.proofs.lemmas.List.{append-nil, map-append}
use Rattle.column_set.specs.RecordValues.{RecordFields, values_of}
use Rattle.index_derive.specs.declared.plan.KeyPart.{KeyPart}
use Rattle.index_derive.specs.Entries.{KeyValues, values_or_null, product}
use Rattle.index_derive.specs.Walks.{from_on, rows_from, value_at, combination_of, multi_count, behind_first_multi}

-- ---- lists of f of numbers

pub map_from : {X Y : Type 0} (h : X → Y) (f : ℕ → X) (a n : ℕ) → map h (from_on f a n) ≡ from_on (λ k. h (f k)) a n
map_from h f a zero = refl
map_from h f a (suc n) = ap (λ r. h (f a) ∷ r) (map_from h f (a + 1) n)

pub from_later : {X : Type 0} (f : ℕ → X) (a n : ℕ) → from_on f (a + 1) n ≡ from_on (λ k. f (k + 1)) a n
from_later f a zero = refl
from_later f a (suc n) = ap (λ r. f (a + 1) ∷ r) (from_later f (a + 1) n)

pub rows_later : {X : Type 0} (f : ℕ → ℕ → X) (len : ℕ → ℕ) (a n : ℕ) → rows_from f len (a + 1) n ≡ rows_from (λ r. f (r + 1)) (λ r. len (r + 1)) a n
rows_later f len a zero = refl
rows_later f len a (suc n) = ap (λ r. from_on (f (a + 1)) 0 (len (a + 1)) ++ r) (rows_later f len (a + 1) n)

map_rows : {X Y : Type 0} (h : X → Y) (f : ℕ → ℕ → X) (len : ℕ → ℕ) (a n : ℕ) → map h (rows_from f len a n) ≡ rows_from (λ r k. h (f r k)) len a n
map_rows h f len a zero = refl
map_rows h f len a (suc n) =
    map-append h (from_on (f a) 0 (len a)) (rows_from f len (a + 1) n)
    ∙ (λ i. map_from h (f a) 0 (len a) i ++ map_rows h f len (a + 1) n i)

-- ---- the values of a column

-- what the column's value at a place is seen as
abbrev seen : List (List ℕ) → ℕ → Option (List ℕ)
seen values k = option_map (take 255) (slice_get values k)

seen_later : (v : List ℕ) (values : List (List ℕ)) (k : ℕ) → seen (v ∷ values) (k + 1) ≡ seen values k
seen_later v values k = ap (seen (v ∷ values)) (add-one k)

seen_all : (values : List (List ℕ)) → map (λ v. Some (take 255 v)) values ≡ from_on (seen values) 0 (length values)
seen_all [] = refl
seen_all (v ∷ values) =
    ap (λ r. Some (take 255 v) ∷ r) (seen_all values ∙ (λ i. from_on (λ k. sym (seen_later v values k) i) 0 (length values)) ∙ sym (from_later (seen (v ∷ values)) 0 (length values)))

values_are : (values : List (List ℕ)) → values_or_null values ≡ from_on (seen values) 0 (max 1 (length values))
values_are [] = refl
values_are (v ∷ values) = let e : suc (length values) ≡ max 1 (suc (length values)) = omega arith in seen_all (v ∷ values) ∙ ap (from_on (seen (v ∷ values)) 0) e

first_is : (values : List (List ℕ)) → take 1 (values_or_null values) ≡ seen values 0 ∷ []
first_is [] = refl
first_is (v ∷ values) = refl

-- ---- a column in front of what the others bring

-- each of the values in front of each of the rest
abbrev fronted : List (Option (List ℕ)) → List KeyValues → List KeyValues
fronted xs rest = flat_map (λ x. map (λ ys. x ∷ ys) rest) xs

single_one : (values : List (List ℕ)) (rest : List KeyValues) (r : KeyValues) → rest ≡ r ∷ [] → fronted (take 1 (values_or_null values)) rest ≡ (seen values 0 ∷ r) ∷ []
single_one values rest r h = λ i. fronted (first_is values i) (h i)

single_is : (values : List (List ℕ)) (rest : List KeyValues) → fronted (take 1 (values_or_null values)) rest ≡ map (λ ys. seen values 0 ∷ ys) rest
single_is values rest = ap (λ xs. fronted xs rest) (first_is values) ∙ append-nil (map (λ ys. seen values 0 ∷ ys) rest)

single_from : (values : List (List ℕ)) (rest : List KeyValues) (g : ℕ → KeyValues) (n : ℕ) → rest ≡ from_on g 0 n → fronted (take 1 (values_or_null values)) rest ≡ from_on (λ k. seen values 0 ∷ g k) 0 n
single_from values rest g n h = single_is values rest ∙ ap (map (λ ys. seen values 0 ∷ ys)) h ∙ map_from (λ ys. seen values 0 ∷ ys) g 0 n

single_rows : (values : List (List ℕ)) (rest : List KeyValues) (f : ℕ → ℕ → KeyValues) (len : ℕ → ℕ) (n : ℕ) → rest ≡ rows_from f len 0 n
    → fronted (take 1 (values_or_null values)) rest ≡ rows_from (λ r k. seen values 0 ∷ f r k) len 0 n
single_rows values rest f len n h = single_is values rest ∙ ap (map (λ ys. seen values 0 ∷ ys)) h ∙ map_rows (λ ys. seen values 0 ∷ ys) f len 0 n

fronted_one : (h : ℕ → Option (List ℕ)) (r : KeyValues) (a n : ℕ) → fronted (from_on h a n) (r ∷ []) ≡ from_on (λ k. h k ∷ r) a n
fronted_one h r a zero = refl
fronted_one h r a (suc n) = ap (λ l. (h a ∷ r) ∷ l) (fronted_one h r (a + 1) n)

fronted_rows : (h : ℕ → Option (List ℕ)) (g : ℕ → KeyValues) (long a n : ℕ) → fronted (from_on h a n) (from_on g 0 long) ≡ rows_from (λ r k. h r ∷ g k) (λ _. long) a n
fronted_rows h g long a zero = refl
fronted_rows h g long a (suc n) = λ i. map_from (λ ys. h a ∷ ys) g 0 long i ++ fronted_rows h g long (a + 1) n i

every_one : (values : List (List ℕ)) (rest : List KeyValues) (r : KeyValues) → rest ≡ r ∷ [] → fronted (values_or_null values) rest ≡ from_on (λ k. seen values k ∷ r) 0 (max 1 (length values))
every_one values rest r h = (λ i. fronted (values_are values i) (h i)) ∙ fronted_one (seen values) r 0 (max 1 (length values))

every_from : (values : List (List ℕ)) (rest : List KeyValues) (g : ℕ → KeyValues) (n : ℕ) → rest ≡ from_on g 0 n
    → fronted (values_or_null values) rest ≡ rows_from (λ r k. seen values r ∷ g k) (λ _. n) 0 (max 1 (length values))
every_from values rest g n h = (λ i. fronted (values_are values i) (h i)) ∙ fronted_rows (seen values) g n 0 (max 1 (length values))

-- ---- the columns of a key

abbrev values_for : RecordFields → KeyPart → List (List ℕ)
values_for fields part = values_of fields part.column.0

-- the values with which each column takes part
abbrev pub lists_of : Bool → RecordFields → Bool → List KeyPart → List (List (Option (List ℕ)))
lists_of cross fields earlier [] = []
lists_of cross fields earlier (part ∷ parts) =
    cond (part.multi && (cross || not earlier)) (values_or_null (values_for fields part)) (take 1 (values_or_null (values_for fields part))) ∷ lists_of cross fields (earlier || part.multi) parts

-- how many columns are multi-valued
abbrev pub multis : List KeyPart → ℕ
multis [] = 0
multis (part ∷ parts) = cond part.multi (suc (multis parts)) (multis parts)

plain_behind : (fields : RecordFields) (ps : List KeyPart) → product (lists_of false fields true ps) ≡ combination_of ps fields 0 0 ∷ []
plain_behind fields [] = refl
plain_behind fields (p ∷ ps) =
    let rest = product (lists_of false fields true ps) in
    let one = single_one (values_for fields p) rest (combination_of ps fields 0 0) (plain_behind fields ps) in
    elim p.multi as (λ m. fronted (cond (m && false) (values_or_null (values_for fields p)) (take 1 (values_or_null (values_for fields p)))) rest ≡ elim m [ true ↦ value_at fields p.column.0 0 ∷ combination_of ps fields 0 0 | false ↦ value_at fields p.column.0 0 ∷ combination_of ps fields 0 0 ] ∷ []) [
      | true ↦ one
      | false ↦ one
    ]

-- without `crossproduct` each row has one combination
pub plain_rows : (fields : RecordFields) (ps : List KeyPart) → product (lists_of false fields false ps) ≡ rows_from (λ r k. combination_of ps fields r k) (λ _. 1) 0 (multi_count ps fields)
plain_rows fields [] = refl
plain_rows fields (p ∷ ps) =
    let values = values_for fields p in
    elim p.multi as (λ m. fronted (cond (m && true) (values_or_null values) (take 1 (values_or_null values))) (product (lists_of false fields m ps))
    ≡ rows_from (λ r k. elim m [ true ↦ value_at fields p.column.0 r ∷ combination_of ps fields k 0 | false ↦ value_at fields p.column.0 0 ∷ combination_of ps fields r k ]) (λ _. 1) 0 (cond m (max 1 (length values)) (multi_count ps fields))) [
      | true ↦ every_from values (product (lists_of false fields true ps)) (λ k. combination_of ps fields k 0) 1 (plain_behind fields ps)
      | false ↦ single_rows values (product (lists_of false fields false ps)) (λ r k. combination_of ps fields r k) (λ _. 1) (multi_count ps fields) (plain_rows fields ps)
    ]

crossed_none : (fields : RecordFields) (e : Bool) (a b : ℕ) (ps : List KeyPart) → multis ps ≤ 0 → product (lists_of true fields e ps) ≡ combination_of ps fields a b ∷ []
crossed_none fields e a b [] h = refl
crossed_none fields e a b (p ∷ ps) h =
    let values = values_for fields p in
    let rest = product (lists_of true fields (e || p.multi) ps) in
    elim p.multi as (λ m. cond m (suc (multis ps)) (multis ps) ≤ 0 → fronted (cond (m && true) (values_or_null values) (take 1 (values_or_null values))) rest
    ≡ elim m [ true ↦ value_at fields p.column.0 a ∷ combination_of ps fields b 0 | false ↦ value_at fields p.column.0 0 ∷ combination_of ps fields a b ] ∷ []) [
      | true ↦ λ few. absurd (omega arith)
      | false ↦ λ few. single_one values rest (combination_of ps fields a b) (crossed_none fields (e || p.multi) a b ps few)
    ] h

crossed_one : (fields : RecordFields) (e : Bool) (ps : List KeyPart) → multis ps ≤ 1 → product (lists_of true fields e ps) ≡ from_on (λ k. combination_of ps fields k 0) 0 (multi_count ps fields)
crossed_one fields e [] h = refl
crossed_one fields e (p ∷ ps) h =
    let values = values_for fields p in
    let rest = product (lists_of true fields (e || p.multi) ps) in
    elim p.multi as (λ m. cond m (suc (multis ps)) (multis ps) ≤ 1 → fronted (cond (m && true) (values_or_null values) (take 1 (values_or_null values))) rest
    ≡ from_on (λ k. elim m [ true ↦ value_at fields p.column.0 k ∷ combination_of ps fields 0 0 | false ↦ value_at fields p.column.0 0 ∷ combination_of ps fields k 0 ]) 0 (cond m (max 1 (length values)) (multi_count ps fields))) [
      | true ↦ λ few. every_one values rest (combination_of ps fields 0 0) (crossed_none fields (e || p.multi) 0 0 ps (omega arith))
      | false ↦ λ few. single_from values rest (λ k. combination_of ps fields k 0) (multi_count ps fields) (crossed_one fields (e || p.multi) ps few)
    ] h

-- with it each row has one for each value of the second multi-valued column
pub crossed_rows : (fields : RecordFields) (e : Bool) (ps : List KeyPart) → multis ps ≤ 2
    → product (lists_of true fields e ps) ≡ rows_from (λ r k. combination_of ps fields r k) (λ _. multi_count (behind_first_multi ps) fields) 0 (multi_count ps fields)
crossed_rows fields e [] h = refl
crossed_rows fields e (p ∷ ps) h =
    let values = values_for fields p in
    let rest = product (lists_of true fields (e || p.multi) ps) in
    elim p.multi as (λ m. cond m (suc (multis ps)) (multis ps) ≤ 2 → fronted (cond (m && true) (values_or_null values) (take 1 (values_or_null values))) rest
    ≡ rows_from (λ r k. elim m [ true ↦ value_at fields p.column.0 r ∷ combination_of ps fields k 0 | false ↦ value_at fields p.column.0 0 ∷ combination_of ps fields r k ]) (λ _. multi_count (cond m ps (behind_first_multi ps)) fields) 0 (cond m (max 1 (length values)) (multi_count ps fields))) [
      | true ↦ λ few. every_from values rest (λ k. combination_of ps fields k 0) (multi_count ps fields) (crossed_one fields (e || p.multi) ps (omega arith))
      | false ↦ λ few. single_rows values rest (λ r k. combination_of ps fields r k) (λ _. multi_count (behind_first_multi ps) fields) (multi_count ps fields) (crossed_rows fields (e || p.multi) ps few)
    ] h

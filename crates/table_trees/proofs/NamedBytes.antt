-- What the values of a row name, one after the other.
use Rattle.std.proofs.Common.{◌≡◌, ℕ, ◌<◌, ◌^◌, Bool, true, false, ◌||◌, ◌==◌, get_or, option_map, Option, Some, List, [], ◌∷◌, ◌++◌, refl, sym, ap, ◌∙◌, arith, true≢false}
use Rattle.std.specs.Prelude.{bytes_eq, nat_le, nat_lt}
use Rattle.std.specs.Int.{w32, w64, from_le_bytes}
use Rattle.std.proofs.lemmas.Bool.{eq-eqb, eqb-true, ltb-true}
use Rattle.std.proofs.lemmas.Nat.{from_le_bytes-to_le_bytes_4, from_le_bytes-to_le_bytes_8}
use Rattle.column_set.specs.OtherValues.{MayStand, StandIn}
use Rattle.long_value.specs.Stores.{id_bytes}
use Rattle.long_value.specs.declared.values.LongId.{LongId}
use Rattle.long_rows.proofs.Given.{IdLaw, bytes_differ}
use Rattle.long_rows.proofs.Kept.{and_four}
use Rattle.long_rows.proofs.WithoutColumn.{any_with}
use Rattle.std.specs.List.{flat_map, list_any}
use Rattle.common_lemmas.proofs.Booleans.{by_test}
use Rattle.column_set.specs.declared.rows.RowValue.{RowValue}
use Rattle.column_set.specs.declared.rows.RowValue.TheVariants.{Here, Apart}
use Rattle.column_set.specs.Rows.{value_bytes}
use Rattle.long_rows.specs.RowReferences.{identifier, named_by, with_identifier}
use Rattle.long_rows.proofs.Totals.{itself}
use Rattle.table_trees.specs.NamedValues.{is_name, name_of}

pub names_more : (k : List ℕ) (x : ℕ × RowValue) (xs : List (ℕ × RowValue)) → list_any (bytes_eq k) (named_by (x ∷ xs)) ≡ (is_name k (name_of x.1) || list_any (bytes_eq k) (named_by xs))
names_more k (column, Here bytes) xs = refl
names_more k (column, Apart entry place size) xs = any_with k (identifier entry place) (named_by xs)

-- ---- the first of some values

-- what is told of the first value where one is read
abbrev pub Told : List ℕ → Option (List ℕ) → List ℕ → Type 0
Told values named rest = (value : ℕ × RowValue) (behind : List ℕ) → MayStand value → values ≡ value_bytes value ++ behind → (named ≡ name_of value.1) × (rest ≡ behind)

pub names_first : (values : List ℕ) (named : Option (List ℕ)) (rest id : List ℕ) (b : Bool) → (values ≡ [] → ⊥) → Told values named rest → ((xs : List (ℕ × RowValue)) → StandIn rest xs → b ≡ (is_name id named || list_any (bytes_eq id) (named_by xs)))
    → (xs : List (ℕ × RowValue)) → StandIn values xs → b ≡ list_any (bytes_eq id) (named_by xs)
names_first values named rest id b some told later [] stand = absurd (some stand.spelled)
names_first values named rest id b some told later (x ∷ xs) stand =
    let is = told x (flat_map value_bytes xs) stand.fit.0 stand.spelled in
    later xs (record { fit = stand.fit.1; spelled = is.1 })
    ∙ ap (λ (o : Option (List ℕ)). is_name id o || list_any (bytes_eq id) (named_by xs)) is.0
    ∙ sym (names_more id x xs)

pub names_nothing : (values : List ℕ) (id : List ℕ) → ((value : ℕ × RowValue) (behind : List ℕ) → MayStand value → values ≡ value_bytes value ++ behind → ⊥) → (xs : List (ℕ × RowValue)) → StandIn values xs → false ≡ list_any (bytes_eq id) (named_by xs)
names_nothing values id none [] stand = refl
names_nothing values id none (x ∷ xs) stand = absurd (none x (flat_map value_bytes xs) stand.fit.0 stand.spelled)

-- ---- identifiers

pub same_id : (a b : LongId) → a.entry ≡ b.entry → a.place ≡ b.place → true ≡ bytes_eq (id_bytes b) (id_bytes a)
same_id a b e f = sym (ap (λ (i : List ℕ). bytes_eq i (id_bytes a)) (sym (λ i. id_bytes (record { entry = e i; place = f i }))) ∙ itself (id_bytes a))

pub other_id : IdLaw → (a b : LongId) → a.entry < 2 ^ 64 → b.entry < 2 ^ 64 → a.place < 2 ^ 32 → b.place < 2 ^ 32 → ((a.entry ≡ b.entry) × (a.place ≡ b.place) → ⊥) → false ≡ bytes_eq (id_bytes b) (id_bytes a)
other_id law a b e f g h n = sym (bytes_differ (id_bytes b) (id_bytes a) (λ same. n (law a b e f g h (sym same))))

-- ---- the bytes of a value that is kept apart

no_form : (n : ℕ) → n ≡ 0 → n ≡ 1 → ⊥
no_form n e f = omega (arith, e, f)

pub named_is : (value : List ℕ) (entry place : ℕ) (x : ℕ × RowValue) → MayStand x → value ≡ value_bytes x → get_or value 2 0 ≡ 1
    → entry ≡ from_le_bytes w64 (get_or value 5 0 ∷ get_or value 6 0 ∷ get_or value 7 0 ∷ get_or value 8 0 ∷ get_or value 9 0 ∷ get_or value 10 0 ∷ get_or value 11 0 ∷ get_or value 12 0 ∷ [])
    → place ≡ from_le_bytes w32 (get_or value 13 0 ∷ get_or value 14 0 ∷ get_or value 15 0 ∷ get_or value 16 0 ∷ [])
    → Some (identifier entry place) ≡ name_of x.1
named_is value entry place (column, Here bytes) may is form entry_is place_is = absurd (no_form (get_or value 2 0) (ap (λ (v : List ℕ). get_or v 2 0) is) form)
named_is value entry place (column, Apart e p size) may is form entry_is place_is =
    let range = and_four (nat_lt e (2 ^ 64)) (nat_lt p (2 ^ 32)) (nat_le 256 size) (nat_le size 1048576) may.1 in
    let first : entry ≡ e = entry_is ∙ ap (λ (v : List ℕ). from_le_bytes w64 (get_or v 5 0 ∷ get_or v 6 0 ∷ get_or v 7 0 ∷ get_or v 8 0 ∷ get_or v 9 0 ∷ get_or v 10 0 ∷ get_or v 11 0 ∷ get_or v 12 0 ∷ [])) is ∙ from_le_bytes-to_le_bytes_8 e (ltb-true e (2 ^ 64) range.0) in
    let second : place ≡ p = place_is ∙ ap (λ (v : List ℕ). from_le_bytes w32 (get_or v 13 0 ∷ get_or v 14 0 ∷ get_or v 15 0 ∷ get_or v 16 0 ∷ [])) is ∙ from_le_bytes-to_le_bytes_4 p (ltb-true p (2 ^ 32) range.1) in
    ap (λ (n : ℕ). Some (identifier n place)) first ∙ ap (λ (n : ℕ). Some (identifier e n)) second

pub id_tested : IdLaw → (a b : LongId) (named : Option LongId) → named ≡ Some a → a.entry < 2 ^ 64 → b.entry < 2 ^ 64 → a.place < 2 ^ 32 → b.place < 2 ^ 32 → a.entry ≡ b.entry → (a.place == b.place) ≡ is_name (id_bytes b) (option_map id_bytes named)
id_tested law a b named is e f g h same =
    by_test (a.place == b.place)
    (λ t. t ∙ same_id a b same (eqb-true a.place b.place t) ∙ sym (ap (λ (o : Option LongId). is_name (id_bytes b) (option_map id_bytes o)) is))
    (λ t. t ∙ other_id law a b e f g h (λ both. true≢false (sym (eq-eqb a.place b.place both.1) ∙ t)) ∙ sym (ap (λ (o : Option LongId). is_name (id_bytes b) (option_map id_bytes o)) is))

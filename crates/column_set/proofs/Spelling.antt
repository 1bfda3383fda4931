-- What is read is a row's bytes, and a row's bytes are read.
use Rattle.std.proofs.Common.{◌≡◌, ℕ, zero, suc, ◌-◌, ◌^◌, ◌<◌, ◌≤◌, Bool, true, false, cond, ltb, eqb, List, [], ◌∷◌, ◌++◌, length, take, drop, Option, Some, None, refl, sym, ap, subst, ◌∙◌, append_assoc, arith}
use Rattle.std.specs.Prelude.{unwrap_or, Result, Ok, Err, IfOk, MatchResult, IsErrOf, IsTrue}
use Rattle.std.specs.List.{flat_map}
use Rattle.std.specs.Int.{w16, to_le_bytes}
use Rattle.std.proofs.lemmas.Bool.{ltb-false, le-ltb, eqb-true}
use Rattle.std.proofs.lemmas.List.{append-nil, nil_from_length, length-append, take_all}
use Rattle.std.proofs.lemmas.List.Concat.{flat_map-cons}
use Rattle.column_set.specs.declared.rows.RowValue.{RowValue}
use Rattle.column_set.specs.declared.row_fault.RowFault.{RowFault}
use Rattle.column_set.specs.declared.row_fault.RowFault.TheVariants.{RecordTooBig, BadRecord, OutOfMemory}
use Rattle.column_set.specs.RowSeen.{Gives}
use Rattle.column_set.specs.Rows.{IsRowBytes, RowFields, values_in_order, value_bytes, row_bytes, row_size, is_row, is_well_formed, value_fits_row}
use Rattle.column_set.specs.NumberReading.{◌>>=◌, number_at, IsBytes, bind_some, guard_some, passed_some, some_is, Takes, Takes-then, wide16, number_takes, number_again}
use Rattle.column_set.specs.RowReading.{value_at, next_at, values_at, read_values, read_row, row_in, grouped, are_in_order, size_of_values}
use Rattle.column_set.proofs.Grouping.{in_order_parts, in_order_from, values_in_order-grouped, grouped-values_in_order, is_well_formed-grouped, values_are_in_order}
use Rattle.column_set.proofs.Sizes.{few_from_size, is_row-from, is_row-parts}
use Rattle.column_set.proofs.RowFieldValues.{TakesValue, value_takes, value_again}

pub next_takes : (least : ℕ) (bytes : List ℕ) (x : (ℕ × RowValue) × List ℕ) → IsBytes bytes → next_at least bytes ≡ Some x → TakesValue bytes x.0 x.1 × (least ≤ x.0.0)
unfolding next_at
next_takes least bytes x fits e =
    let a = bind_some (value_at bytes) (λ value. cond (ltb value.0.0 least) None (Some value)) x e in
    let g = guard_some (ltb a.0.0.0 least) a.0 x a.2 in
    subst (λ (y : (ℕ × RowValue) × List ℕ). TakesValue bytes y.0 y.1 × (least ≤ y.0.0)) g.1 (value_takes bytes a.0 fits a.1, ltb-false _ _ g.0)

pub next_again : (least : ℕ) (value : ℕ × RowValue) (rest : List ℕ) → least ≤ value.0 → value.0 < 2 ^ 16 → value_fits_row value.1 ≡ true → next_at least (value_bytes value ++ rest) ≡ Some (value, rest)
unfolding next_at
next_again least value rest le lt fits =
    let test : ltb value.0 least ≡ false = le-ltb _ _ le in
    rw (value_again value rest lt fits, test) refl

pub record TakesValues (least n : ℕ) (bytes : List ℕ) (values : List (ℕ × RowValue)) (rest : List ℕ) : Type 0 where
  pub taken : Takes bytes (flat_map value_bytes values) rest
  pub count : length values ≡ n
  pub in_order : are_in_order least values ≡ true

values_take : (least n : ℕ) (bytes : List ℕ) (x : List (ℕ × RowValue) × List ℕ) → IsBytes bytes → values_at least n bytes ≡ Some x → TakesValues least n bytes x.0 x.1
unfolding values_at
values_take least zero bytes x fits e =
    subst (λ (y : List (ℕ × RowValue) × List ℕ). TakesValues least 0 bytes y.0 y.1) (some_is ([], bytes) x e) (record { taken = record { parts = refl; rest_fits = fits }; count = refl; in_order = refl })
values_take least (suc n) bytes x fits e =
    let a = bind_some (next_at least bytes) (λ first. values_at first.0.0 n first.1 >>= λ others. Some (first.0 ∷ others.0, others.1)) x e in
    let b = bind_some (values_at a.0.0.0 n a.0.1) (λ others. Some (a.0.0 ∷ others.0, others.1)) x a.2 in
    let first = next_takes least bytes a.0 fits a.1 in
    let second = values_take a.0.0.0 n a.0.1 b.0 first.0.taken.rest_fits b.1 in
    let both = Takes-then bytes (value_bytes a.0.0) a.0.1 (flat_map value_bytes b.0.0) b.0.1 first.0.taken second.taken in
    let made : TakesValues least (suc n) bytes (a.0.0 ∷ b.0.0) b.0.1 = record {
      taken = rw flat_map-cons both;
      count = ap suc second.count;
      in_order = in_order_from least a.0.0 b.0.0 (record { least = first.1; column = first.0.column_fits; fits = first.0.value_fits; rest = second.in_order });
    } in
    subst (λ (y : List (ℕ × RowValue) × List ℕ). TakesValues least (suc n) bytes y.0 y.1) (some_is (a.0.0 ∷ b.0.0, b.0.1) x b.2) made

values_again : (least : ℕ) (values : List (ℕ × RowValue)) (rest : List ℕ) → are_in_order least values ≡ true → values_at least (length values) (flat_map value_bytes values ++ rest) ≡ Some (values, rest)
unfolding values_at
values_again least [] rest h = refl
values_again least (value ∷ values) rest h =
    let parts = in_order_parts least value values h in
    let regrouped : flat_map value_bytes (value ∷ values) ++ rest ≡ value_bytes value ++ (flat_map value_bytes values ++ rest) = ap (λ (x : List ℕ). x ++ rest) (flat_map-cons value_bytes value values) ∙ append_assoc (value_bytes value) (flat_map value_bytes values) rest in
    ap (values_at least (suc (length values))) regrouped ∙ rw (next_again least value (flat_map value_bytes values ++ rest) parts.least parts.column parts.fits, values_again value.0 values rest parts.rest) refl

-- ---- the bytes of the values

abbrev pub bytes_of_values : List (ℕ × RowValue) → List ℕ
bytes_of_values values = to_le_bytes w16 (length values) ++ flat_map value_bytes values

pub record SpellsValues (bytes : List ℕ) (values : List (ℕ × RowValue)) : Type 0 where
  pub spelled : bytes ≡ bytes_of_values values
  pub in_order : are_in_order 0 values ≡ true
  pub few : length values < 2 ^ 16

pub read_spelled : (bytes : List ℕ) (values : List (ℕ × RowValue)) → IsBytes bytes → read_values bytes ≡ Some values → SpellsValues bytes values
unfolding read_values
read_spelled bytes values fits e =
    let last = λ (x : List (ℕ × RowValue) × List ℕ). cond (eqb (length x.1) 0) (Some x.0) None in
    let a = bind_some (number_at w16 bytes) (λ count. values_at 0 count.0 count.1 >>= last) values e in
    let b = bind_some (values_at 0 a.0.0 a.0.1) last values a.2 in
    let p = passed_some (eqb (length b.0.1) 0) (Some b.0.0) values b.2 in
    let first = number_takes w16 (2 ^ 16) wide16 bytes a.0.0 a.0.1 fits a.1 in
    let second = values_take 0 a.0.0 a.0.1 b.0 first.0.rest_fits b.1 in
    let nothing : b.0.1 ≡ [] = nil_from_length b.0.1 (eqb-true _ _ p.0) in
    let both = (Takes-then bytes (to_le_bytes w16 a.0.0) a.0.1 (flat_map value_bytes b.0.0) b.0.1 first.0 second.taken).parts in
    let whole : bytes ≡ bytes_of_values b.0.0 = both ∙ ap (λ (r : List ℕ). (to_le_bytes w16 a.0.0 ++ flat_map value_bytes b.0.0) ++ r) nothing ∙ append-nil (to_le_bytes w16 a.0.0 ++ flat_map value_bytes b.0.0) ∙ ap (λ (k : ℕ). to_le_bytes w16 k ++ flat_map value_bytes b.0.0) (sym second.count) in
    let made : SpellsValues bytes b.0.0 = record { spelled = whole; in_order = second.in_order; few = omega (arith, first.1, second.count) } in
    subst (λ (v : List (ℕ × RowValue)). SpellsValues bytes v) (some_is b.0.0 values p.1) made

pub read_again : (values : List (ℕ × RowValue)) → are_in_order 0 values ≡ true → length values < 2 ^ 16 → read_values (bytes_of_values values) ≡ Some values
unfolding read_values
read_again values order few =
    let rest : values_at 0 (length values) (flat_map value_bytes values) ≡ Some (values, []) = ap (values_at 0 (length values)) (sym (append-nil (flat_map value_bytes values))) ∙ values_again 0 values [] order in
    rw (number_again w16 (2 ^ 16) wide16 (length values) (flat_map value_bytes values) few, rest) refl

-- ---- rows

pub record SpellsRow (bytes : List ℕ) (row : RowFields) : Type 0 where
  pub formed : is_row row ≡ true
  pub spelled : bytes ≡ row_bytes row

abbrev some : RowFields → Option RowFields
some row = Some row

some_row : (a b : RowFields) → some a ≡ some b → a ≡ b
some_row a b e = cc

pub row_from_values : (bytes : List ℕ) (values : List (ℕ × RowValue)) → SpellsValues bytes values → SpellsRow bytes (grouped values)
row_from_values bytes values h =
    let same = values_in_order-grouped values in
    record {
      formed = is_row-from (grouped values) (is_well_formed-grouped values h.in_order) (rw same h.few);
      spelled = h.spelled ∙ ap bytes_of_values (sym same);
    }

pub read_row_again : (row : RowFields) → is_row row ≡ true → read_values (row_bytes row) ≡ Some (values_in_order row)
read_row_again row h =
    let parts = is_row-parts row h in
    read_again (values_in_order row) (values_are_in_order row parts.formed) parts.few

pub read_row-row_bytes : (row : RowFields) → is_row row ≡ true → read_row (row_bytes row) ≡ Some row
unfolding read_row
read_row-row_bytes row h =
    let parts = is_row-parts row h in
    rw (read_row_again row h, grouped-values_in_order row parts.formed) refl

pub row_in-row_bytes : (row : RowFields) → is_row row ≡ true → row_in (row_bytes row) ≡ row
row_in-row_bytes row h = ap (λ (o : Option RowFields). unwrap_or o []) (read_row-row_bytes row h)

pub read_row_spelled : (bytes : List ℕ) (row : RowFields) → IsBytes bytes → read_row bytes ≡ Some row → SpellsRow bytes row
unfolding read_row
read_row_spelled bytes row fits e =
    let a = bind_some (read_values bytes) (λ values. Some (grouped values)) row e in
    subst (λ (r : RowFields). SpellsRow bytes r) (some_row (grouped a.0) row a.2) (row_from_values bytes a.0 (read_spelled bytes a.0 fits a.1))

pub one_spelling : (a b : RowFields) → is_row a ≡ true → is_row b ≡ true → row_bytes a ≡ row_bytes b → a ≡ b
one_spelling a b p q e = sym (row_in-row_bytes a p) ∙ ap row_in e ∙ row_in-row_bytes b q

-- ---- what a function that reads a row answers

pub found_row : (bytes : List ℕ) (r : Result RowFields RowFault) → IsBytes bytes → Gives (λ row. row) r (read_row bytes) → IfOk r (λ row. IsTrue (is_row row) × (bytes ≡ row_bytes row))
found_row bytes (Ok row) fits given = let s = read_row_spelled bytes row fits given in (s.formed, s.spelled)
found_row bytes (Err fault) fits given = tt

pub only_row : (bytes : List ℕ) (r : Result RowFields RowFault) → Gives (λ row. row) r (read_row bytes) → (row : RowFields) → IsTrue (is_row row) → bytes ≡ row_bytes row → MatchResult r (λ found. found ≡ row) (λ fault. fault ≡ OutOfMemory)
only_row bytes (Ok found) given row h e = sym (some_row row found (sym (ap read_row e ∙ read_row-row_bytes row h) ∙ given))
only_row bytes (Err RecordTooBig) given row h e = absurd given
only_row bytes (Err BadRecord) given row h e = let both : some row ≡ None = sym (ap read_row e ∙ read_row-row_bytes row h) ∙ given in absurd cc
only_row bytes (Err OutOfMemory) given row h e = refl

pub bad_row : (bytes : List ℕ) (r : Result RowFields RowFault) → Gives (λ row. row) r (read_row bytes) → IsErrOf r BadRecord → IsRowBytes bytes → ⊥
bad_row bytes r given bad h =
    let refused : read_row bytes ≡ None = subst (λ (x : Result RowFields RowFault). Gives (λ (row : RowFields). row) x (read_row bytes)) bad given in
    let both : some h.0 ≡ None = sym (ap read_row h.2 ∙ read_row-row_bytes h.0 h.1) ∙ refused in
    absurd cc

pub never_big : (bytes : List ℕ) (r : Result RowFields RowFault) → Gives (λ row. row) r (read_row bytes) → IsErrOf r RecordTooBig → ⊥
never_big bytes r given big = subst (λ (x : Result RowFields RowFault). Gives (λ (row : RowFields). row) x (read_row bytes)) big given

pub row_in_spelled : (bytes : List ℕ) → IsRowBytes bytes → SpellsRow bytes (row_in bytes)
row_in_spelled bytes h =
    let is : h.0 ≡ row_in bytes = sym (row_in-row_bytes h.0 h.1) ∙ sym (ap row_in h.2) in
    subst (λ (row : RowFields). SpellsRow bytes row) is (record { formed = h.1; spelled = h.2 })

pub no_row_in : (bytes : List ℕ) → IsBytes bytes → (IsRowBytes bytes → ⊥) → row_in bytes ≡ []
no_row_in bytes fits other = by (read_row bytes) refl
  where
    by : (o : Option RowFields) → read_row bytes ≡ o → unwrap_or o [] ≡ []
    by None e = refl
    by (Some row) e = let s = read_row_spelled bytes row fits e in absurd (other (row, s.formed, s.spelled))

pub only_row_in : (bytes : List ℕ) (row : RowFields) → is_row row ≡ true → bytes ≡ row_bytes row → row_in bytes ≡ row
only_row_in bytes row h e = ap row_in e ∙ row_in-row_bytes row h

pub bytes_behind_count : (bytes : List ℕ) (row : RowFields) → SpellsRow bytes row → take (length bytes - 2) (drop 2 bytes) ≡ flat_map value_bytes (values_in_order row)
bytes_behind_count bytes row s =
    let values = flat_map value_bytes (values_in_order row) in
    ap (λ (b : List ℕ). take (length b - 2) (drop 2 b)) s.spelled ∙ take_all (length (row_bytes row) - 2) values (omega (arith, length-append (to_le_bytes w16 (length (values_in_order row))) values))

-- ---- what a function that writes a row has written

pub written_row : (row : RowFields) (values : List (ℕ × RowValue)) (i : ℕ) (bytes : List ℕ) → values ≡ values_in_order row → is_well_formed row ≡ true → row_size row ≤ 1700 → length values ≤ i
    → bytes ≡ to_le_bytes w16 (length values) ++ flat_map value_bytes (take i values) → IsTrue (is_row row) × (bytes ≡ row_bytes row)
written_row row values i bytes is formed small past written = (
  is_row-from row formed (few_from_size row small),
  written ∙ ap (λ (xs : List (ℕ × RowValue)). to_le_bytes w16 (length values) ++ flat_map value_bytes xs) (take_all i values past) ∙ ap bytes_of_values is,
)

pub small_row : (row : RowFields) (values : List (ℕ × RowValue)) (size : ℕ) → values ≡ values_in_order row → (size ≡ size_of_values values) × (size ≤ 1700) → row_size row ≤ 1700
small_row row values size is h = subst (λ (xs : List (ℕ × RowValue)). size_of_values xs ≤ 1700) is (omega (arith, h.0, h.1))

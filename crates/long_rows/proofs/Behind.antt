-- No value that a put takes is of another entry than its own.
use Rattle.std.proofs.Common.{◌≡◌, ◌⊎◌, inl, inr, ℕ, ◌+◌, ◌<◌, ◌^◌, ◌==◌, false, None, List, [], ◌∷◌, length, refl, ◌∙◌, arith}
use Rattle.std.specs.Prelude.{bytes_eq}
use Rattle.std.proofs.lemmas.Bool.{eqb-false}
use Rattle.column_set.specs.declared.rows.RowValue.{RowValue}
use Rattle.column_set.specs.declared.rows.RowValue.TheVariants.{Here, Apart}
use Rattle.column_set.specs.RecordValues.{RecordFields}
use Rattle.column_set.specs.Rows.{record_values_in_order, values_in_order}
use Rattle.long_value.specs.Values.{value_of}
use Rattle.long_rows.specs.RowReferences.{identifier}
use Rattle.long_rows.specs.ReferenceCounts.{with_all_taken}
use Rattle.long_rows.proofs.Taken.{ValueLaws}
use Rattle.long_rows.specs.KeptRows.{Found, MayKeep, given_by, given_values, kept_row}
use Rattle.long_rows.proofs.Kept.{AreKept, IsNew, IsShared, fields_kept}
use Rattle.long_rows.proofs.Given.{IdLaw, among, bytes_differ, differ_by_value, next_bound, not_with}
use Rattle.long_rows.proofs.GivenBack.{all_taken_beside}
use Rattle.long_rows.proofs.Formed.{few_values}
use Rattle.long_rows.proofs.Stored.{SizeLaw, kept_size}

-- An identifier of another entry than that of the put, which no value has.
pub record IsOfOther (found : Found) (number place : ℕ) : Type 0 where
  pub apart : (number == found.number) ≡ false
  pub own_fits : found.number < 2 ^ 64
  pub number_fits : number < 2 ^ 64
  pub place_fits : place < 2 ^ 32
  pub absent : value_of (identifier number place) found.values ≡ None

one_differs : IdLaw → (found : Found) → (number place at behind entry own : ℕ) (bytes : List ℕ) → IsOfOther found number place → (IsShared found.values found.rows entry own bytes × (behind ≡ at)) ⊎ IsNew found at behind entry own → at < 2 ^ 32
    → bytes_eq (identifier number place) (identifier entry own) ≡ false
one_differs law found number place at behind entry own bytes is (inl old) small =
    bytes_differ (identifier number place) (identifier entry own) (differ_by_value found.values (identifier number place) (identifier entry own) old.0.value is.absent old.0.there)
one_differs law found number place at behind entry own bytes is (inr new) small =
    let same = new.number in
    let first = new.first in
    let own_fits = is.own_fits in
    bytes_differ (identifier number place) (identifier entry own)
    (λ e.
    let both = law (record { entry = number; place = place }) (record { entry = entry; place = own }) is.number_fits (omega (arith, same, own_fits)) is.place_fits (omega (arith, first, small)) e in
    eqb-false number found.number is.apart (both.0 ∙ same))

not_given : IdLaw → (found : Found) → (number place : ℕ) → IsOfOther found number place → (at : ℕ) (xs : List (ℕ × RowValue)) (vs : List (ℕ × List ℕ)) → AreKept found at xs vs → at + length xs < 2 ^ 32 → among (identifier number place) (given_by xs vs) ≡ false
not_given law found number place is at [] [] kept small = refl
not_given law found number place is at ((column, Here own) ∷ xs) (v ∷ vs) kept small =
    let bound = next_bound found at kept.0 (Here own) v.1 kept.1.1 in
    not_given law found number place is kept.0 xs vs kept.1.2 (omega (arith, small, bound))
not_given law found number place is at ((column, Apart entry own size) ∷ xs) (v ∷ vs) kept small =
    let bound = next_bound found at kept.0 (Apart entry own size) v.1 kept.1.1 in
    not_with (identifier number place) (identifier entry own) v.1 (given_by xs vs)
    (one_differs law found number place at kept.0 entry own v.1 is kept.1.1.2 (omega (arith, small)))
    (not_given law found number place is kept.0 xs vs kept.1.2 (omega (arith, small, bound)))
not_given law found number place is at [] (v ∷ vs) kept small = absurd kept
not_given law found number place is at ((column, Here own) ∷ xs) [] kept small = absurd kept
not_given law found number place is at ((column, Apart entry own size) ∷ xs) [] kept small = absurd kept

pub none_other : ValueLaws → IdLaw → SizeLaw → (found : Found) (fields : RecordFields) (number place : ℕ) → MayKeep found fields → (number == found.number) ≡ false → number < 2 ^ 64 → place < 2 ^ 32 → value_of (identifier number place) found.values ≡ None
    → value_of (identifier number place) (with_all_taken (given_values (kept_row found fields) fields) found.values) ≡ None
none_other laws law sizes found fields number place may apart fits place_fits absent =
    let few = few_values found fields (kept_size sizes found fields) may.small in
    let is : IsOfOther found number place = record { apart = apart; own_fits = may.number; number_fits = fits; place_fits = place_fits; absent = absent } in
    all_taken_beside laws (given_values (kept_row found fields) fields) found.values (identifier number place)
    (not_given law found number place is 0 (values_in_order (kept_row found fields)) (record_values_in_order fields) (fields_kept found 0 fields) (omega (arith, few)))
    ∙ absent

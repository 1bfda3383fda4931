-- A row that can be read whole stands for the same record while the values that it names keep their bytes.
use Rattle.std.proofs.Common.{◌≡◌, ℕ, ◌<◌, ◌==◌, true, Option, Some, None, List, [], ◌∷◌, ◌++◌, length, map, option_map, refl, sym, ap, ◌∙◌, true≢false}
use Rattle.std.specs.List.{list_all}
use Rattle.std.proofs.lemmas.Bool.{and_from}
use Rattle.common_lemmas.proofs.Options.{same_some}
use Rattle.common_lemmas.proofs.Booleans.{and_left, and_right}
use Rattle.column_set.specs.declared.rows.RowValue.{RowValue}
use Rattle.column_set.specs.declared.rows.RowValue.TheVariants.{Here, Apart}
use Rattle.column_set.specs.RecordValues.{RecordFields}
use Rattle.column_set.specs.Rows.{RowFields, values_in_order}
use Rattle.long_value.specs.Values.{LongValue, Values, value_of}
use Rattle.long_rows.specs.RowReferences.{identifier, references}
use Rattle.long_rows.specs.WholeRows.{StandsFor, bytes_of_value, has_length, is_there, is_whole, record_in, whole_value}
use Rattle.long_rows.proofs.Named.{AllNamed, all_named}

abbrev pub bytes_in : Option LongValue → Option (List ℕ)
bytes_in value = option_map (λ (found : LongValue). found.bytes) value

pub some_is : (o : Option LongValue) (bytes : List ℕ) → bytes_in o ≡ Some bytes → (value : LongValue) × (o ≡ Some value) × (Some value.bytes ≡ Some bytes)
some_is None bytes e = absurd cc
some_is (Some value) bytes e = (value, refl, e)

-- a value that was there is there with the same bytes
abbrev pub Keeps : Values → Values → List ℕ → Type 0
Keeps old new id = (value : LongValue) → value_of id old ≡ Some value → bytes_in (value_of id new) ≡ Some value.bytes

pub found_one : (size : ℕ) (o : Option LongValue) → has_length size o ≡ true → (value : LongValue) × (o ≡ Some value) × ((size == length value.bytes) ≡ true)
found_one size None e = absurd (true≢false (sym e))
found_one size (Some value) e = (value, refl, e)

pub kept_one : (size : ℕ) (value : LongValue) (now : Option LongValue) → bytes_in now ≡ Some value.bytes → (size == length value.bytes) ≡ true → (bytes_of_value now ≡ value.bytes) × (has_length size now ≡ true)
kept_one size value None e t = absurd cc
kept_one size value (Some now) e t = let same : now.bytes ≡ value.bytes = same_some now.bytes value.bytes e in (same, ap (λ (l : List ℕ). size == length l) same ∙ t)

values_kept : (old new : Values) (column : ℕ) (vs : List RowValue) (ys : List (ℕ × RowValue)) → AllNamed (Keeps old new) (map (λ v. (column, v)) vs ++ ys) → list_all (is_there old) vs ≡ true
    → (map (whole_value new) vs ≡ map (whole_value old) vs) × (list_all (is_there new) vs ≡ true) × AllNamed (Keeps old new) ys
values_kept old new column [] ys named whole = (refl, refl, named)
values_kept old new column (Here bytes ∷ vs) ys named whole =
    let rest = values_kept old new column vs ys named whole in
    (ap (λ (l : List (List ℕ)). bytes ∷ l) rest.0, rest.1, rest.2)
values_kept old new column (Apart entry place size ∷ vs) ys named whole =
    let id = identifier entry place in
    let was = found_one size (value_of id old) (and_left (has_length size (value_of id old)) (list_all (is_there old) vs) whole) in
    let is = kept_one size was.0 (value_of id new) (named.0 was.0 was.1) was.2 in
    let rest = values_kept old new column vs ys named.1 (and_right (has_length size (value_of id old)) (list_all (is_there old) vs) whole) in
    let same : bytes_of_value (value_of id new) ≡ bytes_of_value (value_of id old) = is.0 ∙ sym (ap bytes_of_value was.1) in (
      ap (λ (b : List ℕ). b ∷ map (whole_value new) vs) same ∙ ap (λ (l : List (List ℕ)). bytes_of_value (value_of id old) ∷ l) rest.0,
      and_from (has_length size (value_of id new)) (list_all (is_there new) vs) is.1 rest.1,
      rest.2,
    )

pub fields_kept : (old new : Values) (row : RowFields) → AllNamed (Keeps old new) (values_in_order row) → is_whole old row ≡ true → (record_in new row ≡ record_in old row) × (is_whole new row ≡ true)
fields_kept old new [] named whole = (refl, refl)
fields_kept old new ((column, vs) ∷ row) named whole =
    let one = values_kept old new column vs (values_in_order row) named (and_left (list_all (is_there old) vs) (is_whole old row) whole) in
    let rest = fields_kept old new row one.2 (and_right (list_all (is_there old) vs) (is_whole old row) whole) in (
      ap (λ (l : List (List ℕ)). (column, l) ∷ record_in new row) one.0 ∙ ap (λ (fs : RecordFields). (column, map (whole_value old) vs) ∷ fs) rest.0,
      and_from (list_all (is_there new) vs) (is_whole new row) one.1 rest.1,
    )

pub still_stands : (old new : Values) (row : RowFields) (fields : RecordFields) → ((id : List ℕ) → 0 < references id (Some row) → Keeps old new id) → StandsFor old row fields → StandsFor new row fields
still_stands old new row fields keeps stands =
    let now = fields_kept old new row (all_named (Keeps old new) (values_in_order row) keeps) stands.whole in
    record { formed = stands.formed; whole = now.1; shown = now.0 ∙ stands.shown }

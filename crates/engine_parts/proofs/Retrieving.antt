-- The values of a record that a session reads.
use Rattle.std.proofs.Common.{◌≡◌, ℕ, ◌≤◌, Bool, true, false, ◌==◌, ◌||◌, List, [], ◌∷◌, length, map, min, Option, Some, None, slice_get, get_or, inl, inr, refl, sym, ap, ◌∙◌, arith}
use Rattle.std.specs.Prelude.{◌<◌, nat_le, bytes_eq, IfSome, MatchOption}
use Rattle.std.specs.List.{list_all}
use Rattle.std.proofs.lemmas.Bool.Decides.{nat_tests}
use Rattle.std.proofs.lemmas.Option.{slice_get-get_or, slice_get_past}
use Rattle.std.proofs.lemmas.List.{length-take}
use Rattle.std.proofs.lemmas.Bool.{leb-true}
use Rattle.common_lemmas.proofs.Booleans.{and_left, and_right, impossible}
use Rattle.common_lemmas.proofs.Lists.{all_at}
use Rattle.common_lemmas.proofs.Numbers.{same_bytes}
use Rattle.jet_base.specs.declared.words.ColType.{ColType}
use Rattle.jet_base.specs.declared.words.ColType.TheVariants as kind
use Rattle.jet_base.specs.ColumnType.{is_number_type}
use Rattle.column_set.specs.declared.columns.Column.{Column}
use Rattle.column_set.specs.RecordValues.{RecordFields, column_named, record_fits, record_size, value_fits, values_of}
use Rattle.column_set.specs.Reading.{IsFront}
use Rattle.long_value.specs.Stores.{read_upto}
use Rattle.session_local.specs.Outcome.{CallInputs}
use Rattle.session_local.specs.RecordCalls.{value_shown}
use Rattle.session_local.specs.Showing.{IsRead, value_answered}
use Rattle.session_local.specs.SessionSide.{are_distinct}
use Rattle.session_local.specs.WellFormed.{number_of_column}
use Rattle.engine_parts.specs.Retrieving.{AreReadable}
use Rattle.session_local.specs.FoundLaws.{by_number, values_of-counted, values_of-fit}

-- ---- the values of a column are readable

pub readable : (columns : List Column) (fields : RecordFields) (name : List ℕ) (column : Column) → are_distinct (map number_of_column columns) ≡ true → record_fits columns fields ≡ true → record_size fields ≤ 1700
    → column_named columns name ≡ Some column → AreReadable column.kind (values_of fields column.id.0)
readable columns fields name column distinct fits small named =
    let its = by_number (λ o. bytes_eq o.name name) columns column distinct named in
    let fit = and_right (column.multi || nat_le (length (values_of fields column.id.0)) 1) (list_all (value_fits column.kind) (values_of fields column.id.0)) (values_of-fit columns fields column.id.0 column (and_left _ _ fits) its) in
    let few = values_of-counted fields column.id.0 in
    record {
      fit = fit;
      few = omega (arith, small, few);
    }

-- ---- their bytes

by_width : (width : ℕ) (value : List ℕ) → (length value == width) ≡ true → width ≤ 16 → length value ≤ 16
by_width width value fits few = grind (arith, nat_tests)

bit_few : (value : List ℕ) (a b : Bool) → bytes_eq value (0 ∷ []) ≡ a → bytes_eq value (1 ∷ []) ≡ b → (a || b) ≡ true → length value ≤ 16
bit_few value true b e f h = omega (arith, ap length (same_bytes value (0 ∷ []) e))
bit_few value false true e f h = omega (arith, ap length (same_bytes value (1 ∷ []) f))
bit_few value false false e f h = impossible h

-- a number has few bytes
number_few : (kind : ColType) (value : List ℕ) → is_number_type kind ≡ true → value_fits kind value ≡ true → length value ≤ 16
number_few kind.Bit value number fits = bit_few value (bytes_eq value (0 ∷ [])) (bytes_eq value (1 ∷ [])) refl refl fits
number_few kind.UnsignedByte value number fits = by_width 1 value fits (omega arith)
number_few kind.Short value number fits = by_width 2 value fits (omega arith)
number_few kind.UnsignedShort value number fits = by_width 2 value fits (omega arith)
number_few kind.Long value number fits = by_width 4 value fits (omega arith)
number_few kind.UnsignedLong value number fits = by_width 4 value fits (omega arith)
number_few kind.LongLong value number fits = by_width 8 value fits (omega arith)
number_few kind.Currency value number fits = by_width 8 value fits (omega arith)
number_few kind.Guid value number fits = impossible number
number_few kind.Binary value number fits = impossible number
number_few kind.Text value number fits = impossible number
number_few kind.LongBinary value number fits = impossible number
number_few kind.LongText value number fits = impossible number

-- a front of a short value is the value
value_whole : (bytes value : List ℕ) → length value ≤ 16 → IsFront bytes value → bytes ≡ value
value_whole bytes value few (inl same) = same
value_whole bytes value few (inr front) = absurd (omega (arith, front.0, ap length front.1, length-take (length bytes) value))

-- a number is read whole
pub number_read : (kind : ColType) (values : List (List ℕ)) (at : ℕ) (bytes : List ℕ) → is_number_type kind ≡ true → AreReadable kind values → (at < length values) × IsFront bytes (get_or values at []) → slice_get values at ≡ Some bytes
number_read kind values at bytes number readable read =
    let found : slice_get values at ≡ Some (get_or values at []) = slice_get-get_or values at [] read.0 in
    let few = number_few kind (get_or values at []) number (all_at (value_fits kind) values at (get_or values at []) readable.fit found) in
    found ∙ ap (λ (v : List ℕ). Some v) (sym (value_whole bytes (get_or values at []) few read.1))

pub number_fits : (kind : ColType) (values : List (List ℕ)) (at : ℕ) (bytes : List ℕ) → is_number_type kind ≡ true → AreReadable kind values → (at < length values) × IsFront bytes (get_or values at []) → value_fits kind bytes ≡ true
number_fits kind values at bytes number readable read = all_at (value_fits kind) values at bytes readable.fit (number_read kind values at bytes number readable read)

-- no value has more bytes than the reply buffer
most_bytes : (kind : ColType) (value : List ℕ) → value_fits kind value ≡ true → length value ≤ 1048576
most_bytes kind.Guid value fits = omega (arith, by_width 16 value fits (omega arith))
most_bytes kind.Binary value fits = omega (arith, leb-true (length value) 255 fits)
most_bytes kind.Text value fits = omega (arith, leb-true (length value) 255 fits)
most_bytes kind.LongBinary value fits = leb-true (length value) 1048576 fits
most_bytes kind.LongText value fits = leb-true (length value) 1048576 fits
most_bytes kind.Bit value fits = omega (arith, number_few kind.Bit value refl fits)
most_bytes kind.UnsignedByte value fits = omega (arith, number_few kind.UnsignedByte value refl fits)
most_bytes kind.Short value fits = omega (arith, number_few kind.Short value refl fits)
most_bytes kind.UnsignedShort value fits = omega (arith, number_few kind.UnsignedShort value refl fits)
most_bytes kind.Long value fits = omega (arith, number_few kind.Long value refl fits)
most_bytes kind.UnsignedLong value fits = omega (arith, number_few kind.UnsignedLong value refl fits)
most_bytes kind.LongLong value fits = omega (arith, number_few kind.LongLong value refl fits)
most_bytes kind.Currency value fits = omega (arith, number_few kind.Currency value refl fits)

pub has_room : (kind : ColType) (values : List (List ℕ)) (at : ℕ) → list_all (value_fits kind) values ≡ true → IfSome (slice_get values at) (λ bytes. length bytes ≤ 1048576)
has_room kind values at fit = by (slice_get values at) refl
  where
    by : (found : Option (List ℕ)) → slice_get values at ≡ found → IfSome found (λ bytes. length bytes ≤ 1048576)
    by None e = tt
    by (Some bytes) e = most_bytes kind bytes (all_at (value_fits kind) values at bytes fit e)

-- what is answered of a value that is no number
pub bytes_shown : (asked : CallInputs) (column : Column) (most : ℕ) (found : Option (List ℕ)) → is_number_type column.kind ≡ false → (value_shown asked column most found).answered ≡ value_answered most found
bytes_shown asked column most None plain = refl
bytes_shown asked column most (Some bytes) plain = rw plain refl

-- ---- a value that is read where it lies

pub is_read : (values : List (List ℕ)) (at : ℕ) (result : Option (ℕ × ℕ)) (old new : List ℕ)
    → MatchOption result (length values ≤ at) (λ read. (at < length values) × (read.1 ≡ length (get_or values at [])) × (read.0 ≡ min (length old) read.1))
    → MatchOption result (new ≡ old) (λ read. new ≡ read_upto read.0 (get_or values at []) old) → IsRead (slice_get values at) result old new
is_read values at None old new count bytes = rw (slice_get_past values at count) bytes
is_read values at (Some read) old new count bytes =
    rw (slice_get-get_or values at [] count.0)
    (count.2 ∙ ap (min (length old)) count.1, count.1, bytes)

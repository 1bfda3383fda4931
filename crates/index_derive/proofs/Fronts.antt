-- What a front of a value shows of it.
use Rattle.std.proofs.Common.{◌≡◌, ℕ, ◌<◌, ◌≤◌, List, [], length, take, Some, None, sym, ap, ◌∙◌, arith, inl, inr}
use Rattle.std.specs.Prelude.{slice_index_or}
use Rattle.std.specs.Option.{option_map}
use Rattle.std.proofs.lemmas.Option.{slice_get-get_or, slice_get_past}
use Rattle.std.proofs.lemmas.List.{get_or_past, take-take}
use Rattle.column_set.specs.Reading.{IsFront}
use Rattle.column_set.specs.RecordValues.{RecordFields, values_of}
use Rattle.index_derive.specs.Walks.{value_at, text_at}

take-front : (n : ℕ) (bytes value : List ℕ) → n ≤ 1024 → IsFront bytes value → take n bytes ≡ take n value
take-front n bytes value small (inl same) = ap (take n) same
take-front n bytes value small (inr front) = ap (take n) front.1 ∙ take-take n (length bytes) value (omega (arith, front.0))

pub seen_value : (fields : RecordFields) (column place : ℕ) (bytes : List ℕ) → place < length (values_of fields column) → IsFront bytes (slice_index_or (values_of fields column) place []) → value_at fields column place ≡ Some (take 255 bytes)
seen_value fields column place bytes here front =
    ap (option_map (take 255)) (slice_get-get_or (values_of fields column) place [] here) ∙ ap Some (sym (take-front 255 bytes _ (omega arith) front))

pub no_value : (fields : RecordFields) (column place : ℕ) → length (values_of fields column) ≤ place → value_at fields column place ≡ None
no_value fields column place past = ap (option_map (take 255)) (slice_get_past (values_of fields column) place past)

pub seen_text : (fields : RecordFields) (column place : ℕ) (bytes : List ℕ) → IsFront bytes (slice_index_or (values_of fields column) place []) → text_at fields column place ≡ take 1024 bytes
seen_text fields column place bytes front = sym (take-front 1024 bytes _ (omega arith) front)

pub no_text : (fields : RecordFields) (column place : ℕ) → length (values_of fields column) ≤ place → text_at fields column place ≡ []
no_text fields column place past = ap (take 1024) (get_or_past (values_of fields column) place [] past)

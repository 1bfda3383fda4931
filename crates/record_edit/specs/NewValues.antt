-- The values that are set, as they are written.
use Rattle.std.specs.Prelude.{ℕ, List, Option, Some, None}
use Rattle.jet_base.specs.declared.words.Given.{Given}
use Rattle.jet_base.specs.declared.words.Given.TheVariants as given
use Rattle.record_edit.specs.declared.new_value.NewValue.{NewValue}
use Rattle.record_edit.specs.declared.new_value.NewValue.TheVariants.{Null, Number, Bytes, Fill}

abbrev pub given_of : NewValue → Given
given_of Null = given.Null
given_of (Number n) = given.Number n
given_of (Bytes bytes) = given.Bytes bytes.now
given_of (Fill count byte) = given.Fill count byte

-- stored bytes, or none
abbrev pub given_of_bytes : Option (List ℕ) → Given
given_of_bytes None = given.Null
given_of_bytes (Some bytes) = given.Bytes bytes

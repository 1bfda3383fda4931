-- Which kind of column a type's columns are: fixed, variable or tagged.
use Rattle.std.specs.Prelude.{Bool, true, false}
use Rattle.jet_base.specs.declared.words.ColType.{ColType}
use Rattle.jet_base.specs.declared.words.ColType.TheVariants as kind

-- the types whose values may have more than 255 bytes: their columns are tagged ones
abbrev pub is_long_type : ColType → Bool
is_long_type kind.LongBinary = true
is_long_type kind.LongText = true
is_long_type _ = false

-- the types with values of any length up to 255 bytes: their columns are variable ones unless they are tagged
abbrev pub is_variable_type : ColType → Bool
is_variable_type kind.Binary = true
is_variable_type kind.Text = true
is_variable_type _ = false

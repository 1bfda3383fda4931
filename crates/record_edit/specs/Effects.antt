-- What an edit does to the values of its column.
use Rattle.std.specs.Prelude.{◌≡◌, ◌<◌, ℕ, IsTrue, List, [], ◌∷◌, ◌++◌, length, remove, slice_set}
use Rattle.jet_base.specs.declared.words.Given.{Given}
use Rattle.jet_base.specs.Given.{given_bytes, given_fits}
use Rattle.column_set.specs.declared.columns.Column.{Column}
use Rattle.column_set.specs.RecordValues.{RecordFields, values_of, with_values}
use Rattle.record_edit.specs.SetColumn.{fields_after}
use Rattle.record_edit.specs.declared.effect.Effect.{Effect}
use Rattle.record_edit.specs.declared.effect.Effect.TheVariants.{Nothing, Clear, Only, Set, Push, Remove}

-- the values after it, with the value that is set
abbrev pub values_by : Effect → List ℕ → List (List ℕ) → List (List ℕ)
values_by Nothing value values = values
values_by Clear value values = []
values_by Only value values = value ∷ []
values_by (Set place) value values = slice_set values place value
values_by Push value values = values ++ value ∷ []
values_by (Remove place) value values = remove values place

-- its place is one of so many values
abbrev pub IsEffectOn : ℕ → Effect → Type 0
IsEffectOn count (Set place) = place < count
IsEffectOn count (Remove place) = place < count
IsEffectOn count _ = Unit {0}

-- the effect of a value that is set in a column
pub record IsEffectOf (column : Column) (sequence : ℕ) (value : Given) (fields : RecordFields) (effect : Effect) : Type 0 where
  pub fits : IsEffectOn (length (values_of fields column.id.0)) effect
  pub given : IsTrue (given_fits column.kind value)
  pub same : with_values fields column.id.0 (values_of fields column.id.0) ≡ fields
  pub after : fields_after column sequence value fields ≡ with_values fields column.id.0 (values_by effect (given_bytes column.kind value) (values_of fields column.id.0))

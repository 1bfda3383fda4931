-- The values of a column as they are held.
use Rattle.std.specs.Prelude.{ℕ, List, [], ◌∷◌}
use Rattle.column_set.specs.declared.fields.Held.{Held}
use Rattle.column_set.specs.declared.fields.Held.TheVariants.{One, Many}

abbrev pub held_values : Held → List (List ℕ)
held_values (One value) = value ∷ []
held_values (Many values) = values.items

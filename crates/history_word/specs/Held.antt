-- What contracts see of a seat.
use Rattle.atomic_table.specs.Seated.{TableId}
use Rattle.history_word.specs.declared.views.Part.{Part}

-- which word it is of, and what it knows and holds
pub record Held : Type 0 where
  pub word : TableId
  pub part : Part

-- The log entries of a step.
use Rattle.std.specs.Prelude.{ℕ, List, [], ◌∷◌, length, Option, Some, None}
use Rattle.index_derive.specs.declared.log.Entry.{Entry}
use Rattle.index_derive.specs.declared.log.EntryKind.TheVariants as entry
use Rattle.index_derive.specs.declared.log.Step.{Step}
use Rattle.index_derive.specs.declared.log.Step.TheVariants.{One, Alone}

-- A change alone is a begin, the change and a commit, all by its session.
abbrev pub entries_of_step : Option Step → List Entry
entries_of_step None = []
entries_of_step (Some (One made)) = made ∷ []
entries_of_step (Some (Alone made)) = record { session = made.session; kind = entry.Begin } ∷ made ∷ record { session = made.session; kind = entry.Commit } ∷ []

-- How many log entries a step makes: one or three.
abbrev pub step_length : Step → ℕ
step_length step = length (entries_of_step (Some step))

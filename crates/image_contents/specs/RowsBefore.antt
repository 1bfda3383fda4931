-- What the held changes of a record tell of the rows before them.
use Rattle.std.specs.Prelude.{◌≡◌, ℕ, List}
use Rattle.std.specs.List.{list_any}
use Rattle.image_findings.specs.RowFindings.{has_before, lacks_room}
use Rattle.image_contents.specs.declared.rows.before.RowsBefore.{RowsBefore}
use Rattle.version_store.specs.HeldChanges.{HeldChange}

-- Whether one of them has a row before it, and whether one that is open has a row before it of more bytes than the extent.
pub record TellsRows (table : ℕ) (bookmark : List ℕ) (extent : ℕ) (held : List HeldChange) (told : RowsBefore) : Type 0 where
  pub row : told.has_row ≡ has_before table bookmark held
  pub room : told.lacks_room ≡ list_any (lacks_room extent table bookmark) held

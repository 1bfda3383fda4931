-- Past changes that do not name the record from which a put was copied: that stands in the log alone.
use Rattle.std.specs.Prelude.{◌≡◌, List}
use Rattle.std.specs.List.{AllByRecursion}
use Rattle.database_state.specs.Changes.{without_copied}
use Rattle.database_state.specs.State.{PastChange}

abbrev pub IsUncopied : PastChange → Type 0
IsUncopied item = item.change ≡ without_copied item.change

abbrev pub AreUncopied : List PastChange → Type 0
AreUncopied past = AllByRecursion IsUncopied past

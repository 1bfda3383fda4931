-- A catalog of one table without columns and indexes, the empty one before it, and the roots of their trees.
use Rattle.std.specs.Prelude.{[], ◌∷◌, codes}
use Rattle.database_state.specs.SchemaChanges.{new_table}
use Rattle.jet_catalog.specs.Catalog.{CatalogState}
use Rattle.catalog_grammar.specs.CatalogSteps.{Roots}

-- an empty catalog, and one of one table
abbrev pub no_table : CatalogState
no_table = record { greatest_table = 0; tables = [] }

abbrev pub one_table : CatalogState
one_table = record { greatest_table = 1; tables = new_table 1 (codes "t") ∷ [] }

abbrev pub roots : Roots
roots = λ _. record { records = 5; long_values = 6; indexes = λ _. 7 }

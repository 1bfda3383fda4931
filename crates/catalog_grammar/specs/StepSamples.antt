-- A catalog that the worked examples speak of.
use Rattle.std.specs.Prelude.{◌==◌, [], ◌∷◌, codes, if◌then◌else◌}
use Rattle.jet_base.specs.Ids.{column_id, index_id}
use Rattle.column_set.specs.declared.columns.Column.{Column}
use Rattle.index_derive.specs.declared.rules.IndexRule.{IndexRule}
use Rattle.jet_catalog.specs.Catalog.{CatalogState}
use Rattle.catalog_grammar.specs.Samples.{by_mail, id_column, people, people_roots, spare, spare_roots}
use Rattle.catalog_grammar.specs.CatalogSteps.{Roots}

-- tables 1 and 258, 300 having been the greatest
abbrev pub two_tables : CatalogState
two_tables = record { greatest_table = 300; tables = spare ∷ people ∷ [] }

abbrev pub two_roots : Roots
two_roots = λ table. if table == 258 then people_roots else spare_roots

abbrev pub next_column : Column
next_column = record id_column { id = column_id 3; name = codes "n" }

abbrev pub next_index : IndexRule
next_index = record by_mail { id = index_id 3; name = codes "i"; order = 3 }

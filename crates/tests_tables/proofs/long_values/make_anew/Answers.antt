-- A table that was taken out is not there.
use Rattle.std.proofs.Common.{◌==◌, ◌&&◌, Bool, not, List, ap, ◌∙◌, eq-eqb, refl}
use Rattle.table_trees.specs.StoredTables.{StoredTable, has_table}
use Rattle.tests_tables.proofs.long_values.make_anew.Goals as goal

pub add_table-requires : goal.add_table-requires
add_table-requires c =
    let n = c.args.table.0 in
    ap (λ (tables : List StoredTable). has_table tables n) c.remove_table.ensures.tables
    ∙ c.tables_without_one.ensures.there c.args.tables.now.tables n n
    ∙ ap (λ (b : Bool). b && not (n == n)) c.requires
    ∙ ap not (eq-eqb n n refl)

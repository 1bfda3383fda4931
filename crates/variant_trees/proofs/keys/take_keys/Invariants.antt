use Rattle.std.proofs.Common.{◌≡◌, option_map}
use Rattle.table_trees.specs.StoredTables.{table_long_values, table_nodes}
use Rattle.variant_trees.specs.GoneKeys.{held_from}
use Rattle.stored_variants.specs.RecordRows.{record_of, row_under}
use Rattle.variant_trees.proofs.LostKeys.{LosesUpTo}
use Rattle.variant_trees.specs.GoneRecords.{gone_fields}
use Rattle.variant_trees.proofs.keys.take_keys.Given as goal

abbrev pub invariant-loop-rule : goal.invariant-loop-rule
invariant-loop-rule l = record {
  done : LosesUpTo (option_map (record_of (table_long_values l.initial.trees.tables l.table.0)) (row_under (table_nodes l.initial.trees.tables l.table.0) l.bookmark)) (held_from (table_long_values l.initial.trees.tables) l.from l.versions) l.schema l.table.0 l.bookmark (gone_fields (table_long_values l.initial.trees.tables l.table.0) l.gone) l.rule-index l.initial.trees.tables l.trees.tables;
  catalog : l.trees.catalog ≡ l.initial.trees.catalog;
}

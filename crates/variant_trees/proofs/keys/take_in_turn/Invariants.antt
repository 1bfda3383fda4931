use Rattle.std.proofs.Common.{◌≡◌, List, ℕ, length, option_map}
use Rattle.index_derive.specs.Entries.{key_list}
use Rattle.table_trees.specs.StoredTables.{table_long_values, index_entries, table_nodes}
use Rattle.laws_engine.specs.Variants.{is_variant_key}
use Rattle.variant_trees.specs.GoneKeys.{ChangesEntries, OthersKeep, held_from}
use Rattle.stored_variants.specs.RecordRows.{record_of, row_under}
use Rattle.variant_trees.proofs.LostKeys.{LosesSoFar}
use Rattle.variant_trees.proofs.RisingKeys.{keys_from}
use Rattle.variant_trees.specs.GoneRecords.{gone_fields}
use Rattle.variant_trees.proofs.keys.take_in_turn.Given as goal

-- the keys before the next one are gone, but for those that a variant has
abbrev pub invariant-loop-next : goal.invariant-loop-next
invariant-loop-next l = record {
  catalog : l.trees.catalog ≡ l.initial.trees.catalog;
  others : ChangesEntries l.table.0 l.initial.trees.tables l.trees.tables;
  indexes : OthersKeep l.table.0 l.rule.id.0 l.initial.trees.tables l.trees.tables;
  keys : LosesSoFar (key_list l.rule l.schema (gone_fields (table_long_values l.initial.trees.tables l.table.0) l.gone)) (λ (k : List ℕ). is_variant_key (option_map (record_of (table_long_values l.initial.trees.tables l.table.0)) (row_under (table_nodes l.initial.trees.tables l.table.0) l.bookmark)) (held_from (table_long_values l.initial.trees.tables) l.from l.versions) l.rule l.schema l.table.0 k l.bookmark)
      l.bookmark (index_entries l.initial.trees.tables l.table.0 l.rule.id.0) (index_entries l.trees.tables l.table.0 l.rule.id.0) l.next;
}

abbrev pub decreases-loop-next : goal.decreases-loop-next
decreases-loop-next l = length (keys_from (key_list l.rule l.schema (gone_fields (table_long_values l.initial.trees.tables l.table.0) l.gone)) l.next)

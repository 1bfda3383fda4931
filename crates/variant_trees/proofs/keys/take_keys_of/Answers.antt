use Rattle.std.proofs.Common.{List, ℕ, None, Some, option_map, refl}
use Rattle.index_derive.specs.Entries.{key_list}
use Rattle.table_trees.specs.StoredTables.{index_entries, table_long_values, table_nodes}
use Rattle.laws_engine.specs.Variants.{is_variant_key}
use Rattle.stored_variants.specs.RecordRows.{record_of, row_under}
use Rattle.variant_trees.specs.GoneKeys.{held_from}
use Rattle.variant_trees.specs.GoneRecords.{gone_fields}
use Rattle.variant_trees.proofs.EntryTrees.{entries_stay}
use Rattle.variant_trees.proofs.LostKeys.{keys_begin, keys_end, keys_go_on}
use Rattle.variant_trees.proofs.keys.take_keys_of.Goals as goal

pub returns-in-None-next_key-clause-keys : goal.returns-in-None-next_key-clause-keys
returns-in-None-next_key-clause-keys c =
    keys_end (key_list c.args.rule.now c.args.schema.now (gone_fields (table_long_values c.args.trees.now.tables c.args.table.0) c.args.gone)) (λ (k : List ℕ). is_variant_key (option_map (record_of (table_long_values c.args.trees.now.tables c.args.table.0)) (row_under (table_nodes c.args.trees.now.tables c.args.table.0) c.args.bookmark.now)) (held_from (table_long_values c.args.trees.now.tables) c.args.from c.args.versions.now) c.args.rule.now c.args.schema.now c.args.table.0 k c.args.bookmark.now) c.args.bookmark.now (index_entries c.args.trees.now.tables c.args.table.0 c.args.rule.now.id.0) (index_entries c.take_key.new.trees.tables c.args.table.0 c.args.rule.now.id.0)
    (keys_go_on (key_list c.args.rule.now c.args.schema.now (gone_fields (table_long_values c.args.trees.now.tables c.args.table.0) c.args.gone)) (λ (k : List ℕ). is_variant_key (option_map (record_of (table_long_values c.args.trees.now.tables c.args.table.0)) (row_under (table_nodes c.args.trees.now.tables c.args.table.0) c.args.bookmark.now)) (held_from (table_long_values c.args.trees.now.tables) c.args.from c.args.versions.now) c.args.rule.now c.args.schema.now c.args.table.0 k c.args.bookmark.now) c.args.bookmark.now (index_entries c.args.trees.now.tables c.args.table.0 c.args.rule.now.id.0) (index_entries c.args.trees.now.tables c.args.table.0 c.args.rule.now.id.0) (index_entries c.take_key.new.trees.tables c.args.table.0 c.args.rule.now.id.0) c.in-Some.key None (c.entries_rise.ensures c.args.rule.now c.args.schema.now (gone_fields (table_long_values c.args.trees.now.tables c.args.table.0) c.args.gone))
    (keys_begin (key_list c.args.rule.now c.args.schema.now (gone_fields (table_long_values c.args.trees.now.tables c.args.table.0) c.args.gone)) (λ (k : List ℕ). is_variant_key (option_map (record_of (table_long_values c.args.trees.now.tables c.args.table.0)) (row_under (table_nodes c.args.trees.now.tables c.args.table.0) c.args.bookmark.now)) (held_from (table_long_values c.args.trees.now.tables) c.args.from c.args.versions.now) c.args.rule.now c.args.schema.now c.args.table.0 k c.args.bookmark.now) c.args.bookmark.now (index_entries c.args.trees.now.tables c.args.table.0 c.args.rule.now.id.0) (Some c.in-Some.key) (c.entries_rise.ensures c.args.rule.now c.args.schema.now (gone_fields (table_long_values c.args.trees.now.tables c.args.table.0) c.args.gone)) c.in-Some.ensures) c.take_key.ensures.key c.in-None-next_key.ensures)

pub returns-in-None-clause-others : goal.returns-in-None-clause-others
returns-in-None-clause-others c = entries_stay c.args.table.0 c.args.trees.now.tables

pub returns-in-None-clause-indexes : goal.returns-in-None-clause-indexes
returns-in-None-clause-indexes c = λ other apart. refl

pub returns-in-None-clause-keys : goal.returns-in-None-clause-keys
returns-in-None-clause-keys c =
    keys_end (key_list c.args.rule.now c.args.schema.now (gone_fields (table_long_values c.args.trees.now.tables c.args.table.0) c.args.gone)) (λ (k : List ℕ). is_variant_key (option_map (record_of (table_long_values c.args.trees.now.tables c.args.table.0)) (row_under (table_nodes c.args.trees.now.tables c.args.table.0) c.args.bookmark.now)) (held_from (table_long_values c.args.trees.now.tables) c.args.from c.args.versions.now) c.args.rule.now c.args.schema.now c.args.table.0 k c.args.bookmark.now) c.args.bookmark.now (index_entries c.args.trees.now.tables c.args.table.0 c.args.rule.now.id.0) (index_entries c.args.trees.now.tables c.args.table.0 c.args.rule.now.id.0) (keys_begin (key_list c.args.rule.now c.args.schema.now (gone_fields (table_long_values c.args.trees.now.tables c.args.table.0) c.args.gone)) (λ (k : List ℕ). is_variant_key (option_map (record_of (table_long_values c.args.trees.now.tables c.args.table.0)) (row_under (table_nodes c.args.trees.now.tables c.args.table.0) c.args.bookmark.now)) (held_from (table_long_values c.args.trees.now.tables) c.args.from c.args.versions.now) c.args.rule.now c.args.schema.now c.args.table.0 k c.args.bookmark.now) c.args.bookmark.now (index_entries c.args.trees.now.tables c.args.table.0 c.args.rule.now.id.0) None (c.entries_rise.ensures c.args.rule.now c.args.schema.now (gone_fields (table_long_values c.args.trees.now.tables c.args.table.0) c.args.gone)) c.in-None.ensures)

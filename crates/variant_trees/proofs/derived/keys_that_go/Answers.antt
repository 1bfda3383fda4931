use Rattle.std.proofs.Common.{◌≡◌, ◌&&◌, not, List, ℕ, Option, bytes_eq, option_map, sym, ap, subst, ◌∙◌}
use Rattle.std.specs.Prelude.{IfSome, option_and_then, option_copied}
use Rattle.std.specs.List.{list_any}
use Rattle.database_state.specs.Conflicts.{yields_key}
use Rattle.index_derive.specs.Entries.{key_list}
use Rattle.table_trees.specs.StoredTables.{table_long_values, table_nodes}
use Rattle.stored_variants.specs.RecordRows.{IsRecordRow, record_of, row_in_node, row_under, some_before}
use Rattle.variant_trees.specs.GoneKeys.{held_from}
use Rattle.variant_trees.specs.GoneRecords.{gone_fields}
use Rattle.variant_trees.proofs.KeysLeft.{neither}
use Rattle.variant_trees.proofs.derived.keys_that_go.Goals as goal

pub without_keys_of-requires-clause-row : goal.without_keys_of-requires-clause-row
without_keys_of-requires-clause-row c = subst (λ (o : Option (List ℕ)). IfSome o (IsRecordRow (table_long_values c.args.trees.now.tables c.args.table.0))) (sym (c.row_in_node-newest.ensures ∙ ap (option_and_then row_in_node) c.get.ensures)) c.requires.newest

pub returns-in-Ok-without_keys_before : goal.returns-in-Ok-without_keys_before
returns-in-Ok-without_keys_before c = λ key.
    let newest = c.row_in_node-newest.ensures ∙ ap (option_and_then row_in_node) c.get.ensures in
    c.in-Ok-without_keys_before.ensures key
    ∙ ap (λ b. b && not (some_before (yields_key c.args.rule.now c.args.schema.now key) c.args.table.0 c.args.bookmark.now (held_from (table_long_values c.args.trees.now.tables) c.args.from c.args.versions.now)))
    (c.in-Ok-without_keys_of.ensures key ∙ (λ i. list_any (bytes_eq key) (c.in-Ok.ensures i) && not (yields_key c.args.rule.now c.args.schema.now key (option_map (record_of (table_long_values c.args.trees.now.tables c.args.table.0)) (newest i)))))
    ∙ neither (list_any (bytes_eq key) (key_list c.args.rule.now c.args.schema.now (gone_fields (table_long_values c.args.trees.now.tables c.args.table.0) c.args.gone))) (yields_key c.args.rule.now c.args.schema.now key (option_map (record_of (table_long_values c.args.trees.now.tables c.args.table.0)) (row_under (table_nodes c.args.trees.now.tables c.args.table.0) c.args.bookmark.now))) (some_before (yields_key c.args.rule.now c.args.schema.now key) c.args.table.0 c.args.bookmark.now (held_from (table_long_values c.args.trees.now.tables) c.args.from c.args.versions.now))

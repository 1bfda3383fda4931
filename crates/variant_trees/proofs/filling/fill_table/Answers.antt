use Rattle.std.proofs.Common.{Option, subst}
use Rattle.std.specs.Prelude.{IfSome}
use Rattle.database_state.specs.Table.{Table, schema_of}
use Rattle.index_derive.specs.declared.rules.Schema.{Schema}
use Rattle.table_trees.specs.StoredTables.{table_long_values, index_entries, table_nodes}
use Rattle.variant_trees.specs.NewEntries.{HasNewestKeys}
use Rattle.stored_variants.proofs.Outcomes.{on_ok}
use Rattle.variant_trees.proofs.filling.fill_table.Goals as goal

pub returns-clause-filled : goal.returns-clause-filled
returns-clause-filled c =
    on_ok c.fill.result c.fill.ensures.ok
    (λ has.
    subst (λ (o : Option Table). IfSome o (λ t. HasNewestKeys (table_long_values c.args.trees.now.tables c.args.table.0) c.args.rule.now (table_nodes c.args.trees.now.tables c.args.table.0) (index_entries c.fill.new.trees.tables c.args.table.0 c.args.rule.now.id.0) (schema_of t))) c.in-Some.ensures
    (subst (λ (schema : Schema). HasNewestKeys (table_long_values c.args.trees.now.tables c.args.table.0) c.args.rule.now (table_nodes c.args.trees.now.tables c.args.table.0) (index_entries c.fill.new.trees.tables c.args.table.0 c.args.rule.now.id.0) schema) c.schema.ensures has))

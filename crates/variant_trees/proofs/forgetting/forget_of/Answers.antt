use Rattle.std.proofs.Common.{◌≡◌, Option, Some, sym, ap, subst, ◌∙◌}
use Rattle.std.specs.Prelude.{IfSome, option_copied}
use Rattle.database_state.specs.Table.{Table, schema_of, table_with_id}
use Rattle.table_trees.specs.StoredTables.{table_long_values}
use Rattle.variant_trees.proofs.Forgotten.{always_named, distinct_ids}
use Rattle.variant_trees.proofs.forgetting.forget_of.Goals as goal

pub forget_in-requires-clause-was : goal.forget_in-requires-clause-was
forget_in-requires-clause-was c =
    let found : Some c.in-Some.named.now ≡ table_with_id c.args.catalog.now.tables c.args.table.0 = sym (ap option_copied c.in-Some.is) ∙ c.by_id.ensures in
    let same : IfSome (table_with_id c.args.catalog.now.tables c.args.table.0) (λ t. c.schema.result.now ≡ schema_of t) = subst (λ (o : Option Table). IfSome o (λ t. c.schema.result.now ≡ schema_of t)) found c.schema.ensures in
    (c.args.catalog.now.tables, record { ids = distinct_ids c.args.catalog.now c.tables.ensures.numbered; same = same }, c.requires.kept)

pub returns-in-Some-clause-forgotten : goal.returns-in-Some-clause-forgotten
returns-in-Some-clause-forgotten c =
    let found : Some c.in-Some.named.now ≡ table_with_id c.args.catalog.now.tables c.args.table.0 = sym (ap option_copied c.in-Some.is) ∙ c.by_id.ensures in
    let same : IfSome (table_with_id c.args.catalog.now.tables c.args.table.0) (λ t. c.schema.result.now ≡ schema_of t) = subst (λ (o : Option Table). IfSome o (λ t. c.schema.result.now ≡ schema_of t)) found c.schema.ensures in
    c.forget_in.ensures.forgotten c.args.catalog.now.tables (record { ids = distinct_ids c.args.catalog.now c.tables.ensures.numbered; same = same }) c.requires.kept

pub returns-in-None-clause-forgotten : goal.returns-in-None-clause-forgotten
returns-in-None-clause-forgotten c = always_named (table_long_values c.args.trees.now.tables) c.args.catalog.now.tables c.args.trees.now.tables c.args.versions.now c.args.table.0 c.requires.kept (sym c.requires.first) (sym (ap option_copied c.in-None.is) ∙ c.by_id.ensures)

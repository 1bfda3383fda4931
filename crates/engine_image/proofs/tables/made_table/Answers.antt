use Rattle.std.proofs.Common.{List, [], filter, length, sym, ap, subst, ◌∙◌}
use Rattle.database_state.specs.Table.{primary_first}
use Rattle.index_derive.specs.declared.rules.IndexRule.{IndexRule}
use Rattle.index_derive.specs.declared.rules.Schema.{Schema}
use Rattle.table_trees.specs.declared.table.TableIndex.{TableIndex}
use Rattle.engine_image.specs.MadeTables.{AreMadeIndexes, MoveTrees}
use Rattle.engine_image.proofs.MovedTrees.{made_are, secondary, secondary_same}
use Rattle.engine_image.proofs.tables.made_table.Goals as goal

pub returns-in-Ok : goal.returns-in-Ok
returns-in-Ok c =
    let rules = primary_first c.args.table.now.indexes in
    let opened = c.args.opened.indexes.items in
    let left = c.in-Ok.ensures.0 in
    let moves = subst (λ (l : List IndexRule). MoveTrees l opened [] left c.in-Ok.indexes.items) (c.as_slice.ensures ∙ ap (λ (s : Schema). s.indexes) c.schema.ensures) c.in-Ok.ensures.1 in
    let many = ap length (secondary_same c.args.table.now.indexes) ∙ c.requires.many in
    record {
      table_is = c.of.ensures.table;
      nodes_is = c.of.ensures.nodes;
      longs_is = ap (λ s. s.tree) c.of.ensures.long_values ∙ c.of-long_values.ensures;
      indexes = subst (λ (l : List TableIndex). AreMadeIndexes (filter secondary c.args.table.now.indexes) opened l) (ap (λ v. v.items) (sym c.of.ensures.indexes))
          (subst (λ (l : List IndexRule). AreMadeIndexes l opened c.in-Ok.indexes.items) (secondary_same c.args.table.now.indexes) (made_are rules opened left c.in-Ok.indexes.items c.requires.differ c.requires.have many moves));
    }

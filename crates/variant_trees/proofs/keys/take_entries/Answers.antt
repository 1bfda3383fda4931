use Rattle.std.proofs.Common.{◌≡◌, List, ℕ, refl, subst, ◌∙◌, arith}
use Rattle.table_trees.specs.StoredTables.{index_entries}
use Rattle.variant_trees.proofs.EntryTrees.{entries_stay, entries_then}
use Rattle.variant_trees.proofs.KeysPut.{whole}
use Rattle.variant_trees.proofs.LostKeys.{LosesAll, none_lost, one_lost}
use Rattle.variant_trees.proofs.keys.take_entries.Goals as goal

pub loop-key-init : goal.loop-key-init
loop-key-init c = record {
  catalog = refl;
  others = entries_stay c.args.table.0 c.args.trees.now.tables;
  indexes = λ other apart. refl;
  entries = none_lost c.args.keys.now c.args.bookmark.now (index_entries c.args.trees.now.tables c.args.table.0 c.args.index.0);
}

pub loop-key-preserved : goal.loop-key-preserved
loop-key-preserved c = record {
  catalog = c.take_entry.ensures.catalog ∙ c.loop-key.invariant.catalog;
  others = entries_then c.args.table.0 c.args.trees.now.tables c.loop-key.trees.tables c.take_entry.new.trees.tables c.loop-key.invariant.others c.take_entry.ensures.others;
  indexes = λ other apart. c.take_entry.ensures.indexes other apart ∙ c.loop-key.invariant.indexes other apart;
  entries =
      one_lost c.args.keys.now c.args.bookmark.now (index_entries c.args.trees.now.tables c.args.table.0 c.args.index.0) (index_entries c.loop-key.trees.tables c.args.table.0 c.args.index.0)
      (index_entries c.take_entry.new.trees.tables c.args.table.0 c.args.index.0) c.loop-key.key-index c.key-item.result c.loop-key-test.true c.key-item.is c.loop-key.invariant.entries c.take_entry.ensures.entry;
}

pub returns-clause-others : goal.returns-clause-others
returns-clause-others c = c.loop-key.invariant.others

pub returns-clause-indexes : goal.returns-clause-indexes
returns-clause-indexes c = c.loop-key.invariant.indexes

pub returns-clause-entries : goal.returns-clause-entries
returns-clause-entries c =
    subst (λ (keys : List (List ℕ)). LosesAll keys c.args.bookmark.now (index_entries c.args.trees.now.tables c.args.table.0 c.args.index.0) (index_entries c.loop-key.trees.tables c.args.table.0 c.args.index.0))
    (whole c.args.keys.now c.loop-key.key-index (omega (arith, c.loop-key-test.false))) c.loop-key.invariant.entries

use Rattle.std.proofs.Common.{[]}
use Rattle.long_value.specs.Stores.{own_pages}
use Rattle.table_trees.proofs.Pages.{nothing_own, rearranged}
use Rattle.table_trees.proofs.TableChanges.{has_shown}
use Rattle.table_trees.proofs.long_values.LongTree.new.Goals as goal

pub returns-in-Ok-clause-empty : goal.returns-in-Ok-clause-empty
returns-in-Ok-clause-empty c =
    let has = c.in-Ok.ensures.empty in (
      has_shown c.values_are_shown.ensures c.new.new.space c.in-Ok.store [] has,
      c.values_are_shown.ensures c.new.new.space c.in-Ok.store [] has,
      rearranged c.args.space.now c.new.new.space [] (own_pages c.new.new.space c.in-Ok.store) c.in-Ok.ensures.pages (nothing_own c.args.space.now) (c.tree_pages_are_own.ensures c.new.new.space c.in-Ok.store.tree has.tree),
    )

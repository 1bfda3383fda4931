use Rattle.std.proofs.Common.{ℕ, List, sym, ap, subst, ◌∙◌, refl}
use Rattle.laws_versions.specs.KeptEntries.{has_entry}
use Rattle.index_derive.specs.Entries.{insert_entry}
use Rattle.index_tree.specs.Entries.{IsApartFromAll}
use Rattle.table_trees.specs.StoredTables.{index_entries, with_entries}
use Rattle.variant_trees.proofs.NewEntries.{has_none, is_absent, is_apart, some_more, still_there}
use Rattle.variant_trees.proofs.new_entries.put_entries.Goals as goal

pub loop-key-init : goal.loop-key-init
loop-key-init c = record { done = has_none c.args.table.0 c.args.index.0 c.args.keys.now c.args.bookmark.now c.args.trees.now.tables; catalog = refl }

pub insert_entry-requires-clause-there : goal.insert_entry-requires-clause-there
insert_entry-requires-clause-there c = still_there c.args.table.0 c.args.index.0 c.args.trees.now.tables c.loop-key.trees.tables c.loop-key.invariant.done.only c.requires.there

pub insert_entry-requires-clause-absent : goal.insert_entry-requires-clause-absent
insert_entry-requires-clause-absent c =
    ap (λ (key : List ℕ). has_entry key c.args.bookmark.now (index_entries c.loop-key.trees.tables c.args.table.0 c.args.index.0)) c.as_bytes.ensures.value
    ∙ is_absent c.args.table.0 c.args.index.0 c.args.keys.now c.args.bookmark.now c.key-item.result c.loop-key.key-index c.args.trees.now.tables c.loop-key.trees.tables c.loop-key-test.true c.key-item.is c.requires.rising c.requires.fresh c.loop-key.invariant.done

pub insert_entry-requires-clause-apart : goal.insert_entry-requires-clause-apart
insert_entry-requires-clause-apart c =
    subst (λ (key : List ℕ). IsApartFromAll key (index_entries c.loop-key.trees.tables c.args.table.0 c.args.index.0)) (sym c.as_bytes.ensures.value)
    (is_apart c.args.table.0 c.args.index.0 c.args.keys.now c.args.bookmark.now c.key-item.result c.loop-key.key-index c.args.trees.now.tables c.loop-key.trees.tables c.loop-key-test.true c.key-item.is c.requires.apart c.loop-key.invariant.done)

pub loop-key-preserved : goal.loop-key-preserved
loop-key-preserved c = record {
  done = (
      some_more (record { named = c.indexes_after_a_change.ensures.named; others = c.indexes_after_a_change.ensures.others; nodes = c.indexes_after_a_change.ensures.nodes; values = c.indexes_after_a_change.ensures.long_values })
      (record { named = c.entries_after_a_change.ensures.named; others = c.entries_after_a_change.ensures.others })
      c.args.table.0 c.args.index.0 c.args.keys.now c.args.bookmark.now c.key-item.result c.loop-key.key-index c.args.trees.now.tables c.loop-key.trees.tables c.insert_entry.new.self.tables c.loop-key-test.true c.key-item.is c.requires.there
      (c.in-Ok.ensures.ok ∙ ap (λ (key : List ℕ). with_entries c.args.table.0 c.args.index.0 (insert_entry (key, c.args.bookmark.now) (index_entries c.loop-key.trees.tables c.args.table.0 c.args.index.0)) c.loop-key.trees.tables) c.as_bytes.ensures.value)
      c.loop-key.invariant.done
      );
  catalog = c.insert_entry.ensures.catalog ∙ c.loop-key.invariant.catalog;
}

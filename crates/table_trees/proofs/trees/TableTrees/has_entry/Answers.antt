use Rattle.std.proofs.Common.{List, sym, ap, ◌∙◌, arith}
use Rattle.table_trees.specs.StoredTables.{StoredIndex, is_index, part_of}
use Rattle.laws_versions.specs.KeptEntries.{has_entry}
use Rattle.table_trees.proofs.Places.{place_of, within_of}
use Rattle.table_trees.proofs.StoreChanges.{found_indexes, found_table, is_named, no_indexes}
use Rattle.table_trees.proofs.trees.TableTrees.has_entry.Goals as goal

pub index-requires : goal.index-requires
index-requires c = omega (arith, c.self.inside.tables.ok.0, within_of (is_named c.args.table.0) c.self.inside.tables.items c.as_slice.result.now c.in-Some.i c.as_slice.ensures.value c.in-Some.ensures)

pub has_entry-requires-clause-table : goal.has_entry-requires-clause-table
has_entry-requires-clause-table c = found_table c.self.inside.space c.self.inside.tables.items c.args.table.0 c.in-Some.i c.index.result.now c.self.invariant (place_of (is_named c.args.table.0) c.self.inside.tables.items c.as_slice.result.now c.in-Some.i c.index.result.now c.as_slice.ensures.value c.in-Some.ensures c.index.ensures)

pub returns-in-Some : goal.returns-in-Some
returns-in-Some c =
    c.has_entry.ensures
    ∙ ap (λ (l : List StoredIndex). has_entry c.args.key.now c.args.bookmark.now (part_of (is_index c.args.index.0) (λ x. x.1) l))
    (sym (found_indexes c.self.inside.space c.self.inside.tables.items c.args.table.0 c.in-Some.i c.index.result.now c.args.self.now c.self.invariant (place_of (is_named c.args.table.0) c.self.inside.tables.items c.as_slice.result.now c.in-Some.i c.index.result.now c.as_slice.ensures.value c.in-Some.ensures c.index.ensures) c.self.view_is))

pub returns-in-None : goal.returns-in-None
returns-in-None c =
    ap (λ (l : List StoredIndex). has_entry c.args.key.now c.args.bookmark.now (part_of (is_index c.args.index.0) (λ x. x.1) l))
    (sym (no_indexes c.self.inside.space c.self.inside.catalog c.self.inside.tables.items c.as_slice.result.now c.args.table.0 c.args.self.now c.as_slice.ensures.value c.in-None.ensures c.self.view_is))

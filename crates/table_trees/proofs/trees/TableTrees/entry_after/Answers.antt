use Rattle.std.proofs.Common.{List, sym, ap, ◌∙◌, arith}
use Rattle.std.specs.Prelude.{All}
use Rattle.std.proofs.lemmas.List.Elements.{All-nil}
use Rattle.cursor_nav.specs.Places.{entry_after}
use Rattle.table_trees.specs.StoredTables.{StoredIndex, index_entries, is_index, part_of}
use Rattle.index_tree.specs.Entries.{IsShort}
use Rattle.table_trees.proofs.FoundEntries.{entry_after_short}
use Rattle.table_trees.proofs.Places.{place_of, within_of}
use Rattle.table_trees.proofs.StoreChanges.{each_entries, found_indexes, found_table, is_named, no_indexes}
use Rattle.table_trees.proofs.trees.TableTrees.entry_after.Goals as goal

pub index-requires : goal.index-requires
index-requires c = omega (arith, c.self.inside.tables.ok.0, within_of (is_named c.args.table.0) c.self.inside.tables.items c.as_slice.result.now c.in-Some.i c.as_slice.ensures.value c.in-Some.ensures)

pub entry_after-requires : goal.entry_after-requires
entry_after-requires c = found_table c.self.inside.space c.self.inside.tables.items c.args.table.0 c.in-Some.i c.index.result.now c.self.invariant (place_of (is_named c.args.table.0) c.self.inside.tables.items c.as_slice.result.now c.in-Some.i c.index.result.now c.as_slice.ensures.value c.in-Some.ensures c.index.ensures)

pub returns-in-Some-clause-entry : goal.returns-in-Some-clause-entry
returns-in-Some-clause-entry c =
    c.entry_after.ensures
    ∙ ap (λ (l : List StoredIndex). entry_after c.args.place.now (part_of (is_index c.args.index.0) (λ x. x.1) l))
    (sym (found_indexes c.self.inside.space c.self.inside.tables.items c.args.table.0 c.in-Some.i c.index.result.now c.args.self.now c.self.invariant (place_of (is_named c.args.table.0) c.self.inside.tables.items c.as_slice.result.now c.in-Some.i c.index.result.now c.as_slice.ensures.value c.in-Some.ensures c.index.ensures) c.self.view_is))

pub returns-in-Some-clause-short : goal.returns-in-Some-clause-short
returns-in-Some-clause-short c =
    entry_after_short (λ found. (found.0.now, found.1.now)) c.entry_after.result c.args.place.now (index_entries c.args.self.now.tables c.args.table.0 c.args.index.0)
    (
    c.entry_after.ensures
    ∙ ap (λ (l : List StoredIndex). entry_after c.args.place.now (part_of (is_index c.args.index.0) (λ x. x.1) l))
    (sym (found_indexes c.self.inside.space c.self.inside.tables.items c.args.table.0 c.in-Some.i c.index.result.now c.args.self.now c.self.invariant (place_of (is_named c.args.table.0) c.self.inside.tables.items c.as_slice.result.now c.in-Some.i c.index.result.now c.as_slice.ensures.value c.in-Some.ensures c.index.ensures) c.self.view_is))
    )
    (each_entries (All IsShort) c.self.inside.space c.self.inside.tables.items c.args.self.now c.args.table.0 c.args.index.0 c.self.invariant c.self.view_is (All-nil IsShort) (λ tree is. is.short))

pub returns-in-None-clause-entry : goal.returns-in-None-clause-entry
returns-in-None-clause-entry c =
    ap (λ (l : List StoredIndex). entry_after c.args.place.now (part_of (is_index c.args.index.0) (λ x. x.1) l))
    (sym (no_indexes c.self.inside.space c.self.inside.catalog c.self.inside.tables.items c.as_slice.result.now c.args.table.0 c.args.self.now c.as_slice.ensures.value c.in-None.ensures c.self.view_is))

use Rattle.std.proofs.Common.{sym, ap, ◌∙◌, arith}
use Rattle.laws_versions.specs.KeptEntries.{has_entry}
use Rattle.table_trees.specs.StoredTables.{is_index}
use Rattle.table_trees.specs.TableParts.{stored_index}
use Rattle.table_trees.proofs.IndexChanges.{found_entries, found_index, is_numbered}
use Rattle.table_trees.proofs.Places.{found_no_part, place_of, within_of}
use Rattle.table_trees.proofs.table.Table.has_entry.Goals as goal

pub index-requires : goal.index-requires
index-requires c = omega (arith, c.args.self.now.indexes.ok.0, within_of (is_numbered c.args.index.0) c.args.self.now.indexes.items c.as_slice.result.now c.in-Some.i c.as_slice.ensures.value c.in-Some.ensures)

pub has-requires-clause-index : goal.has-requires-clause-index
has-requires-clause-index c =
    found_index c.args.space.now c.args.self.now c.args.index.0 c.in-Some.i c.index.result.now c.requires.table
    (place_of (is_numbered c.args.index.0) c.args.self.now.indexes.items c.as_slice.result.now c.in-Some.i c.index.result.now c.as_slice.ensures.value c.in-Some.ensures c.index.ensures)

pub returns-in-Some : goal.returns-in-Some
returns-in-Some c =
    c.has.ensures
    ∙ ap (has_entry c.args.key.now c.args.bookmark.now)
    (sym (found_entries c.args.space.now c.args.self.now c.args.index.0 c.in-Some.i c.index.result.now c.requires.table
    (place_of (is_numbered c.args.index.0) c.args.self.now.indexes.items c.as_slice.result.now c.in-Some.i c.index.result.now c.as_slice.ensures.value c.in-Some.ensures c.index.ensures)))

pub returns-in-None : goal.returns-in-None
returns-in-None c =
    ap (has_entry c.args.key.now c.args.bookmark.now)
    (sym (found_no_part (stored_index c.args.space.now) (is_index c.args.index.0) (λ x. x.1) c.args.self.now.indexes.items c.as_slice.result.now c.as_slice.ensures.value c.in-None.ensures))

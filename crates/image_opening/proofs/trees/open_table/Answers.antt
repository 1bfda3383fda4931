use Rattle.std.proofs.Common.{ap, refl, sym, ◌∙◌}
use Rattle.image_opening.proofs.WalkedTable.{indexes_failed, records_failed, roots_by_parts, table_walked, trees_of_table, values_failed}
use Rattle.image_opening.proofs.trees.open_table.Goals as goal

pub returns-in-Ok-open_tree-clause-trees : goal.returns-in-Ok-open_tree-clause-trees
returns-in-Ok-open_tree-clause-trees c =
    let inside = c.roots.inside in
    let parts = sym c.roots.view_is ∙ ap (roots_by_parts inside.table inside.records inside.long_values) (sym c.as_slice.ensures.value) in
    trees_of_table c.args.space.now c.args.roots.now inside.table inside.records inside.long_values c.as_slice.result.now
    (record { table = inside.table; nodes = c.in-Ok.nodes; long_values = c.in-Ok-open_tree.long_values; indexes = c.in-Ok-open_indexes.indexes }) parts refl c.in-Ok.ensures.tree c.in-Ok-open_indexes.ensures.indexes
    c.in-Ok-open_tree.ensures.tree

pub returns-in-Ok-open_tree-clause-walked : goal.returns-in-Ok-open_tree-clause-walked
returns-in-Ok-open_tree-clause-walked c =
    let inside = c.roots.inside in
    let parts = sym c.roots.view_is ∙ ap (roots_by_parts inside.table inside.records inside.long_values) (sym c.as_slice.ensures.value) in
    table_walked c.args.space.now c.args.roots.now inside.table inside.records inside.long_values c.as_slice.result.now c.args.marks.now c.open_tree.new.marks c.open_indexes.new.marks c.open_tree-in-Ok-open_indexes.new.marks parts c.in-Ok.ensures.walked
    c.in-Ok-open_indexes.ensures.walked c.in-Ok-open_tree.ensures.walked

pub returns-in-Err-open_tree-clause-fault : goal.returns-in-Err-open_tree-clause-fault
returns-in-Err-open_tree-clause-fault c =
    let inside = c.roots.inside in
    let parts = sym c.roots.view_is ∙ ap (roots_by_parts inside.table inside.records inside.long_values) (sym c.as_slice.ensures.value) in
    values_failed c.args.space.now c.args.roots.now inside.table inside.records inside.long_values c.as_slice.result.now c.args.marks.now c.open_tree.new.marks c.open_indexes.new.marks c.in-Err-open_tree.fault parts c.in-Ok.ensures.walked
    c.in-Ok-open_indexes.ensures.walked c.in-Err-open_tree.ensures.fault

pub returns-in-Err-open_indexes-clause-fault : goal.returns-in-Err-open_indexes-clause-fault
returns-in-Err-open_indexes-clause-fault c =
    let inside = c.roots.inside in
    let parts = sym c.roots.view_is ∙ ap (roots_by_parts inside.table inside.records inside.long_values) (sym c.as_slice.ensures.value) in
    indexes_failed c.args.space.now c.args.roots.now inside.table inside.records inside.long_values c.as_slice.result.now c.args.marks.now c.open_tree.new.marks c.in-Err-open_indexes.fault parts c.in-Ok.ensures.walked c.in-Err-open_indexes.ensures.fault

pub returns-in-Err-clause-fault : goal.returns-in-Err-clause-fault
returns-in-Err-clause-fault c =
    let inside = c.roots.inside in
    records_failed c.args.space.now c.args.roots.now inside.table inside.records inside.long_values inside.indexes.items c.args.marks.now c.in-Err.fault (sym c.roots.view_is) c.in-Err.ensures.fault

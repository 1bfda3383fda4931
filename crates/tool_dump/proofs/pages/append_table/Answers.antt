use Rattle.std.proofs.Common.{◌≡◌, List, ℕ, None, Option, [], ◌∷◌, sym, subst}
use Rattle.std.specs.Prelude.{codes}
use Rattle.catalog_grammar.specs.Catalogs.{CatalogTable}
use Rattle.image_findings.specs.CatalogFindings.{roots_of}
use Rattle.image_findings.specs.Images.{Finding}
use Rattle.image_findings.specs.TreeFindings.{trees_finding}
use Rattle.std.specs.List.{flat_map}
use Rattle.tool_dump.specs.SoundTrees.{lines_of_index}
use Rattle.tool_dump.specs.SpaceTexts.{nodes_line}
use Rattle.tool_dump.proofs.Telling.{asks_of_indexes, asks_of_table, asks_of_values, table_told}
use Rattle.tool_dump.proofs.pages.append_table.Goals as goal

abbrev none : Option Finding
none = None

pub append_tree-requires : goal.append_tree-requires
append_tree-requires c =
    let x : CatalogTable = record { table = c.told.inside.table; columns = c.told.inside.columns.items; indexes = c.told.inside.indexes.items } in
    (asks_of_table c.args.space.now x c.args.marks.now (subst (λ (y : CatalogTable). trees_finding c.args.space.now (roots_of y) c.args.marks.now ≡ none) (sym c.told.view_is) c.requires)).records

pub append_indexes-requires : goal.append_indexes-requires
append_indexes-requires c =
    let x : CatalogTable = record { table = c.told.inside.table; columns = c.told.inside.columns.items; indexes = c.told.inside.indexes.items } in
    asks_of_indexes c.args.space.now x c.as_slice.result.now c.args.text.now.items c.append_tree.new.text.items (nodes_line c.args.space.now c.as_bytes-table.result.now (codes "records") c.told.inside.table.records) c.args.marks.now c.append_tree.new.marks
    c.as_slice.ensures.value (subst (λ (y : CatalogTable). trees_finding c.args.space.now (roots_of y) c.args.marks.now ≡ none) (sym c.told.view_is) c.requires) c.in_ok-append_tree.ensures

pub append_long_values-requires : goal.append_long_values-requires
append_long_values-requires c =
    let x : CatalogTable = record { table = c.told.inside.table; columns = c.told.inside.columns.items; indexes = c.told.inside.indexes.items } in
    asks_of_values c.args.space.now x c.as_slice.result.now c.args.text.now.items c.append_tree.new.text.items c.append_indexes.new.text.items (nodes_line c.args.space.now c.as_bytes-table.result.now (codes "records") c.told.inside.table.records)
    (flat_map (lines_of_index c.args.space.now c.as_bytes-table.result.now) c.as_slice.result.now) c.args.marks.now c.append_tree.new.marks c.append_indexes.new.marks c.as_slice.ensures.value
    (subst (λ (y : CatalogTable). trees_finding c.args.space.now (roots_of y) c.args.marks.now ≡ none) (sym c.told.view_is) c.requires) c.in_ok-append_tree.ensures c.in_ok-append_indexes.ensures

pub returns : goal.returns
returns c =
    let x : CatalogTable = record { table = c.told.inside.table; columns = c.told.inside.columns.items; indexes = c.told.inside.indexes.items } in
    table_told c.append_long_values.result c.args.space.now x c.args.told.now c.as_bytes-table.result.now c.as_slice.result.now c.args.text.now.items c.append_tree.new.text.items c.append_indexes.new.text.items c.append_long_values.new.text.items c.args.marks.now c.append_tree.new.marks
    c.append_indexes.new.marks c.append_long_values.new.marks c.told.view_is
    (record { name_is = c.as_bytes-table.ensures; indexes_are = c.as_slice.ensures.value; records = c.in_ok-append_tree.ensures; entries = c.in_ok-append_indexes.ensures }) c.append_long_values.ensures

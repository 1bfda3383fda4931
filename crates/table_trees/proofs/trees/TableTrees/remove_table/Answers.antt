-- The table's trees go back to the space, and the other trees stay.
use Rattle.std.proofs.Common.{sym, ap, subst, ◌∙◌, arith, true≢false}
use Rattle.table_trees.specs.TreesView.{AreTables}
use Rattle.table_trees.proofs.Places.{place_of, within_of}
use Rattle.table_trees.proofs.StoreChanges.{catalog_same, found_table, is_named, no_table, stored_trees, table_goes, tables_same, without_table_trees}
use Rattle.table_trees.proofs.trees.TableTrees.remove_table.Goals as goal

pub remove-removed-requires : goal.remove-removed-requires
remove-removed-requires c = omega (arith, c.self.inside.tables.ok.0, within_of (is_named c.args.table.0) c.self.inside.tables.items c.as_slice.result.now c.in-Some.i c.as_slice.ensures.value c.in-Some.ensures)

pub give_back-requires : goal.give_back-requires
give_back-requires c = found_table c.self.inside.space c.self.inside.tables.items c.args.table.0 c.in-Some.i c.remove-removed.result c.self.invariant (place_of (is_named c.args.table.0) c.self.inside.tables.items c.as_slice.result.now c.in-Some.i c.remove-removed.result c.as_slice.ensures.value c.in-Some.ensures c.remove-removed.ensures.value)

pub invariant_of-self : goal.invariant_of-self
invariant_of-self c = subst (AreTables c.give_back.new.space c.self.inside.catalog) (sym c.remove-removed.ensures.items) (table_goes (record { tables = c.tables_stay.ensures.tables; catalog = c.tables_stay.ensures.catalog }) c.self.inside.space c.self.inside.tables.items c.give_back.new.space c.args.table.0 c.in-Some.i c.remove-removed.result c.self.invariant (place_of (is_named c.args.table.0) c.self.inside.tables.items c.as_slice.result.now c.in-Some.i c.remove-removed.result c.as_slice.ensures.value c.in-Some.ensures c.remove-removed.ensures.value) c.give_back.ensures).0

pub returns-in-Some-clause-tables : goal.returns-in-Some-clause-tables
returns-in-Some-clause-tables c =
    tables_same
    (ap (stored_trees c.give_back.new.space c.self.inside.catalog) c.remove-removed.ensures.items
    ∙ (table_goes (record { tables = c.tables_stay.ensures.tables; catalog = c.tables_stay.ensures.catalog }) c.self.inside.space c.self.inside.tables.items c.give_back.new.space c.args.table.0 c.in-Some.i c.remove-removed.result c.self.invariant (place_of (is_named c.args.table.0) c.self.inside.tables.items c.as_slice.result.now c.in-Some.i c.remove-removed.result c.as_slice.ensures.value c.in-Some.ensures c.remove-removed.ensures.value) c.give_back.ensures).1
    ∙ ap (without_table_trees c.args.table.0) c.self.view_is)

pub returns-in-Some-clause-catalog : goal.returns-in-Some-clause-catalog
returns-in-Some-clause-catalog c =
    catalog_same
    (ap (stored_trees c.give_back.new.space c.self.inside.catalog) c.remove-removed.ensures.items
    ∙ (table_goes (record { tables = c.tables_stay.ensures.tables; catalog = c.tables_stay.ensures.catalog }) c.self.inside.space c.self.inside.tables.items c.give_back.new.space c.args.table.0 c.in-Some.i c.remove-removed.result c.self.invariant (place_of (is_named c.args.table.0) c.self.inside.tables.items c.as_slice.result.now c.in-Some.i c.remove-removed.result c.as_slice.ensures.value c.in-Some.ensures c.remove-removed.ensures.value) c.give_back.ensures).1
    ∙ ap (without_table_trees c.args.table.0) c.self.view_is)

pub returns-in-None-clause-tables : goal.returns-in-None-clause-tables
returns-in-None-clause-tables c = absurd (true≢false (sym c.requires ∙ no_table c.self.inside.space c.self.inside.catalog c.self.inside.tables.items c.as_slice.result.now c.args.table.0 c.args.self.now c.as_slice.ensures.value c.in-None.ensures c.self.view_is))

pub returns-in-None-clause-catalog : goal.returns-in-None-clause-catalog
returns-in-None-clause-catalog c = absurd (true≢false (sym c.requires ∙ no_table c.self.inside.space c.self.inside.catalog c.self.inside.tables.items c.as_slice.result.now c.args.table.0 c.args.self.now c.as_slice.ensures.value c.in-None.ensures c.self.view_is))

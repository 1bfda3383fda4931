-- The catalog has the nodes before again, and all tables stay.
use Rattle.std.proofs.Common.{◌≡◌, map, sym, ap, subst, ◌∙◌, arith, true≢false}
use Rattle.jet_base.specs.Ids.{table_id}
use Rattle.index_derive.specs.declared.schema_calls.SchemaStep.TheVariants as step
use Rattle.catalog_grammar.specs.Catalogs.{TableRoots}
use Rattle.table_trees.specs.StoredTables.{has_table}
use Rattle.table_trees.specs.StoredTrees.{StoredCatalog, roots_by_number, told_roots}
use Rattle.table_trees.specs.TableParts.{tree_roots}
use Rattle.table_trees.proofs.KeptSteps.{roots_found, shows_after, stands_beside, step_shown, tables_beside}
use Rattle.table_trees.proofs.Places.{within_of}
use Rattle.table_trees.proofs.StoreChanges.{catalog_same, is_named, no_table}
use Rattle.table_trees.proofs.trees.TableTrees.take_back_column.Goals as goal

pub index-named-requires : goal.index-named-requires
index-named-requires c = omega (arith, c.self.inside.tables.ok.0, within_of (is_named c.id-id.result.0) c.self.inside.tables.items c.as_slice.result.now c.in-Some.i c.as_slice.ensures.value c.in-Some.ensures)

pub take_back_column-requires : goal.take_back_column-requires
take_back_column-requires c = let r = c.requires.step in ((roots_by_number (map tree_roots c.self.inside.tables.items)), r.0, (step_shown c.self.inside.space c.self.inside.catalog c.self.inside.tables.items c.args.self.now r.0 (step.AddColumn (table_id c.args.table.now.id) c.args.column.now) c.self.invariant c.self.view_is r.1), (record { there = r.2; records_root = ap (λ (t : TableRoots). t.records) (subst (λ n. roots_by_number (map tree_roots c.self.inside.tables.items) n ≡ told_roots (tree_roots c.index-named.result.now)) c.id-id.ensures (roots_found c.self.inside.tables.items c.as_slice.result.now c.id-id.result.0 c.in-Some.i c.index-named.result.now c.as_slice.ensures.value c.in-Some.ensures c.index-named.ensures)) ∙ sym c.root-records.ensures; long_values_root = ap (λ (t : TableRoots). t.long_values) (subst (λ n. roots_by_number (map tree_roots c.self.inside.tables.items) n ≡ told_roots (tree_roots c.index-named.result.now)) c.id-id.ensures (roots_found c.self.inside.tables.items c.as_slice.result.now c.id-id.result.0 c.in-Some.i c.index-named.result.now c.as_slice.ensures.value c.in-Some.ensures c.index-named.ensures)) ∙ sym c.root-long_values.ensures }))

pub invariant_of-self : goal.invariant_of-self
invariant_of-self c = (stands_beside (record { tables = c.tables_stay.ensures.tables; catalog = c.tables_stay.ensures.catalog }) c.self.invariant (c.take_back_column.ensures (roots_by_number (map tree_roots c.self.inside.tables.items)) c.requires.step.0 (step_shown c.self.inside.space c.self.inside.catalog c.self.inside.tables.items c.args.self.now c.requires.step.0 (step.AddColumn (table_id c.args.table.now.id) c.args.column.now) c.self.invariant c.self.view_is c.requires.step.1) (record { there = c.requires.step.2; records_root = ap (λ (t : TableRoots). t.records) (subst (λ n. roots_by_number (map tree_roots c.self.inside.tables.items) n ≡ told_roots (tree_roots c.index-named.result.now)) c.id-id.ensures (roots_found c.self.inside.tables.items c.as_slice.result.now c.id-id.result.0 c.in-Some.i c.index-named.result.now c.as_slice.ensures.value c.in-Some.ensures c.index-named.ensures)) ∙ sym c.root-records.ensures; long_values_root = ap (λ (t : TableRoots). t.long_values) (subst (λ n. roots_by_number (map tree_roots c.self.inside.tables.items) n ≡ told_roots (tree_roots c.index-named.result.now)) c.id-id.ensures (roots_found c.self.inside.tables.items c.as_slice.result.now c.id-id.result.0 c.in-Some.i c.index-named.result.now c.as_slice.ensures.value c.in-Some.ensures c.index-named.ensures)) ∙ sym c.root-long_values.ensures })).becomes).are

pub returns-in-Some-clause-shown : goal.returns-in-Some-clause-shown
returns-in-Some-clause-shown c = λ catalog shows there. shows_after c.self.inside.tables.items (c.take_back_column.ensures (roots_by_number (map tree_roots c.self.inside.tables.items)) catalog (step_shown c.self.inside.space c.self.inside.catalog c.self.inside.tables.items c.args.self.now catalog (step.AddColumn (table_id c.args.table.now.id) c.args.column.now) c.self.invariant c.self.view_is shows) (record { there = there; records_root = ap (λ (t : TableRoots). t.records) (subst (λ n. roots_by_number (map tree_roots c.self.inside.tables.items) n ≡ told_roots (tree_roots c.index-named.result.now)) c.id-id.ensures (roots_found c.self.inside.tables.items c.as_slice.result.now c.id-id.result.0 c.in-Some.i c.index-named.result.now c.as_slice.ensures.value c.in-Some.ensures c.index-named.ensures)) ∙ sym c.root-records.ensures; long_values_root = ap (λ (t : TableRoots). t.long_values) (subst (λ n. roots_by_number (map tree_roots c.self.inside.tables.items) n ≡ told_roots (tree_roots c.index-named.result.now)) c.id-id.ensures (roots_found c.self.inside.tables.items c.as_slice.result.now c.id-id.result.0 c.in-Some.i c.index-named.result.now c.as_slice.ensures.value c.in-Some.ensures c.index-named.ensures)) ∙ sym c.root-long_values.ensures }))

pub returns-in-Some-clause-tables : goal.returns-in-Some-clause-tables
returns-in-Some-clause-tables c = tables_beside c.self.inside.catalog (stands_beside (record { tables = c.tables_stay.ensures.tables; catalog = c.tables_stay.ensures.catalog }) c.self.invariant (c.take_back_column.ensures (roots_by_number (map tree_roots c.self.inside.tables.items)) c.requires.step.0 (step_shown c.self.inside.space c.self.inside.catalog c.self.inside.tables.items c.args.self.now c.requires.step.0 (step.AddColumn (table_id c.args.table.now.id) c.args.column.now) c.self.invariant c.self.view_is c.requires.step.1) (record { there = c.requires.step.2; records_root = ap (λ (t : TableRoots). t.records) (subst (λ n. roots_by_number (map tree_roots c.self.inside.tables.items) n ≡ told_roots (tree_roots c.index-named.result.now)) c.id-id.ensures (roots_found c.self.inside.tables.items c.as_slice.result.now c.id-id.result.0 c.in-Some.i c.index-named.result.now c.as_slice.ensures.value c.in-Some.ensures c.index-named.ensures)) ∙ sym c.root-records.ensures; long_values_root = ap (λ (t : TableRoots). t.long_values) (subst (λ n. roots_by_number (map tree_roots c.self.inside.tables.items) n ≡ told_roots (tree_roots c.index-named.result.now)) c.id-id.ensures (roots_found c.self.inside.tables.items c.as_slice.result.now c.id-id.result.0 c.in-Some.i c.index-named.result.now c.as_slice.ensures.value c.in-Some.ensures c.index-named.ensures)) ∙ sym c.root-long_values.ensures })).becomes) c.self.view_is

pub returns-in-Some-clause-roots : goal.returns-in-Some-clause-roots
returns-in-Some-clause-roots c = ap (λ (s : StoredCatalog). s.roots) (catalog_same c.self.view_is)

pub returns-in-None-clause-shown : goal.returns-in-None-clause-shown
returns-in-None-clause-shown c = absurd (true≢false (sym c.requires.there ∙ ap (has_table c.args.self.now.tables) (sym c.id-id.ensures) ∙ no_table c.self.inside.space c.self.inside.catalog c.self.inside.tables.items c.as_slice.result.now c.id-id.result.0 c.args.self.now c.as_slice.ensures.value c.in-None.ensures c.self.view_is))

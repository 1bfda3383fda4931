-- The catalog has the node, with the roots of trees that stand, and all tables stay.
use Rattle.std.proofs.Common.{◌≡◌, map, sym, ap, subst, ◌∙◌, arith, true≢false}
use Rattle.common_lemmas.proofs.Results.{OnOk-then, either_way}
use Rattle.catalog_grammar.specs.Catalogs.{TableRoots}
use Rattle.table_trees.specs.StoredTables.{has_table}
use Rattle.table_trees.specs.StoredTrees.{StoredCatalog, roots_by_number, told_roots}
use Rattle.table_trees.specs.TableParts.{tree_roots}
use Rattle.table_trees.proofs.KeptSteps.{catalog_beside, holds_shown, roots_found, shows_after, stands_beside, tables_beside}
use Rattle.table_trees.proofs.NewItems.{takes_column}
use Rattle.table_trees.proofs.Outcomes.{on_err}
use Rattle.table_trees.proofs.Places.{within_of}
use Rattle.table_trees.proofs.StoreChanges.{catalog_same, is_named, no_table}
use Rattle.table_trees.proofs.trees.TableTrees.keep_column.Goals as goal

pub index-named-requires : goal.index-named-requires
index-named-requires c = omega (arith, c.self.inside.tables.ok.0, within_of (is_named c.id-id.result.0) c.self.inside.tables.items c.as_slice.result.now c.in-Some.i c.as_slice.ensures.value c.in-Some.ensures)

pub add_column-requires : goal.add_column-requires
add_column-requires c = let r = c.requires.step in ((roots_by_number (map tree_roots c.self.inside.tables.items)), r.0, (holds_shown c.self.inside.space c.self.inside.catalog c.self.inside.tables.items c.args.self.now r.0 c.self.invariant c.self.view_is r.1), (takes_column (roots_by_number (map tree_roots c.self.inside.tables.items)) r.0 c.args.table.now c.args.column.now c.args.greatest.now c.root-records.result c.root-long_values.result r.2 (omega arith) (ap (λ (t : TableRoots). t.records) (subst (λ n. roots_by_number (map tree_roots c.self.inside.tables.items) n ≡ told_roots (tree_roots c.index-named.result.now)) c.id-id.ensures (roots_found c.self.inside.tables.items c.as_slice.result.now c.id-id.result.0 c.in-Some.i c.index-named.result.now c.as_slice.ensures.value c.in-Some.ensures c.index-named.ensures)) ∙ sym c.root-records.ensures) (ap (λ (t : TableRoots). t.long_values) (subst (λ n. roots_by_number (map tree_roots c.self.inside.tables.items) n ≡ told_roots (tree_roots c.index-named.result.now)) c.id-id.ensures (roots_found c.self.inside.tables.items c.as_slice.result.now c.id-id.result.0 c.in-Some.i c.index-named.result.now c.as_slice.ensures.value c.in-Some.ensures c.index-named.ensures)) ∙ sym c.root-long_values.ensures)))

pub invariant_of-self : goal.invariant_of-self
invariant_of-self c =
    either_way c.add_column.result
    (λ f. (stands_beside (record { tables = c.tables_stay.ensures.tables; catalog = c.tables_stay.ensures.catalog }) c.self.invariant (f (roots_by_number (map tree_roots c.self.inside.tables.items)) c.requires.step.0 (holds_shown c.self.inside.space c.self.inside.catalog c.self.inside.tables.items c.args.self.now c.requires.step.0 c.self.invariant c.self.view_is c.requires.step.1) (takes_column (roots_by_number (map tree_roots c.self.inside.tables.items)) c.requires.step.0 c.args.table.now c.args.column.now c.args.greatest.now c.root-records.result c.root-long_values.result c.requires.step.2 (omega arith) (ap (λ (t : TableRoots). t.records) (subst (λ n. roots_by_number (map tree_roots c.self.inside.tables.items) n ≡ told_roots (tree_roots c.index-named.result.now)) c.id-id.ensures (roots_found c.self.inside.tables.items c.as_slice.result.now c.id-id.result.0 c.in-Some.i c.index-named.result.now c.as_slice.ensures.value c.in-Some.ensures c.index-named.ensures)) ∙ sym c.root-records.ensures) (ap (λ (t : TableRoots). t.long_values) (subst (λ n. roots_by_number (map tree_roots c.self.inside.tables.items) n ≡ told_roots (tree_roots c.index-named.result.now)) c.id-id.ensures (roots_found c.self.inside.tables.items c.as_slice.result.now c.id-id.result.0 c.in-Some.i c.index-named.result.now c.as_slice.ensures.value c.in-Some.ensures c.index-named.ensures)) ∙ sym c.root-long_values.ensures))).becomes).are)
    (λ b. (stands_beside (record { tables = c.tables_stay.ensures.tables; catalog = c.tables_stay.ensures.catalog }) c.self.invariant b).are)
    c.add_column.ensures.ok c.add_column.ensures.err

pub returns-in-Some-clause-ok : goal.returns-in-Some-clause-ok
returns-in-Some-clause-ok c =
    OnOk-then c.add_column.result
    (λ f catalog shows new. shows_after c.self.inside.tables.items (f (roots_by_number (map tree_roots c.self.inside.tables.items)) catalog (holds_shown c.self.inside.space c.self.inside.catalog c.self.inside.tables.items c.args.self.now catalog c.self.invariant c.self.view_is shows) (takes_column (roots_by_number (map tree_roots c.self.inside.tables.items)) catalog c.args.table.now c.args.column.now c.args.greatest.now c.root-records.result c.root-long_values.result new (omega arith) (ap (λ (t : TableRoots). t.records) (subst (λ n. roots_by_number (map tree_roots c.self.inside.tables.items) n ≡ told_roots (tree_roots c.index-named.result.now)) c.id-id.ensures (roots_found c.self.inside.tables.items c.as_slice.result.now c.id-id.result.0 c.in-Some.i c.index-named.result.now c.as_slice.ensures.value c.in-Some.ensures c.index-named.ensures)) ∙ sym c.root-records.ensures) (ap (λ (t : TableRoots). t.long_values) (subst (λ n. roots_by_number (map tree_roots c.self.inside.tables.items) n ≡ told_roots (tree_roots c.index-named.result.now)) c.id-id.ensures (roots_found c.self.inside.tables.items c.as_slice.result.now c.id-id.result.0 c.in-Some.i c.index-named.result.now c.as_slice.ensures.value c.in-Some.ensures c.index-named.ensures)) ∙ sym c.root-long_values.ensures))))
    c.add_column.ensures.ok

pub returns-in-Some-clause-err : goal.returns-in-Some-clause-err
returns-in-Some-clause-err c = on_err c.add_column.result (λ b. catalog_beside c.self.inside.catalog (stands_beside (record { tables = c.tables_stay.ensures.tables; catalog = c.tables_stay.ensures.catalog }) c.self.invariant b) c.self.view_is) c.add_column.ensures.err

pub returns-in-Some-clause-tables : goal.returns-in-Some-clause-tables
returns-in-Some-clause-tables c =
    either_way c.add_column.result
    (λ f. tables_beside c.self.inside.catalog (stands_beside (record { tables = c.tables_stay.ensures.tables; catalog = c.tables_stay.ensures.catalog }) c.self.invariant (f (roots_by_number (map tree_roots c.self.inside.tables.items)) c.requires.step.0 (holds_shown c.self.inside.space c.self.inside.catalog c.self.inside.tables.items c.args.self.now c.requires.step.0 c.self.invariant c.self.view_is c.requires.step.1) (takes_column (roots_by_number (map tree_roots c.self.inside.tables.items)) c.requires.step.0 c.args.table.now c.args.column.now c.args.greatest.now c.root-records.result c.root-long_values.result c.requires.step.2 (omega arith) (ap (λ (t : TableRoots). t.records) (subst (λ n. roots_by_number (map tree_roots c.self.inside.tables.items) n ≡ told_roots (tree_roots c.index-named.result.now)) c.id-id.ensures (roots_found c.self.inside.tables.items c.as_slice.result.now c.id-id.result.0 c.in-Some.i c.index-named.result.now c.as_slice.ensures.value c.in-Some.ensures c.index-named.ensures)) ∙ sym c.root-records.ensures) (ap (λ (t : TableRoots). t.long_values) (subst (λ n. roots_by_number (map tree_roots c.self.inside.tables.items) n ≡ told_roots (tree_roots c.index-named.result.now)) c.id-id.ensures (roots_found c.self.inside.tables.items c.as_slice.result.now c.id-id.result.0 c.in-Some.i c.index-named.result.now c.as_slice.ensures.value c.in-Some.ensures c.index-named.ensures)) ∙ sym c.root-long_values.ensures))).becomes) c.self.view_is)
    (λ b. tables_beside c.self.inside.catalog (stands_beside (record { tables = c.tables_stay.ensures.tables; catalog = c.tables_stay.ensures.catalog }) c.self.invariant b) c.self.view_is)
    c.add_column.ensures.ok c.add_column.ensures.err

pub returns-in-Some-clause-roots : goal.returns-in-Some-clause-roots
returns-in-Some-clause-roots c = ap (λ (s : StoredCatalog). s.roots) (catalog_same c.self.view_is)

pub returns-in-None-clause-ok : goal.returns-in-None-clause-ok
returns-in-None-clause-ok c = absurd (true≢false (sym c.requires.there ∙ ap (has_table c.args.self.now.tables) (sym c.id-id.ensures) ∙ no_table c.self.inside.space c.self.inside.catalog c.self.inside.tables.items c.as_slice.result.now c.id-id.result.0 c.args.self.now c.as_slice.ensures.value c.in-None.ensures c.self.view_is))

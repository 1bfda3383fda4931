-- The named table has one index more, and all other trees stay.
use Rattle.std.proofs.Common.{List, [], ◌∷◌, ◌++◌, refl, sym, ap, ◌∙◌, arith, true≢false}
use Rattle.std.specs.List.{list_any}
use Rattle.common_lemmas.proofs.Results.{OnOk-then, either_way}
use Rattle.table_trees.specs.StoredTables.{StoredIndex, is_index, put_indexes}
use Rattle.table_trees.specs.StoredTrees.{with_index_root}
use Rattle.table_trees.specs.TableParts.{stored_table}
use Rattle.table_trees.proofs.Outcomes.{on_err}
use Rattle.table_trees.proofs.Places.{place_of, within_of}
use Rattle.table_trees.proofs.StoreChanges.{catalog_same, found_indexes, found_table, index_shown, is_named, kept, no_table, shown_same, tables_same}
use Rattle.table_trees.proofs.trees.TableTrees.add_index.Goals as goal

pub index_mut-named-requires : goal.index_mut-named-requires
index_mut-named-requires c = omega (arith, c.self.inside.tables.ok.0, within_of (is_named c.args.table.0) c.self.inside.tables.items c.as_slice.result.now c.in-Some.i c.as_slice.ensures.value c.in-Some.ensures)

pub add_index-requires-clause-table : goal.add_index-requires-clause-table
add_index-requires-clause-table c = found_table c.self.inside.space c.self.inside.tables.items c.args.table.0 c.in-Some.i c.index_mut-named.result.now c.self.invariant (place_of (is_named c.args.table.0) c.self.inside.tables.items c.as_slice.result.now c.in-Some.i c.index_mut-named.result.now c.as_slice.ensures.value c.in-Some.ensures c.index_mut-named.ensures.value)

pub add_index-requires-clause-absent : goal.add_index-requires-clause-absent
add_index-requires-clause-absent c = ap (λ (l : List StoredIndex). list_any (is_index c.args.index.0) l) (sym (found_indexes c.self.inside.space c.self.inside.tables.items c.args.table.0 c.in-Some.i c.index_mut-named.result.now c.args.self.now c.self.invariant (place_of (is_named c.args.table.0) c.self.inside.tables.items c.as_slice.result.now c.in-Some.i c.index_mut-named.result.now c.as_slice.ensures.value c.in-Some.ensures c.index_mut-named.ensures.value) c.self.view_is)) ∙ c.requires.absent

pub invariant_of-self : goal.invariant_of-self
invariant_of-self c =
    either_way c.add_index.result
    (λ b. kept (record { tables = c.tables_stay.ensures.tables; catalog = c.tables_stay.ensures.catalog }) c.self.inside.space c.self.inside.tables.items c.add_index.new.space c.args.table.0 c.in-Some.i c.index_mut-named.result.now c.add_index.new.self (let l = (stored_table c.self.inside.space c.index_mut-named.result.now).indexes in put_indexes (l ++ (c.args.index.0, []) ∷ []) (stored_table c.self.inside.space c.index_mut-named.result.now)) (record { are = c.self.invariant; place = place_of (is_named c.args.table.0) c.self.inside.tables.items c.as_slice.result.now c.in-Some.i c.index_mut-named.result.now c.as_slice.ensures.value c.in-Some.ensures c.index_mut-named.ensures.value; becomes = b.1; number = refl }))
    (λ b. kept (record { tables = c.tables_stay.ensures.tables; catalog = c.tables_stay.ensures.catalog }) c.self.inside.space c.self.inside.tables.items c.add_index.new.space c.args.table.0 c.in-Some.i c.index_mut-named.result.now c.add_index.new.self (stored_table c.self.inside.space c.index_mut-named.result.now) (record { are = c.self.invariant; place = place_of (is_named c.args.table.0) c.self.inside.tables.items c.as_slice.result.now c.in-Some.i c.index_mut-named.result.now c.as_slice.ensures.value c.in-Some.ensures c.index_mut-named.ensures.value; becomes = b; number = refl }))
    c.add_index.ensures.ok c.add_index.ensures.err

pub returns-in-Some-clause-ok : goal.returns-in-Some-clause-ok
returns-in-Some-clause-ok c =
    OnOk-then c.add_index.result
    (λ b. tables_same (index_shown (record { tables = c.tables_stay.ensures.tables; catalog = c.tables_stay.ensures.catalog }) c.self.inside.space c.self.inside.tables.items c.add_index.new.space c.args.table.0 c.in-Some.i c.index_mut-named.result.now c.add_index.new.self (λ (l : List StoredIndex). l ++ (c.args.index.0, []) ∷ []) (with_index_root c.args.index.0 b.0) c.args.self.now c.self.invariant (place_of (is_named c.args.table.0) c.self.inside.tables.items c.as_slice.result.now c.in-Some.i c.index_mut-named.result.now c.as_slice.ensures.value c.in-Some.ensures c.index_mut-named.ensures.value) c.self.view_is b.1))
    c.add_index.ensures.ok

pub returns-in-Some-clause-err : goal.returns-in-Some-clause-err
returns-in-Some-clause-err c =
    on_err c.add_index.result
    (λ b. tables_same (shown_same (record { tables = c.tables_stay.ensures.tables; catalog = c.tables_stay.ensures.catalog }) c.self.inside.space c.self.inside.tables.items c.add_index.new.space c.args.table.0 c.in-Some.i c.index_mut-named.result.now c.add_index.new.self c.args.self.now (record { are = c.self.invariant; place = place_of (is_named c.args.table.0) c.self.inside.tables.items c.as_slice.result.now c.in-Some.i c.index_mut-named.result.now c.as_slice.ensures.value c.in-Some.ensures c.index_mut-named.ensures.value; becomes = b; number = refl }) c.self.view_is))
    c.add_index.ensures.err

pub returns-in-None-clause-ok : goal.returns-in-None-clause-ok
returns-in-None-clause-ok c = absurd (true≢false (sym c.requires.there ∙ no_table c.self.inside.space c.self.inside.catalog c.self.inside.tables.items c.as_slice.result.now c.args.table.0 c.args.self.now c.as_slice.ensures.value c.in-None.ensures c.self.view_is))

pub returns-in-Some-clause-rooted : goal.returns-in-Some-clause-rooted
returns-in-Some-clause-rooted c =
    OnOk-then c.add_index.result
    (λ b. (b.0, catalog_same (index_shown (record { tables = c.tables_stay.ensures.tables; catalog = c.tables_stay.ensures.catalog }) c.self.inside.space c.self.inside.tables.items c.add_index.new.space c.args.table.0 c.in-Some.i c.index_mut-named.result.now c.add_index.new.self (λ (l : List StoredIndex). l ++ (c.args.index.0, []) ∷ []) (with_index_root c.args.index.0 b.0) c.args.self.now c.self.invariant (place_of (is_named c.args.table.0) c.self.inside.tables.items c.as_slice.result.now c.in-Some.i c.index_mut-named.result.now c.as_slice.ensures.value c.in-Some.ensures c.index_mut-named.ensures.value) c.self.view_is b.1)))
    c.add_index.ensures.ok

pub returns-in-Some-clause-kept : goal.returns-in-Some-clause-kept
returns-in-Some-clause-kept c =
    on_err c.add_index.result
    (λ b. catalog_same (shown_same (record { tables = c.tables_stay.ensures.tables; catalog = c.tables_stay.ensures.catalog }) c.self.inside.space c.self.inside.tables.items c.add_index.new.space c.args.table.0 c.in-Some.i c.index_mut-named.result.now c.add_index.new.self c.args.self.now (record { are = c.self.invariant; place = place_of (is_named c.args.table.0) c.self.inside.tables.items c.as_slice.result.now c.in-Some.i c.index_mut-named.result.now c.as_slice.ensures.value c.in-Some.ensures c.index_mut-named.ensures.value; becomes = b; number = refl }) c.self.view_is))
    c.add_index.ensures.err

pub returns-in-None-clause-rooted : goal.returns-in-None-clause-rooted
returns-in-None-clause-rooted c = absurd (true≢false (sym c.requires.there ∙ no_table c.self.inside.space c.self.inside.catalog c.self.inside.tables.items c.as_slice.result.now c.args.table.0 c.args.self.now c.as_slice.ensures.value c.in-None.ensures c.self.view_is))

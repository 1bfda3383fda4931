-- One index of the named table takes the entry where it is not there, and all other trees stay.
use Rattle.std.proofs.Common.{◌≡◌, not, false, List, refl, sym, ap, subst, ◌∙◌, arith, true≢false}
use Rattle.std.specs.Prelude.{IfOk, OnErr}
use Rattle.std.specs.List.{list_any}
use Rattle.common_lemmas.proofs.Results.{OnOk-then, either_way}
use Rattle.laws_versions.specs.KeptEntries.{has_entry}
use Rattle.index_tree.specs.Entries.{IsApartFromAll, insert_entry_if_absent}
use Rattle.table_trees.specs.StoredTables.{StoredIndex, changed_where, is_index, part_of, put_entries, put_indexes}
use Rattle.table_trees.specs.TableParts.{stored_table}
use Rattle.table_trees.proofs.Outcomes.{on_err}
use Rattle.table_trees.proofs.Places.{place_of, within_of}
use Rattle.table_trees.proofs.StoreChanges.{catalog_same, found_indexes, found_table, indexes_shown, is_named, kept, no_indexes, shown_same, tables_same}
use Rattle.table_trees.proofs.trees.TableTrees.insert_entry_if_absent.Goals as goal

pub index_mut-named-requires : goal.index_mut-named-requires
index_mut-named-requires c = omega (arith, c.self.inside.tables.ok.0, within_of (is_named c.args.table.0) c.self.inside.tables.items c.as_slice.result.now c.in-Some.i c.as_slice.ensures.value c.in-Some.ensures)

pub insert_entry_if_absent-requires-clause-table : goal.insert_entry_if_absent-requires-clause-table
insert_entry_if_absent-requires-clause-table c = found_table c.self.inside.space c.self.inside.tables.items c.args.table.0 c.in-Some.i c.index_mut-named.result.now c.self.invariant (place_of (is_named c.args.table.0) c.self.inside.tables.items c.as_slice.result.now c.in-Some.i c.index_mut-named.result.now c.as_slice.ensures.value c.in-Some.ensures c.index_mut-named.ensures.value)

pub insert_entry_if_absent-requires-clause-there : goal.insert_entry_if_absent-requires-clause-there
insert_entry_if_absent-requires-clause-there c = ap (λ (l : List StoredIndex). list_any (is_index c.args.index.0) l) (sym (found_indexes c.self.inside.space c.self.inside.tables.items c.args.table.0 c.in-Some.i c.index_mut-named.result.now c.args.self.now c.self.invariant (place_of (is_named c.args.table.0) c.self.inside.tables.items c.as_slice.result.now c.in-Some.i c.index_mut-named.result.now c.as_slice.ensures.value c.in-Some.ensures c.index_mut-named.ensures.value) c.self.view_is)) ∙ c.requires.there

pub insert_entry_if_absent-requires-clause-apart : goal.insert_entry_if_absent-requires-clause-apart
insert_entry_if_absent-requires-clause-apart c = subst (λ (l : List StoredIndex). IsApartFromAll c.args.key.now (part_of (is_index c.args.index.0) (λ x. x.1) l)) (found_indexes c.self.inside.space c.self.inside.tables.items c.args.table.0 c.in-Some.i c.index_mut-named.result.now c.args.self.now c.self.invariant (place_of (is_named c.args.table.0) c.self.inside.tables.items c.as_slice.result.now c.in-Some.i c.index_mut-named.result.now c.as_slice.ensures.value c.in-Some.ensures c.index_mut-named.ensures.value) c.self.view_is) c.requires.apart

pub invariant_of-self : goal.invariant_of-self
invariant_of-self c =
    either_way c.insert_entry_if_absent.result
    (λ b. kept (record { tables = c.tables_stay.ensures.tables; catalog = c.tables_stay.ensures.catalog }) c.self.inside.space c.self.inside.tables.items c.insert_entry_if_absent.new.space c.args.table.0 c.in-Some.i c.index_mut-named.result.now c.insert_entry_if_absent.new.self (let l = (stored_table c.self.inside.space c.index_mut-named.result.now).indexes in put_indexes (changed_where (is_index c.args.index.0) (put_entries (insert_entry_if_absent (c.args.key.now, c.args.bookmark.now) (part_of (is_index c.args.index.0) (λ x. x.1) l))) l) (stored_table c.self.inside.space c.index_mut-named.result.now)) (record { are = c.self.invariant; place = place_of (is_named c.args.table.0) c.self.inside.tables.items c.as_slice.result.now c.in-Some.i c.index_mut-named.result.now c.as_slice.ensures.value c.in-Some.ensures c.index_mut-named.ensures.value; becomes = b; number = refl }))
    (λ b. kept (record { tables = c.tables_stay.ensures.tables; catalog = c.tables_stay.ensures.catalog }) c.self.inside.space c.self.inside.tables.items c.insert_entry_if_absent.new.space c.args.table.0 c.in-Some.i c.index_mut-named.result.now c.insert_entry_if_absent.new.self (stored_table c.self.inside.space c.index_mut-named.result.now) (record { are = c.self.invariant; place = place_of (is_named c.args.table.0) c.self.inside.tables.items c.as_slice.result.now c.in-Some.i c.index_mut-named.result.now c.as_slice.ensures.value c.in-Some.ensures c.index_mut-named.ensures.value; becomes = b; number = refl }))
    c.insert_entry_if_absent.ensures.ok c.insert_entry_if_absent.ensures.err

pub returns-in-Some-clause-ok : goal.returns-in-Some-clause-ok
returns-in-Some-clause-ok c =
    OnOk-then c.insert_entry_if_absent.result
    (λ b. tables_same (indexes_shown (record { tables = c.tables_stay.ensures.tables; catalog = c.tables_stay.ensures.catalog }) c.self.inside.space c.self.inside.tables.items c.insert_entry_if_absent.new.space c.args.table.0 c.in-Some.i c.index_mut-named.result.now c.insert_entry_if_absent.new.self (λ (l : List StoredIndex). changed_where (is_index c.args.index.0) (put_entries (insert_entry_if_absent (c.args.key.now, c.args.bookmark.now) (part_of (is_index c.args.index.0) (λ x. x.1) l))) l) c.args.self.now c.self.invariant (place_of (is_named c.args.table.0) c.self.inside.tables.items c.as_slice.result.now c.in-Some.i c.index_mut-named.result.now c.as_slice.ensures.value c.in-Some.ensures c.index_mut-named.ensures.value) c.self.view_is b))
    c.insert_entry_if_absent.ensures.ok

pub returns-in-Some-clause-err : goal.returns-in-Some-clause-err
returns-in-Some-clause-err c =
    on_err c.insert_entry_if_absent.result
    (λ b. tables_same (shown_same (record { tables = c.tables_stay.ensures.tables; catalog = c.tables_stay.ensures.catalog }) c.self.inside.space c.self.inside.tables.items c.insert_entry_if_absent.new.space c.args.table.0 c.in-Some.i c.index_mut-named.result.now c.insert_entry_if_absent.new.self c.args.self.now (record { are = c.self.invariant; place = place_of (is_named c.args.table.0) c.self.inside.tables.items c.as_slice.result.now c.in-Some.i c.index_mut-named.result.now c.as_slice.ensures.value c.in-Some.ensures c.index_mut-named.ensures.value; becomes = b; number = refl }) c.self.view_is))
    c.insert_entry_if_absent.ensures.err

pub returns-in-None-clause-ok : goal.returns-in-None-clause-ok
returns-in-None-clause-ok c = absurd (true≢false (sym c.requires.there ∙ ap (λ (l : List StoredIndex). list_any (is_index c.args.index.0) l) (no_indexes c.self.inside.space c.self.inside.catalog c.self.inside.tables.items c.as_slice.result.now c.args.table.0 c.args.self.now c.as_slice.ensures.value c.in-None.ensures c.self.view_is)))

pub returns-in-Some-clause-catalog : goal.returns-in-Some-clause-catalog
returns-in-Some-clause-catalog c =
    either_way c.insert_entry_if_absent.result
    (λ b. catalog_same (indexes_shown (record { tables = c.tables_stay.ensures.tables; catalog = c.tables_stay.ensures.catalog }) c.self.inside.space c.self.inside.tables.items c.insert_entry_if_absent.new.space c.args.table.0 c.in-Some.i c.index_mut-named.result.now c.insert_entry_if_absent.new.self (λ (l : List StoredIndex). changed_where (is_index c.args.index.0) (put_entries (insert_entry_if_absent (c.args.key.now, c.args.bookmark.now) (part_of (is_index c.args.index.0) (λ x. x.1) l))) l) c.args.self.now c.self.invariant (place_of (is_named c.args.table.0) c.self.inside.tables.items c.as_slice.result.now c.in-Some.i c.index_mut-named.result.now c.as_slice.ensures.value c.in-Some.ensures c.index_mut-named.ensures.value) c.self.view_is b))
    (λ b. catalog_same (shown_same (record { tables = c.tables_stay.ensures.tables; catalog = c.tables_stay.ensures.catalog }) c.self.inside.space c.self.inside.tables.items c.insert_entry_if_absent.new.space c.args.table.0 c.in-Some.i c.index_mut-named.result.now c.insert_entry_if_absent.new.self c.args.self.now (record { are = c.self.invariant; place = place_of (is_named c.args.table.0) c.self.inside.tables.items c.as_slice.result.now c.in-Some.i c.index_mut-named.result.now c.as_slice.ensures.value c.in-Some.ensures c.index_mut-named.ensures.value; becomes = b; number = refl }) c.self.view_is))
    c.insert_entry_if_absent.ensures.ok c.insert_entry_if_absent.ensures.err

pub returns-in-Some-clause-put : goal.returns-in-Some-clause-put
returns-in-Some-clause-put c =
    subst (λ (l : List StoredIndex). IfOk c.insert_entry_if_absent.result (λ is_new. is_new ≡ not (has_entry c.args.key.now c.args.bookmark.now (part_of (is_index c.args.index.0) (λ x. x.1) l)))) (sym (found_indexes c.self.inside.space c.self.inside.tables.items c.args.table.0 c.in-Some.i c.index_mut-named.result.now c.args.self.now c.self.invariant (place_of (is_named c.args.table.0) c.self.inside.tables.items c.as_slice.result.now c.in-Some.i c.index_mut-named.result.now c.as_slice.ensures.value c.in-Some.ensures c.index_mut-named.ensures.value) c.self.view_is))
    c.insert_entry_if_absent.ensures.put

pub returns-in-Some-clause-absent : goal.returns-in-Some-clause-absent
returns-in-Some-clause-absent c =
    subst (λ (l : List StoredIndex). OnErr c.insert_entry_if_absent.result (has_entry c.args.key.now c.args.bookmark.now (part_of (is_index c.args.index.0) (λ x. x.1) l) ≡ false)) (sym (found_indexes c.self.inside.space c.self.inside.tables.items c.args.table.0 c.in-Some.i c.index_mut-named.result.now c.args.self.now c.self.invariant (place_of (is_named c.args.table.0) c.self.inside.tables.items c.as_slice.result.now c.in-Some.i c.index_mut-named.result.now c.as_slice.ensures.value c.in-Some.ensures c.index_mut-named.ensures.value) c.self.view_is))
    c.insert_entry_if_absent.ensures.absent

pub returns-in-None-clause-put : goal.returns-in-None-clause-put
returns-in-None-clause-put c = absurd (true≢false (sym c.requires.there ∙ ap (λ (l : List StoredIndex). list_any (is_index c.args.index.0) l) (no_indexes c.self.inside.space c.self.inside.catalog c.self.inside.tables.items c.as_slice.result.now c.args.table.0 c.args.self.now c.as_slice.ensures.value c.in-None.ensures c.self.view_is)))

use Rattle.std.proofs.Common.{sym, ap, ◌∙◌, arith}
use Rattle.std.specs.Prelude.{is_some}
use Rattle.long_value.specs.Stores.{id_bytes}
use Rattle.long_value.specs.Values.{Values, value_of}
use Rattle.table_trees.proofs.Places.{place_of, within_of}
use Rattle.table_trees.proofs.StoreChanges.{found_long, found_table, is_named, no_long}
use Rattle.table_trees.proofs.trees.TableTrees.has_long.Goals as goal

pub index-requires : goal.index-requires
index-requires c = omega (arith, c.self.inside.tables.ok.0, within_of (is_named c.args.table.0) c.self.inside.tables.items c.as_slice.result.now c.in-Some.i c.as_slice.ensures.value c.in-Some.ensures)

pub has-requires : goal.has-requires
has-requires c = (found_table c.self.inside.space c.self.inside.tables.items c.args.table.0 c.in-Some.i c.index.result.now c.self.invariant (place_of (is_named c.args.table.0) c.self.inside.tables.items c.as_slice.result.now c.in-Some.i c.index.result.now c.as_slice.ensures.value c.in-Some.ensures c.index.ensures)).long_values

pub returns-in-Some : goal.returns-in-Some
returns-in-Some c = c.has.ensures ∙ ap (λ (l : Values). is_some (value_of (id_bytes c.args.id) l)) (sym (found_long c.self.inside.space c.self.inside.tables.items c.args.table.0 c.in-Some.i c.index.result.now c.args.self.now c.self.invariant (place_of (is_named c.args.table.0) c.self.inside.tables.items c.as_slice.result.now c.in-Some.i c.index.result.now c.as_slice.ensures.value c.in-Some.ensures c.index.ensures) c.self.view_is))

pub returns-in-None : goal.returns-in-None
returns-in-None c = ap (λ (l : Values). is_some (value_of (id_bytes c.args.id) l)) (sym (no_long c.self.inside.space c.self.inside.catalog c.self.inside.tables.items c.as_slice.result.now c.args.table.0 c.args.self.now c.as_slice.ensures.value c.in-None.ensures c.self.view_is))

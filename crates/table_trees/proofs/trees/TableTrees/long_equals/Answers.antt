use Rattle.std.proofs.Common.{◌≡◌, sym, subst, arith, true≢false}
use Rattle.std.specs.Prelude.{IsSome, IsSomeAnd, bytes_eq}
use Rattle.long_value.specs.Stores.{id_bytes}
use Rattle.long_value.specs.Values.{Values, value_of}
use Rattle.table_trees.proofs.Places.{place_of, within_of}
use Rattle.table_trees.proofs.StoreChanges.{found_long, found_table, is_named, no_long}
use Rattle.table_trees.proofs.trees.TableTrees.long_equals.Goals as goal

pub index-requires : goal.index-requires
index-requires c = omega (arith, c.self.inside.tables.ok.0, within_of (is_named c.args.table.0) c.self.inside.tables.items c.as_slice.result.now c.in-Some.i c.as_slice.ensures.value c.in-Some.ensures)

pub equals-requires-clause-tree : goal.equals-requires-clause-tree
equals-requires-clause-tree c = (found_table c.self.inside.space c.self.inside.tables.items c.args.table.0 c.in-Some.i c.index.result.now c.self.invariant (place_of (is_named c.args.table.0) c.self.inside.tables.items c.as_slice.result.now c.in-Some.i c.index.result.now c.as_slice.ensures.value c.in-Some.ensures c.index.ensures)).long_values

pub equals-requires-clause-there : goal.equals-requires-clause-there
equals-requires-clause-there c = subst (λ (l : Values). IsSome (value_of (id_bytes c.args.id) l)) (found_long c.self.inside.space c.self.inside.tables.items c.args.table.0 c.in-Some.i c.index.result.now c.args.self.now c.self.invariant (place_of (is_named c.args.table.0) c.self.inside.tables.items c.as_slice.result.now c.in-Some.i c.index.result.now c.as_slice.ensures.value c.in-Some.ensures c.index.ensures) c.self.view_is) c.requires

pub returns-in-Some : goal.returns-in-Some
returns-in-Some c = subst (λ (l : Values). IsSomeAnd (value_of (id_bytes c.args.id) l) (λ value. c.equals.result ≡ bytes_eq value.bytes c.args.bytes.now)) (sym (found_long c.self.inside.space c.self.inside.tables.items c.args.table.0 c.in-Some.i c.index.result.now c.args.self.now c.self.invariant (place_of (is_named c.args.table.0) c.self.inside.tables.items c.as_slice.result.now c.in-Some.i c.index.result.now c.as_slice.ensures.value c.in-Some.ensures c.index.ensures) c.self.view_is)) c.equals.ensures

pub returns-in-None : goal.returns-in-None
returns-in-None c = absurd (true≢false (sym (subst (λ (l : Values). IsSome (value_of (id_bytes c.args.id) l)) (no_long c.self.inside.space c.self.inside.catalog c.self.inside.tables.items c.as_slice.result.now c.args.table.0 c.args.self.now c.as_slice.ensures.value c.in-None.ensures c.self.view_is) c.requires)))

use Rattle.std.proofs.Common.{◌≡◌, length, if◌then◌else◌, sym, subst, arith, true≢false}
use Rattle.std.specs.Prelude.{IsSome, IsSomeAnd, nat_lt}
use Rattle.long_value.specs.Stores.{id_bytes, read_upto}
use Rattle.long_value.specs.Values.{Values, value_of}
use Rattle.table_trees.proofs.Places.{place_of, within_of}
use Rattle.table_trees.proofs.StoreChanges.{found_long, found_table, is_named, no_long}
use Rattle.table_trees.proofs.trees.TableTrees.read_long.Goals as goal

pub index-requires : goal.index-requires
index-requires c = omega (arith, c.self.inside.tables.ok.0, within_of (is_named c.args.table.0) c.self.inside.tables.items c.as_slice.result.now c.in-Some.i c.as_slice.ensures.value c.in-Some.ensures)

pub read-requires-clause-tree : goal.read-requires-clause-tree
read-requires-clause-tree c = (found_table c.self.inside.space c.self.inside.tables.items c.args.table.0 c.in-Some.i c.index.result.now c.self.invariant (place_of (is_named c.args.table.0) c.self.inside.tables.items c.as_slice.result.now c.in-Some.i c.index.result.now c.as_slice.ensures.value c.in-Some.ensures c.index.ensures)).long_values

pub read-requires-clause-there : goal.read-requires-clause-there
read-requires-clause-there c = subst (λ (l : Values). IsSome (value_of (id_bytes c.args.id) l)) (found_long c.self.inside.space c.self.inside.tables.items c.args.table.0 c.in-Some.i c.index.result.now c.args.self.now c.self.invariant (place_of (is_named c.args.table.0) c.self.inside.tables.items c.as_slice.result.now c.in-Some.i c.index.result.now c.as_slice.ensures.value c.in-Some.ensures c.index.ensures) c.self.view_is) c.requires

pub returns-in-Some-clause-bytes : goal.returns-in-Some-clause-bytes
returns-in-Some-clause-bytes c = subst (λ (l : Values). IsSomeAnd (value_of (id_bytes c.args.id) l) (λ value. c.read.new.into ≡ read_upto c.read.result value.bytes c.args.into.now)) (sym (found_long c.self.inside.space c.self.inside.tables.items c.args.table.0 c.in-Some.i c.index.result.now c.args.self.now c.self.invariant (place_of (is_named c.args.table.0) c.self.inside.tables.items c.as_slice.result.now c.in-Some.i c.index.result.now c.as_slice.ensures.value c.in-Some.ensures c.index.ensures) c.self.view_is)) c.read.ensures.bytes

pub returns-in-Some-clause-count : goal.returns-in-Some-clause-count
returns-in-Some-clause-count c = subst (λ (l : Values). IsSomeAnd (value_of (id_bytes c.args.id) l) (λ value. c.read.result ≡ (if nat_lt (length c.args.into.now) (length value.bytes) then length c.args.into.now else length value.bytes))) (sym (found_long c.self.inside.space c.self.inside.tables.items c.args.table.0 c.in-Some.i c.index.result.now c.args.self.now c.self.invariant (place_of (is_named c.args.table.0) c.self.inside.tables.items c.as_slice.result.now c.in-Some.i c.index.result.now c.as_slice.ensures.value c.in-Some.ensures c.index.ensures) c.self.view_is)) c.read.ensures.count

pub returns-in-None-clause-bytes : goal.returns-in-None-clause-bytes
returns-in-None-clause-bytes c = absurd (true≢false (sym (subst (λ (l : Values). IsSome (value_of (id_bytes c.args.id) l)) (no_long c.self.inside.space c.self.inside.catalog c.self.inside.tables.items c.as_slice.result.now c.args.table.0 c.args.self.now c.as_slice.ensures.value c.in-None.ensures c.self.view_is) c.requires)))

pub returns-in-None-clause-count : goal.returns-in-None-clause-count
returns-in-None-clause-count c = absurd (true≢false (sym (subst (λ (l : Values). IsSome (value_of (id_bytes c.args.id) l)) (no_long c.self.inside.space c.self.inside.catalog c.self.inside.tables.items c.as_slice.result.now c.args.table.0 c.args.self.now c.as_slice.ensures.value c.in-None.ensures c.self.view_is) c.requires)))

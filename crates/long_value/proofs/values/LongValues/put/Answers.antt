use Rattle.std.specs.Prelude.{OnOk, OnErr}
use Rattle.common_lemmas.proofs.Results.{OnOk-then}
use Rattle.btree_inplace.specs.Trees.{nodes_of}
use Rattle.long_value.specs.Values.{put_value, with_value}
use Rattle.long_value.specs.Stores.{Becomes, HasNoValue, IsLongStore, id_bytes}
use Rattle.long_value.proofs.Held.{either, err_then, lacks_now, put_made, put_not}
use Rattle.long_value.proofs.values.LongValues.put.Goals as goal

pub put_value-requires-clause-absent : goal.put_value-requires-clause-absent
put_value-requires-clause-absent c =
    let absent : HasNoValue c.args.space.now c.args.self.now c.args.id = c.requires.absent in
    lacks_now c.args.space.now c.args.self.now c.args.id absent

pub returns-clause-ok : goal.returns-clause-ok
returns-clause-ok c =
    let absent : HasNoValue c.args.space.now c.args.self.now c.args.id = c.requires.absent in
    let nodes = nodes_of c.args.space.now c.args.self.now.tree in
    let put : OnOk c.put_value.result (Becomes c.args.space.now c.args.self.now.tree c.put_value.new.space c.put_value.new.tree (with_value (id_bytes c.args.id) (record { count = 1; bytes = c.args.bytes.now }) nodes)) = c.put_value.ensures.ok in
    OnOk-then c.put_value.result (λ b values has. put_made c.args.space.now c.put_value.new.space c.args.self.now c.put_value.new.tree c.args.id c.args.bytes.now values absent c.requires.long c.requires.short b has) put

pub returns-clause-store : goal.returns-clause-store
returns-clause-store c =
    let absent : HasNoValue c.args.space.now c.args.self.now c.args.id = c.requires.absent in
    let nodes = nodes_of c.args.space.now c.args.self.now.tree in
    let put : OnOk c.put_value.result (Becomes c.args.space.now c.args.self.now.tree c.put_value.new.space c.put_value.new.tree (with_value (id_bytes c.args.id) (record { count = 1; bytes = c.args.bytes.now }) nodes)) = c.put_value.ensures.ok in
    let not : OnErr c.put_value.result (Becomes c.args.space.now c.args.self.now.tree c.put_value.new.space c.put_value.new.tree nodes) = c.put_value.ensures.err in
    either c.put_value.result
    (OnOk-then {D = IsLongStore c.put_value.new.space (record { tree = c.put_value.new.tree })} c.put_value.result (λ b. (put_value (id_bytes c.args.id) (record { count = 1; bytes = c.args.bytes.now }) absent.0, put_made c.args.space.now c.put_value.new.space c.args.self.now c.put_value.new.tree c.args.id c.args.bytes.now absent.0 absent c.requires.long c.requires.short b absent.1)) put)
    (err_then {Q = IsLongStore c.put_value.new.space (record { tree = c.put_value.new.tree })} c.put_value.result (λ b. (absent.0, put_not c.args.space.now c.put_value.new.space c.args.self.now c.put_value.new.tree absent.0 b absent.1)) not)

use Rattle.std.proofs.Common.{ap, sym, ◌∙◌, find, suc, arith}
use Rattle.std.specs.Prelude.{OnOk, OnErr}
use Rattle.btree_inplace.specs.Changes.{inserted}
use Rattle.btree_inplace.specs.Order.{has_key}
use Rattle.btree_inplace.specs.Trees.{nodes_of}
use Rattle.long_value.specs.Values.{LacksValue, chunk_key, chunk_node}
use Rattle.long_value.specs.Stores.{Becomes, id_bytes}
use Rattle.long_value.proofs.ChunkNodes.{chunk_absent}
use Rattle.long_value.proofs.Putting.{chunk_next, chunks_back, chunks_there, when_err, when_ok}
use Rattle.long_value.proofs.chunks.put_chunks.Goals as goal

pub put_chunk-requires-clause-absent : goal.put_chunk-requires-clause-absent
put_chunk-requires-clause-absent c =
    let id = id_bytes c.args.id in
    let k = c.loop-k.k in
    let nodes = nodes_of c.args.space.now c.args.tree.now in
    let lacks : LacksValue id nodes = c.requires.absent in
    ap (find (has_key (chunk_key id (suc k)))) c.loop-k.invariant.has
    ∙ chunk_absent id c.args.bytes.now k k nodes (omega arith) (omega (arith, c.loop-k-test.true, c.chunk_count-k-end.ensures.few)) lacks

pub take_chunks-requires-clause-there : goal.take_chunks-requires-clause-there
take_chunks-requires-clause-there c =
    let id = id_bytes c.args.id in
    let k = c.loop-k.k in
    let before = nodes_of c.loop-k.space c.loop-k.tree in
    let failed : OnErr c.put_chunk.result (Becomes c.loop-k.space c.loop-k.tree c.put_chunk.new.space c.put_chunk.new.tree before) = c.put_chunk.ensures.err in
    let same = when_err c.put_chunk.result (sym c.is_err.ensures.value ∙ c.if-is_err.true) failed in
    chunks_there id c.args.bytes.now k (nodes_of c.args.space.now c.args.tree.now) (nodes_of c.put_chunk.new.space c.put_chunk.new.tree) (same.has ∙ c.loop-k.invariant.has) (omega (arith, c.loop-k-test.true, c.chunk_count-k-end.ensures.few))

pub returns-then-is_err-clause-err : goal.returns-then-is_err-clause-err
returns-then-is_err-clause-err c =
    let id = id_bytes c.args.id in
    let k = c.loop-k.k in
    let before = nodes_of c.loop-k.space c.loop-k.tree in
    let lacks : LacksValue id (nodes_of c.args.space.now c.args.tree.now) = c.requires.absent in
    let failed : OnErr c.put_chunk.result (Becomes c.loop-k.space c.loop-k.tree c.put_chunk.new.space c.put_chunk.new.tree before) = c.put_chunk.ensures.err in
    let same = when_err c.put_chunk.result (sym c.is_err.ensures.value ∙ c.if-is_err.true) failed in
    chunks_back c.args.space.now c.loop-k.space c.put_chunk.new.space c.take_chunks.new.space c.args.tree.now c.loop-k.tree c.put_chunk.new.tree c.take_chunks.new.tree id c.args.bytes.now k
    (omega (arith, c.loop-k-test.true, c.chunk_count-k-end.ensures.few)) lacks c.loop-k.invariant same c.take_chunks.ensures

pub loop-k-preserved : goal.loop-k-preserved
loop-k-preserved c =
    let id = id_bytes c.args.id in
    let k = c.loop-k.k in
    let before = nodes_of c.loop-k.space c.loop-k.tree in
    let done : OnOk c.put_chunk.result (Becomes c.loop-k.space c.loop-k.tree c.put_chunk.new.space c.put_chunk.new.tree (inserted before (chunk_node id c.args.bytes.now k))) = c.put_chunk.ensures.ok in
    let put = when_ok c.put_chunk.result (sym c.is_err.ensures.value ∙ c.if-is_err.false) done in
    chunk_next c.args.space.now c.loop-k.space c.put_chunk.new.space c.args.tree.now c.loop-k.tree c.put_chunk.new.tree id c.args.bytes.now k c.loop-k.invariant put

use Rattle.std.proofs.Common.{◌≡◌, ◌<◌, ℕ, ap, sym, subst, ◌∙◌, find, length, suc, arith}
use Rattle.std.specs.Prelude.{IsSome}
use Rattle.btree_inplace.specs.Order.{has_key}
use Rattle.btree_inplace.specs.Trees.{nodes_of}
use Rattle.long_value.specs.Values.{LacksValue, LongValue, chunk_count, chunk_key, head_data, with_chunks, without_chunks}
use Rattle.long_value.specs.Stores.{Becomes, id_bytes}
use Rattle.long_value.proofs.ChunkNodes.{head_elsewhere}
use Rattle.long_value.proofs.Held.{few_chunks}
use Rattle.long_value.proofs.Putting.{chunks_back, chunks_there, head_put}
use Rattle.long_value.proofs.chunks.put_value.Goals as goal

pub insert-requires-clause-absent : goal.insert-requires-clause-absent
insert-requires-clause-absent c =
    let id = id_bytes c.args.id in
    let bytes = c.args.bytes.now in
    let nodes = nodes_of c.args.space.now c.args.tree.now in
    let now = nodes_of c.put_chunks.new.space c.put_chunks.new.tree in
    let lacks : LacksValue id nodes = c.requires.absent in
    let key : c.as_slice.result.now ≡ chunk_key id 0 = c.as_slice.ensures ∙ c.chunk_key-key.ensures in
    let put : Becomes c.args.space.now c.args.tree.now c.put_chunks.new.space c.put_chunks.new.tree (with_chunks id bytes (chunk_count (length bytes)) nodes) = c.in_ok-put_chunks.ensures.ok in
    ap (λ x. find (has_key x) now) key ∙ ap (find (has_key (chunk_key id 0))) put.has
    ∙ head_elsewhere id bytes (chunk_count (length bytes)) nodes (few_chunks (length bytes) c.requires.short) ∙ lacks 0 (omega arith)

pub take_chunks-requires-clause-there : goal.take_chunks-requires-clause-there
take_chunks-requires-clause-there c =
    let id = id_bytes c.args.id in
    let bytes = c.args.bytes.now in
    let nodes = nodes_of c.args.space.now c.args.tree.now in
    let put : Becomes c.args.space.now c.args.tree.now c.put_chunks.new.space c.put_chunks.new.tree (with_chunks id bytes (chunk_count (length bytes)) nodes) = c.in_ok-put_chunks.ensures.ok in
    let count : c.chunk_count.result ≡ chunk_count (length bytes) = c.chunk_count.ensures.count in
    subst (λ n. (k : ℕ) → k < n → IsSome (find (has_key (chunk_key id (suc k))) (nodes_of c.insert.new.space c.insert.new.self))) (sym count)
    (chunks_there id bytes (chunk_count (length bytes)) nodes (nodes_of c.insert.new.space c.insert.new.self) (c.in-Err.ensures.err ∙ put.has) (few_chunks (length bytes) c.requires.short))

pub returns-in-Ok-clause-ok : goal.returns-in-Ok-clause-ok
returns-in-Ok-clause-ok c =
    let id = id_bytes c.args.id in
    let bytes = c.args.bytes.now in
    let value : LongValue = record { count = 1; bytes = bytes } in
    let nodes = nodes_of c.args.space.now c.args.tree.now in
    let key : c.as_slice.result.now ≡ chunk_key id 0 = c.as_slice.ensures ∙ c.chunk_key-key.ensures in
    let head : c.as_slice-2.result.now ≡ head_data value = c.as_slice-2.ensures ∙ c.head_bytes-head.ensures in
    let put : Becomes c.args.space.now c.args.tree.now c.put_chunks.new.space c.put_chunks.new.tree (with_chunks id bytes (chunk_count (length bytes)) nodes) = c.in_ok-put_chunks.ensures.ok in
    head_put c.args.space.now c.put_chunks.new.space c.insert.new.space c.args.tree.now c.put_chunks.new.tree c.insert.new.self id c.as_slice.result.now c.as_slice-2.result.now value
    put key head c.in-Ok.ensures.tree c.in-Ok.ensures.ok c.in-Ok.ensures.pages c.in-Ok.ensures.root

pub returns-in-Err-clause-err : goal.returns-in-Err-clause-err
returns-in-Err-clause-err c =
    let id = id_bytes c.args.id in
    let bytes = c.args.bytes.now in
    let nodes = nodes_of c.args.space.now c.args.tree.now in
    let lacks : LacksValue id nodes = c.requires.absent in
    let put : Becomes c.args.space.now c.args.tree.now c.put_chunks.new.space c.put_chunks.new.tree (with_chunks id bytes (chunk_count (length bytes)) nodes) = c.in_ok-put_chunks.ensures.ok in
    let count : c.chunk_count.result ≡ chunk_count (length bytes) = c.chunk_count.ensures.count in
    let same : Becomes c.put_chunks.new.space c.put_chunks.new.tree c.insert.new.space c.insert.new.self (nodes_of c.put_chunks.new.space c.put_chunks.new.tree) = record { tree = c.in-Err.ensures.tree; has = c.in-Err.ensures.err; pages = c.in-Err.ensures.pages; root = c.in-Err.ensures.root } in
    let out : Becomes c.insert.new.space c.insert.new.self c.take_chunks.new.space c.take_chunks.new.tree (without_chunks id c.chunk_count.result (nodes_of c.insert.new.space c.insert.new.self)) = c.take_chunks.ensures in
    chunks_back c.args.space.now c.put_chunks.new.space c.insert.new.space c.take_chunks.new.space c.args.tree.now c.put_chunks.new.tree c.insert.new.self c.take_chunks.new.tree id bytes (chunk_count (length bytes))
    (few_chunks (length bytes) c.requires.short) lacks put same
    (subst (λ n. Becomes c.insert.new.space c.insert.new.self c.take_chunks.new.space c.take_chunks.new.tree (without_chunks id n (nodes_of c.insert.new.space c.insert.new.self))) count out)

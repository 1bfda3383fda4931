use Rattle.std.proofs.Common.{◌≡◌, ap, sym, subst, ◌∙◌, find, suc, arith}
use Rattle.std.specs.Prelude.{IsSome}
use Rattle.btree_inplace.specs.Order.{has_key}
use Rattle.btree_inplace.specs.Trees.{nodes_of}
use Rattle.long_value.specs.Values.{chunk_key}
use Rattle.long_value.specs.Stores.{id_bytes}
use Rattle.long_value.proofs.Keys.{next_key}
use Rattle.long_value.proofs.ChunkNodes.{later_chunk}
use Rattle.long_value.proofs.Putting.{next_less}
use Rattle.long_value.proofs.chunks.take_chunks.Goals as goal

pub remove-requires-clause-there : goal.remove-requires-clause-there
remove-requires-clause-there c =
    let id = id_bytes c.args.id in
    let k = c.loop-k.k in
    let key : c.as_slice.result.now ≡ chunk_key id (suc k) = c.as_slice.ensures ∙ c.chunk_key-key.ensures ∙ next_key id k in
    let nodes = nodes_of c.args.space.now c.args.tree.now in
    let now = nodes_of c.loop-k.space c.loop-k.tree in
    let there : IsSome (find (has_key (chunk_key id (suc k))) nodes) = c.requires.there k c.loop-k-test.true in
    subst IsSome (sym (ap (λ x. find (has_key x) now) key ∙ ap (find (has_key (chunk_key id (suc k)))) c.loop-k.invariant.has ∙ later_chunk id k k nodes (omega arith) (omega (arith, c.loop-k-test.true, c.requires.few)))) there

pub loop-k-preserved : goal.loop-k-preserved
loop-k-preserved c =
    let id = id_bytes c.args.id in
    let k = c.loop-k.k in
    let key : c.as_slice.result.now ≡ chunk_key id (suc k) = c.as_slice.ensures ∙ c.chunk_key-key.ensures ∙ next_key id k in
    next_less c.args.space.now c.loop-k.space c.remove.new.space c.args.tree.now c.loop-k.tree c.remove.new.self id c.as_slice.result.now k (nodes_of c.args.space.now c.args.tree.now)
    c.loop-k.invariant key c.remove.ensures.tree c.remove.ensures.nodes c.remove.ensures.pages c.remove.ensures.root

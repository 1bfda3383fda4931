use Rattle.std.proofs.Common.{◌≡◌, ◌<◌, ap, subst, ◌∙◌, find, length, suc, refl, arith}
use Rattle.btree_inplace.specs.Order.{has_key}
use Rattle.btree_inplace.specs.Trees.{nodes_of}
use Rattle.btree_inplace.specs.Changes.{without_key}
use Rattle.long_value.specs.Values.{chunk_count, chunk_key, chunk_node, head_node, without_chunks}
use Rattle.long_value.specs.Stores.{Becomes, id_bytes}
use Rattle.long_value.proofs.Held.{chunk_found_now, head_found, held_long, taken_now}
use Rattle.long_value.proofs.Putting.{head_out, head_still, some_there}
use Rattle.long_value.proofs.values.LongValues.take_out.Goals as goal

pub chunk_count-count-requires : goal.chunk_count-count-requires
chunk_count-count-requires c =
    let long = held_long c.args.space.now c.args.self.now c.args.id c.requires.0 c.requires.1 in
    let size : c.length.result ≡ length c.requires.0.bytes = c.length.ensures c.requires.0 c.requires.1 in
    omega (arith, long.short, size)

pub take_chunks-requires-clause-there : goal.take_chunks-requires-clause-there
take_chunks-requires-clause-there c k lt =
    let value = c.requires.0 in
    let id = id_bytes c.args.id in
    let size : c.length.result ≡ length value.bytes = c.length.ensures value c.requires.1 in
    let count : c.chunk_count-count.result ≡ chunk_count (length value.bytes) = c.chunk_count-count.ensures.count ∙ ap chunk_count size in
    some_there (find (has_key (chunk_key id (suc k))) (nodes_of c.args.space.now c.args.self.now.tree)) (chunk_node id value.bytes k)
    (chunk_found_now c.args.space.now c.args.self.now c.args.id value (chunk_key id (suc k)) k c.requires.1 (subst (λ n. k < n) count lt) refl)

pub remove-requires-clause-there : goal.remove-requires-clause-there
remove-requires-clause-there c =
    let value = c.requires.0 in
    let id = id_bytes c.args.id in
    let key : c.as_slice.result.now ≡ chunk_key id 0 = c.as_slice.ensures ∙ c.chunk_key.ensures in
    let out : Becomes c.args.space.now c.args.self.now.tree c.take_chunks.new.space c.take_chunks.new.tree (without_chunks id c.chunk_count-count.result (nodes_of c.args.space.now c.args.self.now.tree)) = c.take_chunks.ensures in
    head_still id c.as_slice.result.now c.chunk_count-count.result (nodes_of c.args.space.now c.args.self.now.tree) (nodes_of c.take_chunks.new.space c.take_chunks.new.tree) (head_node id value)
    c.chunk_count-count.ensures.few key out.has (head_found c.args.space.now c.args.self.now c.args.id value (chunk_key id 0) c.requires.1 refl)

pub returns-clause-values : goal.returns-clause-values
returns-clause-values c values value has e =
    let id = id_bytes c.args.id in
    let size : c.length.result ≡ length value.bytes = c.length.ensures value (values, has, e) in
    let count : c.chunk_count-count.result ≡ chunk_count (length value.bytes) = c.chunk_count-count.ensures.count ∙ ap chunk_count size in
    let key : c.as_slice.result.now ≡ chunk_key id 0 = c.as_slice.ensures ∙ c.chunk_key.ensures in
    let nodes = nodes_of c.args.space.now c.args.self.now.tree in
    let out : Becomes c.args.space.now c.args.self.now.tree c.take_chunks.new.space c.take_chunks.new.tree (without_chunks id c.chunk_count-count.result nodes) = c.take_chunks.ensures in
    let all = head_out c.args.space.now c.take_chunks.new.space c.remove.new.space c.args.self.now.tree c.take_chunks.new.tree c.remove.new.self id c.as_slice.result.now c.chunk_count-count.result out key c.remove.ensures.tree c.remove.ensures.nodes c.remove.ensures.pages c.remove.ensures.root in
    taken_now c.args.space.now c.remove.new.space c.args.self.now c.remove.new.self c.args.id values value has e
    (subst (λ n. Becomes c.args.space.now c.args.self.now.tree c.remove.new.space c.remove.new.self (without_key (without_chunks id n nodes) (chunk_key id 0))) count all)

pub returns-clause-pages : goal.returns-clause-pages
returns-clause-pages c =
    let id = id_bytes c.args.id in
    let key : c.as_slice.result.now ≡ chunk_key id 0 = c.as_slice.ensures ∙ c.chunk_key.ensures in
    let nodes = nodes_of c.args.space.now c.args.self.now.tree in
    let out : Becomes c.args.space.now c.args.self.now.tree c.take_chunks.new.space c.take_chunks.new.tree (without_chunks id c.chunk_count-count.result nodes) = c.take_chunks.ensures in
    let all = head_out c.args.space.now c.take_chunks.new.space c.remove.new.space c.args.self.now.tree c.take_chunks.new.tree c.remove.new.self id c.as_slice.result.now c.chunk_count-count.result out key c.remove.ensures.tree c.remove.ensures.nodes c.remove.ensures.pages c.remove.ensures.root in
    all.pages

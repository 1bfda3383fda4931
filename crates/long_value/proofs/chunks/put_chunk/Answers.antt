use Rattle.std.proofs.Common.{◌≡◌, None, ap, ◌∙◌, List, ℕ, length, find, suc}
use Rattle.common_lemmas.proofs.Results.{OnOk-then}
use Rattle.btree_inplace.specs.Changes.{inserted}
use Rattle.btree_inplace.specs.Order.{has_key}
use Rattle.btree_inplace.specs.Trees.{nodes_of}
use Rattle.long_value.specs.Values.{chunk_key}
use Rattle.long_value.specs.Stores.{id_bytes}
use Rattle.long_value.proofs.Keys.{next_key}
use Rattle.long_value.proofs.chunks.put_chunk.Goals as goal

pub insert-requires-clause-absent : goal.insert-requires-clause-absent
insert-requires-clause-absent c =
    let nodes = nodes_of c.args.space.now c.args.tree.now in
    let key : c.as_slice.result.now ≡ chunk_key (id_bytes c.args.id) (suc c.args.k) = c.as_slice.ensures ∙ c.chunk_key-key.ensures ∙ next_key (id_bytes c.args.id) c.args.k in
    let absent : find (has_key (chunk_key (id_bytes c.args.id) (suc c.args.k))) nodes ≡ None = c.requires.absent in
    ap (λ k. find (has_key k) nodes) key ∙ absent

pub returns-clause-ok : goal.returns-clause-ok
returns-clause-ok c =
    let nodes = nodes_of c.args.space.now c.args.tree.now in
    let d = c.chunk_of-chunk.result.now in
    let key : c.as_slice.result.now ≡ chunk_key (id_bytes c.args.id) (suc c.args.k) = c.as_slice.ensures ∙ c.chunk_key-key.ensures ∙ next_key (id_bytes c.args.id) c.args.k in
    OnOk-then c.insert.result (λ e. record {
      tree = c.insert.ensures.tree;
      has =
          e ∙ ap (λ (k : List ℕ). inserted nodes (record { key = k; extent = length d; «data» = d })) key
          ∙ ap (λ (x : List ℕ). inserted nodes (record { key = chunk_key (id_bytes c.args.id) (suc c.args.k); extent = length x; «data» = x })) c.chunk_of-chunk.ensures.chunk;
      pages = c.insert.ensures.pages;
      root = c.insert.ensures.root;
    }) c.insert.ensures.ok

use Rattle.btree_inplace.specs.Trees.{nodes_of}
use Rattle.long_value.specs.Values.{with_chunks}
use Rattle.long_value.specs.Stores.{Becomes, id_bytes}
use Rattle.long_value.proofs.chunks.put_chunks.Given as goal

abbrev pub invariant-loop-k : goal.invariant-loop-k
invariant-loop-k l = Becomes l.fn.space l.fn.tree l.space l.tree (with_chunks (id_bytes l.id) l.bytes l.k (nodes_of l.fn.space l.fn.tree))

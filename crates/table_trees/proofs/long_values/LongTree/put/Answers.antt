-- The tree takes the value's nodes, and where there is no memory it has those that it had.
use Rattle.common_lemmas.proofs.Results.{OnOk-then}
use Rattle.long_value.specs.Stores.{id_bytes}
use Rattle.long_value.specs.Values.{put_value}
use Rattle.table_trees.specs.LongTrees.{long_values_in}
use Rattle.table_trees.proofs.LongChanges.{becomes}
use Rattle.table_trees.proofs.Outcomes.{on_err}
use Rattle.table_trees.proofs.long_values.LongTree.put.Goals as goal

pub put-requires-clause-absent : goal.put-requires-clause-absent
put-requires-clause-absent c = (long_values_in c.args.space.now c.args.self.now, c.requires.tree, c.requires.absent)

pub returns-clause-ok : goal.returns-clause-ok
returns-clause-ok c =
    let values = long_values_in c.args.space.now c.args.self.now in
    OnOk-then c.put.result
    (λ has. becomes c.values_are_shown.ensures c.tree_pages_are_own.ensures c.args.space.now c.args.self.now c.put.new.space (record { store = c.put.new.self }) values (put_value (id_bytes c.args.id) (record { count = 1; bytes = c.args.bytes.now }) values) c.requires.tree (has values c.requires.tree) c.put.ensures.pages c.put.ensures.root)
    c.put.ensures.ok

pub returns-clause-err : goal.returns-clause-err
returns-clause-err c =
    let values = long_values_in c.args.space.now c.args.self.now in
    on_err c.put.result
    (λ has. becomes c.values_are_shown.ensures c.tree_pages_are_own.ensures c.args.space.now c.args.self.now c.put.new.space (record { store = c.put.new.self }) values values c.requires.tree (has values c.requires.tree) c.put.ensures.pages c.put.ensures.root)
    c.put.ensures.err

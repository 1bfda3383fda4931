-- The tree takes the node of the entry.
use Rattle.std.proofs.Common.{◌≡◌, ◌<◌, List, ℕ, find, ap, ◌∙◌, arith}
use Rattle.std.specs.Prelude.{All, OnOk}
use Rattle.std.proofs.lemmas.List.Elements.{All-from_get_or}
use Rattle.common_lemmas.proofs.Results.{OnOk-then, either_way}
use Rattle.btree_inplace.specs.Changes.{inserted}
use Rattle.btree_inplace.specs.Order.{has_key}
use Rattle.btree_inplace.specs.Trees.{nodes_of}
use Rattle.index_derive.specs.Entries.{insert_entry}
use Rattle.cursor_nav.specs.Places.{Pair}
use Rattle.index_tree.specs.Entries.{IsShort, node_of_entry}
use Rattle.index_tree.specs.IndexTrees.{IsIndexTree, entries_of}
use Rattle.index_tree.proofs.Changing.{absent_node, insert_apart, insert_short, insert_sorted, inserted_nodes}
use Rattle.index_tree.proofs.NodeEntries.{holds_entries}
use Rattle.index_tree.proofs.index.IndexTree.insert.Goals as goal
use Rattle.index_tree.proofs.index.IndexTree.insert.Goals.{After-insert}

pub insert-requires-clause-absent : goal.insert-requires-clause-absent
insert-requires-clause-absent c =
    let nodes = nodes_of c.args.space.now c.args.self.now.tree in
    ap (λ (k : List ℕ). find (has_key k) nodes) (c.as_slice.ensures.value ∙ c.joined-node_key.ensures)
    ∙ absent_node nodes (entries_of c.args.space.now c.args.self.now) (c.args.key.now, c.args.bookmark.now) c.requires.index.nodes c.requires.apart c.requires.absent

held : (c : After-insert)
    → OnOk c.insert.result (IsIndexTree c.insert.new.space (record { tree = c.insert.new.self }) × (entries_of c.insert.new.space (record { tree = c.insert.new.self }) ≡ insert_entry (c.args.key.now, c.args.bookmark.now) (entries_of c.args.space.now c.args.self.now)))
held c =
    let nodes = nodes_of c.args.space.now c.args.self.now.tree in
    let es = entries_of c.args.space.now c.args.self.now in
    let e : Pair = (c.args.key.now, c.args.bookmark.now) in
    let bytes : All (λ byte. byte < 256) c.args.bookmark.now =
    All-from_get_or (λ byte. byte < 256) c.args.bookmark.now 0 (λ i lt. omega (arith, c.type_inv.bookmark i)) in
    let short : IsShort e = record { key = c.requires.key; bookmark = c.requires.bookmark; bytes = bytes } in
    let node : record { key = c.as_slice.result.now; extent = 2; «data» = c.as_slice-2.result.now } ≡ node_of_entry e =
    (λ i. record { key = (c.as_slice.ensures.value ∙ c.joined-node_key.ensures) i; extent = 2; «data» = (c.as_slice-2.ensures ∙ c.write_u16.ensures) i }) in
    OnOk-then c.insert.result
    (λ (h : nodes_of c.insert.new.space c.insert.new.self ≡ inserted nodes (record { key = c.as_slice.result.now; extent = 2; «data» = c.as_slice-2.result.now })).
    holds_entries c.insert.new.space (record { tree = c.insert.new.self }) (insert_entry e es) c.insert.ensures.tree
    (h ∙ (λ i. inserted (c.requires.index.nodes i) (node i)) ∙ inserted_nodes es e c.requires.apart)
    (insert_sorted e es c.requires.absent c.requires.index.in_order) (insert_short e es short c.requires.index.short) (insert_apart e es c.requires.apart c.requires.index.apart))
    c.insert.ensures.ok

pub returns-clause-index : goal.returns-clause-index
returns-clause-index c =
    either_way c.insert.result (λ h. h.0)
    (λ k. (holds_entries c.insert.new.space (record { tree = c.insert.new.self }) (entries_of c.args.space.now c.args.self.now) c.insert.ensures.tree (k ∙ c.requires.index.nodes)
    c.requires.index.in_order c.requires.index.short c.requires.index.apart).0)
    (held c) c.insert.ensures.err

pub returns-clause-ok : goal.returns-clause-ok
returns-clause-ok c = OnOk-then c.insert.result (λ h. h.1) (held c)

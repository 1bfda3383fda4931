-- The tree takes the node of the entry where it does not have it.
use Rattle.std.proofs.Common.{◌≡◌, ◌<◌, ◌++◌, List, ℕ, Option, None, Some, not, true, false, find, refl, sym, ap, ◌∙◌, arith}
use Rattle.std.specs.Prelude.{All, is_some}
use Rattle.std.specs.Option.{option_map}
use Rattle.std.proofs.lemmas.List.Elements.{All-from_get_or}
use Rattle.page_image.specs.Page.{Node}
use Rattle.btree_inplace.specs.Changes.{inserted_if_absent}
use Rattle.btree_inplace.specs.Order.{extent_in, has_key}
use Rattle.btree_inplace.specs.Trees.{nodes_of}
use Rattle.cursor_nav.specs.Places.{Pair}
use Rattle.laws_versions.specs.KeptEntries.{has_entry}
use Rattle.index_tree.specs.Entries.{IsShort, insert_entry_if_absent, node_of_entry}
use Rattle.index_tree.specs.IndexTrees.{IsIndexTree, entries_of}
use Rattle.index_tree.proofs.Changing.{AreInOrder, in_order_if_absent, nodes_if_absent, some_there}
use Rattle.index_tree.proofs.NodeEntries.{holds_entries}
use Rattle.index_tree.proofs.index.IndexTree.insert_if_absent.Goals as goal
use Rattle.index_tree.proofs.index.IndexTree.insert_if_absent.Goals.{After-insert_if_absent}

-- the index once the node is among the nodes
put : (c : After-insert_if_absent)
    → nodes_of c.insert_if_absent.new.space c.insert_if_absent.new.self ≡ inserted_if_absent (nodes_of c.args.space.now c.args.self.now.tree) (record { key = c.as_slice.result.now; extent = 2; «data» = c.as_slice-2.result.now })
    → IsIndexTree c.insert_if_absent.new.space (record { tree = c.insert_if_absent.new.self }) × (entries_of c.insert_if_absent.new.space (record { tree = c.insert_if_absent.new.self }) ≡ insert_entry_if_absent (c.args.key.now, c.args.bookmark.now) (entries_of c.args.space.now c.args.self.now))
put c h =
    let nodes = nodes_of c.args.space.now c.args.self.now.tree in
    let es = entries_of c.args.space.now c.args.self.now in
    let e : Pair = (c.args.key.now, c.args.bookmark.now) in
    let bytes : All (λ byte. byte < 256) c.args.bookmark.now =
    All-from_get_or (λ byte. byte < 256) c.args.bookmark.now 0 (λ i lt. omega (arith, c.type_inv.bookmark i)) in
    let short : IsShort e = record { key = c.requires.key; bookmark = c.requires.bookmark; bytes = bytes } in
    let node : record { key = c.as_slice.result.now; extent = 2; «data» = c.as_slice-2.result.now } ≡ node_of_entry e =
    (λ i. record { key = (c.as_slice.ensures.value ∙ c.joined-node_key.ensures) i; extent = 2; «data» = (c.as_slice-2.ensures ∙ c.write_u16.ensures) i }) in
    let is : AreInOrder (insert_entry_if_absent e es) =
    in_order_if_absent e es short c.requires.apart (record { sorted = c.requires.index.in_order; short = c.requires.index.short; apart = c.requires.index.apart }) in
    holds_entries c.insert_if_absent.new.space (record { tree = c.insert_if_absent.new.self }) (insert_entry_if_absent e es) c.insert_if_absent.ensures.tree
    (h ∙ ap (inserted_if_absent nodes) node ∙ nodes_if_absent nodes es e c.requires.index.nodes c.requires.apart) is.sorted is.short is.apart

found_some : (o : Option Node) (n : ℕ) → Some n ≡ option_map (λ (m : Node). m.extent) o → is_some o ≡ true
found_some None n e = absurd cc
found_some (Some m) n e = refl

found_none : (o : Option Node) → None ≡ option_map (λ (m : Node). m.extent) o → is_some o ≡ false
found_none None e = refl
found_none (Some m) e = absurd cc

-- whether the entry was there
there : (c : After-insert_if_absent) → is_some (find (has_key c.as_slice.result.now) (nodes_of c.args.space.now c.args.self.now.tree)) ≡ has_entry c.args.key.now c.args.bookmark.now (entries_of c.args.space.now c.args.self.now)
there c =
    let nodes = nodes_of c.args.space.now c.args.self.now.tree in
    ap (λ (k : List ℕ). is_some (find (has_key k) nodes)) (c.as_slice.ensures.value ∙ c.joined-node_key.ensures)
    ∙ some_there nodes (entries_of c.args.space.now c.args.self.now) (c.args.key.now, c.args.bookmark.now) c.requires.index.nodes c.requires.apart

pub returns-in-Ok-None-clause-index : goal.returns-in-Ok-None-clause-index
returns-in-Ok-None-clause-index c = (put (goal.at.returns-in-Ok-None-clause-index c).After-insert_if_absent c.in-Ok-None.ensures.ok).0

pub returns-in-Ok-None-clause-ok : goal.returns-in-Ok-None-clause-ok
returns-in-Ok-None-clause-ok c = (put (goal.at.returns-in-Ok-None-clause-ok c).After-insert_if_absent c.in-Ok-None.ensures.ok).1

pub returns-in-Ok-None-clause-put : goal.returns-in-Ok-None-clause-put
returns-in-Ok-None-clause-put c =
    ap not (sym (found_none (find (has_key c.as_slice.result.now) (nodes_of c.args.space.now c.args.self.now.tree)) (sym c.in-Ok-None.field-0-is ∙ c.in-Ok-None.ensures.there))
    ∙ there (goal.at.returns-in-Ok-None-clause-put c).After-insert_if_absent)

pub returns-in-Ok-Some-clause-index : goal.returns-in-Ok-Some-clause-index
returns-in-Ok-Some-clause-index c = (put (goal.at.returns-in-Ok-Some-clause-index c).After-insert_if_absent c.in-Ok-Some.ensures.ok).0

pub returns-in-Ok-Some-clause-ok : goal.returns-in-Ok-Some-clause-ok
returns-in-Ok-Some-clause-ok c = (put (goal.at.returns-in-Ok-Some-clause-ok c).After-insert_if_absent c.in-Ok-Some.ensures.ok).1

pub returns-in-Ok-Some-clause-put : goal.returns-in-Ok-Some-clause-put
returns-in-Ok-Some-clause-put c =
    ap not (sym (found_some (find (has_key c.as_slice.result.now) (nodes_of c.args.space.now c.args.self.now.tree)) c.in-Ok-Some.field-0-0 (sym c.in-Ok-Some.field-0-is ∙ c.in-Ok-Some.ensures.there))
    ∙ there (goal.at.returns-in-Ok-Some-clause-put c).After-insert_if_absent)

kept : (c : After-insert_if_absent) → nodes_of c.insert_if_absent.new.space c.insert_if_absent.new.self ≡ nodes_of c.args.space.now c.args.self.now.tree
    → IsIndexTree c.insert_if_absent.new.space (record { tree = c.insert_if_absent.new.self }) × (entries_of c.insert_if_absent.new.space (record { tree = c.insert_if_absent.new.self }) ≡ entries_of c.args.space.now c.args.self.now)
kept c h =
    holds_entries c.insert_if_absent.new.space (record { tree = c.insert_if_absent.new.self }) (entries_of c.args.space.now c.args.self.now) c.insert_if_absent.ensures.tree (h ∙ c.requires.index.nodes)
    c.requires.index.in_order c.requires.index.short c.requires.index.apart

pub returns-in-Err-clause-index : goal.returns-in-Err-clause-index
returns-in-Err-clause-index c = (kept (goal.at.returns-in-Err-clause-index c).After-insert_if_absent c.in-Err.ensures.err).0

pub returns-in-Err-clause-err : goal.returns-in-Err-clause-err
returns-in-Err-clause-err c = (kept (goal.at.returns-in-Err-clause-err c).After-insert_if_absent c.in-Err.ensures.err).1

pub returns-in-Err-clause-absent : goal.returns-in-Err-clause-absent
returns-in-Err-clause-absent c =
    sym (there (goal.at.returns-in-Err-clause-absent c).After-insert_if_absent)
    ∙ found_none (find (has_key c.as_slice.result.now) (nodes_of c.args.space.now c.args.self.now.tree)) (sym c.in-Err.ensures.absent)

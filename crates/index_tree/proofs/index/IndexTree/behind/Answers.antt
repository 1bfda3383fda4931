-- The node behind the entry's own is that of the entry behind it.
use Rattle.std.proofs.Common.{◌≡◌, ◌++◌, ℕ, nat_eq, true, List, length, find, sym, ap, ◌∙◌, arith}
use Rattle.std.specs.Option.{option_copied}
use Rattle.std.proofs.lemmas.List.{append-nil}
use Rattle.byteorder.specs.Endian.{little_number}
use Rattle.btree_inplace.specs.Order.{get_in, is_above}
use Rattle.btree_inplace.specs.Trees.{nodes_of}
use Rattle.laws_versions.specs.KeptEntries.{has_entry}
use Rattle.index_tree.specs.Entries.{IsShort}
use Rattle.index_tree.specs.IndexTrees.{entries_of}
use Rattle.index_tree.proofs.Beside.{after_entry, is_behind, own_size}
use Rattle.index_tree.proofs.Cutting.{after_pair}
use Rattle.index_tree.proofs.Lists.{find_all}
use Rattle.index_tree.proofs.NodeEntries.{node_from, size_found}
use Rattle.index_tree.proofs.index.IndexTree.behind.Goals as goal
use Rattle.index_tree.proofs.index.IndexTree.behind.Goals.{In-Some}

found : (c : In-Some)
    → (length c.in-Some.size.now ≡ 2) × (nat_eq (little_number 2 c.in-Some.size.now) (length c.args.key.now) ≡ has_entry c.args.key.now c.args.bookmark.now (entries_of c.args.space.now c.args.self.now))
found c =
    let nodes = nodes_of c.args.space.now c.args.self.now.tree in
    size_found nodes (entries_of c.args.space.now c.args.self.now) c.args.key.now c.args.bookmark.now c.in-Some.size.now
    c.requires.index.nodes c.requires.index.short c.requires.index.apart
    (ap option_copied (sym c.in-Some.is) ∙ c.get_and_after.ensures.data ∙ ap (get_in nodes) (c.as_slice.ensures.value ∙ c.join.ensures ∙ append-nil (c.args.key.now ++ c.args.bookmark.now)))

pub read_u16-requires : goal.read_u16-requires
read_u16-requires c = omega (arith, (found c).0)

pub parts-requires : goal.parts-requires
parts-requires c =
    let es = entries_of c.args.space.now c.args.self.now in
    let key = c.as_slice.result.now in (
      find (is_behind key) es,
      find_all IsShort (is_behind key) es c.requires.index.short,
      c.get_and_after.ensures.after ∙ node_from (nodes_of c.args.space.now c.args.self.now.tree) es (is_above key) c.requires.index.nodes,
    )

pub returns-in-Some : goal.returns-in-Some
returns-in-Some c =
    let es = entries_of c.args.space.now c.args.self.now in
    let key = c.as_slice.result.now in
    let same : key ≡ c.args.key.now ++ c.args.bookmark.now = c.as_slice.ensures.value ∙ c.join.ensures ∙ append-nil (c.args.key.now ++ c.args.bookmark.now) in
    let there : has_entry c.args.key.now c.args.bookmark.now es ≡ true =
    sym (found (goal.at.returns-in-Some c).In-Some).1 ∙ ap (λ (n : ℕ). nat_eq n (length c.args.key.now)) (sym c.read_u16.ensures ∙ sym c.from.ensures ∙ c.if-from-key.true) ∙ own_size (length c.args.key.now) in
    c.parts.ensures (find (is_behind key) es) (find_all IsShort (is_behind key) es c.requires.index.short)
    (c.get_and_after.ensures.after ∙ node_from (nodes_of c.args.space.now c.args.self.now.tree) es (is_above key) c.requires.index.nodes)
    ∙ ap (λ (k : List ℕ). find (is_behind k) es) same
    ∙ after_entry c.args.key.now c.args.bookmark.now es c.requires.index.apart there

pub returns-in_default : goal.returns-in_default
returns-in_default c = c.from-in_default.ensures ∙ after_pair c.args.key.now c.args.bookmark.now (entries_of c.args.space.now c.args.self.now)

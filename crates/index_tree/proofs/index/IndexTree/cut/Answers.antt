-- Where the entry's key lies that the first node at the key or after it has.
use Rattle.std.proofs.Common.{◌≡◌, ◌++◌, [], true, List, ℕ, Some, find, sym, ap, subst, ◌∙◌}
use Rattle.std.proofs.lemmas.List.{append-nil}
use Rattle.btree_inplace.specs.Order.{is_from}
use Rattle.btree_inplace.specs.Trees.{nodes_of}
use Rattle.index_tree.specs.Entries.{CutsAt, IsShort, gap_bookmark, is_at_or_after}
use Rattle.index_tree.specs.IndexTrees.{entries_of}
use Rattle.index_tree.proofs.Cutting.{cuts_above, cuts_at, cuts_front, cuts_none}
use Rattle.index_tree.proofs.Lists.{find_all, found_all}
use Rattle.index_tree.proofs.NodeEntries.{node_from}
use Rattle.index_tree.proofs.index.IndexTree.cut.Goals as goal
use Rattle.index_tree.proofs.index.IndexTree.cut.Goals.{In-Some}

pub parts-requires : goal.parts-requires
parts-requires c =
    let es = entries_of c.args.space.now c.args.self.now in (
      find (is_at_or_after c.args.key.now) es,
      find_all IsShort (is_at_or_after c.args.key.now) es c.requires.index.short,
      c.at_or_after.ensures ∙ node_from (nodes_of c.args.space.now c.args.self.now.tree) es (is_from c.args.key.now) c.requires.index.nodes,
    )

found : (c : In-Some) → Some (c.in-Some.found.now, c.in-Some.field-0-1.now) ≡ find (is_at_or_after c.args.key.now) (entries_of c.args.space.now c.args.self.now)
found c =
    let es = entries_of c.args.space.now c.args.self.now in
    c.in-Some.ensures (find (is_at_or_after c.args.key.now) es) (find_all IsShort (is_at_or_after c.args.key.now) es c.requires.index.short)
    (c.at_or_after.ensures ∙ node_from (nodes_of c.args.space.now c.args.self.now.tree) es (is_from c.args.key.now) c.requires.index.nodes)

pub join-requires-clause-key : goal.join-requires-clause-key
join-requires-clause-key c =
    let es = entries_of c.args.space.now c.args.self.now in
    let short : IsShort (c.in-Some.found.now, c.in-Some.field-0-1.now) =
    found_all IsShort (is_at_or_after c.args.key.now) es (c.in-Some.found.now, c.in-Some.field-0-1.now) (found (goal.at.join-requires-clause-key c).In-Some) c.requires.index.short in
    short.key

pub returns-in-Less : goal.returns-in-Less
returns-in-Less c =
    let es = entries_of c.args.space.now c.args.self.now in
    let key : c.join.new.bytes.items ≡ c.in-Some.found.now ++ gap_bookmark true =
    c.join.ensures ∙ append-nil (c.in-Some.found.now ++ c.gap_bookmark.result.now) ∙ ap (λ (b : List ℕ). c.in-Some.found.now ++ b) c.gap_bookmark.ensures.bytes in
    subst (λ (k : List ℕ). CutsAt k (c.args.key.now, c.args.bookmark.now) es) (sym key)
    (cuts_front c.args.key.now (c.args.bookmark.now) es (c.in-Some.found.now, c.in-Some.field-0-1.now) c.requires.index.apart c.requires.index.short (found (goal.at.returns-in-Less c).In-Some) (sym c.cmp.ensures ∙ c.in-Less.is))

pub returns-in-Equal : goal.returns-in-Equal
returns-in-Equal c =
    let es = entries_of c.args.space.now c.args.self.now in
    subst (λ (k : List ℕ). CutsAt k (c.args.key.now, c.args.bookmark.now) es) (sym (c.join-in-Equal.ensures ∙ append-nil (c.args.key.now ++ c.args.bookmark.now)))
    (cuts_at c.args.key.now (c.args.bookmark.now) es (c.in-Some.found.now, c.in-Some.field-0-1.now) c.requires.index.apart (found (goal.at.returns-in-Equal c).In-Some) (sym c.cmp.ensures ∙ c.in-Equal.is))

pub returns-in-Greater : goal.returns-in-Greater
returns-in-Greater c =
    let es = entries_of c.args.space.now c.args.self.now in
    subst (λ (k : List ℕ). CutsAt k (c.args.key.now, c.args.bookmark.now) es) (sym (c.join-in-Greater.ensures ∙ append-nil (c.args.key.now ++ [])))
    (cuts_above c.args.key.now (c.args.bookmark.now) es (c.in-Some.found.now, c.in-Some.field-0-1.now) c.requires.index.in_order (found (goal.at.returns-in-Greater c).In-Some) (sym c.cmp.ensures ∙ c.in-Greater.is))

pub returns-in-None : goal.returns-in-None
returns-in-None c =
    let es = entries_of c.args.space.now c.args.self.now in
    subst (λ (k : List ℕ). CutsAt k (c.args.key.now, c.args.bookmark.now) es) (sym (c.join-in-None.ensures ∙ append-nil (c.args.key.now ++ [])))
    (cuts_none c.args.key.now (c.args.bookmark.now) es
    (c.in-None.ensures (find (is_at_or_after c.args.key.now) es) (find_all IsShort (is_at_or_after c.args.key.now) es c.requires.index.short)
    (c.at_or_after.ensures ∙ node_from (nodes_of c.args.space.now c.args.self.now.tree) es (is_from c.args.key.now) c.requires.index.nodes)))

-- What the first node at the key or after it tells of the key: the entry sought is its own, or one search more finds it.
use Rattle.std.proofs.Common.{◌≡◌, ◌++◌, [], true, List, ℕ, None, Some, length, find, sym, ap, ◌∙◌, arith}
use Rattle.std.specs.Option.{option_map}
use Rattle.std.proofs.lemmas.List.{append-nil, append_assoc, length-append}
use Rattle.btree_inplace.specs.Order.{is_from}
use Rattle.btree_inplace.specs.Trees.{nodes_of}
use Rattle.cursor_nav.specs.Places.{Pair}
use Rattle.index_tree.specs.Entries.{IsShort, gap_bookmark, is_at_or_after}
use Rattle.index_tree.specs.IndexTrees.{entries_of}
use Rattle.index_tree.proofs.Cutting.{cuts_above, cuts_at, cuts_front, cuts_none, found_from}
use Rattle.index_tree.proofs.Lists.{find_all, found_all, no_bytes}
use Rattle.index_tree.proofs.NodeEntries.{node_from}
use Rattle.index_tree.proofs.index.IndexTree.from.Goals as goal
use Rattle.index_tree.proofs.index.IndexTree.from.Goals.{In-Some}

pub parts-found-requires : goal.parts-found-requires
parts-found-requires c =
    let es = entries_of c.args.space.now c.args.self.now in (
      find (is_at_or_after c.args.key.now) es,
      find_all IsShort (is_at_or_after c.args.key.now) es c.requires.index.short,
      c.at_or_after.ensures ∙ node_from (nodes_of c.args.space.now c.args.self.now.tree) es (is_from c.args.key.now) c.requires.index.nodes,
    )

-- the entry of the first node at the key or after it
found : (c : In-Some) → Some (c.in-Some.own.now, c.in-Some.field-0-1.now) ≡ find (is_at_or_after c.args.key.now) (entries_of c.args.space.now c.args.self.now)
found c =
    let es = entries_of c.args.space.now c.args.self.now in
    ap (option_map (λ found. (found.0.now, found.1.now))) (sym c.in-Some.is)
    ∙ c.parts-found.ensures (find (is_at_or_after c.args.key.now) es) (find_all IsShort (is_at_or_after c.args.key.now) es c.requires.index.short)
    (c.at_or_after.ensures ∙ node_from (nodes_of c.args.space.now c.args.self.now.tree) es (is_from c.args.key.now) c.requires.index.nodes)

pub at_node_or_after-requires-clause-key : goal.at_node_or_after-requires-clause-key
at_node_or_after-requires-clause-key c =
    let es = entries_of c.args.space.now c.args.self.now in
    let short : IsShort (c.in-Some.own.now, c.in-Some.field-0-1.now) =
    found_all IsShort (is_at_or_after c.args.key.now) es (c.in-Some.own.now, c.in-Some.field-0-1.now) (found (goal.at.at_node_or_after-requires-clause-key c).In-Some) c.requires.index.short in
    short.key

pub returns-in-Less : goal.returns-in-Less
returns-in-Less c =
    let es = entries_of c.args.space.now c.args.self.now in
    let pair : Pair = (c.args.key.now, c.args.bookmark.now ++ c.args.behind.now) in
    let own : Pair = (c.in-Some.own.now, c.in-Some.field-0-1.now) in
    c.at_node_or_after.ensures
    ∙ ap (λ (k : List ℕ). find (is_at_or_after k) es) (append-nil (own.0 ++ c.gap_bookmark.result.now) ∙ ap (λ (b : List ℕ). own.0 ++ b) c.gap_bookmark.ensures.bytes)
    ∙ found_from (own.0 ++ gap_bookmark true) pair es
    (cuts_front c.args.key.now pair.1 es own c.requires.index.apart c.requires.index.short (found (goal.at.returns-in-Less c).In-Some) (sym c.cmp.ensures ∙ c.in-Less.is))

pub returns-else-size-eq0 : goal.returns-else-size-eq0
returns-else-size-eq0 c =
    let es = entries_of c.args.space.now c.args.self.now in
    let pair : Pair = (c.args.key.now, c.args.bookmark.now ++ c.args.behind.now) in
    let own : Pair = (c.in-Some.own.now, c.in-Some.field-0-1.now) in
    c.at_node_or_after-in-Equal.ensures
    ∙ ap (λ (k : List ℕ). find (is_at_or_after k) es) (append_assoc c.args.key.now c.args.bookmark.now c.args.behind.now)
    ∙ found_from (c.args.key.now ++ pair.1) pair es
    (cuts_at c.args.key.now pair.1 es own c.requires.index.apart (found (goal.at.returns-else-size-eq0 c).In-Some) (sym c.cmp.ensures ∙ c.in-Equal.is))

pub returns-then-size-eq0 : goal.returns-then-size-eq0
returns-then-size-eq0 c =
    let es = entries_of c.args.space.now c.args.self.now in
    let pair : Pair = (c.args.key.now, c.args.bookmark.now ++ c.args.behind.now) in
    let own : Pair = (c.in-Some.own.now, c.in-Some.field-0-1.now) in
    let none : pair.1 ≡ [] = no_bytes pair.1 (omega (arith, length-append c.args.bookmark.now c.args.behind.now, c.if-size-eq0.true)) in
    c.parts-found.ensures (find (is_at_or_after c.args.key.now) es) (find_all IsShort (is_at_or_after c.args.key.now) es c.requires.index.short)
    (c.at_or_after.ensures ∙ node_from (nodes_of c.args.space.now c.args.self.now.tree) es (is_from c.args.key.now) c.requires.index.nodes)
    ∙ ap (λ (k : List ℕ). find (is_at_or_after k) es) (sym (ap (λ (b : List ℕ). c.args.key.now ++ b) none ∙ append-nil c.args.key.now))
    ∙ found_from (c.args.key.now ++ pair.1) pair es
    (cuts_at c.args.key.now pair.1 es own c.requires.index.apart (found (goal.at.returns-then-size-eq0 c).In-Some) (sym c.cmp.ensures ∙ c.in-Equal.is))

pub returns-in-Greater : goal.returns-in-Greater
returns-in-Greater c =
    let es = entries_of c.args.space.now c.args.self.now in
    let pair : Pair = (c.args.key.now, c.args.bookmark.now ++ c.args.behind.now) in
    let own : Pair = (c.in-Some.own.now, c.in-Some.field-0-1.now) in
    c.parts-found.ensures (find (is_at_or_after c.args.key.now) es) (find_all IsShort (is_at_or_after c.args.key.now) es c.requires.index.short)
    (c.at_or_after.ensures ∙ node_from (nodes_of c.args.space.now c.args.self.now.tree) es (is_from c.args.key.now) c.requires.index.nodes)
    ∙ ap (λ (k : List ℕ). find (is_at_or_after k) es) (sym (append-nil c.args.key.now))
    ∙ found_from (c.args.key.now ++ []) pair es
    (cuts_above c.args.key.now pair.1 es own c.requires.index.in_order (found (goal.at.returns-in-Greater c).In-Some) (sym c.cmp.ensures ∙ c.in-Greater.is))

pub returns-in-None : goal.returns-in-None
returns-in-None c =
    let es = entries_of c.args.space.now c.args.self.now in
    let pair : Pair = (c.args.key.now, c.args.bookmark.now ++ c.args.behind.now) in
    let none : None ≡ find (is_at_or_after c.args.key.now) es =
    ap (option_map (λ found. (found.0.now, found.1.now))) (sym c.in-None.is)
    ∙ c.parts-found.ensures (find (is_at_or_after c.args.key.now) es) (find_all IsShort (is_at_or_after c.args.key.now) es c.requires.index.short)
    (c.at_or_after.ensures ∙ node_from (nodes_of c.args.space.now c.args.self.now.tree) es (is_from c.args.key.now) c.requires.index.nodes) in
    none ∙ ap (λ (k : List ℕ). find (is_at_or_after k) es) (sym (append-nil c.args.key.now))
    ∙ found_from (c.args.key.now ++ []) pair es (cuts_none c.args.key.now pair.1 es none)

-- What each kind of place asks of the tree.
use Rattle.std.proofs.Common.{true, not, find, sym, ap, ◌∙◌}
use Rattle.std.proofs.lemmas.List.{append-nil}
use Rattle.common_lemmas.proofs.Finding.{find_nothing}
use Rattle.btree_inplace.specs.Trees.{nodes_of}
use Rattle.index_derive.specs.declared.entries.Place.{Place}
use Rattle.index_derive.specs.declared.entries.Place.TheVariants.{On}
use Rattle.cursor_nav.specs.Places.{entry_after, pair_lt}
use Rattle.index_tree.specs.Entries.{IsShort}
use Rattle.index_tree.specs.IndexTrees.{entries_of}
use Rattle.index_tree.proofs.Cutting.{after_gap}
use Rattle.index_tree.proofs.Lists.{find_all}
use Rattle.index_tree.proofs.NodeEntries.{node_from}
use Rattle.index_tree.proofs.index.IndexTree.after.Goals as goal

pub parts-requires : goal.parts-requires
parts-requires c =
    let es = entries_of c.args.space.now c.args.self.now in (
      find (λ _. true) es,
      find_all IsShort (λ _. true) es c.requires.short,
      c.first.ensures ∙ node_from (nodes_of c.args.space.now c.args.self.now.tree) es (λ _. true) c.requires.nodes,
    )

pub returns-in-Before : goal.returns-in-Before
returns-in-Before c =
    let es = entries_of c.args.space.now c.args.self.now in
    c.parts.ensures (find (λ _. true) es) (find_all IsShort (λ _. true) es c.requires.short)
    (c.first.ensures ∙ node_from (nodes_of c.args.space.now c.args.self.now.tree) es (λ _. true) c.requires.nodes)
    ∙ ap (λ (p : Place). entry_after p es) (sym c.in-Before.is)

pub returns-in-After : goal.returns-in-After
returns-in-After c =
    let es = entries_of c.args.space.now c.args.self.now in
    find_nothing es ∙ ap (λ (p : Place). entry_after p es) (sym c.in-After.is)

pub returns-in-On : goal.returns-in-On
returns-in-On c =
    let es = entries_of c.args.space.now c.args.self.now in
    c.behind.ensures
    ∙ (λ i. entry_after (On (c.as_bytes.ensures.value i) (c.as_bytes-in-On.ensures.value i)) es)
    ∙ ap (λ (p : Place). entry_after p es) (sym c.in-On.is)

pub returns-in-Gap : goal.returns-in-Gap
returns-in-Gap c =
    let es = entries_of c.args.space.now c.args.self.now in
    c.from.ensures
    ∙ (λ i. find (λ entry. not (pair_lt entry (c.as_bytes-in-Gap.ensures.value i, (append-nil c.gap_bookmark.result.now ∙ c.gap_bookmark.ensures.bytes) i))) es)
    ∙ after_gap c.in-Gap.key c.in-Gap.above es c.requires.short
    ∙ ap (λ (p : Place). entry_after p es) (sym c.in-Gap.is)

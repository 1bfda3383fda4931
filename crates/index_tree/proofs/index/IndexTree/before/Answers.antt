-- What each kind of place asks of the tree.
use Rattle.std.proofs.Common.{true, None, filter, sym, ap, ◌∙◌}
use Rattle.std.specs.List.{last_or}
use Rattle.common_lemmas.proofs.Finding.{last_nothing}
use Rattle.btree_inplace.specs.Trees.{nodes_of}
use Rattle.index_derive.specs.declared.entries.Place.{Place}
use Rattle.index_derive.specs.declared.entries.Place.TheVariants.{On}
use Rattle.cursor_nav.specs.Places.{entry_before, pair_lt}
use Rattle.index_tree.specs.Entries.{IsShort}
use Rattle.index_tree.specs.IndexTrees.{entries_of}
use Rattle.index_tree.proofs.Cutting.{before_gap}
use Rattle.index_tree.proofs.Lists.{last_all}
use Rattle.index_tree.proofs.NodeEntries.{node_upto}
use Rattle.index_tree.proofs.index.IndexTree.before.Goals as goal

pub parts-requires : goal.parts-requires
parts-requires c =
    let es = entries_of c.args.space.now c.args.self.now in (
      last_or None (filter (λ _. true) es),
      last_all IsShort (λ _. true) None es tt c.requires.short,
      c.last.ensures ∙ node_upto (nodes_of c.args.space.now c.args.self.now.tree) es (λ _. true) c.requires.nodes,
    )

pub returns-in-After : goal.returns-in-After
returns-in-After c =
    let es = entries_of c.args.space.now c.args.self.now in
    c.parts.ensures (last_or None (filter (λ _. true) es)) (last_all IsShort (λ _. true) None es tt c.requires.short)
    (c.last.ensures ∙ node_upto (nodes_of c.args.space.now c.args.self.now.tree) es (λ _. true) c.requires.nodes)
    ∙ ap (λ (p : Place). entry_before p es) (sym c.in-After.is)

pub returns-in-Before : goal.returns-in-Before
returns-in-Before c =
    let es = entries_of c.args.space.now c.args.self.now in
    last_nothing es ∙ ap (λ (p : Place). entry_before p es) (sym c.in-Before.is)

pub returns-in-On : goal.returns-in-On
returns-in-On c =
    let es = entries_of c.args.space.now c.args.self.now in
    c.in_front.ensures
    ∙ (λ i. entry_before (On (c.as_bytes.ensures.value i) (c.as_bytes-in-On.ensures.value i)) es)
    ∙ ap (λ (p : Place). entry_before p es) (sym c.in-On.is)

pub returns-in-Gap : goal.returns-in-Gap
returns-in-Gap c =
    let es = entries_of c.args.space.now c.args.self.now in
    c.below.ensures
    ∙ (λ i. last_or None (filter (λ entry. pair_lt entry (c.as_bytes-in-Gap.ensures.value i, c.gap_bookmark.ensures.bytes i)) es))
    ∙ before_gap c.in-Gap.key c.in-Gap.above es c.requires.short
    ∙ ap (λ (p : Place). entry_before p es) (sym c.in-Gap.is)

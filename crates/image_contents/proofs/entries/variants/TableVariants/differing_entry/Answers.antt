use Rattle.std.proofs.Common.{List, Some, map, option_map, sym, ap, subst, ◌∙◌, arith}
use Rattle.std.specs.List.{All}
use Rattle.std.proofs.lemmas.List.Elements.{All-head, All-same, All-tail}
use Rattle.btree_inplace.specs.Trees.{IsTree}
use Rattle.database_state.specs.Table.{Table}
use Rattle.image_contents.specs.FoundEntries.{finding_in, opened_finding}
use Rattle.image_contents.proofs.OpenedIndexes.{ended, found_at, passed, shown_finding}
use Rattle.image_findings.specs.Images.{first_of}
use Rattle.image_opening.specs.declared.opened.OpenedIndex.{OpenedIndex}
use Rattle.image_contents.proofs.entries.variants.TableVariants.differing_entry.Goals as goal

pub loop-index-init : goal.loop-index-init
loop-index-init c = (
  ap (λ (l : List OpenedIndex). first_of (map (opened_finding c.args.self.now) l)) c.as_slice-rest.ensures.value,
  All-same (λ (x : OpenedIndex). IsTree c.args.self.now.space.now x.tree) c.as_slice-rest.result.now c.args.self.now.opened.now.indexes.items c.as_slice-rest.ensures.value c.requires.shown.1.contents.index_trees,
)

pub differing_in-requires-clause-readable : goal.differing_in-requires-clause-readable
differing_in-requires-clause-readable c = c.requires.readable

pub differing_in-requires-clause-tree : goal.differing_in-requires-clause-tree
differing_in-requires-clause-tree c =
    All-head (λ (x : OpenedIndex). IsTree c.args.self.now.space.now x.tree) c.in-Some.index.now c.in-Some.others.now
    (subst (All (λ (x : OpenedIndex). IsTree c.args.self.now.space.now x.tree)) c.in-Some.ensures.cases.0 c.loop-index.invariant.1)

pub loop-index-smaller : goal.loop-index-smaller
loop-index-smaller c = omega (arith, c.in-Some.ensures.cases.1)

pub loop-index-preserved : goal.loop-index-preserved
loop-index-preserved c = (
  passed c.args.self.now c.loop-index.rest.now c.in-Some.others.now c.in-Some.index.now _ c.in-Some.ensures.cases.0 (ap (option_map (finding_in c.args.self.now.table.now)) (sym c.in-Ok-None.field-0-is) ∙ c.in-Ok-None.ensures) c.loop-index.invariant.0,
  All-tail (λ (x : OpenedIndex). IsTree c.args.self.now.space.now x.tree) c.in-Some.index.now c.in-Some.others.now
      (subst (All (λ (x : OpenedIndex). IsTree c.args.self.now.space.now x.tree)) c.in-Some.ensures.cases.0 c.loop-index.invariant.1),
)

pub returns-in-Ok-Some : goal.returns-in-Ok-Some
returns-in-Ok-Some c t is =
    ap (λ (table : Table). Some (finding_in table c.in-Ok-Some.found)) (sym is.table)
    ∙ found_at c.args.self.now c.loop-index.rest.now c.in-Some.others.now c.in-Some.index.now _ (finding_in c.args.self.now.table.now c.in-Ok-Some.found) c.in-Some.ensures.cases.0
    (ap (option_map (finding_in c.args.self.now.table.now)) (sym c.in-Ok-Some.field-0-is) ∙ c.in-Ok-Some.ensures) c.loop-index.invariant.0
    ∙ shown_finding c.args.self.now t is

pub returns : goal.returns
returns c t is = ended c.args.self.now c.loop-index.rest.now _ c.in_default.ensures.cases c.loop-index.invariant.0 ∙ shown_finding c.args.self.now t is

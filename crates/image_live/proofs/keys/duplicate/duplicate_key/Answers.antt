use Rattle.std.proofs.Common.{List, map, option_map, sym, ap, ◌∙◌, arith}
use Rattle.image_findings.specs.Images.{first_of}
use Rattle.image_live.specs.FoundKeys.{finding_in}
use Rattle.image_live.proofs.Loops.{all_indexes, ended, found_at, opened_finding, passed}
use Rattle.image_opening.specs.declared.opened.OpenedIndex.{OpenedIndex}
use Rattle.image_live.proofs.keys.duplicate.duplicate_key.Goals as goal

pub loop-index-init : goal.loop-index-init
loop-index-init c = λ kept. ap (λ (l : List OpenedIndex). first_of (map (opened_finding c.args.sessions.now c.args.variants.now kept) l)) c.as_slice-rest.ensures.value

pub duplicate_in-requires-clause-readable : goal.duplicate_in-requires-clause-readable
duplicate_in-requires-clause-readable c = c.requires.readable

pub duplicate_in-requires-clause-changes : goal.duplicate_in-requires-clause-changes
duplicate_in-requires-clause-changes c = c.requires.changes

pub loop-index-smaller : goal.loop-index-smaller
loop-index-smaller c = omega (arith, c.in-Some.ensures.cases.1)

pub loop-index-preserved : goal.loop-index-preserved
loop-index-preserved c = λ kept.
    passed c.args.sessions.now c.args.variants.now kept c.loop-index.rest.now c.in-Some.others.now c.in-Some.index.now _ c.in-Some.ensures.cases.0 (ap (option_map (finding_in kept.contents.table)) (sym c.in-Ok-None.field-0-is) ∙ c.in-Ok-None.ensures kept) (c.loop-index.invariant kept)

pub returns-in-Ok-Some : goal.returns-in-Ok-Some
returns-in-Ok-Some c kept =
    found_at c.args.sessions.now c.args.variants.now kept c.loop-index.rest.now c.in-Some.others.now c.in-Some.index.now _ (finding_in kept.contents.table c.in-Ok-Some.found) c.in-Some.ensures.cases.0
    (ap (option_map (finding_in kept.contents.table)) (sym c.in-Ok-Some.field-0-is) ∙ c.in-Ok-Some.ensures kept) (c.loop-index.invariant kept)
    ∙ all_indexes c.args.sessions.now c.args.variants.now kept

pub returns : goal.returns
returns c kept = ended c.args.sessions.now c.args.variants.now kept c.loop-index.rest.now _ c.in_default.ensures.cases (c.loop-index.invariant kept) ∙ all_indexes c.args.sessions.now c.args.variants.now kept

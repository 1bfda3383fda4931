use Rattle.std.proofs.Common.{below_more, arith}
use Rattle.image_findings.specs.Findings.{contents_in}
use Rattle.image_opening.specs.OpenedTrees.{HasContents}
use Rattle.engine_image.proofs.FirstOf.{first_refuses, none_of_all}
use Rattle.engine_image.proofs.TablesShown.{same_length}
use Rattle.engine_image.proofs.parts.ImageParts.check_tables.Goals as goal

pub loop-place-init : goal.loop-place-init
loop-place-init c image is k lt = absurd (omega (arith, lt))

pub check_table-requires-clause-place : goal.check_table-requires-clause-place
check_table-requires-clause-place c = c.loop-place-test.true

pub check_table-requires-clause-may : goal.check_table-requires-clause-may
check_table-requires-clause-may c = c.requires

pub loop-place-preserved : goal.loop-place-preserved
loop-place-preserved c image is = below_more _ _ (c.loop-place.invariant image is) (c.in-Ok.ensures image is)

pub returns-in-Err : goal.returns-in-Err
returns-in-Err c image is = first_refuses c.args.check image (contents_in image) c.loop-place.place c.in-Err.fault (c.loop-place.invariant image is) (c.in-Err.ensures image is)

pub returns : goal.returns
returns c image is =
    none_of_all c.args.check image (contents_in image)
    (λ k lt. c.loop-place.invariant image is k (omega (arith, lt, c.loop-place-test.false, same_length (HasContents c.args.self.now.space.now) c.args.self.now.trees.now (contents_in image) is.contents)))

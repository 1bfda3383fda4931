use Rattle.std.proofs.Common.{sym, refl, ◌∙◌, List}
use Rattle.std.specs.Prelude.{option_map}
use Rattle.btree_inplace.specs.Trees.{nodes_of}
use Rattle.common_lemmas.proofs.Options.{some_apart}
use Rattle.image_contents.specs.HeadlessValues.{headless_in, least_of}
use Rattle.image_contents.specs.ReadReferences.{told_apart}
use Rattle.image_contents.proofs.NamedParts.{first_is, least_later, none_left}
use Rattle.image_contents.proofs.values.missing.least_in.Goals as goal

pub with_headless-found-requires : goal.with_headless-found-requires
with_headless-found-requires c = c.requires

pub loop-reference-init : goal.loop-reference-init
loop-reference-init c xs stand = (xs, stand, refl)

pub loop-reference-smaller : goal.loop-reference-smaller
loop-reference-smaller c = c.in-Some.ensures.shorter

pub loop-reference-preserved : goal.loop-reference-preserved
loop-reference-preserved c xs stand =
    let nodes = nodes_of c.args.space.now c.args.tree.now in
    least_later nodes c.loop-reference.found c.with_headless-found.result (option_map told_apart c.in-Some.reference) c.in-Some.behind.now (least_of c.args.least (headless_in nodes xs))
    (first_is c.loop-reference.rest.now (option_map told_apart c.in-Some.reference) c.in-Some.behind.now (λ ys. least_of c.loop-reference.found (headless_in nodes ys)) (least_of c.args.least (headless_in nodes xs))
    (λ e. some_apart _ (c.in-Some.ensures.end e)) c.in-Some.ensures.value (c.loop-reference.invariant xs stand)) c.with_headless-found.ensures

pub returns : goal.returns
returns c xs stand =
    let nodes = nodes_of c.args.space.now c.args.tree.now in
    none_left c.loop-reference.rest.now (λ ys. least_of c.loop-reference.found (headless_in nodes ys)) (least_of c.args.least (headless_in nodes xs)) (λ value left may is. let h = c.in_default.ensures.value value left may is in h) (c.loop-reference.invariant xs stand)

use Rattle.std.proofs.Common.{false, sym, refl, ◌∙◌, List}
use Rattle.std.specs.Prelude.{bytes_eq, option_map}
use Rattle.std.specs.List.{list_any}
use Rattle.common_lemmas.proofs.Options.{some_apart}
use Rattle.image_contents.specs.ReadReferences.{told_apart}
use Rattle.long_rows.specs.RowReferences.{named_by}
use Rattle.image_contents.proofs.NamedParts.{first_is, named_here, named_later, none_left}
use Rattle.image_contents.proofs.values.references.names.Goals as goal

pub loop-found-init : goal.loop-found-init
loop-found-init c xs stand = (xs, stand, refl)

pub returns-then-is_to : goal.returns-then-is_to
returns-then-is_to c xs stand =
    named_here c.args.id.now (option_map told_apart c.in-Some.found) c.in-Some.behind.now (list_any (bytes_eq c.args.id.now) (named_by xs)) c.is_to.result
    (first_is c.loop-found.rest.now (option_map told_apart c.in-Some.found) c.in-Some.behind.now (λ ys. list_any (bytes_eq c.args.id.now) (named_by ys)) (list_any (bytes_eq c.args.id.now) (named_by xs))
    (λ e. some_apart _ (c.in-Some.ensures.end e)) c.in-Some.ensures.value (c.loop-found.invariant xs stand)) c.is_to.ensures c.if-is_to.true

pub loop-found-smaller : goal.loop-found-smaller
loop-found-smaller c = c.in-Some.ensures.shorter

pub loop-found-preserved : goal.loop-found-preserved
loop-found-preserved c xs stand =
    named_later c.args.id.now (option_map told_apart c.in-Some.found) c.in-Some.behind.now (list_any (bytes_eq c.args.id.now) (named_by xs)) c.is_to.result
    (first_is c.loop-found.rest.now (option_map told_apart c.in-Some.found) c.in-Some.behind.now (λ ys. list_any (bytes_eq c.args.id.now) (named_by ys)) (list_any (bytes_eq c.args.id.now) (named_by xs))
    (λ e. some_apart _ (c.in-Some.ensures.end e)) c.in-Some.ensures.value (c.loop-found.invariant xs stand)) c.is_to.ensures c.if-is_to.false

pub returns : goal.returns
returns c xs stand = none_left c.loop-found.rest.now (λ ys. list_any (bytes_eq c.args.id.now) (named_by ys)) (list_any (bytes_eq c.args.id.now) (named_by xs)) (λ value left may is. let h = c.in_default.ensures.value value left may is in h) (c.loop-found.invariant xs stand)

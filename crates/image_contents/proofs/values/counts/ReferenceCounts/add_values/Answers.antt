use Rattle.std.proofs.Common.{refl}
use Rattle.std.specs.Prelude.{option_map}
use Rattle.common_lemmas.proofs.Options.{some_apart}
use Rattle.image_contents.specs.ReadReferences.{told_apart}
use Rattle.image_contents.proofs.CountedRows.{none_counted, value_counted, with_left}
use Rattle.image_contents.proofs.NamedParts.{first_is, none_left}
use Rattle.image_contents.proofs.values.counts.ReferenceCounts.add_values.Goals as goal

pub loop-found-init : goal.loop-found-init
loop-found-init c xs stand = (xs, stand, refl)

pub loop-found-smaller : goal.loop-found-smaller
loop-found-smaller c = c.in-Some.ensures.shorter

pub loop-found-preserved : goal.loop-found-preserved
loop-found-preserved c xs stand =
    let first = first_is c.loop-found.rest.now (option_map told_apart c.in-Some.found) c.in-Some.behind.now (with_left c.loop-found.self) (with_left c.args.self.now xs) (λ e. some_apart _ (c.in-Some.ensures.end e)) c.in-Some.ensures.value (c.loop-found.invariant xs stand) in
    value_counted c.loop-found.self c.add_last.new.self (option_map told_apart c.in-Some.found) c.in-Some.behind.now (with_left c.args.self.now xs) first (c.in_ok-add_last.ensures first.others first.stand)

pub returns : goal.returns
returns c xs stand =
    none_counted c.loop-found.self (with_left c.args.self.now xs)
    (none_left c.loop-found.rest.now (with_left c.loop-found.self) (with_left c.args.self.now xs) (λ value left may is. let h = c.in_default.ensures.value value left may is in h) (c.loop-found.invariant xs stand))

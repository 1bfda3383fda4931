-- No span is longer than what all changes that were ever pushed have cost.
use Rattle.std.proofs.Common.{◌≤◌, ap, sym, arith}
use Rattle.std.proofs.lemmas.Bool.{le-leb}
use Rattle.version_store.specs.HeldChanges.{span}
use Rattle.version_store.specs.Kept.{held, spents_of}
use Rattle.version_store.proofs.SpanLemmas.{span-within}
use Rattle.version_store.proofs.versions.Versions.is_span_within.Goals as goal

pub returns-then-self-most : goal.returns-then-self-most
returns-then-self-most c =
    let a = c.self.inside in
    let within : span c.args.oldest (held a) ≤ a.total = span-within a.total (spents_of a.items.items) c.args.oldest (held a) c.self.invariant.keeps.are_spent in
    sym (le-leb (span c.args.oldest c.args.self.now) c.args.most (omega (arith, within, ap (span c.args.oldest) c.self.view_is, c.if-self-most.true)))

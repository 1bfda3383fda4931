-- The sum from the oldest kept change on is what was spent less what was spent before it.
use Rattle.std.proofs.Common.{◌≡◌, ◌+◌, ◌<◌, [], length, drop, sym, ap, ◌∙◌, arith}
use Rattle.std.specs.Prelude.{sum_by}
use Rattle.std.proofs.lemmas.List.{drop_all}
use Rattle.version_store.specs.HeldChanges.{cost_of, from_oldest_kept, span}
use Rattle.version_store.specs.Kept.{held}
use Rattle.version_store.proofs.HeldLemmas.{length-held}
use Rattle.version_store.proofs.SpanSteps.{span-found, span-next}
use Rattle.version_store.proofs.versions.Versions.span.Goals as goal

pub overflow_sub-result : goal.overflow_sub-result
overflow_sub-result c =
    let a = c.self.inside in let x = c.index-item.result.now in
    omega (arith, span-found a.items.items a.rows.pieces a.chains a.total c.args.oldest c.loop-at.at x c.self.invariant.keeps (omega (arith, a.items.ok.0, c.len.ensures, c.loop-at-test.true)) c.index-item.ensures (sym c.is_kept.ensures ∙ c.if-is_kept.true) c.loop-at.invariant.skipped)

pub returns-then-is_kept : goal.returns-then-is_kept
returns-then-is_kept c =
    let a = c.self.inside in let x = c.index-item.result.now in
    let found : x.spent + span c.args.oldest (held a) ≡ a.total = span-found a.items.items a.rows.pieces a.chains a.total c.args.oldest c.loop-at.at x c.self.invariant.keeps (omega (arith, a.items.ok.0, c.len.ensures, c.loop-at-test.true)) c.index-item.ensures (sym c.is_kept.ensures ∙ c.if-is_kept.true) c.loop-at.invariant.skipped in
    omega (arith, found, ap (span c.args.oldest) c.self.view_is)

pub loop-at-preserved : goal.loop-at-preserved
loop-at-preserved c =
    let a = c.self.inside in let x = c.index-item.result.now in
    let lt : c.loop-at.at < length a.items.items = omega (arith, a.items.ok.0, c.len.ensures, c.loop-at-test.true) in
    record {
      within = omega arith;
      skipped = span-next a.items.items a.rows.pieces c.args.oldest c.loop-at.at x c.self.invariant.keeps.are_rows lt c.index-item.ensures (sym c.is_kept.ensures ∙ c.if-is_kept.false) c.loop-at.invariant.skipped;
    }

pub returns : goal.returns
returns c =
    let a = c.self.inside in
    let all : drop c.loop-at.at (held a) ≡ [] = drop_all c.loop-at.at (held a) (omega (arith, a.items.ok.0, c.len.ensures, c.loop-at-test.false, length-held a.items.items a.rows.pieces c.self.invariant.keeps.are_rows)) in
    sym (ap (sum_by cost_of) (c.loop-at.invariant.skipped ∙ ap (from_oldest_kept c.args.oldest) all)) ∙ ap (span c.args.oldest) c.self.view_is

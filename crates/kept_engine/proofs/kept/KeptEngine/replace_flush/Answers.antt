use Rattle.std.proofs.Common.{◌≡◌, ℕ, true, refl, sym, ◌∙◌, ap, subst, arith}
use Rattle.jet_volume.specs.Crash.{CrashLeaves}
use Rattle.entry_log.specs.LogState.{stream_end, trimmed_to}
use Rattle.engine_core.specs.LoggedState.{LoggedState}
use Rattle.recovered_states.specs.Recovers.{RecoversUpTo}
use Rattle.kept_engine.specs.Keeping.{kept_end, kept_given, kept_logged, kept_span, kept_volume}
use Rattle.kept_engine.specs.Spans.{with_checkpoint}
use Rattle.kept_engine.specs.Told.{CountsFault}
use Rattle.ordered_run.specs.declared.flushed.After.{After}
use Rattle.kept_engine.proofs.Clashes.{failed_kept, fault_goes, memory_goes, room_kept}
use Rattle.kept_engine.proofs.Surviving.{given_all, keeps_leaves, trimmed_keeps}
use Rattle.kept_engine.proofs.Telling.{flushes_failed, flushes_nothing, flushes_replaced, ready_trimmed}
use Rattle.kept_engine.proofs.kept.KeptEngine.replace_flush.Goals as goal

pub put_image-requires-clause-number : goal.put_image-requires-clause-number
put_image-requires-clause-number g c = omega (arith, c.requires.ready.bounds.number, c.requires.ready.bounds.follows, c.requires.some)

pub returns-in-Goes-clause-keeps : goal.returns-in-Goes-clause-keeps
returns-in-Goes-clause-keeps g c tells opening entries keeps =
    let seen = g.V.Volume.seen in
    let moment = g.V.Volume.moment in
    let left_at = g.V.Volume.left_at in
    let laws = c.what_is_kept_survives.ensures in
    let new = c.put_image.new.self in
    let keeps_new = c.put_image.ensures.keeps c.in-Goes.is tells opening entries keeps in
    let end : kept_end new ≡ kept_end c.args.self.now = ap (λ (l : LoggedState). stream_end l.stream) c.put_image.ensures.engine in
    let all : kept_given new ≡ kept_end new = c.put_image.ensures.told.given c.in-Goes.is ∙ sym end in
    record {
      any_moment = c.put_image.ensures.any_moment tells opening entries keeps;
      kept = λ kept. subst (λ (at : ℕ). CrashLeaves moment left_at (kept_volume new) (RecoversUpTo opening entries at))
          (given_all seen moment left_at laws opening entries new keeps_new all) (keeps_leaves seen moment left_at laws opening entries new keeps_new);
      goes = λ goes. trimmed_keeps seen moment left_at laws opening entries new _ c.given.result keeps_new refl c.trim.ensures.engine c.trim.ensures.stream (omega (arith, c.given.ensures, all));
    }

pub returns-in-Goes-clause-ready : goal.returns-in-Goes-clause-ready
returns-in-Goes-clause-ready g c goes = ready_trimmed c.put_image.new.self _ c.given.result (c.put_image.ensures.ready c.in-Goes.is) c.given.ensures refl c.trim.ensures.engine c.trim.ensures.stream

pub returns-in-Goes-clause-told : goal.returns-in-Goes-clause-told
returns-in-Goes-clause-told g c =
    flushes_replaced g.V.Volume.faults g.V.Volume.identity c.args.self.now c.put_image.new.self _ c.put_image.result _ c.in-Goes.is refl refl c.put_image.ensures.engine c.put_image.ensures.told refl refl c.trim.ensures.engine
    (c.trim.ensures.stream ∙ ap (λ (n : ℕ). trimmed_to n (kept_logged c.put_image.new.self).stream) c.given.ensures)

pub returns-in-Fault-clause-keeps : goal.returns-in-Fault-clause-keeps
returns-in-Fault-clause-keeps g c tells opening entries keeps = record {
  any_moment = c.put_image.ensures.any_moment tells opening entries keeps;
  kept = λ kept. absurd (failed_kept (sym c.flush_failed.ensures.flush ∙ kept));
  goes = λ goes. absurd (fault_goes (sym c.flush_failed.ensures.after ∙ goes));
}

pub returns-in-Fault-clause-ready : goal.returns-in-Fault-clause-ready
returns-in-Fault-clause-ready g c goes = absurd (fault_goes (sym c.flush_failed.ensures.after ∙ goes))

pub returns-in-Fault-clause-told : goal.returns-in-Fault-clause-told
returns-in-Fault-clause-told g c =
    let told = c.put_image.ensures.told in
    flushes_failed g.V.Volume.faults g.V.Volume.identity true (with_checkpoint (kept_span c.args.self.now)) c.args.self.now c.put_image.new.self c.flush_failed.result c.flush_failed.ensures.flush c.flush_failed.ensures.after
    c.put_image.ensures.engine told.depth (omega (arith, told.kept (λ goes. fault_goes (sym c.in-Fault.is ∙ goes)), c.requires.some))
    (subst (λ (a : After). CountsFault g.V.Volume.faults g.V.Volume.identity c.args.self.now c.put_image.new.self a) c.in-Fault.is told.counts)

pub returns-in-Memory-clause-keeps : goal.returns-in-Memory-clause-keeps
returns-in-Memory-clause-keeps g c tells opening entries keeps = record {
  any_moment = c.put_image.ensures.any_moment tells opening entries keeps;
  kept = λ kept. absurd (room_kept kept);
  goes = λ goes. absurd (memory_goes goes);
}

pub returns-in-Memory-clause-ready : goal.returns-in-Memory-clause-ready
returns-in-Memory-clause-ready g c goes = absurd (memory_goes goes)

pub returns-in-Memory-clause-told : goal.returns-in-Memory-clause-told
returns-in-Memory-clause-told g c =
    let told = c.put_image.ensures.told in
    flushes_nothing g.V.Volume.faults g.V.Volume.identity (with_checkpoint (kept_span c.args.self.now)) c.args.self.now c.put_image.new.self _ refl refl
    c.put_image.ensures.engine told.depth (omega (arith, told.kept (λ goes. memory_goes (sym c.in-Memory.is ∙ goes)), c.requires.some))
    (subst (λ (a : After). CountsFault g.V.Volume.faults g.V.Volume.identity c.args.self.now c.put_image.new.self a) c.in-Memory.is told.counts)

use Rattle.std.proofs.Common.{[], ℕ, refl, ap, subst, length, ◌∙◌}
use Rattle.database_state.specs.State.{empty_state}
use Rattle.laws_engine.specs.EngineState.{EngineState}
use Rattle.engine_core.specs.LoggedState.{LoggedState}
use Rattle.kept_engine.specs.Opening.{opening_of}
use Rattle.esentutl.specs.declared.words.RunOptions.{RunOptions}
use Rattle.esentutl.specs.About.{Tells}
use Rattle.esentutl.specs.TopCall.{Outside, not_recovered}
use Rattle.esentutl.specs.Volumes.{volume_side}
use Rattle.esentutl.specs.Words.{recovered_line}
use Rattle.esentutl.proofs.Endings.{ends_by_recovering}
use Rattle.esentutl.proofs.Openings.{OpenedVolume, is_opened, leaves_next, leaves_opening}
use Rattle.esentutl.proofs.volumes.recover_volume.Goals as goal

pub returns-in-Ok-clause-ends : goal.returns-in-Ok-clause-ends
returns-in-Ok-clause-ends g c = λ options left source.
    let asked : RunOptions = record { span_limit = 4194304; depth = 1048576 } in
    let kept = c.in-Ok.kept in
    let volume = c.into_volume.result in
    let o : Outside = record {
      left_before = left;
      left_after = left;
      source_before = source;
      source_after = source;
      taken_before = g.K.Sink.taken c.args.out.now;
      taken_after = g.K.Sink.taken c.tell_recovered.new.out;
      sink_before = g.K.Sink.faults c.args.out.now;
      sink_after = g.K.Sink.faults c.tell_recovered.new.out;
      volume_before = g.V.Volume.faults c.args.volume;
      volume_after = g.V.Volume.faults volume;
    } in
    let known : OpenedVolume g.V.Volume.tells_contents g.V.Volume.seen g.V.Volume.moment g.V.Volume.left_at g.V.Volume.faults g.V.Volume.identity asked c.args.volume kept = record {
      opened = c.in-Ok.ensures.opened;
      begun = c.in-Ok.ensures.begun;
      accepts = c.in-Ok.ensures.exact;
      sound = c.in-Ok.ensures.faults;
      recovers = c.in-Ok.ensures.recovers;
    } in
    let ends = ends_by_recovering options o (volume_side g.V.Volume.tells_contents g.V.Volume.seen g.V.Volume.moment g.V.Volume.left_at c.args.volume volume) (opening_of kept) c.tell_recovered.result (
      refl,
      is_opened g.V.Volume.tells_contents g.V.Volume.seen g.V.Volume.moment g.V.Volume.left_at g.V.Volume.faults g.V.Volume.identity asked o c.args.volume kept volume known refl refl (ap g.V.Volume.faults c.into_volume.ensures),
      refl,
      leaves_opening g.V.Volume.tells_contents g.V.Volume.seen g.V.Volume.moment g.V.Volume.left_at g.V.Volume.faults g.V.Volume.identity asked c.args.volume kept volume known c.into_volume.ensures,
      leaves_next g.V.Volume.tells_contents g.V.Volume.seen g.V.Volume.moment g.V.Volume.left_at g.V.Volume.faults g.V.Volume.identity asked c.args.volume kept volume known c.into_volume.ensures,
    )
    (subst (λ (engine : EngineState). Tells (g.K.Sink.taken c.args.out.now) (g.K.Sink.taken c.tell_recovered.new.out) (g.K.Sink.faults c.args.out.now) (g.K.Sink.faults c.tell_recovered.new.out)
    (recovered_line engine.number (length engine.store.tables)) c.tell_recovered.result)
    (c.engine-in-Ok.ensures ∙ ap (λ (logged : LoggedState). logged.engine) c.engine.ensures) c.tell_recovered.ensures) in
    (opening_of kept, ends.0, ends.1, ends.2, ends.3)

pub returns-in-Err-clause-ends : goal.returns-in-Err-clause-ends
returns-in-Err-clause-ends g c = λ options left source. (
  empty_state,
  not_recovered c.in-Err.fault.cause,
  c.tell_cause.ensures.status,
  refl,
  (
    refl,
    c.tell_cause.ensures.line,
    refl,
    c.in-Err.ensures.faults,
    c.in-Err.ensures.refused,
    c.in-Err.ensures.back,
    λ state known tell settled. c.in-Err.ensures.recovers tell settled state (known tell),
  ),
)

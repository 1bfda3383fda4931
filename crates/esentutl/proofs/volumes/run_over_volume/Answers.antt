use Rattle.std.proofs.Common.{[], ℕ, refl, ap, subst, ◌∙◌}
use Rattle.database_state.specs.State.{empty_state}
use Rattle.script_text.specs.Parsed.{calls_of}
use Rattle.kept_engine.specs.Opening.{opening_of}
use Rattle.esentutl.specs.RunEnds.{RunEndsBy}
use Rattle.esentutl.specs.TopCall.{Outside, not_opened}
use Rattle.esentutl.specs.Volumes.{volume_side}
use Rattle.esentutl.proofs.Endings.{ending_of, prepend_nothing, status_of-ending_of, form_of_ending-ending_of, ends_by_fault}
use Rattle.esentutl.proofs.Openings.{OpenedVolume, ends_by_run, is_opened, leaves_opening}
use Rattle.esentutl.proofs.volumes.run_over_volume.Goals as goal

pub returns-in-Ok-read_script-clause-ends : goal.returns-in-Ok-read_script-clause-ends
returns-in-Ok-read_script-clause-ends g c =
    let options = c.args.options in
    let kept = c.in-Ok.kept in
    let volume = c.run_script.result.1 in
    let read = c.in-Ok-read_script.ensures.script in
    let run = c.run_script.ensures.ends in
    let o : Outside = record {
      left_before = g.S.Source.left c.args.script.now;
      left_after = g.S.Source.left c.read_script.new.script;
      source_before = g.S.Source.faults c.args.script.now;
      source_after = g.S.Source.faults c.read_script.new.script;
      taken_before = g.K.Sink.taken c.args.out.now;
      taken_after = g.K.Sink.taken c.run_script.new.out;
      sink_before = g.K.Sink.faults c.args.out.now;
      sink_after = g.K.Sink.faults c.run_script.new.out;
      volume_before = g.V.Volume.faults c.args.volume;
      volume_after = g.V.Volume.faults volume;
    } in
    let known : OpenedVolume g.V.Volume.tells_contents g.V.Volume.seen g.V.Volume.moment g.V.Volume.left_at g.V.Volume.faults g.V.Volume.identity options c.args.volume kept = record {
      opened = c.in-Ok.ensures.opened;
      begun = c.in-Ok.ensures.begun;
      accepts = c.in-Ok.ensures.exact;
      sound = c.in-Ok.ensures.faults;
      recovers = c.in-Ok.ensures.recovers;
    } in
    let ends = ends_by_run g.V.Volume.tells_contents g.V.Volume.seen g.V.Volume.moment g.V.Volume.left_at g.V.Volume.faults g.V.Volume.identity c.a_run_is_kept_line_by_line.ensures.begins options o read.0 (calls_of c.in-Ok-read_script.calls) c.args.volume kept volume run.0 known refl refl
    read.2.0.0 (read.2.0.1, read.2.0.2, read.2.1)
    (subst (λ (limit : ℕ). RunEndsBy g.V.Volume.tells_contents g.V.Volume.seen g.V.Volume.moment g.V.Volume.left_at g.V.Volume.faults g.V.Volume.identity limit (calls_of c.in-Ok-read_script.calls) kept volume (g.K.Sink.taken c.args.out.now) (g.K.Sink.taken c.run_script.new.out) (g.K.Sink.faults c.args.out.now) (g.K.Sink.faults c.run_script.new.out) run.0)
    c.in-Ok.ensures.begun.limit_is run.2) in
    (read.0, opening_of kept, run.0, run.1, ends.0, read.1, ends.1)

pub returns-in-Err-read_script-clause-ends : goal.returns-in-Err-read_script-clause-ends
returns-in-Err-read_script-clause-ends g c =
    let options = c.args.options in
    let kept = c.in-Ok.kept in
    let volume = c.into_volume.result in
    let why = c.in-Err-read_script.fault in
    let read = c.in-Err-read_script.ensures.script in
    let o : Outside = record {
      left_before = g.S.Source.left c.args.script.now;
      left_after = g.S.Source.left c.read_script.new.script;
      source_before = g.S.Source.faults c.args.script.now;
      source_after = g.S.Source.faults c.read_script.new.script;
      taken_before = g.K.Sink.taken c.args.out.now;
      taken_after = g.K.Sink.taken c.tell.new.out;
      sink_before = g.K.Sink.faults c.args.out.now;
      sink_after = g.K.Sink.faults c.tell.new.out;
      volume_before = g.V.Volume.faults c.args.volume;
      volume_after = g.V.Volume.faults volume;
    } in
    let known : OpenedVolume g.V.Volume.tells_contents g.V.Volume.seen g.V.Volume.moment g.V.Volume.left_at g.V.Volume.faults g.V.Volume.identity options c.args.volume kept = record {
      opened = c.in-Ok.ensures.opened;
      begun = c.in-Ok.ensures.begun;
      accepts = c.in-Ok.ensures.exact;
      sound = c.in-Ok.ensures.faults;
      recovers = c.in-Ok.ensures.recovers;
    } in (
      read.0,
      opening_of kept,
      ending_of why,
      c.tell.ensures.status ∙ status_of-ending_of why,
      form_of_ending-ending_of options why,
      read.1,
      ends_by_fault options o (volume_side g.V.Volume.tells_contents g.V.Volume.seen g.V.Volume.moment g.V.Volume.left_at c.args.volume volume) (opening_of kept) read.0 why read.2 c.tell.ensures.line
          (is_opened g.V.Volume.tells_contents g.V.Volume.seen g.V.Volume.moment g.V.Volume.left_at g.V.Volume.faults g.V.Volume.identity options o c.args.volume kept volume known refl refl (ap g.V.Volume.faults c.into_volume.ensures))
          (leaves_opening g.V.Volume.tells_contents g.V.Volume.seen g.V.Volume.moment g.V.Volume.left_at g.V.Volume.faults g.V.Volume.identity options c.args.volume kept volume known c.into_volume.ensures),
    )

pub returns-in-Err-clause-ends : goal.returns-in-Err-clause-ends
returns-in-Err-clause-ends g c = (
  [],
  empty_state,
  not_opened c.in-Err.fault.cause,
  c.tell_cause.ensures.status,
  refl,
  prepend_nothing (g.S.Source.left c.args.script.now),
  (
    refl,
    c.tell_cause.ensures.line,
    refl,
    c.in-Err.ensures.faults,
    c.in-Err.ensures.refused,
    c.in-Err.ensures.back,
    λ state known tell settled. c.in-Err.ensures.recovers tell settled state (known tell),
  ),
)

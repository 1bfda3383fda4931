use Rattle.std.proofs.Common.{ℕ, List, [], refl, sym, subst, ◌∙◌, rules}
use Rattle.database_state.specs.State.{empty_state}
use Rattle.esentutl.specs.TopCall.{Outside, bad_words, Says}
use Rattle.esentutl.specs.Volumes.{volume_side}
use Rattle.esentutl.specs.Words.{words_of}
use Rattle.esentutl.proofs.Depths.{runs_are_deep}
use Rattle.esentutl.proofs.Endings.{prepend_nothing, ends_by_telling}
use Rattle.esentutl.proofs.Lent.{ends_lent}
use Rattle.esentutl.proofs.top.run_words.Goals as goal

pub returns-in-Unknown : goal.returns-in-Unknown
returns-in-Unknown g c = (
  [],
  record { span_limit = 0; depth = 0 },
  empty_state,
  bad_words,
  refl,
  sym c.form_of_words.ensures ∙ c.in-Unknown.is,
  prepend_nothing (g.S.Source.left c.args.script.now),
  (
    refl,
    subst (λ (line : List ℕ). Says (g.K.Sink.taken c.args.out.now) (g.K.Sink.taken c.say_only.new.out) (g.K.Sink.faults c.args.out.now) (g.K.Sink.faults c.say_only.new.out) line)
        c.make_last_line.ensures c.say_only.ensures,
    refl,
    refl,
    refl,
  ),
)

pub returns-in-About : goal.returns-in-About
returns-in-About g c =
    let o : Outside = record {
      left_before = g.S.Source.left c.args.script.now;
      left_after = g.S.Source.left c.args.script.now;
      source_before = g.S.Source.faults c.args.script.now;
      source_after = g.S.Source.faults c.args.script.now;
      taken_before = g.K.Sink.taken c.args.out.now;
      taken_after = g.K.Sink.taken c.tell_about.new.out;
      sink_before = g.K.Sink.faults c.args.out.now;
      sink_after = g.K.Sink.faults c.tell_about.new.out;
      volume_before = g.V.Volume.faults c.args.volume.now;
      volume_after = g.V.Volume.faults c.args.volume.now;
    } in
    let ends = ends_by_telling (record { span_limit = 0; depth = 0 }) o (volume_side g.V.Volume.tells_contents g.V.Volume.seen g.V.Volume.moment g.V.Volume.left_at c.args.volume.now c.args.volume.now) empty_state c.in-About.topic c.tell_about.result refl refl refl c.tell_about.ensures in (
      [],
      record { span_limit = 0; depth = 0 },
      empty_state,
      ends.0,
      ends.1,
      sym c.form_of_words.ensures ∙ c.in-About.is ∙ ends.2,
      prepend_nothing (g.S.Source.left c.args.script.now),
      ends.3,
    )

pub returns-in-OrderedRun : goal.returns-in-OrderedRun
returns-in-OrderedRun g c =
    let ends = c.run_over_volume.ensures.ends in (
      ends.0,
      c.in-OrderedRun.options,
      ends.1,
      ends.2,
      ends.3,
      sym c.form_of_words.ensures ∙ c.in-OrderedRun.is ∙ ends.4,
      ends.5,
      ends_lent g.V.Volume.tells_contents g.V.Volume.seen g.V.Volume.moment g.V.Volume.left_at c.in-OrderedRun.options
          (λ v. record {
            left_before = g.S.Source.left c.args.script.now;
            left_after = g.S.Source.left c.run_over_volume.new.script;
            source_before = g.S.Source.faults c.args.script.now;
            source_after = g.S.Source.faults c.run_over_volume.new.script;
            taken_before = g.K.Sink.taken c.args.out.now;
            taken_after = g.K.Sink.taken c.run_over_volume.new.out;
            sink_before = g.K.Sink.faults c.args.out.now;
            sink_after = g.K.Sink.faults c.run_over_volume.new.out;
            volume_before = g.V.Volume.faults c.args.volume.now;
            volume_after = g.V.Volume.faults v;
          })
          _ c.run_over_volume.result.1 _ ends.1 ends.0 ends.2 (search rules) ends.6,
    )

pub returns-in-Recovery : goal.returns-in-Recovery
returns-in-Recovery g c =
    let ends = c.recover_volume.ensures.ends (record { span_limit = 0; depth = 0 }) (g.S.Source.left c.args.script.now) (g.S.Source.faults c.args.script.now) in (
      [],
      record { span_limit = 0; depth = 0 },
      ends.0,
      ends.1,
      ends.2,
      sym c.form_of_words.ensures ∙ c.in-Recovery.is ∙ ends.3,
      prepend_nothing (g.S.Source.left c.args.script.now),
      ends_lent g.V.Volume.tells_contents g.V.Volume.seen g.V.Volume.moment g.V.Volume.left_at (record { span_limit = 0; depth = 0 })
          (λ v. record {
            left_before = g.S.Source.left c.args.script.now;
            left_after = g.S.Source.left c.args.script.now;
            source_before = g.S.Source.faults c.args.script.now;
            source_after = g.S.Source.faults c.args.script.now;
            taken_before = g.K.Sink.taken c.args.out.now;
            taken_after = g.K.Sink.taken c.recover_volume.new.out;
            sink_before = g.K.Sink.faults c.args.out.now;
            sink_after = g.K.Sink.faults c.recover_volume.new.out;
            volume_before = g.V.Volume.faults c.args.volume.now;
            volume_after = g.V.Volume.faults v;
          })
          _ c.recover_volume.result.1 _ ends.0 [] ends.1 (search rules) ends.4,
    )

pub returns-in-Inspection : goal.returns-in-Inspection
returns-in-Inspection g c =
    let ends = c.inspect_volume.ensures.ends (record { span_limit = 0; depth = 0 }) (g.S.Source.left c.args.script.now) (g.S.Source.faults c.args.script.now) in (
      [],
      record { span_limit = 0; depth = 0 },
      ends.0,
      ends.1,
      ends.2,
      sym c.form_of_words.ensures ∙ c.in-Inspection.is ∙ ends.3,
      prepend_nothing (g.S.Source.left c.args.script.now),
      ends_lent g.V.Volume.tells_contents g.V.Volume.seen g.V.Volume.moment g.V.Volume.left_at (record { span_limit = 0; depth = 0 })
          (λ v. record {
            left_before = g.S.Source.left c.args.script.now;
            left_after = g.S.Source.left c.args.script.now;
            source_before = g.S.Source.faults c.args.script.now;
            source_after = g.S.Source.faults c.args.script.now;
            taken_before = g.K.Sink.taken c.args.out.now;
            taken_after = g.K.Sink.taken c.inspect_volume.new.out;
            sink_before = g.K.Sink.faults c.args.out.now;
            sink_after = g.K.Sink.faults c.inspect_volume.new.out;
            volume_before = g.V.Volume.faults c.args.volume.now;
            volume_after = g.V.Volume.faults v;
          })
          _ c.inspect_volume.result.1 _ ends.0 [] ends.1 (search rules) ends.4,
    )

pub run_over_volume-requires : goal.run_over_volume-requires
run_over_volume-requires g c = runs_are_deep (words_of c.args.words.now) c.in-OrderedRun.options (sym c.form_of_words.ensures ∙ c.in-OrderedRun.is)

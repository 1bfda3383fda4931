use Rattle.std.proofs.Common.{refl, sym, ◌∙◌}
use Rattle.esentutl.specs.TopCall.{Outside}
use Rattle.esentutl.specs.Volumes.{volume_side}
use Rattle.esentutl.specs.Words.{form_of, words_of}
use Rattle.esentutl.proofs.Completeness.{completes_told, refuses_told, not_refused, only_outside, refuses_volume_told, recovers_told, tells_whole}
use Rattle.esentutl.proofs.LookedAt.{finds_told, inspects_told, only_for, only_looks_told, refuses_nothing, surely_found}
use Rattle.esentutl.proofs.top.esentutl.Goals as goal

pub returns-clause-completes : goal.returns-clause-completes
returns-clause-completes g c = λ options words source sink volume.
    let ends = c.run_words.ensures in
    let o : Outside = record {
      left_before = g.S.Source.left c.args.script.now;
      left_after = g.S.Source.left c.run_words.new.script;
      source_before = g.S.Source.faults c.args.script.now;
      source_after = g.S.Source.faults c.run_words.new.script;
      taken_before = g.K.Sink.taken c.args.out.now;
      taken_after = g.K.Sink.taken c.run_words.new.out;
      sink_before = g.K.Sink.faults c.args.out.now;
      sink_after = g.K.Sink.faults c.run_words.new.out;
      volume_before = g.V.Volume.faults c.args.volume.now;
      volume_after = g.V.Volume.faults c.run_words.new.volume;
    } in
    completes_told ends.1 options o (volume_side g.V.Volume.tells_contents g.V.Volume.seen g.V.Volume.moment g.V.Volume.left_at c.args.volume.now c.run_words.new.volume) ends.2 ends.0 ends.3 (g.S.Source.left c.args.script.now) refl ends.6 (sym ends.5 ∙ words) source sink volume ends.7 c.run_words.result ends.4

pub returns-clause-refuses : goal.returns-clause-refuses
returns-clause-refuses g c = λ options words source volume.
    let ends = c.run_words.ensures in
    let o : Outside = record {
      left_before = g.S.Source.left c.args.script.now;
      left_after = g.S.Source.left c.run_words.new.script;
      source_before = g.S.Source.faults c.args.script.now;
      source_after = g.S.Source.faults c.run_words.new.script;
      taken_before = g.K.Sink.taken c.args.out.now;
      taken_after = g.K.Sink.taken c.run_words.new.out;
      sink_before = g.K.Sink.faults c.args.out.now;
      sink_after = g.K.Sink.faults c.run_words.new.out;
      volume_before = g.V.Volume.faults c.args.volume.now;
      volume_after = g.V.Volume.faults c.run_words.new.volume;
    } in
    refuses_told ends.1 options o (volume_side g.V.Volume.tells_contents g.V.Volume.seen g.V.Volume.moment g.V.Volume.left_at c.args.volume.now c.run_words.new.volume) ends.2 ends.0 ends.3 (g.S.Source.left c.args.script.now) refl ends.6 (sym ends.5 ∙ words) source volume ends.7 c.run_words.result ends.4

pub returns-clause-accepts : goal.returns-clause-accepts
returns-clause-accepts g c = λ tells none is.
    let ends = c.run_words.ensures in
    let o : Outside = record {
      left_before = g.S.Source.left c.args.script.now;
      left_after = g.S.Source.left c.run_words.new.script;
      source_before = g.S.Source.faults c.args.script.now;
      source_after = g.S.Source.faults c.run_words.new.script;
      taken_before = g.K.Sink.taken c.args.out.now;
      taken_after = g.K.Sink.taken c.run_words.new.out;
      sink_before = g.K.Sink.faults c.args.out.now;
      sink_after = g.K.Sink.faults c.run_words.new.out;
      volume_before = g.V.Volume.faults c.args.volume.now;
      volume_after = g.V.Volume.faults c.run_words.new.volume;
    } in
    not_refused ends.1 o (volume_side g.V.Volume.tells_contents g.V.Volume.seen g.V.Volume.moment g.V.Volume.left_at c.args.volume.now c.run_words.new.volume) ends.2 ends.0 ends.3 c.run_words.result ends.7 ends.4 (λ why refused. only_outside (none why) (refused tells)) is

pub returns-clause-refuses_volume : goal.returns-clause-refuses_volume
returns-clause-refuses_volume g c = λ tells has why refused volume.
    let ends = c.run_words.ensures in
    let o : Outside = record {
      left_before = g.S.Source.left c.args.script.now;
      left_after = g.S.Source.left c.run_words.new.script;
      source_before = g.S.Source.faults c.args.script.now;
      source_after = g.S.Source.faults c.run_words.new.script;
      taken_before = g.K.Sink.taken c.args.out.now;
      taken_after = g.K.Sink.taken c.run_words.new.out;
      sink_before = g.K.Sink.faults c.args.out.now;
      sink_after = g.K.Sink.faults c.run_words.new.out;
      volume_before = g.V.Volume.faults c.args.volume.now;
      volume_after = g.V.Volume.faults c.run_words.new.volume;
    } in
    refuses_volume_told ends.1 o (volume_side g.V.Volume.tells_contents g.V.Volume.seen g.V.Volume.moment g.V.Volume.left_at c.args.volume.now c.run_words.new.volume) ends.2 ends.0 ends.3 (form_of (words_of c.args.words.now)) why c.run_words.result ends.5 ends.4 ends.7 has (λ accepts. accepts tells why refused)
    (refuses_nothing (g.V.Volume.seen c.args.volume.now) why refused) (λ other known. only_for (g.V.Volume.seen c.args.volume.now) why other c.files_are_refused_for_one_cause.ensures.once refused (known tells)) volume

pub returns-clause-finds : goal.returns-clause-finds
returns-clause-finds g c = λ eight.
    let ends = c.run_words.ensures in
    let o : Outside = record {
      left_before = g.S.Source.left c.args.script.now;
      left_after = g.S.Source.left c.run_words.new.script;
      source_before = g.S.Source.faults c.args.script.now;
      source_after = g.S.Source.faults c.run_words.new.script;
      taken_before = g.K.Sink.taken c.args.out.now;
      taken_after = g.K.Sink.taken c.run_words.new.out;
      sink_before = g.K.Sink.faults c.args.out.now;
      sink_after = g.K.Sink.faults c.run_words.new.out;
      volume_before = g.V.Volume.faults c.args.volume.now;
      volume_after = g.V.Volume.faults c.run_words.new.volume;
    } in
    let finds = finds_told ends.1 o (volume_side g.V.Volume.tells_contents g.V.Volume.seen g.V.Volume.moment g.V.Volume.left_at c.args.volume.now c.run_words.new.volume) ends.2 ends.0 ends.3 (form_of (words_of c.args.words.now)) c.run_words.result ends.5 ends.4 ends.7 eight in
    (finds.0, (finds.1.0, λ tells. surely_found (g.V.Volume.seen c.args.volume.now) finds.1.0 (finds.1.1 tells)))

pub returns-clause-inspects : goal.returns-clause-inspects
returns-clause-inspects g c = λ asked words sink volume.
    let ends = c.run_words.ensures in
    let o : Outside = record {
      left_before = g.S.Source.left c.args.script.now;
      left_after = g.S.Source.left c.run_words.new.script;
      source_before = g.S.Source.faults c.args.script.now;
      source_after = g.S.Source.faults c.run_words.new.script;
      taken_before = g.K.Sink.taken c.args.out.now;
      taken_after = g.K.Sink.taken c.run_words.new.out;
      sink_before = g.K.Sink.faults c.args.out.now;
      sink_after = g.K.Sink.faults c.run_words.new.out;
      volume_before = g.V.Volume.faults c.args.volume.now;
      volume_after = g.V.Volume.faults c.run_words.new.volume;
    } in
    inspects_told ends.1 o (volume_side g.V.Volume.tells_contents g.V.Volume.seen g.V.Volume.moment g.V.Volume.left_at c.args.volume.now c.run_words.new.volume) ends.2 ends.0 ends.3 asked c.run_words.result (sym ends.5 ∙ words) sink volume ends.7 ends.4

pub returns-clause-only_looks : goal.returns-clause-only_looks
returns-clause-only_looks g c = λ is.
    let ends = c.run_words.ensures in
    let o : Outside = record {
      left_before = g.S.Source.left c.args.script.now;
      left_after = g.S.Source.left c.run_words.new.script;
      source_before = g.S.Source.faults c.args.script.now;
      source_after = g.S.Source.faults c.run_words.new.script;
      taken_before = g.K.Sink.taken c.args.out.now;
      taken_after = g.K.Sink.taken c.run_words.new.out;
      sink_before = g.K.Sink.faults c.args.out.now;
      sink_after = g.K.Sink.faults c.run_words.new.out;
      volume_before = g.V.Volume.faults c.args.volume.now;
      volume_after = g.V.Volume.faults c.run_words.new.volume;
    } in
    only_looks_told ends.1 o (volume_side g.V.Volume.tells_contents g.V.Volume.seen g.V.Volume.moment g.V.Volume.left_at c.args.volume.now c.run_words.new.volume) ends.2 ends.0 ends.3 (form_of (words_of c.args.words.now)) ends.5 is ends.7

pub returns-clause-recovers : goal.returns-clause-recovers
returns-clause-recovers g c = λ words sink volume.
    let ends = c.run_words.ensures in
    let o : Outside = record {
      left_before = g.S.Source.left c.args.script.now;
      left_after = g.S.Source.left c.run_words.new.script;
      source_before = g.S.Source.faults c.args.script.now;
      source_after = g.S.Source.faults c.run_words.new.script;
      taken_before = g.K.Sink.taken c.args.out.now;
      taken_after = g.K.Sink.taken c.run_words.new.out;
      sink_before = g.K.Sink.faults c.args.out.now;
      sink_after = g.K.Sink.faults c.run_words.new.out;
      volume_before = g.V.Volume.faults c.args.volume.now;
      volume_after = g.V.Volume.faults c.run_words.new.volume;
    } in
    recovers_told ends.1 o (volume_side g.V.Volume.tells_contents g.V.Volume.seen g.V.Volume.moment g.V.Volume.left_at c.args.volume.now c.run_words.new.volume) ends.2 ends.0 ends.3 c.run_words.result (sym ends.5 ∙ words) sink volume ends.7 ends.4

pub returns-clause-tells : goal.returns-clause-tells
returns-clause-tells g c = λ topic words sink.
    let ends = c.run_words.ensures in
    let o : Outside = record {
      left_before = g.S.Source.left c.args.script.now;
      left_after = g.S.Source.left c.run_words.new.script;
      source_before = g.S.Source.faults c.args.script.now;
      source_after = g.S.Source.faults c.run_words.new.script;
      taken_before = g.K.Sink.taken c.args.out.now;
      taken_after = g.K.Sink.taken c.run_words.new.out;
      sink_before = g.K.Sink.faults c.args.out.now;
      sink_after = g.K.Sink.faults c.run_words.new.out;
      volume_before = g.V.Volume.faults c.args.volume.now;
      volume_after = g.V.Volume.faults c.run_words.new.volume;
    } in
    tells_whole ends.1 o (volume_side g.V.Volume.tells_contents g.V.Volume.seen g.V.Volume.moment g.V.Volume.left_at c.args.volume.now c.run_words.new.volume) ends.2 ends.0 ends.3 topic ends.6 (sym ends.5 ∙ words) sink ends.7 c.run_words.result ends.4

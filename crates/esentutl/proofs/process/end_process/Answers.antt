use Rattle.std.proofs.Common.{Err, ℕ, refl, sym, ap, subst}
use Rattle.std.specs.Process.{exit_status}
use Rattle.esentutl.specs.declared.process.WordsFault.{WordsFault}
use Rattle.esentutl.specs.declared.process.WordsFault.TheVariants as fault
use Rattle.esentutl.specs.Process.{arguments_of, AreWordsOf, CallEnds}
use Rattle.esentutl.specs.Words.{words_of}
use Rattle.esentutl.proofs.Processes.{ends_before_all, process_ends}
use Rattle.esentutl.proofs.process.end_process.Goals as goal

pub returns-in-Ok : goal.returns-in-Ok
returns-in-Ok g c =
    let ends = c.end_words.ensures in (
      ends.0,
      ends.1,
      process_ends (arguments_of c.args.arguments) (words_of c.in-Ok.words.items) (words_of c.deref.result.now) _ (exit_status c.end_words.result.0) c.in-Ok.ensures (ap words_of c.deref.ensures.value) ends.2,
    )

pub returns : goal.returns
returns g c =
    let left = g.S.Source.left c.args.script.now in
    let taken = g.K.Sink.taken c.args.out.now in (
      0,
      refl,
      (
        Err fault.Memory,
        subst (λ (f : WordsFault). AreWordsOf (arguments_of c.args.arguments) (Err f)) c.in-Err-Memory.field-0-is c.in-Err-Memory.ensures,
        subst (λ (status : ℕ). CallEnds (Err fault.Memory)
            (record {
              left_before = left;
              left_after = left;
              source_before = g.S.Source.faults c.args.script.now;
              source_after = g.S.Source.faults c.args.script.now;
              taken_before = taken;
              taken_after = taken;
              sink_before = g.K.Sink.faults c.args.out.now;
              sink_after = g.K.Sink.faults c.args.out.now;
              volume_before = 0;
              volume_after = 0;
            }) status) (sym c.from.ensures) (ends_before_all left taken (g.S.Source.faults c.args.script.now) (g.K.Sink.faults c.args.out.now)),
      ),
    )

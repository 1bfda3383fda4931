use Rattle.std.specs.Process.{exit_status}
use Rattle.jet_io.specs.System.{reader_of, writer_of, std_source_failures, std_sink_failures}
use Rattle.esentutl.specs.Process.{arguments_of}
use Rattle.esentutl.specs.Streams.{still_told}
use Rattle.esentutl.proofs.ToldBytes.{still_told-first}
use Rattle.esentutl.proofs.Processes.{ends_as_told}
use Rattle.esentutl.proofs.process.run_process.Goals as goal

pub returns : goal.returns
returns g c =
    let made = c.new-script.result in
    let opened = c.new-out.result in
    let ended = c.end_process-volume_faults.ensures in
    let script = c.end_process-volume_faults.new.script in
    let out = c.end_process-volume_faults.new.out in
    let input = g.I.Read.remaining c.args.input in
    let output = g.O.Write.contents c.args.output in (
      ended.0,
      ended.1,
      rw (c.into_source.ensures, c.into_sink.ensures) (ends_as_told (arguments_of c.args.arguments) (exit_status c.end_process-volume_faults.result.0)
          (still_told (g.I.Read.remaining made.first.value) (g.I.Read.remaining (reader_of made.source))) input (g.I.Read.remaining script.first.value) (g.I.Read.remaining (reader_of script.source))
          (still_told (g.O.Write.contents opened.first.value) (g.O.Write.contents (writer_of opened.sink))) output (g.O.Write.contents out.first.value) (g.O.Write.contents (writer_of out.sink))
          (std_source_failures made.source) (std_source_failures script.source) (std_sink_failures opened.sink) (std_sink_failures out.sink) ended.0
          (rw (c.new-script.ensures.first, c.new-script.ensures.reader) (still_told-first input)) c.new-script.ensures.failures
          (rw (c.new-out.ensures.first, c.new-out.ensures.writer) (still_told-first output)) c.new-out.ensures.failures ended.2),
    )

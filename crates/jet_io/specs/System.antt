-- What the adapters over std's reader and writer show.
use Rattle.std.specs.Prelude.{ℕ}
use Rattle.jet_io.specs.declared.system.StdSource.{StdSource}
use Rattle.jet_io.specs.declared.system.StdSink.{StdSink}

-- the source's count of faults
abbrev pub std_source_faults : {R : Type 0} → StdSource R → ℕ
std_source_faults s = s.faults

-- the sink's count of faults
abbrev pub std_sink_faults : {W : Type 0} → StdSink W → ℕ
std_sink_faults s = s.faults

-- how often the reader below a source has answered an error
abbrev pub std_source_failures : {R : Type 0} → StdSource R → ℕ
std_source_failures s = s.reader.failures

-- how often the writer below a sink has answered an error, or taken nothing of a piece that is not empty
abbrev pub std_sink_failures : {W : Type 0} → StdSink W → ℕ
std_sink_failures s = s.writer.failures

-- the reader below a source
abbrev pub reader_of : {R : Type 0} → StdSource R → R
reader_of s = s.reader.reader

-- the writer below a sink
abbrev pub writer_of : {W : Type 0} → StdSink W → W
writer_of s = s.writer.writer

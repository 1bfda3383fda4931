use Rattle.std.proofs.Common.{arith}
use Rattle.jet_io.specs.System.{reader_of}
use Rattle.esentutl.proofs.ToldBytes.{ends-read}
use Rattle.esentutl.proofs.streams.InputSource.read.Goals as goal

pub returns-clause-ends : goal.returns-clause-ends
returns-clause-ends g c =
    let old = c.args.self.now in
    ends-read (g.R.Read.remaining old.first.value) (g.R.Read.remaining (reader_of old.source)) (g.R.Read.remaining (reader_of c.read.new.self)) c.read.result c.args.into.now c.read.new.into
    c.read.ensures.reader c.read.ensures.within (omega (arith, c.read.auto.into)) c.requires

use Rattle.log_grammar.proofs.Streams.{front_of_stream}
use Rattle.log_grammar.proofs.reading.fronts_of_streams_hold_the_first.Goals as goal

pub returns : goal.returns
returns c = front_of_stream

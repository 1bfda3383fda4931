use Rattle.log_grammar.proofs.Streams.{read_back}
use Rattle.log_grammar.proofs.reading.streams_are_read_back.Goals as goal

pub returns : goal.returns
returns c = λ bytes a b s t p q. read_back a b bytes s t p q

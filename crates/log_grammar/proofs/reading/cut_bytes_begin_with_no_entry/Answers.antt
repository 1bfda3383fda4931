use Rattle.log_grammar.proofs.Streams.{cut_is_not_whole}
use Rattle.log_grammar.proofs.reading.cut_bytes_begin_with_no_entry.Goals as goal

pub returns : goal.returns
returns c = cut_is_not_whole

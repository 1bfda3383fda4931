use Rattle.checkpoint.proofs.ReadsBack.{contents_read, file_reads}
use Rattle.checkpoint.proofs.laws.what_is_written_is_read.Goals as goal

pub returns : goal.returns
returns c gate contents tail lawful = (file_reads gate contents tail lawful, contents_read gate contents tail lawful)

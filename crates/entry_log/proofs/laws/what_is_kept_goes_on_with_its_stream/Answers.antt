use Rattle.entry_log.specs.StreamLaws.{ends_with, first_stream, goes_on, read_from, trimmed_stream}
use Rattle.entry_log.proofs.laws.what_is_kept_goes_on_with_its_stream.Goals as goal

pub returns : goal.returns
returns c = record {
  first = first_stream;
  appended = λ whole bytes stream kept. goes_on whole bytes stream kept;
  trimmed = λ whole position stream kept le. trimmed_stream whole position stream kept le;
  end = λ whole stream kept. ends_with whole stream kept;
  from = λ whole position stream kept le. read_from whole position stream kept le;
}

use Rattle.laws_versions.proofs.HistoryLemmas.Span.{span_kept}
use Rattle.laws_versions.proofs.history.sessions.the_span_is_that_of_the_kept_changes.Goals as goal

pub returns : goal.returns
returns c = span_kept

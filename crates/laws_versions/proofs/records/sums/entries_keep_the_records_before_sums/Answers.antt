use Rattle.laws_versions.proofs.RecordLemmas.SumBefores.{sum_befores_begin, sum_befores_cleaned, sum_befores_kept}
use Rattle.laws_versions.proofs.records.sums.entries_keep_the_records_before_sums.Goals as goal

pub returns-clause-begin : goal.returns-clause-begin
returns-clause-begin c = sum_befores_begin

pub returns-clause-kept : goal.returns-clause-kept
returns-clause-kept c = λ base dropped kept state made h numbers befores. sum_befores_kept base dropped kept state made h numbers.sums befores

pub returns-clause-cleaned : goal.returns-clause-cleaned
returns-clause-cleaned c = sum_befores_cleaned

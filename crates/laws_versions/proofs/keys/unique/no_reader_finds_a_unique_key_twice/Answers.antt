use Rattle.laws_versions.proofs.KeyLemmas.Finding.{unique_in_view, unique_newest}
use Rattle.laws_versions.proofs.keys.unique.no_reader_finds_a_unique_key_twice.Goals as goal

pub returns-clause-view : goal.returns-clause-view
returns-clause-view c = unique_in_view

pub returns-clause-newest : goal.returns-clause-newest
returns-clause-newest c = unique_newest

use Rattle.laws_versions.proofs.SumLemmas.UnhinderedSums.{unhindered_found, unhindered_shown}
use Rattle.laws_versions.proofs.sums.stored.an_unhindered_change_finds_the_stored_record_newest.Goals as goal

pub returns-clause-shown : goal.returns-clause-shown
returns-clause-shown c = unhindered_shown

pub returns-clause-newest : goal.returns-clause-newest
returns-clause-newest c = unhindered_found

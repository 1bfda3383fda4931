use Rattle.laws_versions.proofs.KeyLemmas.EscrowSums.{key_befores_at, unseen_next, unseen_now}
use Rattle.laws_versions.proofs.keys.sums.no_index_sees_a_sum.Goals as goal

pub returns-clause-kept : goal.returns-clause-kept
returns-clause-kept c = unseen_now

pub returns-clause-next : goal.returns-clause-next
returns-clause-next c = unseen_next

pub returns-clause-befores : goal.returns-clause-befores
returns-clause-befores c = key_befores_at

-- So far the copies are those of the indexes that pass.
use Rattle.std.proofs.Common.{◌≡◌, ◌++◌, not, filter, take, if◌then◌else◌}
use Rattle.jet_catalog.proofs.table.copy_indexes.Given as goal

abbrev pub invariant-loop-rule : goal.invariant-loop-rule
invariant-loop-rule l = l.copies.items ≡ l.initial.copies.items ++ filter (λ r. if l.primary then r.flags.primary else not r.flags.primary) (take l.rule-index l.rules)

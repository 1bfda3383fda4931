use Rattle.std.proofs.Common.{◌≡◌, take, true}
use Rattle.std.specs.List.{list_all}
use Rattle.log_grammar.specs.EntryBytes.{condition_fits}
use Rattle.log_record.proofs.spelling.conditions_fit.Given as goal

abbrev pub invariant-loop-condition : goal.invariant-loop-condition
invariant-loop-condition l = list_all condition_fits (take l.condition-index l.conditions) ≡ true

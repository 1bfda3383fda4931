use Rattle.std.proofs.Common.{◌≡◌, map, drop}
use Rattle.std.specs.Prelude.{option_copied, is_none}
use Rattle.std.specs.List.{list_all}
use Rattle.index_derive.proofs.entry.is_all_null.Given as goal

abbrev pub invariant-loop-value : goal.invariant-loop-value
invariant-loop-value l = list_all is_none (map option_copied (drop l.value-index l.values)) ≡ list_all is_none (map option_copied l.values)

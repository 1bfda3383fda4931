use Rattle.std.proofs.Common.{◌≡◌, ◌++◌, ◌∷◌, length, take}
use Rattle.std.specs.List.{flat_map}
use Rattle.log_grammar.specs.EntryBytes.{condition_bytes}
use Rattle.catalog_record.proofs.fields.put_conditions.Given as goal

abbrev pub invariant-loop-condition : goal.invariant-loop-condition
invariant-loop-condition l = l.data.items ≡ l.fn.data.items ++ (length l.conditions ∷ flat_map condition_bytes (take l.condition-index l.conditions))

use Rattle.long_value.specs.Stores.{IsLongStore}
use Rattle.tests_trees.proofs.long_values.values_are_kept_until_their_last_release.Given as goal

abbrev pub invariant-loop-i : goal.invariant-loop-i
invariant-loop-i g l = record { kept : IsLongStore l.space l.store }

abbrev pub invariant-loop-i-2 : goal.invariant-loop-i-2
invariant-loop-i-2 g l = record { kept : IsLongStore l.space l.store }

abbrev pub invariant-loop-i-3 : goal.invariant-loop-i-3
invariant-loop-i-3 g l = record { kept : IsLongStore l.space l.store }

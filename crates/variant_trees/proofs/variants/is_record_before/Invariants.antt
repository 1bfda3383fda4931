use Rattle.std.specs.Prelude.{is_some}
use Rattle.stored_variants.specs.RecordRows.{TableValues}
use Rattle.variant_trees.proofs.StandingChanges.{WalksBack, places_left}
use Rattle.variant_trees.proofs.variants.is_record_before.Given as goal

abbrev pub invariant-loop-at : goal.invariant-loop-at
invariant-loop-at l = (longs : TableValues) → WalksBack longs is_some l.fn.table.0 l.bookmark l.from l.versions l.at

abbrev pub decreases-loop-at : goal.decreases-loop-at
decreases-loop-at l = places_left l.at

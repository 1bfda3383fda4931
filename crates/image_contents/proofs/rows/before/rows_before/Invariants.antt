use Rattle.image_contents.proofs.ChangesBack.{WalksBack, had_row, outgrew, places_left}
use Rattle.image_contents.proofs.rows.before.rows_before.Given as goal

-- what the changes behind the place tell is known
abbrev pub invariant-loop-at : goal.invariant-loop-at
invariant-loop-at l = WalksBack had_row l.fn.table.0 l.bookmark l.versions l.told.has_row l.at × WalksBack (outgrew l.extent) l.fn.table.0 l.bookmark l.versions l.told.lacks_room l.at

abbrev pub decreases-loop-at : goal.decreases-loop-at
decreases-loop-at l = places_left l.at

-- The changes behind the place are apart.
use Rattle.image_live.proofs.Walks.{WalksApart, places_left}
use Rattle.image_live.proofs.apart.is_apart_from_older.Given as goal

abbrev pub invariant-loop-at : goal.invariant-loop-at
invariant-loop-at l = WalksApart l.sessions l.changes l.place l.at

abbrev pub decreases-loop-at : goal.decreases-loop-at
decreases-loop-at l = places_left l.at

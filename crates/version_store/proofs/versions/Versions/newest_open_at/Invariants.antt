-- No item from the end on is open at the level.
use Rattle.version_store.proofs.OpenWalks.{Sought}
use Rattle.version_store.proofs.versions.Versions.newest_open_at.Given as goal

abbrev pub invariant-loop-end : goal.invariant-loop-end
invariant-loop-end l = Sought l.session.0 l.level l.self-inside.items.items l.end

abbrev pub decreases-loop-end : goal.decreases-loop-end
decreases-loop-end l = l.end

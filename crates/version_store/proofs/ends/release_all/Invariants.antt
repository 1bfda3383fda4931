-- The items from the end on are done, and those before it are as they were.
use Rattle.version_store.specs.Items.{released_item}
use Rattle.version_store.proofs.OpenWalks.{Walked}
use Rattle.version_store.proofs.ends.release_all.Given as goal

abbrev pub invariant-loop-end : goal.invariant-loop-end
invariant-loop-end l = Walked (released_item l.session.0 l.level) l.session.0 l.initial.items.items l.items.items l.end

abbrev pub decreases-loop-end : goal.decreases-loop-end
decreases-loop-end l = l.end

-- The walk stands on the chain of the hash's slot, and has passed over no item with the hash.
use Rattle.std.proofs.Common.{◌≡◌, take}
use Rattle.version_store.specs.Chained.{ChainOf, hashes_of, latest}
use Rattle.version_store.proofs.chains.last_with.Given as goal

abbrev pub invariant-loop-end : goal.invariant-loop-end
invariant-loop-end l = record {
  chain : ChainOf l.hash l.first l.links.items l.end;
  same : latest l.hash (take l.end (hashes_of l.links.items)) ≡ latest l.hash (take l.from (hashes_of l.links.items));
}

abbrev pub decreases-loop-end : goal.decreases-loop-end
decreases-loop-end l = l.end

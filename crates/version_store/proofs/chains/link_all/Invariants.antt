-- The items so far are linked, and no hash has changed.
use Rattle.std.proofs.Common.{◌≡◌, ◌≤◌, ◌-◌, length, take}
use Rattle.version_store.specs.Chained.{Chains, hashes_of}
use Rattle.version_store.proofs.chains.link_all.Given as goal

abbrev pub invariant-loop-at : goal.invariant-loop-at
invariant-loop-at l = record {
  within : l.at ≤ length l.links.items;
  hashes : hashes_of l.links.items ≡ hashes_of l.fn.links.items;
  count : length l.heads.items ≡ length l.fn.heads.items;
  linked : Chains l.first l.shift (take l.at l.links.items) l.heads.items;
}

abbrev pub decreases-loop-at : goal.decreases-loop-at
decreases-loop-at l = length l.links.items - l.at

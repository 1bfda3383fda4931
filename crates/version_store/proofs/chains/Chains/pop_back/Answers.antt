-- The last item goes, and the number of its slot's head goes back to the one before it.
use Rattle.std.proofs.Common.{arith}
use Rattle.version_store.proofs.ChainLemmas.{chains-last, chains-pop_back}
use Rattle.version_store.proofs.chains.Chains.pop_back.Goals as goal

pub index_mut-requires : goal.index_mut-requires
index_mut-requires c =
    let a = c.self.inside in
    omega (arith, a.heads.ok, chains-last a.first a.shift a.links.items c.pop_back.new.self.items a.heads.items c.in-Some.link c.self.invariant c.in-Some.ensures.items)

pub invariant_of-self : goal.invariant_of-self
invariant_of-self c =
    let a = c.self.inside in
    chains-pop_back a.first a.shift a.links.items c.pop_back.new.self.items a.heads.items c.in-Some.link c.self.invariant c.in-Some.ensures.items

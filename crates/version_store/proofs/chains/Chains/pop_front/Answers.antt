-- The first item goes, and all numbers keep their meaning.
use Rattle.version_store.proofs.ChainLemmas.{chains-pop_front}
use Rattle.version_store.proofs.ChainWalks.{length-hashes}
use Rattle.std.proofs.Common.{length, ap, ℕ, arith}
use Rattle.version_store.proofs.chains.Chains.pop_front.Goals as goal

pub invariant_of-self : goal.invariant_of-self
invariant_of-self c =
    let a = c.self.inside in
    chains-pop_front a.first a.shift a.links.items c.pop_front.new.self.items a.heads.items c.self.invariant (omega (arith, length-hashes a.links.items, c.requires, ap (length {A = ℕ}) c.self.view_is)) c.pop_front.ensures.rest

-- The chain of the item's slot goes on from its link.
use Rattle.std.proofs.Common.{◌≡◌, ℕ, ◌+◌, ◌-◌, ◌<◌, List, length, get_or, take, sym, ap, ◌∙◌, arith}
use Rattle.version_store.specs.Chained.{hashes_of, latest}
use Rattle.version_store.proofs.ChainWalks.{behind-link, hash-at, length-hashes}
use Rattle.version_store.proofs.chains.Chains.before.Goals as goal

pub last_with-requires : goal.last_with-requires
last_with-requires c =
    let a = c.self.inside in let x = c.index-link.result.now in
    let within : c.args.at < length a.links.items = omega (arith, c.requires, length-hashes a.links.items, ap (length {A = ℕ}) c.self.view_is) in
    let on = behind-link a.first a.shift a.links.items c.args.at c.end_of-end.result x c.self.invariant.are_links within c.index-link.ensures c.end_of-end.ensures in
    record { shift = a.shift; are_links = c.self.invariant.are_links; walk = on.walk }

pub returns : goal.returns
returns c =
    let a = c.self.inside in let x = c.index-link.result.now in let at : ℕ = c.args.at in
    let within : at < length a.links.items = omega (arith, c.requires, length-hashes a.links.items, ap (length {A = ℕ}) c.self.view_is) in
    let on = behind-link a.first a.shift a.links.items at c.end_of-end.result x c.self.invariant.are_links within c.index-link.ensures c.end_of-end.ensures in
    c.last_with.ensures ∙ on.same ∙ ap (λ (n : ℕ). latest x.hash (take n (hashes_of a.links.items))) (let e : at + 1 - 1 ≡ at = omega arith in e)
    ∙ ap (λ (h : ℕ). latest h (take at (hashes_of a.links.items))) (sym (hash-at a.links.items at x within c.index-link.ensures))
    ∙ ap (λ (l : List ℕ). latest (get_or l at 0) (take at l)) c.self.view_is

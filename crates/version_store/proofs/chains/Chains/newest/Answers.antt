-- The chain of the hash's slot begins at its head.
use Rattle.std.proofs.Common.{◌≡◌, ℕ, ◌-◌, List, get_or, ap, ◌∙◌}
use Rattle.version_store.specs.Chained.{latest, slot_of}
use Rattle.version_store.proofs.ChainWalks.{head-chain, head-same}
use Rattle.version_store.proofs.chains.Chains.newest.Goals as goal

pub last_with-requires : goal.last_with-requires
last_with-requires c =
    let a = c.self.inside in
    let end : c.end_of-end.result ≡ get_or a.heads.items (slot_of a.shift c.args.hash) 0 - a.first =
    c.end_of-end.ensures ∙ ap (λ (n : ℕ). n - a.first) (c.head_of.ensures ∙ ap (λ (l : List ℕ). get_or l (slot_of a.shift c.args.hash) 0) c.deref.ensures.value) in
    head-chain c.args.hash a.first a.shift a.links.items a.heads.items c.end_of-end.result c.self.invariant end

pub returns : goal.returns
returns c =
    let a = c.self.inside in
    let end : c.end_of-end.result ≡ get_or a.heads.items (slot_of a.shift c.args.hash) 0 - a.first =
    c.end_of-end.ensures ∙ ap (λ (n : ℕ). n - a.first) (c.head_of.ensures ∙ ap (λ (l : List ℕ). get_or l (slot_of a.shift c.args.hash) 0) c.deref.ensures.value) in
    c.last_with.ensures ∙ head-same c.args.hash a.first a.shift a.links.items a.heads.items c.end_of-end.result c.self.invariant end ∙ ap (latest c.args.hash) c.self.view_is

-- The new item's link is the number that its slot's head had.
use Rattle.std.proofs.Common.{◌≡◌, ℕ, ◌+◌, ◌<◌, [], ◌∷◌, ◌++◌, length, get_or, ap, ◌∙◌, arith}
use Rattle.std.proofs.lemmas.List.{get_or_default}
use Rattle.version_store.specs.declared.chains.Link.{Link}
use Rattle.version_store.specs.Chained.{Chains, slot_of}
use Rattle.version_store.proofs.ChainLemmas.{chains-push, slot-within}
use Rattle.version_store.proofs.chains.Chains.push.Goals as goal

pub invariant_of-self-2 : goal.invariant_of-self-2
invariant_of-self-2 c =
    let a = c.self.inside in let links = c.make_room.new.links.items in let heads = c.make_room.new.heads.items in let shift : ℕ = c.in_ok-self-inside.field-0 in let slot : ℕ = slot_of shift c.args.hash in
    let kept : Chains a.first shift links heads = c.in_ok-self-inside.ensures.ok in
    let room : slot < length heads = slot-within c.args.hash (length heads) shift (omega (arith, c.ranges.hash.fits)) (kept.begun c.in_ok-self-inside.ensures.room) in
    let len : c.len.result ≡ length links = c.len.ensures ∙ c.make_room.new.links.ok.0 in
    let before : c.index-before.result.now ≡ get_or heads slot 0 = c.index-before.ensures ∙ get_or_default heads slot c.index-before.result.now 0 room in
    chains-push a.first shift links c.push_back.new.self.items heads c.args.hash (a.first + c.len.result + 1) kept room (omega (arith, c.if-number.false, len, kept.fits))
    (c.in_ok-push_back.ensures.items ∙ ap (λ (n : ℕ). links ++ (let l : Link = record { hash = c.args.hash; before = n } in l) ∷ []) before) (omega (arith, len))

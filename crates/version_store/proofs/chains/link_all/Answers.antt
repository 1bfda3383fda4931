-- One item more is linked by the head of its slot.
use Rattle.std.proofs.Common.{◌≡◌, ℕ, ◌*◌, ◌^◌, ◌<◌, length, get_or, set, refl, ap, ◌∙◌, arith}
use Rattle.std.proofs.lemmas.Grind.{common_steps}
use Rattle.std.proofs.lemmas.List.{get_or_default}
use Rattle.version_store.specs.declared.chains.Link.{Link}
use Rattle.version_store.specs.Chained.{slot_of}
use Rattle.version_store.proofs.ChainLemmas.{slot-within}
use Rattle.version_store.proofs.ChainWalks.{length-hashes, link-one}
use Rattle.version_store.proofs.chains.link_all.Goals as goal

pub loop-at-preserved : goal.loop-at-preserved
loop-at-preserved c =
    let fits : c.index.result.now.hash < 2 ^ 64 = grind (arith, common_steps) in
    let x = c.index.result.now in let at : ℕ = c.loop-at.at in let links = c.loop-at.links.items in let heads = c.loop-at.heads.items in let kept = c.loop-at.invariant in
    let within : at < length links = omega (arith, c.loop-at-test.true, c.len.ensures, c.loop-at.links.ok.0) in
    let count : length links ≡ length c.args.links.now.items = omega (arith, length-hashes links, length-hashes c.args.links.now.items, ap (length {A = ℕ}) kept.hashes) in
    let room : slot_of c.args.shift x.hash < length heads = slot-within x.hash (length heads) c.args.shift fits (ap (λ (n : ℕ). n * 2 ^ c.args.shift) kept.count ∙ c.requires.count) in
    let before : c.index-in-loop-at.result.now ≡ get_or heads (slot_of c.args.shift x.hash) 0 = c.index-in-loop-at.ensures ∙ get_or_default heads (slot_of c.args.shift x.hash) c.index-in-loop-at.result.now 0 room in
    let one = link-one c.args.first c.args.shift links _ heads _ at x kept.linked within (omega (arith, count, c.requires.fits)) room c.index.ensures
    (ap (λ (n : ℕ). set links at (let l : Link = record { hash = x.hash; before = n } in l)) before) refl in
    record { within = one.within; hashes = one.hashes ∙ kept.hashes; count = one.count ∙ kept.count; linked = one.linked }

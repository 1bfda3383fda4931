-- Each step passes over no item that has the hash.
use Rattle.std.proofs.Common.{◌≡◌, ℕ, ◌-◌, ◌<◌, length, get_or, sym, ap, ◌∙◌, arith}
use Rattle.version_store.specs.Chained.{befores_of, hashes_of}
use Rattle.version_store.proofs.ChainLemmas.{length-slots}
use Rattle.version_store.proofs.ChainWalks.{before-at, hash-at, latest-here, latest-other, length-hashes, passed}
use Rattle.version_store.proofs.chains.last_with.Goals as goal

pub returns-then-link-hash : goal.returns-then-link-hash
returns-then-link-hash c =
    let links = c.args.links.now.items in let x = c.index-link.result.now in let end : ℕ = c.loop-end.end in let chain = c.loop-end.invariant.chain in
    let within : end - 1 < length links = omega (arith, chain.walk.within, length-slots chain.shift links, c.loop-end-test.true) in
    let same : x.hash ≡ c.args.hash = omega (arith, c.if-link-hash.true) in
    sym (latest-here c.args.hash (hashes_of links) end c.loop-end-test.true (omega (arith, within, length-hashes links)) (hash-at links (end - 1) x within c.index-link.ensures ∙ same)) ∙ c.loop-end.invariant.same

pub loop-end-smaller : goal.loop-end-smaller
loop-end-smaller c =
    let links = c.args.links.now.items in let x = c.index-link.result.now in let end : ℕ = c.loop-end.end in let chain = c.loop-end.invariant.chain in
    let within : end - 1 < length links = omega (arith, chain.walk.within, length-slots chain.shift links, c.loop-end-test.true) in
    let next : c.end_of-end.result ≡ get_or (befores_of links) (end - 1) 0 - c.args.first = c.end_of-end.ensures ∙ ap (λ (n : ℕ). n - c.args.first) (sym (before-at links (end - 1) x within c.index-link.ensures)) in
    (passed c.args.hash c.args.first chain.shift links end c.end_of-end.result chain.are_links chain.walk c.loop-end-test.true next).falls

pub loop-end-preserved : goal.loop-end-preserved
loop-end-preserved c =
    let links = c.args.links.now.items in let x = c.index-link.result.now in let end : ℕ = c.loop-end.end in let chain = c.loop-end.invariant.chain in
    let within : end - 1 < length links = omega (arith, chain.walk.within, length-slots chain.shift links, c.loop-end-test.true) in
    let next : c.end_of-end.result ≡ get_or (befores_of links) (end - 1) 0 - c.args.first = c.end_of-end.ensures ∙ ap (λ (n : ℕ). n - c.args.first) (sym (before-at links (end - 1) x within c.index-link.ensures)) in
    let on = passed c.args.hash c.args.first chain.shift links end c.end_of-end.result chain.are_links chain.walk c.loop-end-test.true next in
    let at : get_or (hashes_of links) (end - 1) 0 ≡ x.hash = hash-at links (end - 1) x within c.index-link.ensures in
    record {
      chain = record { shift = chain.shift; are_links = chain.are_links; walk = on.walk };
      same = on.same ∙ sym (latest-other c.args.hash (hashes_of links) end c.loop-end-test.true (omega (arith, within, length-hashes links)) (λ (e : get_or (hashes_of links) (end - 1) 0 ≡ c.args.hash). omega (arith, e, at, c.if-link-hash.false))) ∙ c.loop-end.invariant.same;
    }

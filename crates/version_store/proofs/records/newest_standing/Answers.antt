-- Each step passes over no standing put or drop of the record.
use Rattle.std.proofs.Common.{◌≡◌, ℕ, ◌-◌, ◌<◌, ◌≤◌, true, List, [], length, get_or, take, refl, sym, ap, ◌∙◌, arith}
use Rattle.std.proofs.lemmas.List.{length-map}
use Rattle.version_store.specs.HeldChanges.{HeldChange, is_standing_rewrite, last_place}
use Rattle.version_store.specs.Items.{held_change, held_changes, item_hash}
use Rattle.version_store.specs.Hashes.{hash_of}
use Rattle.version_store.proofs.HeldLemmas.{held-item-get, length-held, hashes-held}
use Rattle.version_store.proofs.RecordLemmas.{standing-hash}
use Rattle.version_store.proofs.WalkLemmas.{last-here, last-step, walk-falls, walk-step}
use Rattle.version_store.proofs.records.newest_standing.Goals as goal

pub loop-end-init : goal.loop-end-init
loop-end-init c = record { walk = c.requires.walk; within = omega arith; same = λ (rows : List (List ℕ)) (e : length rows ≡ length c.args.items.now.items). refl }

pub index-requires : goal.index-requires
index-requires c =
    let items = c.args.items.now in
    omega (arith, items.ok.0, ap (length {A = ℕ}) c.requires.hashes, length-map items.items item_hash, c.loop-end.invariant.walk.within, c.loop-end-test.true)

pub returns-then-is_standing_rewrite-clause-place : goal.returns-then-is_standing_rewrite-clause-place
returns-then-is_standing_rewrite-clause-place c rows e =
    let items = c.args.items.now.items in let x = c.index.result.now in let h : HeldChange = held_change x [] in let end : ℕ = c.loop-end.end in
    let test = is_standing_rewrite c.args.table.0 c.args.bookmark.now in
    let within : end ≤ length items = omega (arith, ap (length {A = ℕ}) c.requires.hashes, length-map items item_hash, c.loop-end.invariant.walk.within) in
    let passes : test (get_or (held_changes items rows) (end - 1) h) ≡ true =
    ap test (held-item-get items rows (end - 1) x h e (omega (arith, within, c.loop-end-test.true)) c.index.ensures) ∙ sym c.is_standing_rewrite.ensures ∙ c.if-is_standing_rewrite.true in
    sym (last-here test (held_changes items rows) end h c.loop-end-test.true (omega (arith, within, length-held items rows e)) passes) ∙ c.loop-end.invariant.same rows e

pub returns-then-is_standing_rewrite-clause-within : goal.returns-then-is_standing_rewrite-clause-within
returns-then-is_standing_rewrite-clause-within c = omega (arith, c.loop-end.invariant.within, c.loop-end-test.true)

pub before-end-requires : goal.before-end-requires
before-end-requires c = omega (arith, c.loop-end.invariant.walk.within, c.loop-end-test.true)

pub loop-end-smaller : goal.loop-end-smaller
loop-end-smaller c = walk-falls _ c.args.chains.now c.loop-end.end c.before-end.result c.loop-end.invariant.walk c.loop-end-test.true c.before-end.ensures

pub loop-end-preserved : goal.loop-end-preserved
loop-end-preserved c =
    let items = c.args.items.now.items in let x = c.index.result.now in let h : HeldChange = held_change x [] in let end : ℕ = c.loop-end.end in
    let hash : ℕ = hash_of c.args.table.0 c.args.bookmark.now in let test = is_standing_rewrite c.args.table.0 c.args.bookmark.now in
    let within : end ≤ length items = omega (arith, ap (length {A = ℕ}) c.requires.hashes, length-map items item_hash, c.loop-end.invariant.walk.within) in
    let falls : c.before-end.result < end = walk-falls _ c.args.chains.now end c.before-end.result c.loop-end.invariant.walk c.loop-end-test.true c.before-end.ensures in
    record {
      walk = walk-step hash c.args.chains.now end c.before-end.result c.loop-end.invariant.walk c.loop-end-test.true c.before-end.ensures;
      within = omega (arith, falls, c.loop-end.invariant.within);
      same = λ (rows : List (List ℕ)) (e : length rows ≡ length items).
          last-step test hash (held_changes items rows) c.args.chains.now end c.before-end.result h (standing-hash c.args.table.0 c.args.bookmark.now) (c.requires.hashes ∙ hashes-held items rows e) c.loop-end.invariant.walk c.loop-end-test.true c.before-end.ensures
          (ap test (held-item-get items rows (end - 1) x h e (omega (arith, within, c.loop-end-test.true)) c.index.ensures) ∙ sym c.is_standing_rewrite.ensures ∙ c.if-is_standing_rewrite.false)
          ∙ c.loop-end.invariant.same rows e;
    }

pub returns-clause-place : goal.returns-clause-place
returns-clause-place c rows e =
    let items = c.args.items.now.items in let test = is_standing_rewrite c.args.table.0 c.args.bookmark.now in
    let at_start : c.loop-end.end ≡ 0 = omega (arith, c.loop-end-test.false) in
    sym (ap (λ (n : ℕ). last_place test (take n (held_changes items rows))) at_start) ∙ c.loop-end.invariant.same rows e

-- Each step passes over no change of the record.
use Rattle.std.proofs.Common.{◌≡◌, ℕ, ◌-◌, ◌<◌, [], map, length, get_or, take, sym, ap, subst, ◌∙◌, arith}
use Rattle.std.proofs.lemmas.List.{length-map}
use Rattle.version_store.specs.Chained.{Walk, latest}
use Rattle.version_store.specs.HeldChanges.{HeldChange}
use Rattle.version_store.specs.Items.{held_change}
use Rattle.version_store.specs.Kept.{held}
use Rattle.version_store.specs.Hashes.{hash_of}
use Rattle.version_store.specs.Sums.{unseen_before, unseen_sum, unseen_with}
use Rattle.version_store.proofs.HeldLemmas.{held_hash, held-item-get, length-held, hashes-held}
use Rattle.version_store.proofs.SumLemmas.{leaves-others, unseen-is}
use Rattle.version_store.proofs.WalkLemmas.{from_the_newest, newest-start, newest-step, walk-falls, walk-start, walk-step}
use Rattle.version_store.proofs.versions.Versions.unseen_sum.Goals as goal

pub loop-end-init : goal.loop-end-init
loop-end-init c =
    let a = c.self.inside in let hash : ℕ = hash_of c.args.table.0 c.args.bookmark.now in
    let step : HeldChange → ℕ → ℕ = unseen_with c.args.table.0 c.args.bookmark.now c.args.column.0 c.args.reader in
    let are : a.chains ≡ map held_hash (held a) = c.self.invariant.keeps.are_hashes ∙ hashes-held a.items.items a.rows.pieces c.self.invariant.keeps.are_rows in
    let is : c.newest_hashed-end.result ≡ latest hash a.chains = c.newest_hashed-end.ensures in
    record {
      walk = subst (Walk hash a.chains) (sym is) (walk-start hash a.chains);
      same = unseen-is c.args.table.0 c.args.bookmark.now c.args.column.0 c.args.reader 0 (take c.newest_hashed-end.result (held a))
          ∙ ap (λ (n : ℕ). from_the_newest step 0 (take n (held a))) is
          ∙ newest-start step hash (held a) a.chains 0 (leaves-others c.args.table.0 c.args.bookmark.now c.args.column.0 c.args.reader) are
          ∙ sym (unseen-is c.args.table.0 c.args.bookmark.now c.args.column.0 c.args.reader 0 (held a));
    }

pub loop-end-smaller : goal.loop-end-smaller
loop-end-smaller c =
    walk-falls _ c.self.inside.chains c.loop-end.end c.before-end.result c.loop-end.invariant.walk c.loop-end-test.true c.before-end.ensures

pub loop-end-preserved : goal.loop-end-preserved
loop-end-preserved c =
    let a = c.self.inside in let x = c.index.result.now in let h : HeldChange = held_change x [] in
    let place : ℕ = c.loop-end.end - 1 in let hash : ℕ = hash_of c.args.table.0 c.args.bookmark.now in
    let step : HeldChange → ℕ → ℕ = unseen_with c.args.table.0 c.args.bookmark.now c.args.column.0 c.args.reader in
    let are : a.chains ≡ map held_hash (held a) = c.self.invariant.keeps.are_hashes ∙ hashes-held a.items.items a.rows.pieces c.self.invariant.keeps.are_rows in
    let len : length a.chains ≡ length (held a) = ap (length {A = ℕ}) are ∙ length-map (held a) held_hash in
    let within : place < length (held a) = omega (arith, c.loop-end.invariant.walk.within, c.loop-end-test.true, len) in
    let told : c.unseen_with-sum.result ≡ step (get_or (held a) place h) c.loop-end.sum = c.unseen_with-sum.ensures
    ∙ sym (ap (λ (k : HeldChange). step k c.loop-end.sum) (held-item-get a.items.items a.rows.pieces place x h c.self.invariant.keeps.are_rows (omega (arith, within, length-held a.items.items a.rows.pieces c.self.invariant.keeps.are_rows)) c.index.ensures)) in
    record {
      walk = walk-step hash a.chains c.loop-end.end c.before-end.result c.loop-end.invariant.walk c.loop-end-test.true c.before-end.ensures;
      same = unseen-is c.args.table.0 c.args.bookmark.now c.args.column.0 c.args.reader c.unseen_with-sum.result (take c.before-end.result (held a))
          ∙ ap (λ (n : ℕ). from_the_newest step n (take c.before-end.result (held a))) told
          ∙ newest-step step hash (held a) a.chains c.loop-end.end c.before-end.result h c.loop-end.sum (leaves-others c.args.table.0 c.args.bookmark.now c.args.column.0 c.args.reader) are c.loop-end.invariant.walk c.loop-end-test.true c.before-end.ensures
          ∙ sym (unseen-is c.args.table.0 c.args.bookmark.now c.args.column.0 c.args.reader c.loop-end.sum (take c.loop-end.end (held a)))
          ∙ c.loop-end.invariant.same;
    }

pub returns : goal.returns
returns c =
    let none : c.loop-end.end ≡ 0 = omega (arith, c.loop-end-test.false) in
    sym (ap (λ (n : ℕ). unseen_before c.args.table.0 c.args.bookmark.now c.args.column.0 c.args.reader c.loop-end.sum (take n (held c.self.inside))) none)
    ∙ c.loop-end.invariant.same ∙ ap (unseen_sum c.args.table.0 c.args.bookmark.now c.args.column.0 c.args.reader) c.self.view_is

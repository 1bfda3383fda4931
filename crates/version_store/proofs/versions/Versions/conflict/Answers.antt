-- Each step passes over no change that conflicts.
use Rattle.std.proofs.Common.{◌≡◌, ℕ, ◌-◌, ◌<◌, true, false, [], map, length, get_or, take, sym, ap, subst, ◌∙◌, arith}
use Rattle.std.specs.List.{list_any}
use Rattle.std.proofs.lemmas.List.{length-map}
use Rattle.column_set.specs.ChangedRecords.{changed_bookmark, changed_table}
use Rattle.version_store.specs.Chained.{latest, Walk}
use Rattle.version_store.specs.HeldChanges.{HeldChange, conflicts, has_conflict}
use Rattle.version_store.specs.Items.{held_change}
use Rattle.version_store.specs.Kept.{held}
use Rattle.version_store.specs.Hashes.{hash_of}
use Rattle.version_store.proofs.HeldLemmas.{held_hash, held-item-get, length-held, hashes-held}
use Rattle.version_store.proofs.RecordLemmas.{conflicts-hash}
use Rattle.version_store.proofs.WalkLemmas.{any-here, any-start, any-step, walk-falls, walk-start, walk-step}
use Rattle.version_store.proofs.versions.Versions.conflict.Goals as goal

pub loop-end-init : goal.loop-end-init
loop-end-init c =
    let a = c.self.inside in let made = c.args.change.now in let hash : ℕ = hash_of (changed_table made) (changed_bookmark made) in
    let are : a.chains ≡ map held_hash (held a) = c.self.invariant.keeps.are_hashes ∙ hashes-held a.items.items a.rows.pieces c.self.invariant.keeps.are_rows in
    let same : hash_of c.table.result.0 c.as_bytes-bookmark.result.now ≡ hash = ap (λ (t : ℕ). hash_of t c.as_bytes-bookmark.result.now) c.table.ensures ∙ ap (hash_of (changed_table made)) (c.as_bytes-bookmark.ensures ∙ c.bookmark.ensures) in
    let is : c.newest_hashed-end.result ≡ latest hash a.chains = c.newest_hashed-end.ensures ∙ ap (λ (s : ℕ). latest s a.chains) same in
    record {
      walk = subst (Walk hash a.chains) (sym is) (walk-start hash a.chains);
      same = ap (λ (n : ℕ). list_any (conflicts c.args.reader made) (take n (held a))) is ∙ any-start (conflicts c.args.reader made) hash (held a) a.chains (conflicts-hash c.args.reader made) are;
    }

pub returns-then-conflicts : goal.returns-then-conflicts
returns-then-conflicts c =
    let a = c.self.inside in let made = c.args.change.now in let x = c.index.result.now in let h : HeldChange = held_change x [] in
    let are : a.chains ≡ map held_hash (held a) = c.self.invariant.keeps.are_hashes ∙ hashes-held a.items.items a.rows.pieces c.self.invariant.keeps.are_rows in
    let len : length a.chains ≡ length (held a) = ap (length {A = ℕ}) are ∙ length-map (held a) held_hash in
    let within : c.loop-end.end - 1 < length (held a) = omega (arith, c.loop-end.invariant.walk.within, c.loop-end-test.true, len) in
    let passes : conflicts c.args.reader made (get_or (held a) (c.loop-end.end - 1) h) ≡ true =
    ap (conflicts c.args.reader made) (held-item-get a.items.items a.rows.pieces (c.loop-end.end - 1) x h c.self.invariant.keeps.are_rows (omega (arith, within, length-held a.items.items a.rows.pieces c.self.invariant.keeps.are_rows)) c.index.ensures) ∙ sym c.conflicts.ensures ∙ c.if-conflicts.true in
    sym (any-here (conflicts c.args.reader made) (held a) c.loop-end.end h c.loop-end-test.true within passes) ∙ c.loop-end.invariant.same ∙ ap (has_conflict c.args.reader made) c.self.view_is

pub loop-end-smaller : goal.loop-end-smaller
loop-end-smaller c =
    walk-falls _ c.self.inside.chains c.loop-end.end c.before-end.result c.loop-end.invariant.walk c.loop-end-test.true c.before-end.ensures

pub loop-end-preserved : goal.loop-end-preserved
loop-end-preserved c =
    let a = c.self.inside in let made = c.args.change.now in let x = c.index.result.now in let h : HeldChange = held_change x [] in
    let hash : ℕ = hash_of (changed_table made) (changed_bookmark made) in
    let are : a.chains ≡ map held_hash (held a) = c.self.invariant.keeps.are_hashes ∙ hashes-held a.items.items a.rows.pieces c.self.invariant.keeps.are_rows in
    let len : length a.chains ≡ length (held a) = ap (length {A = ℕ}) are ∙ length-map (held a) held_hash in
    let within : c.loop-end.end - 1 < length (held a) = omega (arith, c.loop-end.invariant.walk.within, c.loop-end-test.true, len) in
    let fails : conflicts c.args.reader made (get_or (held a) (c.loop-end.end - 1) h) ≡ false =
    ap (conflicts c.args.reader made) (held-item-get a.items.items a.rows.pieces (c.loop-end.end - 1) x h c.self.invariant.keeps.are_rows (omega (arith, within, length-held a.items.items a.rows.pieces c.self.invariant.keeps.are_rows)) c.index.ensures) ∙ sym c.conflicts.ensures ∙ c.if-conflicts.false in
    record {
      walk = walk-step hash a.chains c.loop-end.end c.before-end.result c.loop-end.invariant.walk c.loop-end-test.true c.before-end.ensures;
      same = any-step (conflicts c.args.reader made) hash (held a) a.chains c.loop-end.end c.before-end.result h (conflicts-hash c.args.reader made) are c.loop-end.invariant.walk c.loop-end-test.true c.before-end.ensures fails ∙ c.loop-end.invariant.same;
    }

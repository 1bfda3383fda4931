-- Each step passes over no change that hides the record, and keeps the oldest that does.
use Rattle.std.proofs.Common.{◌≡◌, ℕ, ◌-◌, ◌<◌, Bool, Option, Some, None, [], map, length, get_or, take, sym, ap, subst, ◌∙◌, arith}
use Rattle.std.specs.Prelude.{find, IfSome, if◌then◌else◌}
use Rattle.std.specs.Bool.{then_some}
use Rattle.std.specs.Option.{option_or}
use Rattle.std.proofs.lemmas.List.{length-map}
use Rattle.version_store.specs.Answers.{change_at}
use Rattle.version_store.specs.Chained.{latest, Walk}
use Rattle.version_store.specs.HeldChanges.{HeldChange, hides}
use Rattle.version_store.specs.Items.{held_change}
use Rattle.version_store.specs.Kept.{held}
use Rattle.version_store.specs.Hashes.{hash_of}
use Rattle.version_store.proofs.HeldLemmas.{held_hash, held-item-get, length-held, hashes-held}
use Rattle.version_store.proofs.RecordLemmas.{hides-hash}
use Rattle.version_store.proofs.WalkLemmas.{find-start, find-step, later-at, later-within, or-none, then_some-if, walk-falls, walk-start, walk-step}
use Rattle.version_store.proofs.versions.Versions.oldest_hiding.Goals as goal

pub loop-end-init : goal.loop-end-init
loop-end-init c =
    let a = c.self.inside in let hash : ℕ = hash_of c.args.table.0 c.args.bookmark.now in
    let are : a.chains ≡ map held_hash (held a) = c.self.invariant.keeps.are_hashes ∙ hashes-held a.items.items a.rows.pieces c.self.invariant.keeps.are_rows in
    let is : c.newest_hashed-end.result ≡ latest hash a.chains = c.newest_hashed-end.ensures in
    record {
      walk = subst (Walk hash a.chains) (sym is) (walk-start hash a.chains);
      same = or-none (find (hides c.args.table.0 c.args.bookmark.now c.args.reader) (take c.newest_hashed-end.result (held a)))
          ∙ ap (λ (n : ℕ). find (hides c.args.table.0 c.args.bookmark.now c.args.reader) (take n (held a))) is
          ∙ find-start (hides c.args.table.0 c.args.bookmark.now c.args.reader) hash (held a) a.chains (hides-hash c.args.table.0 c.args.bookmark.now c.args.reader) are;
      within = tt;
    }

pub loop-end-smaller : goal.loop-end-smaller
loop-end-smaller c =
    walk-falls _ c.self.inside.chains c.loop-end.end c.before-end.result c.loop-end.invariant.walk c.loop-end-test.true c.before-end.ensures

pub loop-end-preserved : goal.loop-end-preserved
loop-end-preserved c =
    let a = c.self.inside in let x = c.index.result.now in let h : HeldChange = held_change x [] in
    let place : ℕ = c.loop-end.end - 1 in let hash : ℕ = hash_of c.args.table.0 c.args.bookmark.now in
    let are : a.chains ≡ map held_hash (held a) = c.self.invariant.keeps.are_hashes ∙ hashes-held a.items.items a.rows.pieces c.self.invariant.keeps.are_rows in
    let len : length a.chains ≡ length (held a) = ap (length {A = ℕ}) are ∙ length-map (held a) held_hash in
    let within : place < length (held a) = omega (arith, c.loop-end.invariant.walk.within, c.loop-end-test.true, len) in
    let test : Bool = hides c.args.table.0 c.args.bookmark.now c.args.reader (get_or (held a) place h) in
    let tested : c.hides-hides.result ≡ test = c.hides-hides.ensures
    ∙ sym (ap (hides c.args.table.0 c.args.bookmark.now c.args.reader) (held-item-get a.items.items a.rows.pieces place x h c.self.invariant.keeps.are_rows (omega (arith, within, length-held a.items.items a.rows.pieces c.self.invariant.keeps.are_rows)) c.index.ensures)) in
    let now : c.or-oldest.result ≡ option_or (if test then Some place else None) c.loop-end.oldest =
    c.or-oldest.ensures ∙ ap (λ (o : Option ℕ). option_or o c.loop-end.oldest) (c.then_some.ensures ∙ ap (λ (b : Bool). then_some b place) tested ∙ then_some-if test place) in
    record {
      walk = walk-step hash a.chains c.loop-end.end c.before-end.result c.loop-end.invariant.walk c.loop-end-test.true c.before-end.ensures;
      same = ap (λ (o : Option ℕ). option_or (find (hides c.args.table.0 c.args.bookmark.now c.args.reader) (take c.before-end.result (held a))) (change_at (held a) o)) now
          ∙ ap (option_or (find (hides c.args.table.0 c.args.bookmark.now c.args.reader) (take c.before-end.result (held a)))) (later-at (held a) place h test c.loop-end.oldest within)
          ∙ find-step (hides c.args.table.0 c.args.bookmark.now c.args.reader) hash (held a) a.chains c.loop-end.end c.before-end.result h (change_at (held a) c.loop-end.oldest) (hides-hash c.args.table.0 c.args.bookmark.now c.args.reader) are c.loop-end.invariant.walk c.loop-end-test.true c.before-end.ensures
          ∙ c.loop-end.invariant.same;
      within = subst (λ (o : Option ℕ). IfSome o (λ (k : ℕ). k < length (held a))) (sym now) (later-within (length (held a)) place test c.loop-end.oldest within c.loop-end.invariant.within);
    }

use Rattle.std.proofs.Common.{◌≡◌, ◌≤◌, ◌+◌, ℕ, refl, ◌∙◌, subst, ap, arith}
use Rattle.jet_volume.specs.Crash.{CrashLeaves}
use Rattle.jet_volume.specs.Moments.{leaves_now}
use Rattle.entry_log.specs.LogState.{stream_end, trimmed_to}
use Rattle.store_core.specs.declared.store.Store.{Store}
use Rattle.store_core.specs.Store.{store_end, store_standing}
use Rattle.recovered_states.specs.Recovers.{RecoversUpTo}
use Rattle.kept_engine.specs.Keeping.{kept_depth, kept_end, kept_given, kept_logged, kept_span, kept_volume}
use Rattle.kept_engine.proofs.Parts.{end_trimmed}
use Rattle.kept_engine.proofs.Spans.{due_at_depth, not_due_above}
use Rattle.kept_engine.proofs.Surviving.{given_all, keeps_leaves, still, trimmed_keeps}
use Rattle.kept_engine.proofs.Telling.{flushes_alone, flushes_followed, ready_trimmed}
use Rattle.kept_engine.proofs.kept.KeptEngine.follow_flush.Goals as goal

pub put_image-after-requires-clause-ready : goal.put_image-after-requires-clause-ready
put_image-after-requires-clause-ready g c = ready_trimmed c.args.self.now _ c.given.result c.requires.ready c.given.ensures refl c.trim.ensures.engine c.trim.ensures.stream

pub put_image-after-requires-clause-number : goal.put_image-after-requires-clause-number
put_image-after-requires-clause-number g c =
    let old = c.args.self.now in
    let to : c.given.result ≤ kept_end old = omega (arith, c.given.ensures, c.requires.all) in
    omega (
      arith,
      c.requires.ready.bounds.number,
      c.behind.ensures,
      ap (λ (s : Store g.row.V.Denot). (store_standing s).start.position) c.store.ensures,
      ap (λ (s : Store g.row.V.Denot). (store_end s).position) c.store.ensures,
      c.if-behind-self.true,
      old.deep,
      c.requires.all,
      ap stream_end c.trim.ensures.stream,
      end_trimmed c.given.result (kept_logged old).stream to,
    )

pub returns-then-behind-self-clause-keeps : goal.returns-then-behind-self-clause-keeps
returns-then-behind-self-clause-keeps g c tells opening entries keeps =
    let seen = g.V.Volume.seen in
    let moment = g.V.Volume.moment in
    let left_at = g.V.Volume.left_at in
    let laws = c.what_is_kept_survives.ensures in
    let old = c.args.self.now in
    let new = c.put_image-after.new.self in
    let to : c.given.result ≤ kept_end old = omega (arith, c.given.ensures, c.requires.all) in
    let moments = c.put_image-after.ensures.any_moment tells opening entries (trimmed_keeps seen moment left_at laws opening entries old _ c.given.result keeps refl c.trim.ensures.engine c.trim.ensures.stream to) in
    record {
      any_moment = moments;
      kept = λ kept. subst (λ (at : ℕ). CrashLeaves moment left_at (kept_volume new) (RecoversUpTo opening entries at))
          (given_all seen moment left_at laws opening entries old keeps c.requires.all)
          (leaves_now moment left_at (kept_volume old) (kept_volume new) (RecoversUpTo opening entries (kept_given old)) moments);
      goes = λ goes. c.put_image-after.ensures.keeps goes tells opening entries (trimmed_keeps seen moment left_at laws opening entries old _ c.given.result keeps refl c.trim.ensures.engine c.trim.ensures.stream to);
    }

pub returns-then-behind-self-clause-told : goal.returns-then-behind-self-clause-told
returns-then-behind-self-clause-told g c =
    let old = c.args.self.now in
    let behind : c.behind.result + (kept_span old).start.position ≡ (kept_span old).end.position =
    subst (λ (s : Store g.row.V.Denot). c.behind.result + (store_standing s).start.position ≡ (store_end s).position) c.store.ensures c.behind.ensures in
    flushes_followed g.V.Volume.faults g.V.Volume.identity old _ c.put_image-after.new.self _ refl c.requires.all refl refl c.trim.ensures.engine
    (c.trim.ensures.stream ∙ ap (λ (n : ℕ). trimmed_to n (kept_logged old).stream) c.given.ensures)
    (due_at_depth (kept_depth old) (kept_span old) c.behind.result behind (omega (arith, c.if-behind-self.true)))
    c.put_image-after.ensures.engine c.put_image-after.ensures.told

pub returns-else-behind-self-clause-keeps : goal.returns-else-behind-self-clause-keeps
returns-else-behind-self-clause-keeps g c tells opening entries keeps =
    let seen = g.V.Volume.seen in
    let moment = g.V.Volume.moment in
    let left_at = g.V.Volume.left_at in
    let laws = c.what_is_kept_survives.ensures in
    let old = c.args.self.now in
    let to : c.given.result ≤ kept_end old = omega (arith, c.given.ensures, c.requires.all) in
    record {
      any_moment = still seen moment left_at laws opening entries old keeps;
      kept = λ kept. subst (λ (at : ℕ). CrashLeaves moment left_at (kept_volume old) (RecoversUpTo opening entries at))
          (given_all seen moment left_at laws opening entries old keeps c.requires.all) (keeps_leaves seen moment left_at laws opening entries old keeps);
      goes = λ goes. trimmed_keeps seen moment left_at laws opening entries old _ c.given.result keeps refl c.trim.ensures.engine c.trim.ensures.stream to;
    }

pub returns-else-behind-self-clause-ready : goal.returns-else-behind-self-clause-ready
returns-else-behind-self-clause-ready g c goes = ready_trimmed c.args.self.now _ c.given.result c.requires.ready c.given.ensures refl c.trim.ensures.engine c.trim.ensures.stream

pub returns-else-behind-self-clause-told : goal.returns-else-behind-self-clause-told
returns-else-behind-self-clause-told g c =
    let old = c.args.self.now in
    let behind : c.behind.result + (kept_span old).start.position ≡ (kept_span old).end.position =
    subst (λ (s : Store g.row.V.Denot). c.behind.result + (store_standing s).start.position ≡ (store_end s).position) c.store.ensures c.behind.ensures in
    flushes_alone g.V.Volume.faults g.V.Volume.identity old _ _ refl refl c.requires.all refl refl c.trim.ensures.engine
    (c.trim.ensures.stream ∙ ap (λ (n : ℕ). trimmed_to n (kept_logged old).stream) c.given.ensures)
    (not_due_above (kept_depth old) (kept_span old) c.behind.result behind (omega (arith, c.if-behind-self.false)))

use Rattle.std.proofs.Common.{ℕ, ◌+◌, inl, refl, ◌∙◌, ap, subst}
use Rattle.jet_volume.specs.declared.files.LogStart.{LogStart}
use Rattle.jet_volume.specs.Crash.{CrashLeaves}
use Rattle.checkpoint.specs.Opening.{HasCheckpoint}
use Rattle.checkpoint.specs.Shape.{contents_of}
use Rattle.checkpoint.specs.Steps.{EachFollows, KeepsOrBrings}
use Rattle.store_core.specs.Stands.{start_of, StandsOldOrNew}
use Rattle.store_core.specs.Store.{store_volume, store_end, checkpoint_of}
use Rattle.store_core.proofs.Crashes.{unmoved, writable_stands, bears_standing, checkpoint_writable, checkpoint_moments}
use Rattle.store_core.proofs.store.Store.checkpoint.Goals as goal

pub returns-in-Some-clause-any_moment : goal.returns-in-Some-clause-any_moment
returns-in-Some-clause-any_moment g c tells checkpoint stream is =
    unmoved g.V.Volume.seen g.V.Volume.moment g.V.Volume.left_at (store_volume c.args.self.now)
    (StandsOldOrNew checkpoint stream (checkpoint_of (c.args.self.now.standing.number + 1) (store_end c.args.self.now) c.args.image.now))
    (λ image left. inl (writable_stands g.V.Volume.seen g.V.Volume.moment g.V.Volume.left_at c.args.self.now checkpoint stream is image left))

pub returns-in-Ok-clause-written : goal.returns-in-Ok-clause-written
returns-in-Ok-clause-written g c tells checkpoint stream is =
    let seen = g.V.Volume.seen in
    let moment = g.V.Volume.moment in
    let left_at = g.V.Volume.left_at in
    let next : ℕ = c.args.self.now.standing.number + 1 in
    let end : LogStart = store_end c.args.self.now in
    let stands = bears_standing seen moment left_at c.args.self.now checkpoint is.bears in
    checkpoint_writable seen moment left_at c.args.self.now _ checkpoint stream (checkpoint_of next end c.args.image.now) is
    (λ log ready. c.ready_from_the_end.ensures.end log (start_of checkpoint) stream end ready)
    refl c.set_standing.ensures.end (c.set_standing.ensures.standing ∙ ap (λ (s : LogStart). s.generation) c.end-start.ensures)
    (subst (λ (s : LogStart). CrashLeaves moment left_at c.write.new.volume (λ files. HasCheckpoint files (contents_of next s c.write.new.standing.slots.items c.args.image.now) c.args.image.now.pages.items))
    c.end-start.ensures (c.in-Ok.ensures.written tells stands))
    (record { number = c.in-Ok.ensures.number; start = c.in-Ok.ensures.start ∙ c.end-start.ensures; pages = c.in-Ok.ensures.pages; no_slots = λ none. cc })
    (c.write.ensures.log tells)
    (subst (λ (s : LogStart). EachFollows moment left_at (KeepsOrBrings (λ slots. contents_of next s slots c.args.image.now) c.args.image.now.pages.items) (store_volume c.args.self.now) c.write.new.volume)
    c.end-start.ensures (c.write.ensures.each_moment tells stands))

pub returns-in-Ok-clause-any_moment : goal.returns-in-Ok-clause-any_moment
returns-in-Ok-clause-any_moment g c tells checkpoint stream is =
    let moment = g.V.Volume.moment in
    let left_at = g.V.Volume.left_at in
    let next : ℕ = c.args.self.now.standing.number + 1 in
    let end : LogStart = store_end c.args.self.now in
    let stands = bears_standing g.V.Volume.seen moment left_at c.args.self.now checkpoint is.bears in
    checkpoint_moments g.V.Volume.seen moment left_at c.args.self.now c.write.new.volume checkpoint stream (checkpoint_of next end c.args.image.now) is
    (λ log ready. c.ready_from_the_end.ensures.end log (start_of checkpoint) stream end ready) refl
    (subst (λ (s : LogStart). EachFollows moment left_at (KeepsOrBrings (λ slots. contents_of next s slots c.args.image.now) c.args.image.now.pages.items) (store_volume c.args.self.now) c.write.new.volume)
    c.end-start.ensures (c.write.ensures.each_moment tells stands))

pub returns-in-Err-clause-any_moment : goal.returns-in-Err-clause-any_moment
returns-in-Err-clause-any_moment g c tells checkpoint stream is =
    let moment = g.V.Volume.moment in
    let left_at = g.V.Volume.left_at in
    let next : ℕ = c.args.self.now.standing.number + 1 in
    let end : LogStart = store_end c.args.self.now in
    let stands = bears_standing g.V.Volume.seen moment left_at c.args.self.now checkpoint is.bears in
    checkpoint_moments g.V.Volume.seen moment left_at c.args.self.now c.write.new.volume checkpoint stream (checkpoint_of next end c.args.image.now) is
    (λ log ready. c.ready_from_the_end.ensures.end log (start_of checkpoint) stream end ready) refl
    (subst (λ (s : LogStart). EachFollows moment left_at (KeepsOrBrings (λ slots. contents_of next s slots c.args.image.now) c.args.image.now.pages.items) (store_volume c.args.self.now) c.write.new.volume)
    c.end-start.ensures (c.write.ensures.each_moment tells stands))

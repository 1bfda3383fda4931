use Rattle.std.proofs.Common.{◌≡◌, ℕ, ◌+◌, [], ◌++◌, Some, length, ◌∙◌, ap}
use Rattle.std.proofs.lemmas.Result.{on_ok_weaker}
use Rattle.jet_volume.specs.declared.files.LogStart.{LogStart}
use Rattle.checkpoint.specs.declared.image.Standing.{Standing}
use Rattle.store_core.specs.Stands.{Checkpoint}
use Rattle.store_core.specs.Store.{store_volume, store_end, store_standing, checkpoint_of}
use Rattle.store_core.specs.Runs.{IsNext}
use Rattle.store_core.proofs.Ways.{some_next, next_of, way_sealed, way_flushed, way_written, way_ended}
use Rattle.store_core.proofs.laws.seal_flush_checkpoint_flush.Goals as goal

pub returns-in-Ok-checkpoint-clause-done : goal.returns-in-Ok-checkpoint-clause-done
returns-in-Ok-checkpoint-clause-done g c tells checkpoint stream is =
    let moment = g.V.Volume.moment in
    let left_at = g.V.Volume.left_at in
    let image = c.args.image.now in
    let first = c.args.first.now in
    let second = c.args.second.now in
    let v0 = store_volume c.args.store.now in
    let v1 = store_volume c.seal.new.self in
    let v2 = store_volume c.flush.new.self in
    let v3 = store_volume c.checkpoint.new.self in
    let number : ℕ = (store_standing c.flush.new.self).number in
    let same : number ≡ (store_standing c.args.store.now).number = ap (λ (s : Standing). s.number) (c.flush.ensures.standing ∙ c.seal.ensures.standing) in
    let at : (store_end c.flush.new.self).position ≡ (store_end c.args.store.now).position + length first =
    c.in-Ok-flush.ensures.position ∙ ap (λ (s : LogStart). s.position + length first) c.seal.ensures.end in
    let next : Checkpoint = checkpoint_of (number + 1) (store_end c.flush.new.self) image in
    let is_next : IsNext image (store_standing c.args.store.now).number ((store_end c.args.store.now).position + length first) next =
    next_of image number ((store_end c.args.store.now).position + length first) (store_standing c.args.store.now).number (store_end c.flush.new.self) same at in
    let sealed = c.in-Ok.ensures.sealed tells checkpoint stream is in
    let flushed = c.in-Ok-flush.ensures.flushed tells checkpoint stream sealed in
    let written = c.in-Ok-checkpoint.ensures.written tells checkpoint (stream ++ first) flushed in
    on_ok_weaker c.flush-in-Ok-checkpoint.result (λ ends. (next, is_next, ends)) (c.flush-in-Ok-checkpoint.ensures.flushed tells (Some next) [] written)

pub returns-in-Ok-checkpoint-clause-any_moment : goal.returns-in-Ok-checkpoint-clause-any_moment
returns-in-Ok-checkpoint-clause-any_moment g c tells checkpoint stream is =
    let moment = g.V.Volume.moment in
    let left_at = g.V.Volume.left_at in
    let image = c.args.image.now in
    let first = c.args.first.now in
    let second = c.args.second.now in
    let v0 = store_volume c.args.store.now in
    let v1 = store_volume c.seal.new.self in
    let v2 = store_volume c.flush.new.self in
    let v3 = store_volume c.checkpoint.new.self in
    let number : ℕ = (store_standing c.flush.new.self).number in
    let same : number ≡ (store_standing c.args.store.now).number = ap (λ (s : Standing). s.number) (c.flush.ensures.standing ∙ c.seal.ensures.standing) in
    let at : (store_end c.flush.new.self).position ≡ (store_end c.args.store.now).position + length first =
    c.in-Ok-flush.ensures.position ∙ ap (λ (s : LogStart). s.position + length first) c.seal.ensures.end in
    let next : Checkpoint = checkpoint_of (number + 1) (store_end c.flush.new.self) image in
    let is_next : IsNext image (store_standing c.args.store.now).number ((store_end c.args.store.now).position + length first) next =
    next_of image number ((store_end c.args.store.now).position + length first) (store_standing c.args.store.now).number (store_end c.flush.new.self) same at in
    let sealed = c.in-Ok.ensures.sealed tells checkpoint stream is in
    let flushed = c.in-Ok-flush.ensures.flushed tells checkpoint stream sealed in
    let written = c.in-Ok-checkpoint.ensures.written tells checkpoint (stream ++ first) flushed in
    let v4 = store_volume c.flush-in-Ok-checkpoint.new.self in (
      next,
      is_next,
      way_ended moment left_at checkpoint stream first next second v0 v3 v4
          (way_written moment left_at checkpoint stream first next second v0 v2 v3
          (way_flushed moment left_at checkpoint stream first next second v0 v1 v2
          (way_sealed moment left_at checkpoint stream first next second v0 v1 (c.seal.ensures.any_moment tells checkpoint stream is))
          (c.flush.ensures.any_moment tells checkpoint stream sealed))
          (c.checkpoint.ensures.any_moment tells checkpoint (stream ++ first) flushed))
          (c.flush-in-Ok-checkpoint.ensures.any_moment tells (Some next) [] written),
    )

pub returns-in-Err-checkpoint-clause-any_moment : goal.returns-in-Err-checkpoint-clause-any_moment
returns-in-Err-checkpoint-clause-any_moment g c tells checkpoint stream is =
    let moment = g.V.Volume.moment in
    let left_at = g.V.Volume.left_at in
    let image = c.args.image.now in
    let first = c.args.first.now in
    let second = c.args.second.now in
    let v0 = store_volume c.args.store.now in
    let v1 = store_volume c.seal.new.self in
    let v2 = store_volume c.flush.new.self in
    let v3 = store_volume c.checkpoint.new.self in
    let number : ℕ = (store_standing c.flush.new.self).number in
    let same : number ≡ (store_standing c.args.store.now).number = ap (λ (s : Standing). s.number) (c.flush.ensures.standing ∙ c.seal.ensures.standing) in
    let at : (store_end c.flush.new.self).position ≡ (store_end c.args.store.now).position + length first =
    c.in-Ok-flush.ensures.position ∙ ap (λ (s : LogStart). s.position + length first) c.seal.ensures.end in
    let next : Checkpoint = checkpoint_of (number + 1) (store_end c.flush.new.self) image in
    let is_next : IsNext image (store_standing c.args.store.now).number ((store_end c.args.store.now).position + length first) next =
    next_of image number ((store_end c.args.store.now).position + length first) (store_standing c.args.store.now).number (store_end c.flush.new.self) same at in
    let sealed = c.in-Ok.ensures.sealed tells checkpoint stream is in
    let flushed = c.in-Ok-flush.ensures.flushed tells checkpoint stream sealed in (
      next,
      is_next,
      way_written moment left_at checkpoint stream first next second v0 v2 v3
          (way_flushed moment left_at checkpoint stream first next second v0 v1 v2
          (way_sealed moment left_at checkpoint stream first next second v0 v1 (c.seal.ensures.any_moment tells checkpoint stream is))
          (c.flush.ensures.any_moment tells checkpoint stream sealed))
          (c.checkpoint.ensures.any_moment tells checkpoint (stream ++ first) flushed),
    )

pub returns-in-Err-flush-clause-any_moment : goal.returns-in-Err-flush-clause-any_moment
returns-in-Err-flush-clause-any_moment g c tells checkpoint stream is =
    let moment = g.V.Volume.moment in
    let left_at = g.V.Volume.left_at in
    let image = c.args.image.now in
    let first = c.args.first.now in
    let second = c.args.second.now in
    let v0 = store_volume c.args.store.now in
    let v1 = store_volume c.seal.new.self in
    let made = some_next image (store_standing c.args.store.now).number ((store_end c.args.store.now).position + length first) in
    let next : Checkpoint = made.0 in
    let sealed = c.in-Ok.ensures.sealed tells checkpoint stream is in (
      next,
      made.1,
      way_flushed moment left_at checkpoint stream first next second v0 v1 (store_volume c.flush.new.self)
          (way_sealed moment left_at checkpoint stream first next second v0 v1 (c.seal.ensures.any_moment tells checkpoint stream is))
          (c.flush.ensures.any_moment tells checkpoint stream sealed),
    )

pub returns-in-Err-clause-any_moment : goal.returns-in-Err-clause-any_moment
returns-in-Err-clause-any_moment g c tells checkpoint stream is =
    let moment = g.V.Volume.moment in
    let left_at = g.V.Volume.left_at in
    let image = c.args.image.now in
    let first = c.args.first.now in
    let second = c.args.second.now in
    let v0 = store_volume c.args.store.now in
    let v1 = store_volume c.seal.new.self in
    let made = some_next image (store_standing c.args.store.now).number ((store_end c.args.store.now).position + length first) in
    let next : Checkpoint = made.0 in (
      next,
      made.1,
      way_sealed moment left_at checkpoint stream first next second v0 v1 (c.seal.ensures.any_moment tells checkpoint stream is),
    )

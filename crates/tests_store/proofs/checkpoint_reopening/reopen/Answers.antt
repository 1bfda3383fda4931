use Rattle.std.proofs.Common.{◌≡◌, ◌⊎◌, inl, inr, ⊎_elim, ℕ, ◌+◌, true, Result, Ok, Err, List, sym, ◌∙◌, subst}
use Rattle.std.specs.Prelude.{is_ok, OnOk}
use Rattle.jet_volume.specs.Crash.{LeavesOnly}
use Rattle.jet_volume.specs.Image.{Image as Files}
use Rattle.jet_volume.specs.Memory.{mem_seen, mem_moment, mem_left_at}
use Rattle.jet_volume.specs.Moments.{leaves_now}
use Rattle.jet_volume.specs.declared.memory.MemVolume.{MemVolume}
use Rattle.checkpoint.specs.Contents.{Contents}
use Rattle.checkpoint.specs.Opening.{BringsCheckpoint, IsNew, HasCheckpoint, KeepsCheckpoint}
use Rattle.checkpoint.specs.Shape.{IsStanding, contents_of}
use Rattle.checkpoint.specs.Steps.{KeepsOrBrings}
use Rattle.tests_store.proofs.checkpoint_reopening.reopen.Goals as goal

-- what a success says
on_ok_at : {T E : Type 0} (r : Result T E) (P : Type 0) → is_ok r ≡ true → OnOk r P → P
on_ok_at (Ok x) P is p = p
on_ok_at (Err e) P is p = cc

-- what a crash leaves after a call that only looks, it might have left before it
was_left : (old new : MemVolume) → LeavesOnly mem_moment mem_left_at old new (mem_left_at old (mem_moment old)) → (image : Files) → mem_left_at new (mem_moment new) image → mem_left_at old (mem_moment old) image
was_left old new quiet image left = leaves_now mem_moment mem_left_at old new (mem_left_at old (mem_moment old)) quiet image left

pub returns-in-Ok-read-clause-kept : goal.returns-in-Ok-read-clause-kept
returns-in-Ok-read-clause-kept c settled =
    let files : Files = mem_seen c.args.volume in
    let left : Files = mem_seen c.in-Ok-crash.left in
    let pages = c.args.image.now.pages.items in
    let next : List ℕ → Contents = λ slots. contents_of (c.in-Ok.standing.number + 1) c.args.start slots c.args.image.now in
    let same : (image : Files) → mem_left_at c.read.new.volume (mem_moment c.read.new.volume) image → image ≡ files =
    λ image was. settled image (was_left c.args.volume c.read.new.volume c.read.ensures.quiet image was) in
    let moments = c.write.ensures.each_moment tt (λ image was. subst (λ (i : Files). IsStanding c.in-Ok.standing i) (sym (same image was)) (c.in-Ok.ensures.stands tt)) in
    let one =
    leaves_now mem_moment mem_left_at c.read.new.volume c.write.new.volume
    (λ image. (before : Files) × mem_left_at c.read.new.volume (mem_moment c.read.new.volume) before × KeepsOrBrings next pages before image) moments left c.in-Ok-crash.ensures.image in
    ⊎_elim
    (λ (keeps : KeepsCheckpoint one.0 left).
    inl (record {
      new = λ new. c.what_stands_is_read.ensures.new left (keeps.new (subst IsNew (sym (same one.0 one.1)) new)) c.in-Ok-read.found c.in-Ok-read.standing (c.in-Ok-read.ensures.answer tt);
      old = λ contents held has.
          c.what_stands_is_read.ensures.found left contents held (keeps.old contents held (subst (λ (i : Files). HasCheckpoint i contents held) (sym (same one.0 one.1)) has))
          c.in-Ok-read.found c.in-Ok-read.standing (c.in-Ok-read.ensures.answer tt);
    }))
    (λ (brings : (slots : List ℕ) × BringsCheckpoint (next slots) pages one.0 left).
    inr (
      c.in-Ok.standing,
      c.in-Ok.ensures.stands tt,
      brings.0,
      c.what_stands_is_read.ensures.found left (next brings.0) pages brings.1.stands c.in-Ok-read.found c.in-Ok-read.standing (c.in-Ok-read.ensures.answer tt),
    ))
    one.2

pub returns-in-Ok-read-clause-acknowledged : goal.returns-in-Ok-read-clause-acknowledged
returns-in-Ok-read-clause-acknowledged c settled told =
    let left : Files = mem_seen c.in-Ok-crash.left in
    let pages = c.args.image.now.pages.items in
    let same : (image : Files) → mem_left_at c.read.new.volume (mem_moment c.read.new.volume) image → image ≡ mem_seen c.args.volume =
    λ image was. settled image (was_left c.args.volume c.read.new.volume c.read.ensures.quiet image was) in
    let stands =
    on_ok_at c.write.result _ (sym c.is_ok-acknowledged.ensures.value ∙ told) c.write.ensures.written tt
    (λ image was. subst (λ (i : Files). IsStanding c.in-Ok.standing i) (sym (same image was)) (c.in-Ok.ensures.stands tt)) in (
      c.in-Ok.standing,
      c.in-Ok.ensures.stands tt,
      c.write.new.standing.slots.items,
      c.what_stands_is_read.ensures.found left (contents_of (c.in-Ok.standing.number + 1) c.args.start c.write.new.standing.slots.items c.args.image.now) pages
          (stands left c.in-Ok-crash.ensures.image) c.in-Ok-read.found c.in-Ok-read.standing (c.in-Ok-read.ensures.answer tt),
    )

pub returns-in-Ok-read-clause-stands : goal.returns-in-Ok-read-clause-stands
returns-in-Ok-read-clause-stands c image left =
    subst (λ (i : Files). IsStanding c.in-Ok-read.standing i)
    (sym (c.in-Ok-crash.ensures.settled image (was_left c.in-Ok-crash.left c.read-in-Ok-crash.new.volume c.read-in-Ok-crash.ensures.quiet image left)))
    (c.in-Ok-read.ensures.stands tt)

pub returns-in-Ok-read-clause-settled : goal.returns-in-Ok-read-clause-settled
returns-in-Ok-read-clause-settled c image left =
    c.in-Ok-crash.ensures.settled image (was_left c.in-Ok-crash.left c.read-in-Ok-crash.new.volume c.read-in-Ok-crash.ensures.quiet image left) ∙ sym c.read-in-Ok-crash.ensures.seen

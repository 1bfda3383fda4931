use Rattle.std.proofs.Common.{◌<◌, ◌+◌, ℕ, List, [], ◌∷◌, Option, None, length, get_or, refl, sym, ◌∙◌, ap, subst, arith, length-append}
use Rattle.std.proofs.lemmas.List.{get_or_default}
use Rattle.page_image.specs.Page.{PageContents}
use Rattle.checkpoint.specs.Opening.{HasBadSlot}
use Rattle.checkpoint.specs.Parts.{BearsNumber, IsBadSlot, SaysOnly}
use Rattle.jet_volume.specs.Image.{Image}
use Rattle.checkpoint.proofs.Loads.{explains_slots, holds_only, more_pages, own_numbers, slot_is_bad}
use Rattle.checkpoint.proofs.Quiet.{quiet_more, quiet_none}
use Rattle.checkpoint.proofs.loading.load_pages.Goals as goal

pub loop-number-init : goal.loop-number-init
loop-number-init g c = record {
  count = ap length c.requires.none;
  own = λ p lt. absurd (omega (arith, lt));
  says = λ tells p lt. absurd (omega (arith, lt));
  seen = refl;
  quiet = quiet_none g.V.Volume.moment g.V.Volume.left_at c.args.volume.now;
  faults = refl;
  identity = refl;
}

pub returns-in-Err-clause-quiet : goal.returns-in-Err-clause-quiet
returns-in-Err-clause-quiet g c =
    quiet_more g.V.Volume.moment g.V.Volume.left_at c.args.volume.now c.loop-number.volume c.load_slot.new.volume c.loop-number.invariant.quiet c.load_slot.ensures.quiet

pub returns-in-Err-clause-refused : goal.returns-in-Err-clause-refused
returns-in-Err-clause-refused g c tells =
    let n = c.loop-number.number in
    let slots = c.args.slots.now in
    let database = (g.V.Volume.seen c.args.volume.now).database in
    explains_slots (IsBadSlot (g.V.Volume.seen c.loop-number.volume).database n (get_or slots n 0)) (HasBadSlot database slots) c.in-Err.fault
    (λ bad. slot_is_bad database slots n 0 c.loop-number-test.true (subst (λ (i : Image). IsBadSlot i.database n (get_or slots n 0)) c.loop-number.invariant.seen bad))
    (c.in-Err.ensures.refused tells)

pub loop-number-preserved : goal.loop-number-preserved
loop-number-preserved g c =
    let n = c.loop-number.number in
    let slots = c.args.slots.now in
    let database = (g.V.Volume.seen c.args.volume.now).database in
    let so_far = c.loop-number.invariant in
    let more = c.in-Ok.ensures.page in
    record {
      count = omega (arith, ap length more.1, length-append c.loop-number.pages.items (more.0 ∷ []), so_far.count);
      own = subst (λ (l : List (Option PageContents)). (p : ℕ) → p < n + 1 → BearsNumber p (get_or l p None)) (sym more.1)
          (more_pages BearsNumber c.loop-number.pages.items more.0 n so_far.count so_far.own more.2);
      says = λ tells.
          let here = subst (λ (i : Image). SaysOnly i.database n (get_or slots n 0) more.0) so_far.seen (more.3 tells) in
          subst (λ (l : List (Option PageContents)). (p : ℕ) → p < n + 1 → SaysOnly database p (get_or slots p 2) (get_or l p None)) (sym more.1)
          (more_pages (λ p o. SaysOnly database p (get_or slots p 2) o) c.loop-number.pages.items more.0 n so_far.count (so_far.says tells)
          (subst (λ s. SaysOnly database n s more.0) (get_or_default slots n 0 2 c.loop-number-test.true) here));
      seen = c.load_slot.ensures.seen ∙ so_far.seen;
      quiet = quiet_more g.V.Volume.moment g.V.Volume.left_at c.args.volume.now c.loop-number.volume c.load_slot.new.volume so_far.quiet c.load_slot.ensures.quiet;
      faults = c.in-Ok.ensures.faults ∙ so_far.faults;
      identity = c.load_slot.ensures.identity ∙ so_far.identity;
    }

pub returns-clause-pages : goal.returns-clause-pages
returns-clause-pages g c tells =
    holds_only (g.V.Volume.seen c.args.volume.now).database c.args.slots.now c.loop-number.pages.items (omega (arith, c.loop-number.invariant.count, c.loop-number-test.false))
    (λ p lt. c.loop-number.invariant.says tells p (omega (arith, lt, c.loop-number-test.false)))

pub returns-clause-own : goal.returns-clause-own
returns-clause-own g c = own_numbers c.loop-number.pages.items c.loop-number.number c.loop-number.invariant.count c.loop-number.invariant.own

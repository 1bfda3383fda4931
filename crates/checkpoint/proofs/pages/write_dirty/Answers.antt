use Rattle.std.proofs.Common.{◌<◌, ℕ, None, length, get_or, refl, ◌∙◌, subst, arith}
use Rattle.std.proofs.lemmas.List.{get_or_read}
use Rattle.checkpoint.specs.Opening.{SlotSays}
use Rattle.checkpoint.specs.Steps.{IsDirty, TakesSlot, other_slot}
use Rattle.checkpoint.proofs.Regions.{spares_slots, spares_more, says_still, says_beside}
use Rattle.checkpoint.proofs.Clean.{nothing_written, pages_written, rest_set, slots_left}
use Rattle.checkpoint.proofs.Writes.{set_more, pages_follow, no_pages_follow}
use Rattle.checkpoint.proofs.pages.write_dirty.Goals as goal

pub loop-number-init : goal.loop-number-init
loop-number-init g c = record {
  slots = λ p lt. absurd (omega (arith, lt));
  rest = λ p le. refl;
  clean = nothing_written g.V.Volume.moment g.V.Volume.left_at c.args.volume.now (λ p. IsDirty (get_or c.args.standing.now.pages.items p None) (get_or c.args.standing.now.slots.items p 2) (get_or c.args.pages.now p None));
  held = λ tells all p lt. absurd (omega (arith, lt));
  spares = λ tells. spares_slots c.args.standing.now.slots.items (g.V.Volume.seen c.args.volume.now);
  each = no_pages_follow g.V.Volume.moment g.V.Volume.left_at c.args.volume.now c.args.standing.now.slots.items;
  faults = refl;
  identity = refl;
}

pub returns-in-Err-clause-each : goal.returns-in-Err-clause-each
returns-in-Err-clause-each g c =
    pages_follow g.V.Volume.moment g.V.Volume.left_at c.args.volume.now c.loop-number.volume c.write_page.new.volume c.args.standing.now.slots.items c.loop-number.number
    c.loop-number.invariant.each c.write_page.ensures.each

pub returns-in-Err-clause-spares : goal.returns-in-Err-clause-spares
returns-in-Err-clause-spares g c tells =
    spares_more c.args.standing.now.slots.items c.loop-number.number (g.V.Volume.seen c.args.volume.now) (g.V.Volume.seen c.loop-number.volume) (g.V.Volume.seen c.write_page.new.volume)
    (c.loop-number.invariant.spares tells) (c.write_page.ensures.spares tells)

pub loop-number-preserved : goal.loop-number-preserved
loop-number-preserved g c =
    let i = c.loop-number.number in
    let slots = c.loop-number.slots in
    let olds = c.args.standing.now in
    let within : i < length slots = omega (arith, c.loop-number-test.true, c.loop-number.auto.slots, c.requires.slots) in
    let in_pages : i < length c.args.pages.now = omega (arith, c.loop-number-test.true) in
    let page_is = get_or_read c.args.pages.now i c.index-pages-number.result in_pages c.index-pages-number.is None in
    record {
      slots = set_more (λ p s. TakesSlot (get_or olds.pages.items p None) (get_or olds.slots.items p 2) (get_or c.args.pages.now p None) s) slots i c.in-Ok.slot within
          c.loop-number.invariant.slots
          (subst (λ o. TakesSlot (get_or olds.pages.items i None) (get_or olds.slots.items i 2) o c.in-Ok.slot) page_is c.in-Ok.ensures.slot);
      held = λ tells all. set_more (λ p s. SlotSays (g.V.Volume.seen c.write_page.new.volume).database p s (get_or c.args.pages.now p None)) slots i c.in-Ok.slot within
          (λ p lt. says_beside i (other_slot (get_or olds.slots.items i 2)) (g.V.Volume.seen c.loop-number.volume) (g.V.Volume.seen c.write_page.new.volume) p (get_or slots p 2) (get_or c.args.pages.now p None)
          (c.write_page.ensures.spares tells) (omega (arith, lt)) (c.loop-number.invariant.held tells all p lt))
          (subst (λ o. SlotSays (g.V.Volume.seen c.write_page.new.volume).database i c.in-Ok.slot o) page_is
          (c.in-Ok.ensures.held tells
          (says_still olds.slots.items (g.V.Volume.seen c.args.volume.now) (g.V.Volume.seen c.loop-number.volume) i (get_or olds.pages.items i None) (c.loop-number.invariant.spares tells) (all i))));
      rest = rest_set c.args.slots.now slots i c.in-Ok.slot c.loop-number.invariant.rest;
      clean = pages_written g.V.Volume.moment g.V.Volume.left_at c.args.volume.now c.loop-number.volume c.write_page.new.volume olds.pages.items olds.slots.items c.args.pages.now i c.index-pages-number.result page_is
          c.loop-number.invariant.clean c.write_page.ensures.clean;
      spares = λ tells. spares_more olds.slots.items i (g.V.Volume.seen c.args.volume.now) (g.V.Volume.seen c.loop-number.volume) (g.V.Volume.seen c.write_page.new.volume)
          (c.loop-number.invariant.spares tells) (c.write_page.ensures.spares tells);
      each = pages_follow g.V.Volume.moment g.V.Volume.left_at c.args.volume.now c.loop-number.volume c.write_page.new.volume olds.slots.items i
          c.loop-number.invariant.each c.write_page.ensures.each;
      faults = c.in-Ok.ensures.faults ∙ c.loop-number.invariant.faults;
      identity = c.write_page.ensures.identity ∙ c.loop-number.invariant.identity;
    }

pub returns-in-Err-clause-clean : goal.returns-in-Err-clause-clean
returns-in-Err-clause-clean g c =
    let i = c.loop-number.number in
    let olds = c.args.standing.now in
    let in_pages : i < length c.args.pages.now = omega (arith, c.loop-number-test.true) in
    pages_written g.V.Volume.moment g.V.Volume.left_at c.args.volume.now c.loop-number.volume c.write_page.new.volume olds.pages.items olds.slots.items c.args.pages.now i c.index-pages-number.result
    (get_or_read c.args.pages.now i c.index-pages-number.result in_pages c.index-pages-number.is None)
    c.loop-number.invariant.clean c.write_page.ensures.clean

pub returns-in-Err-clause-left_slots : goal.returns-in-Err-clause-left_slots
returns-in-Err-clause-left_slots g c p lt =
    let olds = c.args.standing.now in
    slots_left (λ (q s : ℕ). TakesSlot (get_or olds.pages.items q None) (get_or olds.slots.items q 2) (get_or c.args.pages.now q None) s) c.args.slots.now c.loop-number.slots c.loop-number.number
    c.loop-number.invariant.slots c.loop-number.invariant.rest p

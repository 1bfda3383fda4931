use Rattle.std.proofs.Common.{ℕ, List, subst}
use Rattle.checkpoint.specs.Opening.{HasBadSlot}
use Rattle.checkpoint.specs.Found.{HoldsOnly}
use Rattle.checkpoint.specs.Parts.{ExplainsSlots}
use Rattle.checkpoint.proofs.WhatIsTold.{told_image, told_refusal}
use Rattle.checkpoint.proofs.reading.read_image.Goals as goal

pub returns-in-Ok-image_of-clause-answer : goal.returns-in-Ok-image_of-clause-answer
returns-in-Ok-image_of-clause-answer g c tells by =
    let files = g.V.Volume.seen c.args.volume.now in
    told_image c.args.told files by c.in-Ok-image_of.image c.in-Ok-image_of.standing c.in-Ok.pages.items
    (subst (λ (l : List ℕ). HoldsOnly files.database l c.in-Ok.pages.items) c.deref.ensures.value (c.in-Ok.ensures.pages tells))
    c.in-Ok-image_of.ensures.contents c.in-Ok-image_of.ensures.slots c.in-Ok-image_of.ensures.pages

pub returns-in-Err-clause-answer : goal.returns-in-Err-clause-answer
returns-in-Err-clause-answer g c tells by =
    let files = g.V.Volume.seen c.args.volume.now in
    told_refusal c.args.told files by c.in-Err.fault
    (subst (λ (l : List ℕ). ExplainsSlots (HasBadSlot files.database l) c.in-Err.fault) c.deref.ensures.value (c.in-Err.ensures.pages tells))

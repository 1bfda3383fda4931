use Rattle.std.proofs.Common.{◌≡◌, ◌<◌, refl, sym, ◌∙◌, ap, subst, slice_index_or, MatchOption, None, rules}
use Rattle.page_image.specs.Page.{PageContents}
use Rattle.checkpoint.specs.Opening.{SlotSays}
use Rattle.checkpoint.specs.Steps.{HasSameBytes, IsDirty, SparesAllBut, other_slot}
use Rattle.checkpoint.proofs.Clean.{nothing_written, dirty_written}
use Rattle.checkpoint.proofs.Follows.{follows_none}
use Rattle.checkpoint.proofs.Regions.{spares_all, kept_says}
use Rattle.checkpoint.proofs.Writes.{page_torn, page_follows, written_holds}
use Rattle.checkpoint.proofs.pages.write_page.Goals as goal

pub returns-in_default-clause-each : goal.returns-in_default-clause-each
returns-in_default-clause-each g c =
    let wanted = other_slot (slice_index_or c.args.standing.now.slots.items c.args.number 2) in
    follows_none g.V.Volume.moment g.V.Volume.left_at c.args.volume.now (SparesAllBut c.args.number wanted) (spares_all c.args.number wanted)

pub returns-then-has_same_bytes-clause-each : goal.returns-then-has_same_bytes-clause-each
returns-then-has_same_bytes-clause-each g c =
    let wanted = other_slot (slice_index_or c.args.standing.now.slots.items c.args.number 2) in
    follows_none g.V.Volume.moment g.V.Volume.left_at c.args.volume.now (SparesAllBut c.args.number wanted) (spares_all c.args.number wanted)

pub returns-in-Ok-clause-each : goal.returns-in-Ok-clause-each
returns-in-Ok-clause-each g c =
    page_follows g.V.Volume.moment g.V.Volume.left_at c.args.volume.now c.write_at.new.self c.args.number c.unused_slot-slot.result _ c.slot_start.result _
    c.unused_slot-slot.ensures.within (c.unused_slot-slot.ensures.value ∙ ap other_slot c.used_slot-used.ensures) c.slot_start.ensures c.bytes_of-bytes.ensures.whole c.write_at.ensures.time c.write_at.ensures.crash

pub returns-in-Err-clause-each : goal.returns-in-Err-clause-each
returns-in-Err-clause-each g c =
    page_follows g.V.Volume.moment g.V.Volume.left_at c.args.volume.now c.write_at.new.self c.args.number c.unused_slot-slot.result _ c.slot_start.result _
    c.unused_slot-slot.ensures.within (c.unused_slot-slot.ensures.value ∙ ap other_slot c.used_slot-used.ensures) c.slot_start.ensures c.bytes_of-bytes.ensures.whole c.write_at.ensures.time c.write_at.ensures.crash

pub returns-in-Ok-clause-spares : goal.returns-in-Ok-clause-spares
returns-in-Ok-clause-spares g c tells =
    page_torn c.args.number c.unused_slot-slot.result _ c.slot_start.result _ (g.V.Volume.seen c.args.volume.now) (g.V.Volume.seen c.write_at.new.self)
    c.unused_slot-slot.ensures.within (c.unused_slot-slot.ensures.value ∙ ap other_slot c.used_slot-used.ensures) c.slot_start.ensures c.bytes_of-bytes.ensures.whole (c.write_at.ensures.torn tells)

pub returns-in-Err-clause-spares : goal.returns-in-Err-clause-spares
returns-in-Err-clause-spares g c tells =
    page_torn c.args.number c.unused_slot-slot.result _ c.slot_start.result _ (g.V.Volume.seen c.args.volume.now) (g.V.Volume.seen c.write_at.new.self)
    c.unused_slot-slot.ensures.within (c.unused_slot-slot.ensures.value ∙ ap other_slot c.used_slot-used.ensures) c.slot_start.ensures c.bytes_of-bytes.ensures.whole (c.write_at.ensures.torn tells)

pub returns-in-Ok-clause-held : goal.returns-in-Ok-clause-held
returns-in-Ok-clause-held g c tells says =
    let own = subst (λ o. MatchOption o (Unit {0}) (λ (p : PageContents). p.number ≡ c.args.number)) c.in-Some.is c.requires.own in
    subst (λ o. SlotSays (g.V.Volume.seen c.write_at.new.self).database c.args.number c.unused_slot-slot.result o) (sym c.in-Some.is)
    (written_holds (g.V.Volume.seen c.args.volume.now).database (g.V.Volume.seen c.write_at.new.self).database c.args.number c.unused_slot-slot.result c.slot_start.result c.bytes_of-bytes.result c.in-Some.page
    c.unused_slot-slot.ensures.within c.slot_start.ensures c.bytes_of-bytes.ensures.whole c.bytes_of-bytes.ensures.value c.bytes_of-bytes.ensures.is_page own
    (ap (λ i. i.database) (c.in-Ok.ensures.written tells)))

pub returns-then-has_same_bytes-clause-held : goal.returns-then-has_same_bytes-clause-held
returns-then-has_same_bytes-clause-held g c tells says =
    let own = subst (λ o. MatchOption o (Unit {0}) (λ (p : PageContents). p.number ≡ c.args.number)) c.in-Some.is c.requires.own in
    let at_used = subst (λ k. SlotSays (g.V.Volume.seen c.args.volume.now).database c.args.number k (slice_index_or c.args.standing.now.pages.items c.args.number None)) (sym c.used_slot-used.ensures) says in
    subst (λ o. SlotSays (g.V.Volume.seen c.args.volume.now).database c.args.number c.used_slot-used.result o) (sym c.in-Some.is)
    (kept_says (g.V.Volume.seen c.args.volume.now).database c.args.number c.used_slot-used.result (slice_index_or c.args.standing.now.pages.items c.args.number None) c.in-Some.page
    (c.has_same_bytes.ensures.0 c.if-has_same_bytes.true) c.len-nodes.ensures.page own at_used)

pub returns-in_default-clause-clean : goal.returns-in_default-clause-clean
returns-in_default-clause-clean g c =
    nothing_written g.V.Volume.moment g.V.Volume.left_at c.args.volume.now
    (λ p. (p ≡ c.args.number) × IsDirty (slice_index_or c.args.standing.now.pages.items c.args.number None) (slice_index_or c.args.standing.now.slots.items c.args.number 2) c.args.page.now)

pub returns-then-has_same_bytes-clause-clean : goal.returns-then-has_same_bytes-clause-clean
returns-then-has_same_bytes-clause-clean g c =
    nothing_written g.V.Volume.moment g.V.Volume.left_at c.args.volume.now
    (λ p. (p ≡ c.args.number) × IsDirty (slice_index_or c.args.standing.now.pages.items c.args.number None) (slice_index_or c.args.standing.now.slots.items c.args.number 2) c.args.page.now)

pub returns-in-Ok-clause-clean : goal.returns-in-Ok-clause-clean
returns-in-Ok-clause-clean g c =
    let old = slice_index_or c.args.standing.now.pages.items c.args.number None in
    let slot = slice_index_or c.args.standing.now.slots.items c.args.number 2 in
    let dirty : HasSameBytes old c.in-Some.page → slot < 2 → ⊥ = search rules in
    dirty_written g.V.Volume.moment g.V.Volume.left_at c.args.volume.now c.write_at.new.self
    (λ p. (p ≡ c.args.number) × IsDirty (slice_index_or c.args.standing.now.pages.items c.args.number None) (slice_index_or c.args.standing.now.slots.items c.args.number 2) c.args.page.now)
    c.args.number (other_slot slot) (refl, subst (λ o. IsDirty old slot o) (sym c.in-Some.is) dirty)
    (page_follows g.V.Volume.moment g.V.Volume.left_at c.args.volume.now c.write_at.new.self c.args.number c.unused_slot-slot.result _ c.slot_start.result _
    c.unused_slot-slot.ensures.within (c.unused_slot-slot.ensures.value ∙ ap other_slot c.used_slot-used.ensures) c.slot_start.ensures c.bytes_of-bytes.ensures.whole c.write_at.ensures.time c.write_at.ensures.crash)

pub returns-in-Err-clause-clean : goal.returns-in-Err-clause-clean
returns-in-Err-clause-clean g c =
    let old = slice_index_or c.args.standing.now.pages.items c.args.number None in
    let slot = slice_index_or c.args.standing.now.slots.items c.args.number 2 in
    let dirty : HasSameBytes old c.in-Some.page → slot < 2 → ⊥ = search rules in
    dirty_written g.V.Volume.moment g.V.Volume.left_at c.args.volume.now c.write_at.new.self
    (λ p. (p ≡ c.args.number) × IsDirty (slice_index_or c.args.standing.now.pages.items c.args.number None) (slice_index_or c.args.standing.now.slots.items c.args.number 2) c.args.page.now)
    c.args.number (other_slot slot) (refl, subst (λ o. IsDirty old slot o) (sym c.in-Some.is) dirty)
    (page_follows g.V.Volume.moment g.V.Volume.left_at c.args.volume.now c.write_at.new.self c.args.number c.unused_slot-slot.result _ c.slot_start.result _
    c.unused_slot-slot.ensures.within (c.unused_slot-slot.ensures.value ∙ ap other_slot c.used_slot-used.ensures) c.slot_start.ensures c.bytes_of-bytes.ensures.whole c.write_at.ensures.time c.write_at.ensures.crash)

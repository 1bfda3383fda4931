-- The next node of a page passes each test, and is the one that is put in.
use Rattle.std.proofs.Common.{refl, sym, ◌∙◌, arith}
use Rattle.page_image.specs.Page.{node_at}
use Rattle.page_image.proofs.Kept.{data_read, key_read, never, next_node, next_place, next_room, opened, same_node, taken_over}
use Rattle.page_image.proofs.page.Page.take_over.Goals as goal
use Rattle.page_image.proofs.page.Page.take_over.Goals.{then-data_end-gt-PAGE_BYTES-via-then-data_end-gt-PAGE_BYTES, then-data_end-gt-PAGE_BYTES-via-else-data_end-gt-PAGE_BYTES+then-data_end-key_end}

pub returns-then-at-gt-PAGE_BYTES : goal.returns-then-at-gt-PAGE_BYTES
returns-then-at-gt-PAGE_BYTES c p k page spelled taken h = absurd (omega (arith, (next_node c.self.inside.bytes c.self.inside.offsets c.self.inside.count c.self.inside.end c.args.self.now c.args.bytes.now p k (opened c.self.inside.bytes c.self.inside.offsets c.self.inside.count c.self.inside.end c.args.self.now c.self.view_is c.self.invariant) page spelled taken h).within, c.if-at-gt-PAGE_BYTES.true))

pub returns-then-data_end-gt-PAGE_BYTES : goal.returns-then-data_end-gt-PAGE_BYTES
returns-then-data_end-gt-PAGE_BYTES c p k page spelled taken h =
    let node = (next_node c.self.inside.bytes c.self.inside.offsets c.self.inside.count c.self.inside.end c.args.self.now c.args.bytes.now p k (opened c.self.inside.bytes c.self.inside.offsets c.self.inside.count c.self.inside.end c.args.self.now c.self.view_is c.self.invariant) page spelled taken h) in
    elim c.then-data_end-gt-PAGE_BYTES.branch [
      | then-data_end-gt-PAGE_BYTES-via-then-data_end-gt-PAGE_BYTES w ↦ absurd (omega (arith, node.within, node.fits, node.key_length, node.data_length, c.number_at.ensures.value, c.number_at-2.ensures.value, w.if-data_end-gt-PAGE_BYTES.true))
      | then-data_end-gt-PAGE_BYTES-via-else-data_end-gt-PAGE_BYTES+then-data_end-key_end w ↦ absurd (omega (arith, node.fits, node.data_length, node.extent, c.number_at-2.ensures.value, c.number_at-extent.ensures.value, w.if-data_end-key_end.true))
    ]

pub returns-then-not-may_follow : goal.returns-then-not-may_follow
returns-then-not-may_follow c p k page spelled taken h =
    let place = next_place c.args.self.now p k _ taken page h (key_read c.args.bytes.now c.self.inside.end (node_at p.nodes k) c.number_at.result (next_node c.self.inside.bytes c.self.inside.offsets c.self.inside.count c.self.inside.end c.args.self.now c.args.bytes.now p k (opened c.self.inside.bytes c.self.inside.offsets c.self.inside.count c.self.inside.end c.args.self.now c.self.view_is c.self.invariant) page spelled taken h) c.number_at.ensures.value) in
    let follows = c.may_follow.ensures.1 place in
    absurd (never (sym c.if-not-may_follow.true ∙ follows))

pub returns-in-Ok : goal.returns-in-Ok
returns-in-Ok c p k page spelled taken h =
    (refl, taken_over c.args.self.now c.insert.new.self p k c.len-count.result _ c.in-Ok.ensures.ok c.len-count.ensures.value taken h (same_node (node_at p.nodes k) _ _ _ (key_read c.args.bytes.now c.self.inside.end (node_at p.nodes k) c.number_at.result (next_node c.self.inside.bytes c.self.inside.offsets c.self.inside.count c.self.inside.end c.args.self.now c.args.bytes.now p k (opened c.self.inside.bytes c.self.inside.offsets c.self.inside.count c.self.inside.end c.args.self.now c.self.view_is c.self.invariant) page spelled taken h) c.number_at.ensures.value) (c.number_at-extent.ensures.value ∙ (next_node c.self.inside.bytes c.self.inside.offsets c.self.inside.count c.self.inside.end c.args.self.now c.args.bytes.now p k (opened c.self.inside.bytes c.self.inside.offsets c.self.inside.count c.self.inside.end c.args.self.now c.self.view_is c.self.invariant) page spelled taken h).extent) (data_read c.args.bytes.now c.self.inside.end (node_at p.nodes k) c.number_at.result c.number_at-2.result (next_node c.self.inside.bytes c.self.inside.offsets c.self.inside.count c.self.inside.end c.args.self.now c.args.bytes.now p k (opened c.self.inside.bytes c.self.inside.offsets c.self.inside.count c.self.inside.end c.args.self.now c.self.view_is c.self.invariant) page spelled taken h) c.number_at.ensures.value c.number_at-2.ensures.value)))

pub returns-in-Err : goal.returns-in-Err
returns-in-Err c p k page spelled taken h =
    absurd (never (c.in-Err.ensures.full.1 (next_room c.args.self.now p k _ _ taken page h (key_read c.args.bytes.now c.self.inside.end (node_at p.nodes k) c.number_at.result (next_node c.self.inside.bytes c.self.inside.offsets c.self.inside.count c.self.inside.end c.args.self.now c.args.bytes.now p k (opened c.self.inside.bytes c.self.inside.offsets c.self.inside.count c.self.inside.end c.args.self.now c.self.view_is c.self.invariant) page spelled taken h) c.number_at.ensures.value) (c.number_at-extent.ensures.value ∙ (next_node c.self.inside.bytes c.self.inside.offsets c.self.inside.count c.self.inside.end c.args.self.now c.args.bytes.now p k (opened c.self.inside.bytes c.self.inside.offsets c.self.inside.count c.self.inside.end c.args.self.now c.self.view_is c.self.invariant) page spelled taken h).extent))))

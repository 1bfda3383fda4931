use Rattle.std.proofs.Common.{◌∙◌, arith}
use Rattle.checkpoint.proofs.Loads.{page_holds, slot_read}
use Rattle.checkpoint.proofs.loading.read_page.Goals as goal

pub returns-then-count-eq-PAGE_BYTES-clause-holds : goal.returns-then-count-eq-PAGE_BYTES-clause-holds
returns-then-count-eq-PAGE_BYTES-clause-holds g c tells =
    let database = (g.V.Volume.seen c.args.volume.now).database in
    page_holds c.page_in.result database c.read.new.into c.args.number c.args.slot c.requires.slot
    (omega (arith, c.in-Ok.ensures.count tells, c.if-count-eq-PAGE_BYTES.true, c.slot_start.ensures))
    (slot_read database c.read.new.into c.args.number c.args.slot c.slot_start.result c.in-Ok.count c.slot_start.ensures c.if-count-eq-PAGE_BYTES.true c.read.auto.into (c.in-Ok.ensures.bytes tells))
    c.page_in.ensures.found

pub returns-then-count-eq-PAGE_BYTES-clause-only : goal.returns-then-count-eq-PAGE_BYTES-clause-only
returns-then-count-eq-PAGE_BYTES-clause-only g c tells page holds =
    let database = (g.V.Volume.seen c.args.volume.now).database in
    c.page_in.ensures.only page holds.is_page
    (slot_read database c.read.new.into c.args.number c.args.slot c.slot_start.result c.in-Ok.count c.slot_start.ensures c.if-count-eq-PAGE_BYTES.true c.read.auto.into (c.in-Ok.ensures.bytes tells) ∙ holds.bytes)
    holds.own_number

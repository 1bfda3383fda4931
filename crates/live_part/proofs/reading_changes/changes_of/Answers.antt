use Rattle.std.proofs.lemmas.Result.{err_from_is_err_and}
use Rattle.live_part.proofs.ReadParts.{changes_lack, changes_step}
use Rattle.live_part.proofs.reading_changes.changes_of.Goals as goal

pub returns-in_err-count : goal.returns-in_err-count
returns-in_err-count c =
    let p = err_from_is_err_and c.from_residual.result c.from_residual.ensures.1 in
    rw (p.1, p.2) (changes_lack c.in_err-count.field-0.0 c.args.bytes.now c.in_err-count.ensures)

pub returns : goal.returns
returns c = rw (changes_step c.args.bytes.now c.in_ok-count.rest.now c.in_ok-count.count c.in_ok-count.ensures) c.so_many_changes.ensures

use Rattle.std.proofs.lemmas.Result.{err_from_is_err_and}
use Rattle.live_part.specs.Read.{with_changes}
use Rattle.live_part.proofs.ReadParts.{gives_opened, gives_undone, none_opened, none_undone, whole_step}
use Rattle.live_part.proofs.reading.part_of.Goals as goal

pub returns-in_err-sessions-clause-opened : goal.returns-in_err-sessions-clause-opened
returns-in_err-sessions-clause-opened c =
    let p = err_from_is_err_and c.from_residual.result c.from_residual.ensures.1 in
    rw (p.1, p.2) (none_opened c.in_err-sessions.field-0.0 c.args.bytes.now c.in_err-sessions.ensures)

pub returns-in_err-sessions-clause-undone : goal.returns-in_err-sessions-clause-undone
returns-in_err-sessions-clause-undone c =
    let p = err_from_is_err_and c.from_residual.result c.from_residual.ensures.1 in
    rw (p.1, p.2) (none_undone c.in_err-sessions.field-0.0 c.args.bytes.now c.in_err-sessions.ensures)

pub returns-clause-opened : goal.returns-clause-opened
returns-clause-opened c =
    gives_opened c.args.bytes.now c.part_with.result (with_changes c.in_ok-sessions.sessions c.in_ok-sessions.rest.now) c.part_with.ensures (whole_step c.args.bytes.now c.in_ok-sessions.rest.now c.in_ok-sessions.sessions c.in_ok-sessions.ensures)

pub returns-clause-undone : goal.returns-clause-undone
returns-clause-undone c =
    gives_undone c.args.bytes.now c.part_with.result (with_changes c.in_ok-sessions.sessions c.in_ok-sessions.rest.now) c.part_with.ensures (whole_step c.args.bytes.now c.in_ok-sessions.rest.now c.in_ok-sessions.sessions c.in_ok-sessions.ensures)

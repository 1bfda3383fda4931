use Rattle.session_local.proofs.AtCursor.{set_ok, set_refused}
use Rattle.session_local.proofs.prepared.Prepared.set_named.Goals as goal

pub returns-in-Ok-clause-set : goal.returns-in-Ok-clause-set
returns-in-Ok-clause-set c =
    λ o same. set_ok o c.args.self.now c.set_named.new.self c.args.name.now c.args.sequence c.args.value.now same c.in-Ok.ensures.refusals c.in-Ok.ensures.after

pub returns-in-Err-Refused-clause-set : goal.returns-in-Err-Refused-clause-set
returns-in-Err-Refused-clause-set c =
    let fault = rw c.in-Err-Refused.field-0-is at c.in-Err-Refused.ensures.refusals in
    λ o same. set_refused o c.args.self.now c.set_named.new.self c.args.name.now c.args.sequence c.args.value.now c.in-Err-Refused.refusal same fault c.in-Err-Refused.ensures.after

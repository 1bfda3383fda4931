use Rattle.std.proofs.Common.{◌++◌, Some, refl, sym, ◌∙◌}
use Rattle.jet_base.specs.declared.replies.Jet.TheVariants as jet
use Rattle.session_local.specs.RecordCalls.{hold_at}
use Rattle.record_decisions.specs.Changing.{change_in, current_in, is_outside_in}
use Rattle.engine_parts.specs.RefusalLaws.{passed-one, refused-front}
use Rattle.record_decisions.proofs.changing.lock_refusal.Goals as goal

pub returns-in-Some : goal.returns-in-Some
returns-in-Some c =
    let engine = c.args.engine.now in
    let session = c.args.session.0 in
    let found = c.args.found.now in
    passed-one (is_outside_in engine session) jet.NotInTransaction (current_in engine session found ++ change_in engine session (hold_at found)) (Some c.in-Some.refusal) (sym c.is_outside.ensures ∙ c.if-is_outside.false)
    (refused-front (current_in engine session found) (change_in engine session (hold_at found)) c.in-Some.refusal (Some c.in-Some.refusal) c.in-Some.ensures refl)

use Rattle.std.proofs.Common.{◌++◌, Some, refl, sym, ap, ◌∙◌}
use Rattle.std.specs.Prelude.{is_some}
use Rattle.jet_base.specs.declared.replies.Jet.TheVariants as jet
use Rattle.column_set.specs.Refusals.{first_refusal}
use Rattle.session_local.specs.RecordCalls.{hold_at}
use Rattle.record_decisions.specs.Changing.{change_in, current_in, is_outside_in, outside_in, own_in}
use Rattle.engine_parts.specs.RefusalLaws.{passed-one, refused-front}
use Rattle.record_decisions.proofs.preparing.replace_refusal.Goals as goal

pub returns-in-Some : goal.returns-in-Some
returns-in-Some c =
    let engine = c.args.engine.now in
    let side = c.args.local.now in
    let found = c.args.found.now in
    let before = own_in side.state found ++ change_in engine side.session (hold_at found) in
    passed-one (is_some found.prepared) jet.AlreadyPrepared (outside_in engine side.session ++ current_in engine side.session found ++ before) (Some c.in-Some.refusal) (sym c.is_prepared.ensures ∙ c.if-is_prepared.false)
    (passed-one (is_outside_in engine side.session) jet.NotInTransaction (current_in engine side.session found ++ before) (Some c.in-Some.refusal)
    (ap (is_outside_in engine) (sym c.session-session.ensures) ∙ sym c.is_outside.ensures ∙ c.if-is_outside.false)
    (refused-front (current_in engine side.session found) before c.in-Some.refusal (Some c.in-Some.refusal) (c.in-Some.ensures ∙ ap (λ s. first_refusal (current_in engine s found)) c.session-session.ensures) refl))

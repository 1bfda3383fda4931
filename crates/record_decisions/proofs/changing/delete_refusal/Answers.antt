use Rattle.std.proofs.Common.{◌++◌, Some, None, refl, sym, ap, ◌∙◌}
use Rattle.jet_base.specs.declared.replies.Jet.TheVariants as jet
use Rattle.column_set.specs.declared.changes.Change.{Change}
use Rattle.column_set.specs.Refusals.{first_refusal}
use Rattle.session_local.specs.Local.{has_replace_of}
use Rattle.session_local.specs.RecordCalls.{bookmark_at, drop_at}
use Rattle.record_decisions.specs.Changing.{change_in, current_in, own_in}
use Rattle.engine_parts.specs.RefusalLaws.{passed-one, refused-front, refused-rest}
use Rattle.record_decisions.proofs.changing.delete_refusal.Goals as goal

pub returns-in-Some : goal.returns-in-Some
returns-in-Some c =
    let engine = c.args.engine.now in
    let side = c.args.local.now in
    let found = c.args.found.now in
    refused-front (current_in engine side.session found) (own_in side.state found ++ change_in engine side.session (drop_at found)) c.in-Some.refusal (Some c.in-Some.refusal)
    (c.in-Some.ensures ∙ ap (λ s. first_refusal (current_in engine s found)) c.session-session.ensures) refl

pub returns-else-has_own_replace : goal.returns-else-has_own_replace
returns-else-has_own_replace c =
    let engine = c.args.engine.now in
    let side = c.args.local.now in
    let found = c.args.found.now in
    refused-rest (current_in engine side.session found) (own_in side.state found ++ change_in engine side.session (drop_at found)) None c.change_refusal.result
    (c.in-None.ensures ∙ ap (λ s. first_refusal (current_in engine s found)) c.session-session.ensures) refl
    (passed-one (has_replace_of side.state found.cursor.table (bookmark_at found)) jet.SessionWriteConflict (change_in engine side.session (drop_at found)) c.change_refusal.result
    (sym c.has_own_replace.ensures ∙ c.if-has_own_replace.false)
    (c.change_refusal.ensures ∙ ap (λ s. first_refusal (change_in engine s c.args.change.now)) c.session-session.ensures ∙ ap (λ (made : Change). first_refusal (change_in engine side.session made)) c.requires))

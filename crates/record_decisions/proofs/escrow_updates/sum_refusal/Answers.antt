use Rattle.std.proofs.Common.{◌≡◌, false, not, ◌++◌, rules, sym, ap, ◌∙◌}
use Rattle.jet_base.specs.declared.replies.Jet.TheVariants as jet
use Rattle.column_set.specs.Refusals.{first_refusal}
use Rattle.session_local.specs.Local.{has_replace_of}
use Rattle.session_local.specs.RecordCalls.{bookmark_at}
use Rattle.record_decisions.specs.Changing.{change_in, own_in}
use Rattle.engine_parts.specs.RefusalLaws.{passed-one}
use Rattle.record_decisions.proofs.escrow_updates.sum_refusal.Goals as goal

pub returns-else-has_own_replace : goal.returns-else-has_own_replace
returns-else-has_own_replace c =
    let engine = c.args.engine.now in
    let side = c.args.local.now in
    let found = c.args.found.now in
    let made = c.args.change.now in
    let escrow : not c.args.column.now.escrow ≡ false = search rules in
    passed-one (not c.args.column.now.escrow) jet.InvalidColumnType (own_in side.state found ++ change_in engine side.session made) c.change_refusal.result escrow
    (passed-one (has_replace_of side.state found.cursor.table (bookmark_at found)) jet.SessionWriteConflict (change_in engine side.session made) c.change_refusal.result
    (sym c.has_own_replace.ensures ∙ c.if-has_own_replace.false)
    (c.change_refusal.ensures ∙ ap (λ s. first_refusal (change_in engine s made)) c.session.ensures))

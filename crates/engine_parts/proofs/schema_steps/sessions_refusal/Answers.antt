use Rattle.std.proofs.Common.{◌≡◌, true, false, [], ◌∷◌, Some, None, refl, sym, ap, ◌∙◌}
use Rattle.std.specs.Prelude.{◌==◌, not}
use Rattle.jet_base.specs.declared.replies.Jet.TheVariants as jet
use Rattle.version_cleanup.specs.LiveSessions.{levels_in}
use Rattle.engine_parts.specs.SchemaRequests.{engine_table, is_missing, is_used}
use Rattle.engine_parts.specs.RefusalLaws.{passed-one, stopped-one}
use Rattle.engine_parts.proofs.schema_steps.sessions_refusal.Goals as goal

pub returns-then-is_missing : goal.returns-then-is_missing
returns-then-is_missing c =
    let engine = c.args.engine.now in
    let session = c.args.session.0 in
    let called = c.args.call.now in
    let outside : not (levels_in session engine.sessions == 0) ≡ false = ap not (sym c.is_outside.ensures ∙ c.if-is_outside.true) in
    let missing : is_missing called (engine_table engine called) ≡ true = ap (is_missing called) (sym c.requires) ∙ sym c.is_missing.ensures ∙ c.if-is_missing.true in
    passed-one (not (levels_in session engine.sessions == 0)) jet.InTransaction ((is_missing called (engine_table engine called), jet.ObjectNotFound) ∷ (is_used engine session (engine_table engine called), jet.TableInUse) ∷ []) (Some jet.ObjectNotFound) outside
    (stopped-one (is_missing called (engine_table engine called)) jet.ObjectNotFound ((is_used engine session (engine_table engine called), jet.TableInUse) ∷ []) missing)

pub returns-then-is_used : goal.returns-then-is_used
returns-then-is_used c =
    let engine = c.args.engine.now in
    let session = c.args.session.0 in
    let called = c.args.call.now in
    let outside : not (levels_in session engine.sessions == 0) ≡ false = ap not (sym c.is_outside.ensures ∙ c.if-is_outside.true) in
    let missing : is_missing called (engine_table engine called) ≡ false = ap (is_missing called) (sym c.requires) ∙ sym c.is_missing.ensures ∙ c.if-is_missing.false in
    let used : is_used engine session (engine_table engine called) ≡ true = ap (is_used engine session) (sym c.requires) ∙ sym c.is_used.ensures ∙ c.if-is_used.true in
    passed-one (not (levels_in session engine.sessions == 0)) jet.InTransaction ((is_missing called (engine_table engine called), jet.ObjectNotFound) ∷ (is_used engine session (engine_table engine called), jet.TableInUse) ∷ []) (Some jet.TableInUse) outside
    (passed-one (is_missing called (engine_table engine called)) jet.ObjectNotFound ((is_used engine session (engine_table engine called), jet.TableInUse) ∷ []) (Some jet.TableInUse) missing
    (stopped-one (is_used engine session (engine_table engine called)) jet.TableInUse [] used))

pub returns-else-is_used : goal.returns-else-is_used
returns-else-is_used c =
    let engine = c.args.engine.now in
    let session = c.args.session.0 in
    let called = c.args.call.now in
    let outside : not (levels_in session engine.sessions == 0) ≡ false = ap not (sym c.is_outside.ensures ∙ c.if-is_outside.true) in
    let missing : is_missing called (engine_table engine called) ≡ false = ap (is_missing called) (sym c.requires) ∙ sym c.is_missing.ensures ∙ c.if-is_missing.false in
    let used : is_used engine session (engine_table engine called) ≡ false = ap (is_used engine session) (sym c.requires) ∙ sym c.is_used.ensures ∙ c.if-is_used.false in
    passed-one (not (levels_in session engine.sessions == 0)) jet.InTransaction ((is_missing called (engine_table engine called), jet.ObjectNotFound) ∷ (is_used engine session (engine_table engine called), jet.TableInUse) ∷ []) None outside
    (passed-one (is_missing called (engine_table engine called)) jet.ObjectNotFound ((is_used engine session (engine_table engine called), jet.TableInUse) ∷ []) None missing
    (passed-one (is_used engine session (engine_table engine called)) jet.TableInUse [] None used refl))

use Rattle.std.proofs.Common.{◌≡◌, None, sym, ap, subst, ◌∙◌}
use Rattle.jet_base.specs.declared.words.Prepare.TheVariants as prepare
use Rattle.column_set.specs.Refusals.{first_refusal}
use Rattle.session_local.specs.declared.request.Request.TheVariants as call
use Rattle.session_local.specs.Preparing.{update_of}
use Rattle.engine_parts.specs.Deciding.{Decides}
use Rattle.record_decisions.specs.Preparing.{copy_in, copy_of}
use Rattle.record_decisions.proofs.PreparedCopies.{copied-at, copy-prepares, prepare-done, prepare-refused}
use Rattle.record_decisions.proofs.preparing.prepare_copy.Goals as goal

pub copy_at-requires : goal.copy_at-requires
copy_at-requires c =
    copied-at c.a_session_reads_its_view.ensures.rows c.args.engine.now c.args.local.now c.args.cursor.0 c.session-session.result.0 c.in-Some.found.now c.requires.beside c.records_are_formed.ensures c.in-Some.ensures c.session-session.ensures

pub returns-in-Some-copy_refusal-clause-answer : goal.returns-in-Some-copy_refusal-clause-answer
returns-in-Some-copy_refusal-clause-answer c =
    let engine = c.args.engine.now in
    let side = c.args.local.now in
    let found = c.in-Some.found.now in
    let prepares = copy-prepares c.a_session_reads_its_view.ensures.records engine side c.args.cursor found c.requires.shared c.in-Some.ensures in
    rw c.refused.ensures
    (prepare-refused engine side (call.PrepareUpdate c.args.cursor prepare.InsertCopy) (copy_in engine side.session found) found (copy_of engine side.session found) None c.in-Some-copy_refusal.refusal prepares
    (sym (c.in-Some-copy_refusal.ensures ∙ ap (λ s. first_refusal (copy_in engine s found)) c.session-session.ensures)))

pub returns-in_ok-prepared-in-None-clause-answer : goal.returns-in_ok-prepared-in-None-clause-answer
returns-in_ok-prepared-in-None-clause-answer c =
    let engine = c.args.engine.now in
    let side = c.args.local.now in
    let found = c.in-Some.found.now in
    let prepared = c.in_ok-prepared-in-None.prepared in
    let prepares = copy-prepares c.a_session_reads_its_view.ensures.records engine side c.args.cursor found c.requires.shared c.in-Some.ensures in
    let none : first_refusal (copy_in engine side.session found) ≡ None = sym (c.in-None.ensures ∙ ap (λ s. first_refusal (copy_in engine s found)) c.session-session.ensures) in
    let same : update_of prepared ≡ copy_of engine side.session found = c.in_ok-prepared-in-None.ensures.0 ∙ ap (λ s. copy_of engine s found) c.session-session.ensures in
    subst (Decides engine side (call.PrepareUpdate c.args.cursor prepare.InsertCopy) side) (sym c.prepared_with.ensures)
    (prepare-done engine side c.args.cursor prepare.InsertCopy (copy_in engine side.session found) found (copy_of engine side.session found) None prepared prepares none c.in-Some.ensures same)

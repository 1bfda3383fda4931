use Rattle.std.proofs.Common.{sym, ap, subst}
use Rattle.session_local.specs.declared.reply.Reply.{Reply}
use Rattle.stored_variants.specs.StoredVersions.{StoredVersions}
use Rattle.engine_parts.specs.Deciding.{Decides, only_reply}
use Rattle.engine_parts.proofs.CursorCallsNavigated.{navigate-decides}
use Rattle.engine_parts.proofs.engine.Engine.navigate.Goals as goal

pub returns-in-Some-clause-answer : goal.returns-in-Some-clause-answer
returns-in-Some-clause-answer c =
    let P : Reply → Type 0 = λ reply. Decides c.args.self.now c.args.local.now c.args.request.now c.navigate.new.self (only_reply reply) in
    subst P (sym c.refusal.ensures)
    (navigate-decides (record { entries = c.a_session_reads_its_view.ensures.entries; records = c.a_session_reads_its_view.ensures.records }) c.args.self.now
    c.view-view.result.tables.now.store c.view-view.result.reader c.args.local.now c.navigate.new.self c.args.cursor.0 c.args.request.now c.in-Some.jet
    c.requires.navigation c.requires.shared (ap (λ (v : StoredVersions). v.store) c.view-view.ensures.tables) c.view-view.ensures.reader c.in-Some.ensures.answer c.in-Some.ensures.side)

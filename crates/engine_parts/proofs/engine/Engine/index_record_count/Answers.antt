use Rattle.std.proofs.Common.{◌<◌, ◌^◌, length, Ok, Err, refl, sym, ap, subst, ◌∙◌}
use Rattle.jet_base.specs.declared.replies.Jet.TheVariants as jet
use Rattle.cursor_nav.specs.Navigation.{CursorState}
use Rattle.session_local.specs.declared.reply.Reply.{Reply}
use Rattle.session_local.specs.declared.reply.Value.TheVariants as value
use Rattle.session_local.specs.Answer.{answered_by}
use Rattle.stored_variants.specs.StoredVersions.{StoredVersions, seen_entries}
use Rattle.engine_parts.specs.Deciding.{only_reply}
use Rattle.engine_parts.specs.Parts.{tables_of}
use Rattle.engine_parts.specs.Reading.{has_shown}
use Rattle.engine_parts.proofs.CursorCallsCounted.{counts-few, count_at, count-decides}
use Rattle.engine_parts.proofs.engine.Engine.index_record_count.Goals as goal

pub count-requires : goal.count-requires
count-requires c =
    let cursor = c.cursor-2.result.now in
    let reader = c.view-view.result.reader in
    record {
      few =
          counts-few c.args.most (seen_entries reader c.view-view.result.tables.now.store cursor.table cursor.index)
          (subst (λ (v : StoredVersions). length (seen_entries reader v.store cursor.table cursor.index) < 2 ^ 34) (ap tables_of c.self.view_is ∙ sym c.view-view.ensures.tables)
          (c.seen_entries_are_in_order.ensures.few reader cursor.table cursor.index));
    }

pub returns-in-Ok-clause-answer : goal.returns-in-Ok-clause-answer
returns-in-Ok-clause-answer c =
    let store = c.view-view.result.tables.now.store in
    let reader = c.view-view.result.reader in
    count-decides (record { entries = c.a_session_reads_its_view.ensures.entries; records = c.a_session_reads_its_view.ensures.records })
    c.args.self.now store reader c.args.local.now c.args.cursor c.args.most c.in-Some.found.now (Ok c.in-Ok.counted) (only_reply (record { jet = jet.Success; value = value.Count c.in-Ok.counted.number })) c.requires.shared c.in-Some.ensures
    (ap (λ (v : StoredVersions). v.store) c.view-view.ensures.tables) c.view-view.ensures.reader
    (c.in-Ok.ensures ∙ ap (λ (k : CursorState). count_at (seen_entries reader store) (has_shown reader store) k c.args.most) c.cursor-2.ensures)
    refl refl

pub returns-in-Err-clause-answer : goal.returns-in-Err-clause-answer
returns-in-Err-clause-answer c =
    let store = c.view-view.result.tables.now.store in
    let reader = c.view-view.result.reader in
    count-decides (record { entries = c.a_session_reads_its_view.ensures.entries; records = c.a_session_reads_its_view.ensures.records })
    c.args.self.now store reader c.args.local.now c.args.cursor c.args.most c.in-Some.found.now (Err c.in-Err.jet) (only_reply c.refusal.result) c.requires.shared c.in-Some.ensures
    (ap (λ (v : StoredVersions). v.store) c.view-view.ensures.tables) c.view-view.ensures.reader
    (c.in-Err.ensures ∙ ap (λ (k : CursorState). count_at (seen_entries reader store) (has_shown reader store) k c.args.most) c.cursor-2.ensures)
    (ap (λ (r : Reply). answered_by r c.args.local.now.reply) c.refusal.ensures) refl

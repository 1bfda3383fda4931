use Rattle.std.proofs.Common.{◌≡◌, ℕ, ◌∷◌, [], List, rules, of_z, to_z, sym, ap, ◌∙◌}
use Rattle.std.specs.Prelude.{ℤ}
use Rattle.std.specs.Int.{w32, cast_unsigned, to_le_bytes}
use Rattle.column_set.specs.RecordValues.{values_of}
use Rattle.cursor_nav.specs.Navigation.{CursorState}
use Rattle.laws_versions.specs.EscrowSums.{escrow_value, seen_value}
use Rattle.engine_parts.specs.Reading.{unseen_amounts}
use Rattle.record_decisions.specs.Preparing.{values_seen}
use Rattle.record_decisions.proofs.SeenRecords.{put-done, value_is}
use Rattle.record_decisions.proofs.sums.put_sum.Goals as goal

pub returns-in-Ok : goal.returns-in-Ok
returns-in-Ok c =
    let engine = c.args.engine.now in
    let found = c.args.found.now in
    let column = c.args.column.0 in
    let seen = values_seen engine c.args.session.0 found in
    let row = c.args.row.now in
    let read : to_z w32 (of_z w32 c.seen_sum-number.result) ≡ c.seen_sum-number.result = search rules in
    let number : c.seen_sum-number.result ≡ escrow_value seen column =
    c.seen_sum-number.ensures
    ∙ ap (λ (n : ℕ). seen_value (escrow_value row column) (unseen_amounts engine c.args.session.0 n c.bookmark_at.result.now column)) (c.table-table.ensures ∙ ap (λ (s : CursorState). s.table) c.cursor.ensures)
    ∙ ap (λ (b : List ℕ). seen_value (escrow_value row column) (unseen_amounts engine c.args.session.0 found.cursor.table b column)) c.bookmark_at.ensures
    ∙ sym (c.requires.row.number column c.requires.sum) in
    let value : c.in-Ok.value ∷ [] ≡ values_of seen column =
    ap (λ (v : List ℕ). v ∷ []) (c.in-Ok.ensures ∙ c.to_le_bytes.ensures ∙ ap (λ (n : ℤ). to_le_bytes w32 (cast_unsigned w32 n)) (read ∙ number))
    ∙ value_is seen column (c.requires.row.held column c.requires.sum) in
    put-done c.set_only_value.result c.set_only_value.new.self c.args.made.now column c.in-Ok.value (values_of seen column) c.set_only_value.ensures value

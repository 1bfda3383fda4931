use Rattle.std.proofs.Common.{◌≡◌, List, w32, rules, of_z, to_z, ap, ◌∙◌}
use Rattle.std.specs.Prelude.{ℤ}
use Rattle.version_store.specs.declared.calls.Reader.{Reader}
use Rattle.laws_versions.specs.EscrowSums.{amounts_to, escrow_value, seen_value}
use Rattle.laws_engine.specs.HeldSums.{unseen_sums}
use Rattle.laws_engine.specs.EngineState.{EngineState}
use Rattle.engine_parts.specs.Reading.{unseen_amounts}
use Rattle.engine_parts.proofs.engine.Engine.seen_sum.Goals as goal

pub returns : goal.returns
returns c =
    let column = c.args.column.0 in
    let amounts : Reader → List ℤ = λ reader. amounts_to column (unseen_sums c.args.table.0 c.args.bookmark.now reader c.self.inside.tables.store.held) in
    let read : to_z w32 (of_z w32 c.seen_sum.result) ≡ c.seen_sum.result = search rules in
    let stored : to_z w32 (of_z w32 c.stored_sum-stored.result) ≡ c.stored_sum-stored.result = search rules in
    read
    ∙ c.seen_sum.ensures
    ∙ ap (λ (n : ℤ). seen_value n (amounts c.reader-reader.result)) (stored ∙ c.stored_sum-stored.ensures)
    ∙ ap (λ (r : Reader). seen_value (escrow_value c.args.row.now column) (amounts r)) c.reader-reader.ensures
    ∙ ap (λ (e : EngineState). seen_value (escrow_value c.args.row.now column) (unseen_amounts e c.args.session.0 c.args.table.0 c.args.bookmark.now column)) c.self.view_is

use Rattle.std.proofs.Common.{◌≡◌, ◌+◌, ◌≤◌, List, length, take, sym, ap, subst, ◌∙◌}
use Rattle.column_set.specs.declared.columns.Column.{Column}
use Rattle.index_derive.specs.declared.rules.Schema.{Schema}
use Rattle.cursor_nav.specs.Places.{place_bookmark}
use Rattle.engine_parts.specs.Reading.{unseen_amounts}
use Rattle.record_decisions.specs.Preparing.{values_seen}
use Rattle.record_decisions.proofs.SeenRecords.{SumsPut, all-seen, escrow_in, plain-more, sum-more}
use Rattle.record_decisions.proofs.sums.record_seen.Goals.{then-column+in_ok-put_sum, else-column}
use Rattle.record_decisions.proofs.sums.record_seen.Goals as goal

pub put_sum-requires-clause-sum : goal.put_sum-requires-clause-sum
put_sum-requires-clause-sum c =
    escrow_in c.args.found.now.schema c.as_slice-columns.result.now (c.as_slice-columns.ensures ∙ ap (λ (s : Schema). s.columns) c.schema.ensures) c.loop-column.column-index c.column-item.result c.requires.copied.distinct c.if-column.true c.loop-column-test.true c.column-item.is

pub loop-column-preserved : goal.loop-column-preserved
loop-column-preserved c =
    let columns = c.as_slice-columns.result.now in
    let row = c.args.row.now in
    let seen = values_seen c.args.engine.now c.args.session.0 c.args.found.now in
    elim c.if-column.branch [
      | then-column+in_ok-put_sum w ↦
          let escrow = escrow_in c.args.found.now.schema columns (c.as_slice-columns.ensures ∙ ap (λ (s : Schema). s.columns) c.schema.ensures) c.loop-column.column-index c.column-item.result c.requires.copied.distinct w.if-column.true c.loop-column-test.true c.column-item.is in
          subst (SumsPut (take (c.loop-column.column-index + 1) columns) row seen) (sym w.made-is)
          (sum-more columns c.loop-column.column-index c.column-item.result c.loop-column.made w.put_sum.new.made row seen (c.requires.seen.held c.column-item.result.id.0 escrow) w.if-column.true c.loop-column-test.true c.column-item.is c.loop-column.invariant w.in_ok-put_sum.ensures)
      | else-column w ↦
          subst (SumsPut (take (c.loop-column.column-index + 1) columns) row seen) (sym w.made-is)
          (plain-more columns c.loop-column.column-index c.column-item.result c.loop-column.made row seen w.if-column.false c.loop-column-test.true c.column-item.is c.loop-column.invariant)
    ]

pub returns : goal.returns
returns c =
    let engine = c.args.engine.now in
    let found = c.args.found.now in
    let columns = c.as_slice-columns.result.now in
    let same : columns ≡ found.schema.columns = c.as_slice-columns.ensures ∙ ap (λ (s : Schema). s.columns) c.schema.ensures in
    all-seen found.schema (unseen_amounts engine c.args.session.0 found.cursor.table (place_bookmark found.cursor.place)) c.loop-column.column-index c.loop-column.made c.args.row.now (values_seen engine c.args.session.0 found)
    c.requires.copied.distinct c.requires.seen c.requires.formed c.fields-fields.ensures.formed
    (subst (λ (cs : List Column). length cs ≤ c.loop-column.column-index) same c.loop-column-test.false)
    (subst (λ (cs : List Column). SumsPut (take c.loop-column.column-index cs) c.args.row.now (values_seen engine c.args.session.0 found) c.loop-column.made) same c.loop-column.invariant)

use Rattle.soft_recovery.proofs.ShownSums.{kept_at_zero, kept_in_row, row_sums}
use Rattle.soft_recovery.proofs.next_entries.sums.keeps_escrow.Goals as goal

pub keeps_shown-requires : goal.keeps_shown-requires
keeps_shown-requires c = record {
  sums = row_sums c.shown_sums_are_those_of_the_view.ensures c.args.engine.now c.requires.held c.args.session.0 c.args.table.0 c.args.schema.now c.requires.named c.args.bookmark.now c.in-Some.row c.in-Some.ensures;
}

pub returns-in-Some : goal.returns-in-Some
returns-in-Some c =
    kept_in_row c.shown_sums_are_those_of_the_view.ensures c.args.engine.now c.args.session.0 c.args.table.0 c.args.schema.now c.requires.named c.args.bookmark.now c.in-Some.row c.args.values.now c.keeps_shown.result c.in-Some.ensures c.keeps_shown.ensures

pub returns-in-None : goal.returns-in-None
returns-in-None c =
    kept_at_zero c.shown_sums_are_those_of_the_view.ensures c.args.engine.now c.args.session.0 c.args.table.0 c.args.schema.now c.requires.named c.args.bookmark.now c.args.values.now c.has_sums_at_zero.result c.in-None.ensures c.has_sums_at_zero.ensures

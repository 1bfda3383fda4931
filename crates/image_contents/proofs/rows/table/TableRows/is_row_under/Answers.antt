use Rattle.std.proofs.Common.{sym, subst, ◌∙◌}
use Rattle.image_contents.proofs.RowsUnder.{not_fit, not_short, not_taken, own_left}
use Rattle.image_contents.proofs.ShortRows.{row_of_short}
use Rattle.image_contents.proofs.rows.table.TableRows.is_row_under.Goals as goal
use Rattle.image_contents.specs.LegalRules.{HasLegalRules}
use Rattle.image_contents.specs.RowsRead.{values_read}

pub returns-then-not-is_short_row : goal.returns-then-not-is_short_row
returns-then-not-is_short_row c =
    not_short c.args.self.now.number (values_read c.args.self.now) c.args.self.now.table.now c.args.bookmark.now c.args.bytes.now (sym c.is_short_row.ensures ∙ c.if-not-is_short_row.true)

pub row_fits-requires : goal.row_fits-requires
row_fits-requires c = row_of_short c.args.bytes.now (sym c.is_short_row.ensures ∙ c.if-not-is_short_row.false)

pub new-row-requires-clause-tree : goal.new-row-requires-clause-tree
new-row-requires-clause-tree c = c.requires.readable.tree

pub new-row-requires-clause-values : goal.new-row-requires-clause-values
new-row-requires-clause-values c = c.requires.readable.parts

pub new-row-requires-clause-row : goal.new-row-requires-clause-row
new-row-requires-clause-row c = row_of_short c.args.bytes.now (sym c.is_short_row.ensures ∙ c.if-not-is_short_row.false)

pub new-row-requires-clause-whole : goal.new-row-requires-clause-whole
new-row-requires-clause-whole c = c.requires.whole

pub is_indexable-requires : goal.is_indexable-requires
is_indexable-requires c = subst HasLegalRules (sym c.schema.ensures) c.requires.readable.rules

pub is_own_bookmark-requires : goal.is_own_bookmark-requires
is_own_bookmark-requires c = c.requires.readable

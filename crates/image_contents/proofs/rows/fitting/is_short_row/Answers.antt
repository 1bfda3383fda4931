use Rattle.std.proofs.Common.{sym, true≢false, ◌∙◌}
use Rattle.image_contents.proofs.ShortRows.{no_short, short_if_row}
use Rattle.image_contents.proofs.rows.fitting.is_short_row.Goals as goal

pub returns-then-is_row : goal.returns-then-is_row
returns-then-is_row c = short_if_row c.rows_are_read_back.ensures c.args.bytes.now (c.is_row.ensures.0 c.if-is_row.true)

pub returns-else-is_row : goal.returns-else-is_row
returns-else-is_row c = c.if-is_row.false ∙ no_short c.args.bytes.now (λ is. true≢false (sym (c.is_row.ensures.1 is) ∙ c.if-is_row.false))

use Rattle.std.proofs.Common.{ap, ◌∙◌}
use Rattle.std.specs.Prelude.{option_and_then}
use Rattle.stored_variants.specs.RecordRows.{row_in_node}
use Rattle.table_versions.proofs.reading.newest_row.Goals as goal

pub returns : goal.returns
returns c = c.row_in_node.ensures ∙ ap (option_and_then row_in_node) c.get.ensures

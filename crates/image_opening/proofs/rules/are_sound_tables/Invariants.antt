use Rattle.std.proofs.Common.{◌≡◌}
use Rattle.std.specs.Prelude.{drop}
use Rattle.std.specs.List.{list_all}
use Rattle.image_findings.specs.CatalogFindings.{is_sound_table}
use Rattle.image_opening.proofs.rules.are_sound_tables.Given as goal

abbrev pub invariant-loop-table : goal.invariant-loop-table
invariant-loop-table l = list_all is_sound_table l.tables ≡ list_all is_sound_table (drop l.table-index l.tables)

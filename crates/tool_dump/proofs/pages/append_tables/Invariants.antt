use Rattle.image_findings.specs.CatalogFindings.{roots_of}
use Rattle.tool_dump.specs.SpaceTexts.{table_lines}
use Rattle.tool_dump.proofs.Telling.{FirstTold}
use Rattle.tool_dump.proofs.pages.append_tables.Given as goal

-- The tables so far are told.
abbrev pub invariant-loop-told : goal.invariant-loop-told
invariant-loop-told l = FirstTold l.space roots_of (table_lines l.space) l.tables l.told-index l.fn.text.items l.text.items l.fn.marks l.marks

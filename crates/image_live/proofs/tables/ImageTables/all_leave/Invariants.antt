-- What is left of the changes decides.
use Rattle.std.proofs.Common.{List}
use Rattle.image_findings.specs.TableContents.{TableContents}
use Rattle.image_live.specs.TablesRead.{AreTablesOf}
use Rattle.image_live.proofs.Leaving.{RestLeaves}
use Rattle.image_live.proofs.tables.ImageTables.all_leave.Given as goal

abbrev pub invariant-loop-place : goal.invariant-loop-place
invariant-loop-place l = (tables : List TableContents) → AreTablesOf l.self tables → RestLeaves tables l.changes l.place

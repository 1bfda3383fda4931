-- What is left of the changes decides.
use Rattle.std.proofs.Common.{List}
use Rattle.image_findings.specs.LiveFindings.{is_sound_change}
use Rattle.image_findings.specs.TableContents.{TableContents}
use Rattle.image_live.specs.TablesRead.{AreTablesOf}
use Rattle.image_live.proofs.AllOf.{RestDecides}
use Rattle.image_live.proofs.tables.ImageTables.are_sound_changes.Given as goal

abbrev pub invariant-loop-place : goal.invariant-loop-place
invariant-loop-place l = (tables : List TableContents) → AreTablesOf l.self tables → RestDecides (is_sound_change l.self.number tables l.sessions) l.changes l.place

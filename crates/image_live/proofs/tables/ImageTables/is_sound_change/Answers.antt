use Rattle.std.proofs.Common.{sym, ◌∙◌}
use Rattle.image_findings.specs.TableContents.{contents_with_id}
use Rattle.version_store.specs.Answers.{told_change}
use Rattle.image_live.proofs.RowsFound.{readable_of, whole_of}
use Rattle.image_live.proofs.SoundChanges.{of_rows}
use Rattle.image_live.proofs.tables.ImageTables.is_sound_change.Goals as goal

pub is_sound_of-requires-clause-readable : goal.is_sound_of-requires-clause-readable
is_sound_of-requires-clause-readable c = readable_of c.args.self.now.number (contents_with_id c.requires.0 c.args.change.table.0) c.in-Some.rows (c.in-Some.ensures c.requires.0 c.requires.1.0)

pub is_sound_of-requires-clause-whole : goal.is_sound_of-requires-clause-whole
is_sound_of-requires-clause-whole c = whole_of c.args.self.now.number (contents_with_id c.requires.0 c.args.change.table.0) c.in-Some.rows (told_change c.args.change) (c.in-Some.ensures c.requires.0 c.requires.1.0) c.requires.1.1

pub returns-in-Some : goal.returns-in-Some
returns-in-Some c =
    of_rows c.args.self.now c.args.sessions.now (told_change c.args.change) c.in-Some.rows c.is_sound_of.result c.if-change-self.false (sym c.is_placed.ensures ∙ c.if-not-is_placed.false) c.in-Some.ensures c.is_sound_of.ensures

use Rattle.std.proofs.Common.{sym}
use Rattle.database_state.specs.Table.{schema_of}
use Rattle.image_contents.proofs.IndexesTake.{primary_short}
use Rattle.image_contents.proofs.rows.table.TableRows.is_own_bookmark.Goals as goal

pub primary_key-requires : goal.primary_key-requires
primary_key-requires c = record { short = primary_short (schema_of c.args.self.now.table.now) c.in-Some.rule.now c.requires.rules (sym c.in-Some.ensures) }

use Rattle.std.proofs.Common.{sym, ap}
use Rattle.cursor_nav.specs.Places.{least_entry_of}
use Rattle.database_state.specs.Table.{table_with_id}
use Rattle.engine_parts.proofs.Views.{known_at, nothing_there}
use Rattle.engine_parts.proofs.view.EngineViewView.least.Goals as goal

pub least-requires : goal.least-requires
least-requires c = known_at c.in-Some.found.now (table_with_id c.args.self.now.tables.now.store.tables c.args.table.0) c.schema.result.now c.in-Some.ensures c.schema.ensures

pub returns-in-None : goal.returns-in-None
returns-in-None c = ap (least_entry_of c.args.bookmark.now) (sym (nothing_there c.args.self.now.reader c.args.self.now.tables.now.store c.args.table.0 c.args.index.0 c.in-None.ensures))

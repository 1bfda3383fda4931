use Rattle.std.proofs.Common.{sym, ap}
use Rattle.std.specs.Prelude.{is_some}
use Rattle.cursor_nav.specs.Places.{entry_after, on_or}
use Rattle.database_state.specs.Table.{table_with_id}
use Rattle.index_derive.specs.declared.entries.Place.TheVariants.{After}
use Rattle.engine_parts.proofs.Views.{known_at, nothing_there}
use Rattle.engine_parts.proofs.view.EngineViewView.advance.Goals as goal

pub advance-requires : goal.advance-requires
advance-requires c = known_at c.in-Some.found.now (table_with_id c.args.self.now.tables.now.store.tables c.args.table.0) c.schema.result.now c.in-Some.ensures c.schema.ensures

pub returns-in-None : goal.returns-in-None
returns-in-None c =
    let none = sym (nothing_there c.args.self.now.reader c.args.self.now.tables.now.store c.args.table.0 c.args.index.0 c.in-None.ensures) in
    record { found = ap (λ entries. is_some (entry_after c.args.place.now entries)) none; place = ap (λ entries. on_or (entry_after c.args.place.now entries) After) none }

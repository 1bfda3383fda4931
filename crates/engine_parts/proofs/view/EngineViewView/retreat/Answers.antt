use Rattle.std.proofs.Common.{sym, ap}
use Rattle.std.specs.Prelude.{is_some}
use Rattle.cursor_nav.specs.Places.{entry_before, on_or}
use Rattle.database_state.specs.Table.{table_with_id}
use Rattle.index_derive.specs.declared.entries.Place.TheVariants.{Before}
use Rattle.engine_parts.proofs.Views.{known_at, nothing_there}
use Rattle.engine_parts.proofs.view.EngineViewView.retreat.Goals as goal

pub retreat-requires : goal.retreat-requires
retreat-requires c = known_at c.in-Some.found.now (table_with_id c.args.self.now.tables.now.store.tables c.args.table.0) c.schema.result.now c.in-Some.ensures c.schema.ensures

pub returns-in-None : goal.returns-in-None
returns-in-None c =
    let none = sym (nothing_there c.args.self.now.reader c.args.self.now.tables.now.store c.args.table.0 c.args.index.0 c.in-None.ensures) in
    record { found = ap (λ entries. is_some (entry_before c.args.place.now entries)) none; place = ap (λ entries. on_or (entry_before c.args.place.now entries) Before) none }

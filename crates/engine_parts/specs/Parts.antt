-- What the parts of an engine show together.
use Rattle.stored_variants.specs.StoredVersions.{StoredVersions}
use Rattle.laws_engine.specs.EngineState.{EngineState}
use Rattle.engine_parts.specs.declared.engine.Engine.TheInside as engine

abbrev pub engine_state : engine.Inside → EngineState
engine_state inside = record {
  limit = inside.limit;
  number = inside.number;
  greatest_table = inside.tables.greatest_table;
  newest_put = inside.tables.newest_put;
  sessions = inside.sessions;
  store = inside.tables.store;
}

-- the tables and the held changes of an engine
abbrev pub tables_of : EngineState → StoredVersions
tables_of engine = record { greatest_table = engine.greatest_table; newest_put = engine.newest_put; store = engine.store }

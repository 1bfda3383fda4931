-- An engine beside the log from which a replay makes it.
use Rattle.std.specs.Prelude.{◌≡◌, ℕ, true, List, [], ◌++◌}
use Rattle.index_derive.specs.declared.log.Entry.{Entry}
use Rattle.database_state.specs.State.{DatabaseState}
use Rattle.database_state.specs.Step.{state_after_all}
use Rattle.laws_engine.specs.EntryTypes.{AreOfTheirTypes}
use Rattle.laws_engine.specs.LawfulSteps.{AreLawful}
use Rattle.session_local.specs.BuiltTables.{AllMakeBuilt}
use Rattle.laws_engine.specs.EngineState.{EngineState}
use Rattle.laws_engine.specs.HoldsState.{HoldsState}
use Rattle.log_grammar.specs.EntryBytes.{IsCut}
use Rattle.log_grammar.specs.EntryStreams.{stream_bytes, stream_fits}
use Rattle.entry_log.specs.LogState.{IsKeptOf, KeptStream}

-- the database state of an engine without sessions: its tables are the committed ones
abbrev pub opened_state : EngineState → DatabaseState
opened_state engine = record { number = engine.number; greatest_table = engine.greatest_table; tables = engine.store.tables; sessions = []; past = [] }

-- what is left of a state once all sessions are given up: its number, and the committed tables with the numbers that were given
abbrev pub closed : DatabaseState → DatabaseState
closed state = record state { sessions = []; past = [] }

-- The engine came from the opening state by these entries, each lawful in its turn, holds the state after them, and keeps their
-- bytes from some position on. Each of them can be written.
pub record HasLogged (opening : DatabaseState) (entries : List Entry) (engine : EngineState) (stream : KeptStream) : Type 0 where
  pub lawful : AreLawful opening entries
  pub built : AllMakeBuilt entries
  pub typed : AreOfTheirTypes entries
  pub spelled : stream_fits entries ≡ true
  pub kept : IsKeptOf (stream_bytes entries) stream
  pub holds : HoldsState engine (state_after_all opening entries)

-- the bytes of a whole log from its beginning on
abbrev pub whole_stream : List Entry → KeptStream
whole_stream entries = record { from = 0; bytes = stream_bytes entries }

-- What is read back where the bytes of a log were cut: the first of its entries, and a rest that is cut from an entry or has no
-- byte.
pub record IsCutLog (entries read : List Entry) (rest : List ℕ) : Type 0 where
  pub others : List Entry
  pub split : entries ≡ read ++ others
  pub cut : IsCut rest

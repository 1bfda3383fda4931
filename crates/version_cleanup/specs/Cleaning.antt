-- Sessions beside the held changes: as readers.
use Rattle.std.specs.Prelude.{ℕ, List, option_map}
use Rattle.jet_base.specs.Ids.{session_id}
use Rattle.version_store.specs.declared.calls.Reader.{Reader}
use Rattle.version_cleanup.specs.LiveSessions.{LiveState, transaction_in}

-- the session as a reader: outside a transaction without a begin
abbrev pub reader_in : ℕ → List LiveState → Reader
reader_in label sessions = record { session = session_id label; begin = option_map (λ t. t.begin) (transaction_in label sessions) }

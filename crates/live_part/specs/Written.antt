-- What a buffer has after bytes were written behind its own, and of which live parts they are.
use Rattle.std.specs.Prelude.{◌≡◌, ◌<◌, ◌^◌, ℕ, true, List, ◌++◌, length}
use Rattle.std.specs.List.{AllByRecursion}
use Rattle.log_grammar.specs.EntryBytes.{has_spelling}
use Rattle.version_cleanup.specs.LiveSessions.{LiveState}
use Rattle.version_store.specs.HeldChanges.{HeldChange}
use Rattle.live_part.specs.LiveBytes.{LivePart, entry_of}

-- it has what it had, and some bytes behind
abbrev pub Extends : List ℕ → List ℕ → Type 0
Extends old new = (rest : List ℕ) × (new ≡ old ++ rest)

-- ---- what is written

-- the count of its open tables fits 32 bits
abbrev pub HasFewTables : LiveState → Type 0
HasFewTables s = length s.open_tables < 2 ^ 32

-- an entry of the log can tell it
abbrev pub IsTold : HeldChange → Type 0
IsTold held = has_spelling (entry_of held) ≡ true

-- Counts fit 32 bits, and entries of the log can tell the changes.
pub record IsSpelled (live : LivePart) : Type 0 where
  pub open_tables : AllByRecursion HasFewTables live.sessions
  pub most : length live.held < 2 ^ 32
  pub entries : AllByRecursion IsTold live.held

-- Sessions for worked examples.
use Rattle.std.specs.Prelude.{ℕ, List, [], ◌∷◌, Some, None}
use Rattle.version_cleanup.specs.LiveSessions.{LiveState}

-- a session in a transaction of two levels that began at this number
abbrev pub in_transaction : ℕ → ℕ → LiveState
in_transaction label begin = record { label = label; open_tables = []; transaction = Some (record { levels = 2; begin = begin }) }

-- a session outside a transaction, with these tables open
abbrev pub outside : ℕ → List ℕ → LiveState
outside label tables = record { label = label; open_tables = tables; transaction = None }

-- sessions 2, 5 and 9, of which the latter two are in transactions
abbrev pub three_sessions : List LiveState
three_sessions = outside 2 (4 ∷ 4 ∷ []) ∷ in_transaction 5 30 ∷ in_transaction 9 20 ∷ []

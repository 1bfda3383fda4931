-- Changes of record 7 of table 1, for worked examples.
use Rattle.std.specs.Prelude.{ℕ, ℤ, List, [], ◌∷◌, None}
use Rattle.column_set.specs.declared.changes.Change.{Change}
use Rattle.column_set.specs.declared.changes.Change.TheVariants.{Put, Drop, Hold, Add}
use Rattle.column_set.specs.RecordValues.{RecordFields}
use Rattle.jet_base.specs.Ids.{table_id, column_id}

-- a record of one escrow column, its four bytes little-endian
abbrev pub counting : List ℕ → RecordFields
counting bytes = (2, bytes ∷ []) ∷ []

abbrev pub put : List ℕ → Change
put bytes = Put (table_id 1) (7 ∷ []) None (counting bytes)

abbrev pub drop : Change
drop = Drop (table_id 1) (7 ∷ [])

abbrev pub lock : Change
lock = Hold (table_id 1) (7 ∷ [])

abbrev pub add : ℤ → Change
add amount = Add (table_id 1) (7 ∷ []) (column_id 2) amount

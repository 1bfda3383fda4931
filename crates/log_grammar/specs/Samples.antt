-- Entries that the worked examples speak of.
use Rattle.std.specs.Prelude.{ℕ, List, [], ◌∷◌, Option, codes}
use Rattle.jet_base.specs.Ids.{session_id, table_id}
use Rattle.column_set.specs.declared.changes.Change.TheVariants.{Put}
use Rattle.column_set.specs.RecordValues.{RecordFields}
use Rattle.index_derive.specs.declared.log.Entry.{Entry}
use Rattle.index_derive.specs.declared.log.EntryKind.{EntryKind}
use Rattle.index_derive.specs.declared.log.EntryKind.TheVariants.{Change, Schema}
use Rattle.index_derive.specs.declared.schema_calls.SchemaStep.TheVariants.{CreateTable}

-- an entry of session 1
abbrev pub of_session_1 : EntryKind → Entry
of_session_1 kind = record { session = session_id 1; kind = kind }

-- a number in column 1 and a text in column 128
abbrev pub bob : RecordFields
bob = (1, (2 ∷ 0 ∷ 0 ∷ 0 ∷ []) ∷ []) ∷ (128, codes "bob" ∷ []) ∷ []

-- the record under the bookmark that its key 2 makes, in table 1
abbrev pub put_bob : Option (List ℕ) → Entry
put_bob copied = of_session_1 (Change (Put (table_id 1) (127 ∷ 128 ∷ 0 ∷ 0 ∷ 2 ∷ []) copied bob))

-- table 1 under a name
abbrev pub new_table : List ℕ → Entry
new_table name = of_session_1 (Schema (CreateTable (table_id 1) name))

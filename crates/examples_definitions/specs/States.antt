-- Tables, changes and states that the worked examples speak of.
use Rattle.std.specs.Prelude.{ℕ, ◌∷◌, List, [], map, true, false, Option, Some, None, codes}
use Rattle.jet_base.specs.Ids.{table_id, column_id, index_id}
use Rattle.jet_base.specs.declared.words.ColType.{ColType}
use Rattle.jet_base.specs.declared.words.ColType.TheVariants.{Long}
use Rattle.column_set.specs.declared.columns.Column.{Column}
use Rattle.column_set.specs.declared.changes.Change.{Change}
use Rattle.column_set.specs.declared.changes.Change.TheVariants.{Put}
use Rattle.column_set.specs.RecordValues.{RecordFields}
use Rattle.index_derive.specs.declared.log.EntryKind.{EntryKind}
use Rattle.index_derive.specs.declared.rules.IndexRule.{IndexRule}
use Rattle.database_state.specs.Table.{Table, Rows}
use Rattle.database_state.specs.State.{DatabaseState, PastChange, Status, empty_state}
use Rattle.database_state.specs.Step.{entry_by, state_after_all}

-- ---- entries

-- the state that these entries of one session lead to from the empty one
abbrev pub state_of : List EntryKind → DatabaseState
state_of kinds = state_after_all empty_state (map (entry_by 1) kinds)

-- ---- a table of two numbers and a sum

abbrev pub column : ℕ → List ℕ → ColType → Column
column id name kind = record { id = column_id id; name = name; kind = kind; tagged = false; multi = false; not_null = false; escrow = false; version = false; auto = false }

-- a unique index on column 2
abbrev pub unique_rule : IndexRule
unique_rule = record {
  id = index_id 1;
  name = codes "u";
  order = 1;
  segments = record { column = column_id 2; descending = false } ∷ [];
  flags = record { primary = false; unique = true; disallownull = false; ignorenull = false; ignoreanynull = false; ignorefirstnull = false; sortnullshigh = false; crossproduct = false; disallowtruncation = false; tuples = false };
  conditions = [];
  key_most = 255;
}

-- columns 1 and 2 are numbers, 3 is a sum
abbrev pub sample_table : Rows → Table
sample_table rows = record {
  id = 1;
  name = codes "t";
  columns = column 1 (codes "a") Long ∷ column 2 (codes "b") Long ∷ record (column 3 (codes "c") Long) { escrow = true } ∷ [];
  indexes = unique_rule ∷ [];
  greatest = record { fixed = 3; variable = 127; tagged = 255 };
  rows = rows;
}

abbrev long : ℕ → List ℕ
long n = n ∷ 0 ∷ 0 ∷ 0 ∷ []

-- a record of this table
abbrev pub fields : ℕ → ℕ → ℕ → RecordFields
fields a b c = (1, long a ∷ []) ∷ (2, long b ∷ []) ∷ (3, long c ∷ []) ∷ []

-- the hidden key of the record that entry n put
abbrev pub hidden_key : ℕ → List ℕ
hidden_key n = 0 ∷ 0 ∷ 0 ∷ 0 ∷ 0 ∷ 0 ∷ 0 ∷ n ∷ []

abbrev pub put : ℕ → RecordFields → Change
put n values = Put (table_id 1) (hidden_key n) None values

-- ---- states of this table

-- session 1 alone, in a transaction that entry 9 began
abbrev pub in_transaction : Rows → List PastChange → DatabaseState
in_transaction rows past = record {
  number = 20;
  greatest_table = 1;
  tables = sample_table rows ∷ [];
  sessions = record { label = 1; open_tables = []; transaction = Some (record { levels = 1; begin = 9; snapshot = sample_table rows ∷ [] }) } ∷ [];
  past = past;
}

-- a change by session 1
abbrev pub past_change : ℕ → Change → Option RecordFields → Option RecordFields → Status → PastChange
past_change number change before after status = record { number = number; session = 1; level = 1; change = change; before = before; after = after; status = status }

-- The limits within which lawful entries keep the sessions, the past and the catalog of a database state, and which an image is
-- held to.
use Rattle.std.specs.Prelude.{◌≡◌, ℕ, ◌==◌, ◌<◌, ◌≤◌, Bool, true, false, not, ◌&&◌, ◌||◌, nat_le, length, List, IfSome, is_some, bytes_eq, if◌then◌else◌}
use Rattle.std.specs.List.{AllByRecursion, list_all}
use Rattle.jet_base.specs.declared.words.ColType.{ColType}
use Rattle.column_set.specs.declared.columns.Column.{Column}
use Rattle.index_derive.specs.declared.rules.IndexRule.{IndexRule}
use Rattle.index_derive.specs.Entries.{is_legal}
use Rattle.database_state.specs.Lawful.{is_name}
use Rattle.database_state.specs.SchemaChanges.{has_column, is_long_column, is_type_long, rule_columns}
use Rattle.jet_base.specs.TypeKinds.{is_long_type, is_variable_type}
use Rattle.database_state.specs.State.{DatabaseState, LiveSession, PastChange, Transaction}
use Rattle.database_state.specs.Table.{Table, schema_of, table_with_id}
use Rattle.laws_engine.specs.PlainColumns.{HasPlainIndexes}
use Rattle.laws_versions.specs.History.{EachTwo, LabelsRise}

-- ---- sessions

-- labels of sessions are 1 to 99
abbrev pub IsLabel : ℕ → Type 0
IsLabel label = (1 ≤ label) × (label ≤ 99)

-- transactions have one to seven levels, and each change stands at one of them
abbrev pub IsLevel : ℕ → Type 0
IsLevel level = (1 ≤ level) × (level ≤ 7)

-- open tables stand by ids that do not fall
abbrev pub DoNotFall : ℕ → ℕ → Type 0
DoNotFall earlier later = earlier ≤ later

-- A transaction has one to seven levels, and began with an entry up to the number.
abbrev pub IsSoundTransaction : ℕ → Transaction → Type 0
IsSoundTransaction number transaction = IsLevel transaction.levels × (1 ≤ transaction.begin) × (transaction.begin ≤ number)

-- A session has a label, and open tables by ids that do not fall, each of which is there.
pub record IsSoundSession (number : ℕ) (tables : List Table) (session : LiveSession) : Type 0 where
  pub label : IsLabel session.label
  pub in_order : EachTwo DoNotFall session.open_tables
  pub there : AllByRecursion (λ id. is_some (table_with_id tables id) ≡ true) session.open_tables
  pub transaction : IfSome session.transaction (IsSoundTransaction number)

-- a past change is of an entry from the first on, and of a session with a label
abbrev pub IsOfEntry : PastChange → Type 0
IsOfEntry item = (1 ≤ item.number) × IsLabel item.session

-- There are no more than 64 sessions, by rising label. Past changes are of entries of labels, and stand at levels.
pub record HasSoundSessions (state : DatabaseState) : Type 0 where
  pub labels : EachTwo LabelsRise state.sessions
  pub most : length state.sessions ≤ 64
  pub each : AllByRecursion (IsSoundSession state.number state.tables) state.sessions
  pub levels : AllByRecursion (λ item. IsLevel item.level) state.past
  pub entries : AllByRecursion IsOfEntry state.past

-- ---- the catalog

-- whether a number is one of its kind: fixed columns have 1 to 127, variable ones 128 to 255, tagged and long ones 256 to 511
abbrev pub is_number_of_kind : ColType → Bool → ℕ → Bool
is_number_of_kind type tagged id =
    if tagged || is_long_type type then nat_le 256 id && nat_le id 511
    else if is_variable_type type then nat_le 128 id && nat_le id 255
    else nat_le 1 id && nat_le id 127

-- A column has a name of 1 to 64 bytes and a number of its kind. A long one is tagged, and so is one with many values. A sum is a
-- Long with one value that is not tagged.
abbrev pub is_sound_column : Column → Bool
is_sound_column column =
    is_name column.name && is_number_of_kind column.kind column.tagged column.id.0
    && (column.tagged || not (is_long_column column))
    && (not column.multi || column.tagged)
    && (not column.escrow || (is_type_long column.kind && (not column.tagged && not column.multi)))

-- An index has a name of 1 to 64 bytes and a number from 1, is over columns of its table, and is legal.
abbrev pub is_sound_index : Table → IndexRule → Bool
is_sound_index table rule = is_name rule.name && nat_le 1 rule.id.0 && list_all (has_column table) (rule_columns rule) && is_legal rule (schema_of table)

-- no two columns of a table have one name
abbrev pub ColumnNamesDiffer : Column → Column → Type 0
ColumnNamesDiffer one other = bytes_eq one.name other.name ≡ false

-- Names and numbers of indexes differ, their orders of making rise, and one of them at most is primary.
pub record IndexesDiffer (earlier later : IndexRule) : Type 0 where
  pub names : bytes_eq earlier.name later.name ≡ false
  pub numbers : (earlier.id.0 == later.id.0) ≡ false
  pub orders : earlier.order < later.order
  pub primary : later.flags.primary ≡ true → earlier.flags.primary ≡ false

-- A table has a name of 1 to 64 bytes, columns of different names, and no more than 64 indexes, whose orders of making fit 32 bits.
pub record IsSoundTable (table : Table) : Type 0 where
  pub name : is_name table.name ≡ true
  pub columns : AllByRecursion (λ column. is_sound_column column ≡ true) table.columns
  pub column_names : EachTwo ColumnNamesDiffer table.columns
  pub indexes : AllByRecursion (λ rule. is_sound_index table rule ≡ true) table.indexes
  pub indexes_differ : EachTwo IndexesDiffer table.indexes
  pub most : length table.indexes ≤ 64
  pub orders : AllByRecursion (λ rule. rule.order ≤ 4294967295) table.indexes

-- no two tables have one name
abbrev pub TableNamesDiffer : Table → Table → Type 0
TableNamesDiffer one other = bytes_eq one.name other.name ≡ false

-- There are no more than 64 tables, of different names, and a table's id fits 32 bits.
pub record HasSoundCatalog (state : DatabaseState) : Type 0 where
  pub indexes : HasPlainIndexes state
  pub most : length state.tables ≤ 64
  pub greatest : state.greatest_table ≤ 4294967295
  pub names : EachTwo TableNamesDiffer state.tables
  pub tables : (id : ℕ) → IfSome (table_with_id state.tables id) IsSoundTable

-- ---- the whole

-- What an image is held to beside its history and its records.
pub record IsSoundState (state : DatabaseState) : Type 0 where
  pub sessions : HasSoundSessions state
  pub catalog : HasSoundCatalog state

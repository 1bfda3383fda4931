-- Entries and files that the worked examples speak of.
use Rattle.std.specs.Prelude.{ℕ, List, [], ◌∷◌, ◌++◌, false, None, codes, replicate}
use Rattle.jet_base.specs.Ids.{column_id, table_id}
use Rattle.jet_base.specs.declared.words.ColType.TheVariants.{Long}
use Rattle.column_set.specs.declared.columns.Column.{Column}
use Rattle.column_set.specs.declared.changes.Change.TheVariants.{Put}
use Rattle.index_derive.specs.declared.log.Entry.{Entry}
use Rattle.index_derive.specs.declared.log.EntryKind.TheVariants as entry
use Rattle.index_derive.specs.declared.schema_calls.SchemaStep.TheVariants as step
use Rattle.database_state.specs.State.{DatabaseState}
use Rattle.database_state.specs.Step.{entry_by}
use Rattle.database_state.specs.Table.{Rows, Table}
use Rattle.page_image.specs.Page.{PageContents}

-- ---- entries

abbrev pub number_column : Column
number_column = record { id = column_id 1; name = codes "a"; kind = Long; tagged = false; multi = false; not_null = false; escrow = false; version = false; auto = false }

-- session 1 enters, and makes a table with a column
abbrev pub table_entries : List Entry
table_entries = entry_by 1 entry.Enter ∷ entry_by 1 (entry.Schema (step.CreateTable (table_id 1) (codes "t"))) ∷ entry_by 1 (entry.Schema (step.AddColumn (table_id 1) number_column)) ∷ []

-- it begins a transaction and puts a record, under the number of the entry
abbrev pub put_entries : List Entry
put_entries = entry_by 1 entry.Begin ∷ entry_by 1 (entry.Change (Put (table_id 1) (0 ∷ 0 ∷ 0 ∷ 0 ∷ 0 ∷ 0 ∷ 0 ∷ 5 ∷ []) None ((1, (7 ∷ 0 ∷ 0 ∷ 0 ∷ []) ∷ []) ∷ []))) ∷ []

-- it commits
abbrev pub commit_entries : List Entry
commit_entries = entry_by 1 entry.Commit ∷ []

-- the bytes that a Commit begins with
abbrev pub front_of_a_commit : List ℕ
front_of_a_commit = 5 ∷ 0 ∷ 0 ∷ 0 ∷ 14 ∷ 1 ∷ []

-- ---- states

-- no session, and the table alone, after so many entries
abbrev pub with_rows : ℕ → Rows → DatabaseState
with_rows number rows = record {
  number = number;
  greatest_table = 1;
  tables = record { id = 1; name = codes "t"; columns = number_column ∷ []; indexes = []; greatest = record { fixed = 1; variable = 127; tagged = 255 }; rows = rows } ∷ [];
  sessions = [];
  past = [];
}

abbrev pub the_record : Rows
the_record = (0 ∷ 0 ∷ 0 ∷ 0 ∷ 0 ∷ 0 ∷ 0 ∷ 5 ∷ [], (1, (7 ∷ 0 ∷ 0 ∷ 0 ∷ []) ∷ []) ∷ []) ∷ []

-- ---- files

-- the catalog of a database without a table: a leaf with one node, which says that no table was made
abbrev pub catalog_page : PageContents
catalog_page = record { number = 0; kind = 1; nodes = record { key = replicate 7 0; extent = 4; «data» = replicate 4 0 } ∷ [] }

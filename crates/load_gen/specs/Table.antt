-- The table of the generated script, with its columns and indexes, and the calls that make it.
use Rattle.std.specs.Prelude.{ℕ, ◌+◌, ◌/◌, ◌%◌, true, false, nat_lt, if◌then◌else◌, List, [], ◌∷◌, ◌++◌, codes, map}
use Rattle.std.specs.List.{range_with_len}
use Rattle.jet_base.specs.Ids.{cursor_id}
use Rattle.jet_base.specs.declared.ids.CursorId.{CursorId}
use Rattle.jet_base.specs.declared.words.ColType.{ColType}
use Rattle.jet_base.specs.declared.words.ColType.TheVariants as kind
use Rattle.jet_base.specs.declared.words.ColumnFlags.{ColumnFlags}
use Rattle.index_derive.specs.declared.rules.IndexFlags.{IndexFlags}
use Rattle.index_derive.specs.declared.schema_calls.NamedCondition.{NamedCondition}
use Rattle.session_local.specs.declared.request.Request.{Request}
use Rattle.session_local.specs.declared.request.Request.TheVariants as call
use Rattle.load_gen.specs.declared.table.LoadIndex.{LoadIndex}
use Rattle.load_gen.specs.declared.table.LoadIndex.TheVariants as index

-- the one cursor
abbrev pub cursor : CursorId
cursor = cursor_id 1

abbrev pub table_name : List ℕ
table_name = codes "load"

-- the last decimal digit of a number
abbrev pub last_digit : ℕ → ℕ
last_digit n = 48 + n % 10

-- the name of a numbered column, below 100: `a` and its number
abbrev pub numbered_name : ℕ → List ℕ
numbered_name k = codes "a" ++ (if nat_lt k 10 then last_digit k ∷ [] else last_digit (k / 10) ∷ last_digit k ∷ [])

-- ---- columns

abbrev pub plain_column : ColumnFlags
plain_column = record { not_null = false; tagged = false; multi = false; escrow = false; version = false; auto = false }

abbrev pub add_column : List ℕ → ColType → ColumnFlags → Request
add_column name type flags = call.AddColumn table_name name type flags

abbrev pub add_numbered_column : ℕ → Request
add_numbered_column k = add_column (numbered_name k) kind.Long plain_column

-- `a7` to `a40`
unfoldable pub add_numbered_columns : List Request
add_numbered_columns = map add_numbered_column (range_with_len 7 34)

-- the calls that make the 40 columns
unfoldable pub add_columns : List Request
add_columns =
    add_column (codes "id") kind.Long plain_column
    ∷ add_column (codes "name") kind.Text plain_column
    ∷ add_column (codes "mail") kind.Text (record plain_column { tagged = true; multi = true })
    ∷ add_column (codes "grp") kind.Long plain_column
    ∷ add_column (codes "note") kind.LongText plain_column
    ∷ add_column (codes "hits") kind.Long (record plain_column { escrow = true })
    ∷ add_numbered_columns

-- ---- indexes

-- the indexes, in the order in which they are made and walked
abbrev pub load_indexes : List LoadIndex
load_indexes = index.Primary ∷ index.Name ∷ index.Mail ∷ index.Group ∷ index.Note ∷ index.Conditional ∷ []

abbrev pub index_name : LoadIndex → List ℕ
index_name index.Primary = codes "pk"
index_name index.Name = codes "ix_name"
index_name index.Mail = codes "ix_mail"
index_name index.Group = codes "ix_grp"
index_name index.Note = codes "ix_note"
index_name index.Conditional = codes "ix_cond"

-- the one column of its key, which ascends
abbrev pub index_column : LoadIndex → List ℕ
index_column index.Primary = codes "id"
index_column index.Name = codes "name"
index_column index.Mail = codes "mail"
index_column index.Group = codes "grp"
index_column index.Note = codes "note"
index_column index.Conditional = codes "a7"

abbrev pub plain_index : IndexFlags
plain_index = record {
  primary = false;
  unique = false;
  disallownull = false;
  ignorenull = false;
  ignoreanynull = false;
  ignorefirstnull = false;
  sortnullshigh = false;
  crossproduct = false;
  disallowtruncation = false;
  tuples = false;
}

abbrev pub index_flags : LoadIndex → IndexFlags
index_flags index.Primary = record plain_index { primary = true }
index_flags index.Name = record plain_index { unique = true }
index_flags index.Mail = plain_index
index_flags index.Group = record plain_index { ignoreanynull = true }
index_flags index.Note = record plain_index { tuples = true }
index_flags index.Conditional = plain_index

abbrev pub index_conditions : LoadIndex → List NamedCondition
index_conditions index.Conditional = record { column = codes "grp"; must_be_null = false } ∷ []
index_conditions _ = []

abbrev pub create_index : LoadIndex → Request
create_index made =
    call.CreateIndex table_name (index_name made) (index_flags made) 255
    (record { column = index_column made; descending = false } ∷ []) (index_conditions made)

-- ---- what stands before the records

-- The calls that begin the session, make the table with its columns and indexes, and open it. Each makes one entry.
unfoldable pub opening_calls : List Request
opening_calls =
    call.BeginSession ∷ call.CreateTable table_name ∷ add_columns ++ (map create_index load_indexes ++ call.OpenTable cursor table_name ∷ [])

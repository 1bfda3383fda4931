-- A script of one session that makes a table, puts two records and walks over them, and its calls.
use Rattle.std.specs.Prelude.{ℕ, pos, negsuc, true, false, List, [], ◌∷◌, ◌++◌, codes}
use Rattle.jet_base.specs.Ids.{cursor_id}
use Rattle.jet_base.specs.declared.words.ColType.TheVariants as kind
use Rattle.jet_base.specs.declared.words.ColumnFlags.{ColumnFlags}
use Rattle.jet_base.specs.declared.words.Given.TheVariants as given
use Rattle.jet_base.specs.declared.words.Prepare.TheVariants as prepare
use Rattle.jet_base.specs.declared.words.Way.TheVariants as way
use Rattle.index_derive.specs.declared.rules.IndexFlags.{IndexFlags}
use Rattle.session_local.specs.declared.request.Request.{Request}
use Rattle.session_local.specs.declared.request.Request.TheVariants as call

-- the lines up to the commit
abbrev pub filling_lines : List (List ℕ)
filling_lines =
    codes "1 BeginSession" ∷
    codes "1 CreateTable T" ∷
    codes "1 AddColumn T id Long" ∷
    codes "1 AddColumn T name Text" ∷
    codes "1 CreateIndex T pk primary +id" ∷
    codes "1 OpenTable 1 T" ∷
    codes "1 BeginTransaction" ∷
    codes "1 PrepareUpdate 1 insert" ∷
    codes "1 SetColumn 1 id 1 n:2" ∷
    codes "1 SetColumn 1 name 1 t:bob" ∷
    codes "1 Update 1" ∷
    codes "1 PrepareUpdate 1 insert" ∷
    codes "1 SetColumn 1 id 1 n:-3" ∷
    codes "1 Update 1" ∷
    codes "1 CommitTransaction" ∷ []

-- the lines behind the first move
abbrev pub walking_lines : List (List ℕ)
walking_lines =
    codes "1 RetrieveColumn 1 id 1" ∷
    codes "1 Move 1 Next" ∷
    codes "1 RetrieveColumn 1 name 1" ∷
    codes "1 Move 1 Next" ∷
    codes "1 Move 1 Previous" ∷
    codes "1 RetrieveKey 1" ∷ []

-- the script; its line 16 is the first move
abbrev pub ordinary_lines : List (List ℕ)
ordinary_lines = filling_lines ++ codes "1 Move 1 First" ∷ walking_lines

-- a column that is nothing special
abbrev pub plain_column : ColumnFlags
plain_column = record { not_null = false; tagged = false; multi = false; escrow = false; version = false; auto = false }

-- a column that sums are added to
abbrev pub sum_column : ColumnFlags
sum_column = record plain_column { escrow = true }

-- an index that is primary and nothing else
abbrev pub only_primary : IndexFlags
only_primary = record {
  primary = true;
  unique = false;
  disallownull = false;
  ignorenull = false;
  ignoreanynull = false;
  ignorefirstnull = false;
  sortnullshigh = false;
  crossproduct = false;
  disallowtruncation = false;
  tuples = false;
}

-- the calls of the script, each with the label of its session
abbrev pub ordinary_calls : List (ℕ × Request)
ordinary_calls =
    (1, call.BeginSession) ∷
    (1, call.CreateTable (codes "T")) ∷
    (1, call.AddColumn (codes "T") (codes "id") kind.Long plain_column) ∷
    (1, call.AddColumn (codes "T") (codes "name") kind.Text plain_column) ∷
    (1, call.CreateIndex (codes "T") (codes "pk") only_primary 255 (record { column = codes "id"; descending = false } ∷ []) []) ∷
    (1, call.OpenTable (cursor_id 1) (codes "T")) ∷
    (1, call.BeginTransaction) ∷
    (1, call.PrepareUpdate (cursor_id 1) prepare.Insert) ∷
    (1, call.SetColumn (cursor_id 1) (codes "id") 1 (given.Number (pos 2))) ∷
    (1, call.SetColumn (cursor_id 1) (codes "name") 1 (given.Bytes (codes "bob"))) ∷
    (1, call.Update (cursor_id 1)) ∷
    (1, call.PrepareUpdate (cursor_id 1) prepare.Insert) ∷
    (1, call.SetColumn (cursor_id 1) (codes "id") 1 (given.Number (negsuc 2))) ∷
    (1, call.Update (cursor_id 1)) ∷
    (1, call.CommitTransaction false) ∷
    (1, call.Move (cursor_id 1) way.First) ∷
    (1, call.RetrieveColumn (cursor_id 1) (codes "id") 1 false 255) ∷
    (1, call.Move (cursor_id 1) way.Next) ∷
    (1, call.RetrieveColumn (cursor_id 1) (codes "name") 1 false 255) ∷
    (1, call.Move (cursor_id 1) way.Next) ∷
    (1, call.Move (cursor_id 1) way.Previous) ∷
    (1, call.RetrieveKey (cursor_id 1)) ∷ []

-- Runs as tables: each line of a script beside the reply that it is to have.
use Rattle.std.specs.Prelude.{ℕ, Bool, true, false, ◌&&◌, ◌||◌, List, [], ◌∷◌, ◌++◌, codes, map, bytes_eq, Ok, Err}
use Rattle.index_derive.specs.declared.log.Entry.{Entry}
use Rattle.database_state.specs.State.{DatabaseState, empty_state}
use Rattle.database_state.specs.Step.{state_after}
use Rattle.database_state.specs.Lawful.{is_lawful}
use Rattle.session_local.specs.Run.{log_from, run_from, all_served}
use Rattle.script_text.specs.Grammar.{ScriptResult, script_lines}
use Rattle.jet_base.specs.JetName.{jet_name}
use Rattle.session_local.specs.Answer.{Answered, Row}
use Rattle.script_transcript.specs.TranscriptLine.{shown_text}
use Rattle.script_text.specs.ScriptRun.{script_rows, text_of}

-- a line and its reply: the name of the reply, with the value behind it where one is to be told
abbrev pub RunTable : Type 0
RunTable = List (List ℕ × List ℕ)

abbrev pub line_of : List ℕ × List ℕ → List ℕ
line_of pair = pair.0

abbrev pub script_of : RunTable → List ℕ
script_of table = text_of (map line_of table)

-- whether an answer is the reply of the table, which may leave its value out
abbrev pub is_answer : Answered → List ℕ → Bool
is_answer answered reply =
    bytes_eq reply (jet_name answered.jet) || bytes_eq reply (jet_name answered.jet ++ shown_text answered.jet answered.shown)

abbrev pub are_answers : List Row → RunTable → Bool
are_answers [] [] = true
are_answers (row ∷ rows) (pair ∷ table) = is_answer row.answered pair.1 && are_answers rows table
are_answers _ _ = false

-- whether each entry of a log is lawful where it comes
abbrev pub are_lawful : DatabaseState → List Entry → Bool
are_lawful state [] = true
are_lawful state (made ∷ entries) = is_lawful state made && are_lawful (state_after state made) entries

abbrev pub log_of_lines : ℕ → ScriptResult → List Entry
log_of_lines limit (Ok lines) = log_from limit (run_from empty_state) (all_served lines)
log_of_lines limit (Err number) = []

-- whether the run of the table's lines gives exactly the table's replies, one for each line, and makes lawful entries alone
abbrev pub runs_as : ℕ → RunTable → Bool
runs_as limit table =
    are_answers (script_rows limit (script_of table)) table && are_lawful empty_state (log_of_lines limit (script_lines (script_of table)))

-- ---- fronts of runs that several tables begin with

-- a session and its table T: a number that is the primary key, a text, and a text with several values
abbrev pub small_table : RunTable
small_table =
    (codes "1 BeginSession", codes "JET_errSuccess")
    ∷ (codes "1 CreateTable T", codes "JET_errSuccess")
    ∷ (codes "1 AddColumn T id Long", codes "JET_errSuccess")
    ∷ (codes "1 AddColumn T a Text", codes "JET_errSuccess")
    ∷ (codes "1 AddColumn T m Text tagged multi", codes "JET_errSuccess")
    ∷ (codes "1 CreateIndex T pk primary +id", codes "JET_errSuccess")
    ∷ []

-- the same table, opened by two sessions
abbrev pub small_table_of_two : RunTable
small_table_of_two =
    small_table
    ++ (codes "2 BeginSession", codes "JET_errSuccess")
    ∷ (codes "1 OpenTable 1 T", codes "JET_errSuccess")
    ∷ (codes "2 OpenTable 1 T", codes "JET_errSuccess")
    ∷ []

-- its third column has a b in both cases and an a, in an index of its own that is being walked
abbrev pub letters_of_both_cases : RunTable
letters_of_both_cases =
    small_table
    ++ (codes "1 CreateIndex T im +m", codes "JET_errSuccess")
    ∷ (codes "1 OpenTable 1 T", codes "JET_errSuccess")
    ∷ (codes "1 PrepareUpdate 1 insert", codes "JET_errSuccess")
    ∷ (codes "1 SetColumn 1 id 1 n:1", codes "JET_errSuccess")
    ∷ (codes "1 SetColumn 1 m 0 t:b", codes "JET_errSuccess")
    ∷ (codes "1 SetColumn 1 m 0 t:B", codes "JET_errSuccess")
    ∷ (codes "1 SetColumn 1 m 0 t:a", codes "JET_errSuccess")
    ∷ (codes "1 Update 1", codes "JET_errSuccess")
    ∷ (codes "1 SetCurrentIndex 1 im", codes "JET_errSuccess")
    ∷ (codes "1 RetrieveKey 1", codes "JET_errSuccess x:7f410000000000000001")
    ∷ (codes "1 Move 1 Next", codes "JET_errSuccess")
    ∷ (codes "1 RetrieveKey 1", codes "JET_errSuccess x:7f420000000000000001")
    ∷ (codes "1 Move 1 Next", codes "JET_errNoCurrentRecord")
    ∷ []

-- a fourth column has several values too, and two indexes are over both; the first is chosen
abbrev pub three_letters_and_two : RunTable
three_letters_and_two =
    small_table
    ++ (codes "1 AddColumn T k Text tagged multi", codes "JET_errSuccess")
    ∷ (codes "1 CreateIndex T i3 +m +k", codes "JET_errSuccess")
    ∷ (codes "1 CreateIndex T i6 crossproduct +m +k", codes "JET_errSuccess")
    ∷ (codes "1 OpenTable 1 T", codes "JET_errSuccess")
    ∷ (codes "1 PrepareUpdate 1 insert", codes "JET_errSuccess")
    ∷ (codes "1 SetColumn 1 id 1 n:1", codes "JET_errSuccess")
    ∷ (codes "1 SetColumn 1 m 0 t:a", codes "JET_errSuccess")
    ∷ (codes "1 SetColumn 1 m 0 t:b", codes "JET_errSuccess")
    ∷ (codes "1 SetColumn 1 m 0 t:c", codes "JET_errSuccess")
    ∷ (codes "1 SetColumn 1 k 0 t:x", codes "JET_errSuccess")
    ∷ (codes "1 SetColumn 1 k 0 t:y", codes "JET_errSuccess")
    ∷ (codes "1 Update 1", codes "JET_errSuccess")
    ∷ (codes "1 SetCurrentIndex 1 i3", codes "JET_errSuccess")
    ∷ []

-- in a transaction a record is deleted, and one with its unique key put in its place
abbrev pub key_of_a_deleted_record : RunTable
key_of_a_deleted_record =
    small_table
    ++ (codes "1 CreateIndex T ia unique +a", codes "JET_errSuccess")
    ∷ (codes "1 OpenTable 1 T", codes "JET_errSuccess")
    ∷ (codes "1 PrepareUpdate 1 insert", codes "JET_errSuccess")
    ∷ (codes "1 SetColumn 1 id 1 n:1", codes "JET_errSuccess")
    ∷ (codes "1 SetColumn 1 a 1 t:k", codes "JET_errSuccess")
    ∷ (codes "1 Update 1", codes "JET_errSuccess")
    ∷ (codes "1 BeginTransaction", codes "JET_errSuccess")
    ∷ (codes "1 Move 1 First", codes "JET_errSuccess")
    ∷ (codes "1 Delete 1", codes "JET_errSuccess")
    ∷ (codes "1 PrepareUpdate 1 insert", codes "JET_errSuccess")
    ∷ (codes "1 SetColumn 1 id 1 n:1", codes "JET_errSuccess")
    ∷ (codes "1 SetColumn 1 a 1 t:k", codes "JET_errSuccess")
    ∷ (codes "1 Update 1", codes "JET_errSuccess")
    ∷ []

-- a table without an index, with one record that is found
abbrev pub record_in_hidden_order : RunTable
record_in_hidden_order =
    (codes "1 BeginSession", codes "JET_errSuccess")
    ∷ (codes "1 CreateTable H", codes "JET_errSuccess")
    ∷ (codes "1 AddColumn H x Long", codes "JET_errSuccess")
    ∷ (codes "1 OpenTable 1 H", codes "JET_errSuccess")
    ∷ (codes "1 PrepareUpdate 1 insert", codes "JET_errSuccess")
    ∷ (codes "1 Update 1", codes "JET_errSuccess")
    ∷ (codes "1 Move 1 First", codes "JET_errSuccess")
    ∷ []

-- a session puts a record, and another finds it
abbrev pub lines_of_two_sessions : List ℕ
lines_of_two_sessions = text_of (
    codes "1 BeginSession"
    ∷ codes "1 CreateTable T"
    ∷ codes "1 AddColumn T id Long"
    ∷ codes "1 CreateIndex T pk primary +id"
    ∷ codes "1 OpenTable 1 T"
    ∷ codes "1 PrepareUpdate 1 insert"
    ∷ codes "1 SetColumn 1 id 1 n:1"
    ∷ codes "1 Update 1"
    ∷ codes "2 BeginSession"
    ∷ codes "2 OpenTable 1 T"
    ∷ codes "2 Move 1 First"
    ∷ [])

abbrev pub transcript_of_two_sessions : List ℕ
transcript_of_two_sessions = text_of (
    codes "0 1 BeginSession JET_errSuccess"
    ∷ codes "1 1 CreateTable JET_errSuccess"
    ∷ codes "2 1 AddColumn JET_errSuccess"
    ∷ codes "3 1 CreateIndex JET_errSuccess"
    ∷ codes "4 1 OpenTable JET_errSuccess"
    ∷ codes "5 1 PrepareUpdate JET_errSuccess"
    ∷ codes "5 1 SetColumn JET_errSuccess"
    ∷ codes "5 1 Update JET_errSuccess x:7f80000001"
    ∷ codes "8 2 BeginSession JET_errSuccess"
    ∷ codes "9 2 OpenTable JET_errSuccess"
    ∷ codes "10 2 Move JET_errSuccess"
    ∷ [])

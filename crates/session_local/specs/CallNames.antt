-- The names of the calls, as scripts and transcripts write them.
use Rattle.std.specs.Prelude.{ℕ, List, codes}

abbrev pub begin_session : List ℕ
begin_session = codes "BeginSession"

abbrev pub end_session : List ℕ
end_session = codes "EndSession"

abbrev pub begin_transaction : List ℕ
begin_transaction = codes "BeginTransaction"

abbrev pub commit_transaction : List ℕ
commit_transaction = codes "CommitTransaction"

abbrev pub rollback : List ℕ
rollback = codes "Rollback"

abbrev pub create_table : List ℕ
create_table = codes "CreateTable"

abbrev pub delete_table : List ℕ
delete_table = codes "DeleteTable"

abbrev pub add_column : List ℕ
add_column = codes "AddColumn"

abbrev pub delete_column : List ℕ
delete_column = codes "DeleteColumn"

abbrev pub create_index : List ℕ
create_index = codes "CreateIndex"

abbrev pub delete_index : List ℕ
delete_index = codes "DeleteIndex"

abbrev pub open_table : List ℕ
open_table = codes "OpenTable"

abbrev pub close_table : List ℕ
close_table = codes "CloseTable"

abbrev pub set_current_index : List ℕ
set_current_index = codes "SetCurrentIndex"

abbrev pub make_key : List ℕ
make_key = codes "MakeKey"

abbrev pub move : List ℕ
move = codes "Move"

abbrev pub seek : List ℕ
seek = codes "Seek"

abbrev pub set_index_range : List ℕ
set_index_range = codes "SetIndexRange"

abbrev pub index_record_count : List ℕ
index_record_count = codes "IndexRecordCount"

abbrev pub retrieve_key : List ℕ
retrieve_key = codes "RetrieveKey"

abbrev pub get_bookmark : List ℕ
get_bookmark = codes "GetBookmark"

abbrev pub goto_bookmark : List ℕ
goto_bookmark = codes "GotoBookmark"

abbrev pub prepare_update : List ℕ
prepare_update = codes "PrepareUpdate"

abbrev pub set_column : List ℕ
set_column = codes "SetColumn"

abbrev pub retrieve_column : List ℕ
retrieve_column = codes "RetrieveColumn"

abbrev pub update : List ℕ
update = codes "Update"

abbrev pub delete : List ℕ
delete = codes "Delete"

abbrev pub get_lock : List ℕ
get_lock = codes "GetLock"

abbrev pub escrow_update : List ℕ
escrow_update = codes "EscrowUpdate"

abbrev pub temp_open : List ℕ
temp_open = codes "TempOpen"

abbrev pub temp_put : List ℕ
temp_put = codes "TempPut"

abbrev pub temp_move : List ℕ
temp_move = codes "TempMove"

abbrev pub temp_read : List ℕ
temp_read = codes "TempRead"

abbrev pub temp_count : List ℕ
temp_count = codes "TempCount"

abbrev pub temp_close : List ℕ
temp_close = codes "TempClose"

abbrev pub intersect_indexes : List ℕ
intersect_indexes = codes "IntersectIndexes"

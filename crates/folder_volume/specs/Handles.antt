-- The table of the open files of a volume.
use Rattle.std.specs.Prelude.{◌≡◌, Option, None, IsSome, Result, OnOk}
use Rattle.jet_volume.specs.declared.files.File.{File}
use Rattle.jet_volume.specs.declared.files.File.TheVariants.{Database, CheckpointA, CheckpointB, Log}
use Rattle.folder_volume.specs.declared.handles.Handles.{Handles}

-- no file is open
abbrev pub no_handles : {H : Type 0} → Handles H
no_handles = record { database = None; checkpoint_a = None; checkpoint_b = None; log = None }

-- what is open of a file
abbrev pub handle_of : {H : Type 0} → File → Handles H → Option H
handle_of Database handles = handles.database
handle_of CheckpointA handles = handles.checkpoint_a
handle_of CheckpointB handles = handles.checkpoint_b
handle_of Log handles = handles.log

-- the table with this for one file, and the others as they are
abbrev pub with_handle : {H : Type 0} → File → Option H → Handles H → Handles H
with_handle Database handle handles = record handles { database = handle }
with_handle CheckpointA handle handles = record handles { checkpoint_a = handle }
with_handle CheckpointB handle handles = record handles { checkpoint_b = handle }
with_handle Log handle handles = record handles { log = handle }

-- the file was not opened yet
abbrev pub IsNotOpen : {H : Type 0} → File → Handles H → Type 0
IsNotOpen file handles = handle_of file handles ≡ None

-- A call of a file that succeeded leaves it open, and none closes a file.
pub record KeepsOpen {T E H : Type 0} (file : File) (result : Result T E) (old new : Handles H) : Type 0 where
  pub used : OnOk result (IsSome (handle_of file new))
  pub none_closed : (other : File) → IsNotOpen other new → IsNotOpen other old

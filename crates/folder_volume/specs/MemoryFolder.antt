-- What a folder in memory shows, and what each of its calls does.
use Rattle.std.specs.Prelude.{ℕ, ◌+◌, ◌-◌, ◌^◌, min, List, ◌∷◌, reverse, Option, Some, None, if◌then◌else◌, IsTrue, string_bytes}
use Rattle.std.specs.declared.io.ErrorKind.{ErrorKind}
use Rattle.std.specs.declared.io.ErrorKind.TheVariants.{Other}
use Rattle.jet_io.specs.declared.schedule.Schedule.{Schedule}
use Rattle.jet_io.specs.Schedule.{fails_next}
use Rattle.folder_volume.specs.Files.{FileState, after_listing, found, bytes_of, is_saved, is_named, with_change, missing}
use Rattle.folder_volume.specs.declared.memory_folder.MemFolder.{MemFolder}
use Rattle.folder_volume.specs.declared.memory_folder.MemHandle.{MemHandle}

-- Its files as they were after each change, the newest first; the most bytes that a read and a write move; and how often
-- the folder was synced.
pub record FolderState : Type 0 where
  pub files : List FileState
  pub most_read : ℕ
  pub most_written : ℕ
  pub syncs : ℕ

abbrev pub state_of : MemFolder → FolderState
state_of folder = record { files = reverse folder.files.items; most_read = folder.most_read; most_written = folder.most_written; syncs = folder.syncs }

-- which of its calls fail
abbrev pub schedule_of : MemFolder → Schedule
schedule_of folder = folder.schedule

-- how often a call of it has failed, a short write too
abbrev pub failures_of : MemFolder → ℕ
failures_of folder = folder.failures

-- the path that a file was opened at
abbrev pub path_of_handle : MemHandle → List ℕ
path_of_handle handle = string_bytes handle.path

-- the newest file at a path
abbrev pub file_at : FolderState → List ℕ → Option FileState
file_at state = found state.files

-- the folder with other files, with one more, with one changed
abbrev pub with_files : List FileState → FolderState → FolderState
with_files files state = record state { files = files }

abbrev pub with_file : FileState → FolderState → FolderState
with_file file state = with_files (file ∷ state.files) state

abbrev pub with_changed : (FileState → FileState) → List ℕ → FolderState → FolderState
with_changed change path state = with_files (with_change change path state.files) state

-- it is synced for the file at a path; the count stays at 2^64 - 1
abbrev pub with_listed : List ℕ → FolderState → FolderState
with_listed path state = record (with_changed after_listing path state) { syncs = min (state.syncs + 1) (2 ^ 64 - 1) }

-- why a call fails whatever the memory: it is scheduled to, or there is no file at its path
abbrev pub scheduled : MemFolder → Option ErrorKind
scheduled folder = if fails_next folder.schedule then Some Other else None

abbrev pub refused : MemFolder → List ℕ → Option ErrorKind
refused folder path = if fails_next folder.schedule then Some Other else missing (file_at (state_of folder) path)

-- what the folder tells of a path
abbrev pub mem_bytes_at : MemFolder → List ℕ → List ℕ
mem_bytes_at folder path = bytes_of (file_at (state_of folder) path)

abbrev pub mem_is_synced : MemFolder → List ℕ → Type 0
mem_is_synced folder path = IsTrue (is_saved (file_at (state_of folder) path))

abbrev pub mem_is_listed : MemFolder → List ℕ → Type 0
mem_is_listed folder path = IsTrue (is_named (file_at (state_of folder) path))

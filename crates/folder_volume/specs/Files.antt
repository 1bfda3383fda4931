-- The files of a folder in memory, at a moment.
use Rattle.std.specs.Prelude.{◌≡◌, ℕ, ◌+◌, ◌-◌, ◌^◌, min, List, [], ◌∷◌, Bool, true, false, Option, Some, None, if◌then◌else◌, Result, MatchResult}
use Rattle.std.specs.Str.{bytes_eq}
use Rattle.std.specs.IoError.{error_kind}
use Rattle.std.specs.declared.io.Error.{Error}
use Rattle.std.specs.declared.io.ErrorKind.{ErrorKind}
use Rattle.std.specs.declared.io.ErrorKind.TheVariants.{NotFound, OutOfMemory}
use Rattle.jet_volume.specs.Crash.{written}

-- a file: its path and bytes, whether it was synced since its last write, whether its folder was since it was made, and how
-- often it was synced
pub record FileState : Type 0 where
  pub path : List ℕ
  pub bytes : List ℕ
  pub is_synced : Bool
  pub is_listed : Bool
  pub syncs : ℕ

-- one that was just made
abbrev pub new_file : List ℕ → FileState
new_file path = record { path = path; bytes = []; is_synced = false; is_listed = false; syncs = 0 }

-- after a write of a piece
abbrev pub after_write : ℕ → List ℕ → FileState → FileState
after_write at piece file = record file { bytes = written at piece file.bytes; is_synced = false }

-- after a sync of it; the count stays at 2^64 - 1
abbrev pub after_sync : FileState → FileState
after_sync file = record file { is_synced = true; syncs = min (file.syncs + 1) (2 ^ 64 - 1) }

-- after a sync of its folder
abbrev pub after_listing : FileState → FileState
after_listing file = record file { is_listed = true }

-- the file is at this path
abbrev pub is_at : List ℕ → FileState → Bool
is_at path file = bytes_eq file.path path

-- the first file at a path
abbrev pub found : List FileState → List ℕ → Option FileState
found [] path = None
found (file ∷ files) path = if is_at path file then Some file else found files path

-- the bytes of a file, whether it was synced, and whether its name was; where there is none, it was not
abbrev pub bytes_of : Option FileState → List ℕ
bytes_of None = []
bytes_of (Some file) = file.bytes

abbrev pub is_saved : Option FileState → Bool
is_saved None = false
is_saved (Some file) = file.is_synced

abbrev pub is_named : Option FileState → Bool
is_named None = false
is_named (Some file) = file.is_listed

-- the newest file at a path is changed, where there is one: the files are kept as they were, and the changed one too
abbrev pub changed : (FileState → FileState) → Option FileState → List FileState → List FileState
changed change None files = files
changed change (Some file) files = change file ∷ files

abbrev pub with_change : (FileState → FileState) → List ℕ → List FileState → List FileState
with_change change path files = changed change (found files path) files

-- a file is made at a path, where there is none
abbrev pub made : List ℕ → Option FileState → List FileState → List FileState
made path None files = new_file path ∷ files
made path (Some file) files = files

abbrev pub with_opened : List ℕ → List FileState → List FileState
with_opened path files = made path (found files path) files

-- why a call fails whatever the memory: there is no file at its path
abbrev pub missing : Option FileState → Option ErrorKind
missing None = Some NotFound
missing (Some file) = None

-- a call fails just for that
abbrev pub FailsFor : {T : Type 0} → Option ErrorKind → Result T Error → Type 0
FailsFor why result = MatchResult result (λ _. why ≡ None) (λ error. why ≡ Some (error_kind error))

-- the kind of an error that comes for that, or else for want of memory
abbrev pub or_memory : Option ErrorKind → ErrorKind
or_memory None = OutOfMemory
or_memory (Some kind) = kind

-- a call fails for that, or else for want of memory
abbrev pub FailsForOrMemory : {T : Type 0} → Option ErrorKind → Result T Error → Type 0
FailsForOrMemory why result = MatchResult result (λ _. why ≡ None) (λ error. error_kind error ≡ or_memory why)

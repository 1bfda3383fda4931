-- The four files of a volume, as bytes.
use Rattle.std.specs.Prelude.{◌≡◌, ℕ, List, [], Bool, true, false}
use Rattle.jet_volume.specs.declared.files.File.{File}
use Rattle.jet_volume.specs.declared.files.File.TheVariants.{Database, CheckpointA, CheckpointB, Log}

-- what the files hold, all at one moment
pub record Image : Type 0 where
  pub database : List ℕ
  pub checkpoint_a : List ℕ
  pub checkpoint_b : List ℕ
  pub log : List ℕ

-- four files without a byte
abbrev pub no_bytes : Image
no_bytes = record { database = []; checkpoint_a = []; checkpoint_b = []; log = [] }

-- the bytes of one file
abbrev pub file_bytes : File → Image → List ℕ
file_bytes Database image = image.database
file_bytes CheckpointA image = image.checkpoint_a
file_bytes CheckpointB image = image.checkpoint_b
file_bytes Log image = image.log

-- the image with these bytes in one file, and the other files as they are
abbrev pub with_file : File → List ℕ → Image → Image
with_file Database bytes image = record image { database = bytes }
with_file CheckpointA bytes image = record image { checkpoint_a = bytes }
with_file CheckpointB bytes image = record image { checkpoint_b = bytes }
with_file Log bytes image = record image { log = bytes }

-- two files are the same one
abbrev pub is_file : File → File → Bool
is_file Database Database = true
is_file CheckpointA CheckpointA = true
is_file CheckpointB CheckpointB = true
is_file Log Log = true
is_file _ _ = false

-- every file but this one is the same in both images
abbrev pub SameBut : File → Image → Image → Type 0
SameBut file old new = with_file file [] new ≡ with_file file [] old

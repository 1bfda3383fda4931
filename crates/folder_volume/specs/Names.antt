-- How the files of a volume are named.
use Rattle.std.specs.Prelude.{ℕ, List, ◌++◌, codes}
use Rattle.jet_volume.specs.declared.files.File.{File}
use Rattle.jet_volume.specs.declared.files.File.TheVariants.{Database, CheckpointA, CheckpointB, Log}

-- what follows the name of the volume
abbrev pub ending_of : File → List ℕ
ending_of Database = codes ".edb"
ending_of CheckpointA = codes "0.chk"
ending_of CheckpointB = codes "1.chk"
ending_of Log = codes ".log"

-- the path of a file of the volume of this name
abbrev pub file_path : List ℕ → File → List ℕ
file_path name file = name ++ ending_of file

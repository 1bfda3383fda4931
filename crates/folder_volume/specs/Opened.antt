-- What is known of the open files of a volume, over a folder that tells what its files hold.
use Rattle.std.specs.Prelude.{◌≡◌, ℕ, List, Some}
use Rattle.jet_volume.specs.declared.files.File.{File}
use Rattle.folder_volume.specs.declared.handles.Handles.{Handles}
use Rattle.folder_volume.specs.Handles.{handle_of}
use Rattle.folder_volume.specs.Names.{file_path}

module _ {D H : Type 0} (path_of : H → List ℕ) (is_listed : D → List ℕ → Type 0) where
  -- The file was opened at this path, and the folder has been synced since it was made.
  pub record IsOpenAt (folder : D) (path : List ℕ) (handle : H) : Type 0 where
    pub opened : path_of handle ≡ path
    pub listed : is_listed folder path

  -- each of the open files is the one of its name
  abbrev pub HoldsItsFiles : D → List ℕ → Handles H → Type 0
  HoldsItsFiles folder name handles = (file : File) (handle : H) → handle_of file handles ≡ Some handle → IsOpenAt folder (file_path name file) handle

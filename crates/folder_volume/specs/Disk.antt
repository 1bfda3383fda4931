-- What a volume over a folder shows.
use Rattle.std.specs.Prelude.{ℕ, List, string_bytes}
use Rattle.jet_volume.specs.declared.files.File.{File}
use Rattle.folder_volume.specs.declared.disk.FolderVolume.{FolderVolume}
use Rattle.folder_volume.specs.declared.handles.Handles.{Handles}
use Rattle.folder_volume.specs.Names.{file_path}
use Rattle.folder_volume.specs.Opened.{HoldsItsFiles}

-- how often a call has failed
abbrev pub disk_faults : {D H : Type 0} → FolderVolume D H → ℕ
disk_faults v = v.faults

-- the folder that its files lie in
abbrev pub folder_of : {D H : Type 0} → FolderVolume D H → D
folder_of v = v.folder

-- the files that it keeps open
abbrev pub handles_of : {D H : Type 0} → FolderVolume D H → Handles H
handles_of v = v.handles

-- its name, with which the paths of its files begin
abbrev pub name_of : {D H : Type 0} → FolderVolume D H → List ℕ
name_of v = string_bytes v.name

-- the path of a file
abbrev pub path_in : {D H : Type 0} → FolderVolume D H → File → List ℕ
path_in v = file_path (string_bytes v.name)

-- each of its open files is the one of its name
abbrev pub KeepsItsFiles : {D H : Type 0} → (H → List ℕ) → (D → List ℕ → Type 0) → FolderVolume D H → Type 0
KeepsItsFiles path_of is_listed v = HoldsItsFiles path_of is_listed v.folder (string_bytes v.name) v.handles

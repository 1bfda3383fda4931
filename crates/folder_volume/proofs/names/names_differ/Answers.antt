use Rattle.folder_volume.proofs.OpenFiles.{file_path-injective}
use Rattle.folder_volume.proofs.names.names_differ.Goals as goal

pub returns : goal.returns
returns c = file_path-injective

use Rattle.std.proofs.Common.{◌≡◌, ◌+◌, ◌-◌, ◌^◌, ◌<◌, ◌≤◌, length, take, drop}
use Rattle.folder_volume.specs.Folder.{SameFiles}
use Rattle.folder_volume.proofs.whole.read_whole.Given as goal

-- what was read are the first bytes from the offset on
abbrev pub invariant-loop-got : goal.invariant-loop-got
invariant-loop-got g l = record {
  within : l.got ≤ length l.into;
  path : g.D.Folder.tells → g.D.Folder.path_of l.handle ≡ g.D.Folder.path_of l.fn.handle;
  bytes : g.D.Folder.tells → take l.got l.into ≡ take l.got (drop l.at (g.D.Folder.bytes_at l.fn.folder (g.D.Folder.path_of l.fn.handle)));
  files : g.D.Folder.tells → SameFiles g.D.Folder.bytes_at g.D.Folder.is_synced g.D.Folder.is_listed l.fn.folder l.folder;
  fits : g.D.Folder.tells → l.at + l.got < 2 ^ 64;
  failures : g.D.Folder.failures l.folder ≡ g.D.Folder.failures l.fn.folder;
}

abbrev pub decreases-loop-got : goal.decreases-loop-got
decreases-loop-got g l = length l.initial.into - l.got

use Rattle.std.specs.String.{string_bytes}
use Rattle.folder_volume.proofs.OpenFiles.{kept_on, lost_on, keeps_open_after, keeps_open_without}
use Rattle.folder_volume.proofs.kept.write_to.Goals as goal

pub returns-in-Ok-clause-kept : goal.returns-in-Ok-clause-kept
returns-in-Ok-clause-kept g c = λ tells holds.
    kept_on g.D.Folder.path_of g.D.Folder.is_listed c.args.folder.now c.opened.new.folder c.write_whole-outcome.new.folder (string_bytes c.args.name.now) c.args.file
    c.in-Ok.handle c.write_whole-outcome.new.handle c.args.handles.now c.opened.new.handles c.put.new.self c.in-Ok.ensures.rest c.put.ensures
    (c.in-Ok.ensures.files tells).listed (c.write_whole-outcome.ensures.others tells).listed (c.write_whole-outcome.ensures.path tells) (c.in-Ok.ensures.known tells holds) holds

pub returns-in-Err-clause-kept : goal.returns-in-Err-clause-kept
returns-in-Err-clause-kept g c = λ tells holds.
    lost_on g.D.Folder.path_of g.D.Folder.is_listed c.args.folder.now c.opened.new.folder (string_bytes c.args.name.now) c.args.file
    c.args.handles.now c.opened.new.handles c.in-Err.ensures.rest (c.in-Err.ensures.files tells).listed holds

pub returns-in-Ok-clause-open : goal.returns-in-Ok-clause-open
returns-in-Ok-clause-open g c = keeps_open_after c.args.file c.write_whole-outcome.new.handle c.write_whole-outcome.result c.args.handles.now c.opened.new.handles c.put.new.self c.in-Ok.ensures.rest c.put.ensures

pub returns-in-Err-clause-open : goal.returns-in-Err-clause-open
returns-in-Err-clause-open g c = keeps_open_without c.args.file c.in-Err.error c.args.handles.now c.opened.new.handles c.in-Err.ensures.rest c.in-Err.ensures.not_open

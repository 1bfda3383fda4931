use Rattle.std.proofs.Common.{OnOk, reverse, refl, sym, ◌∙◌, ap, ap₂, subst}
use Rattle.folder_volume.specs.declared.memory_folder.MemFolder.{MemFolder}
use Rattle.folder_volume.specs.Files.{after_sync, is_saved, found, missing}
use Rattle.folder_volume.specs.MemoryFolder.{state_of, path_of_handle, mem_is_synced}
use Rattle.folder_volume.proofs.Changes.{since_begun, in_either, both_ok, same_files, unchanged, has_changed, is_there}
use Rattle.folder_volume.proofs.memory_folder.MemFolderFolder.sync.Goals as goal

pub returns-clause-synced : goal.returns-clause-synced
returns-clause-synced c =
    let old = c.args.self.now in
    let new : MemFolder = record c.begin_call.new.self { files = c.sync.new.files; failures = c.note.new.self } in
    let path = path_of_handle c.args.handle.now in
    let same = ap (λ s. s.files) c.begin_call.ensures.same in
    subst (λ r. OnOk r (mem_is_synced new path)) (sym c.note.ensures.same)
    (both_ok _ _ _ _ c.sync.result
    (λ is told.
    let there = is_there (found (state_of old).files path) (sym (ap₂ (λ fs p. missing (found fs p)) same c.as_str.ensures.value) ∙ told) in
    ap is_saved (has_changed after_sync (λ f. refl) path old new (since_begun after_sync _ path _ _ _ c.as_str.ensures.value same is) (λ f listed. listed) there.0 there.1))
    c.sync.ensures.ok c.sync.ensures.told)

pub returns-clause-files : goal.returns-clause-files
returns-clause-files c =
    let old = c.args.self.now in
    let new : MemFolder = record c.begin_call.new.self { files = c.sync.new.files; failures = c.note.new.self } in
    let path = path_of_handle c.args.handle.now in
    let same = ap (λ s. s.files) c.begin_call.ensures.same in
    in_either _ _ _ c.sync.result
    (λ is. same_files after_sync (λ f. refl) path old new (since_begun after_sync _ path _ _ _ c.as_str.ensures.value same is) (λ f listed. listed) (λ f. refl) (λ f synced. refl))
    (λ is. unchanged old new (ap reverse is ∙ same))
    c.sync.ensures.ok c.sync.ensures.err

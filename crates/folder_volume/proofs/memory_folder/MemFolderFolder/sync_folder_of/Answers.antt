use Rattle.std.proofs.Common.{refl, sym, ◌∙◌, ap}
use Rattle.folder_volume.specs.declared.memory_folder.MemFolder.{MemFolder}
use Rattle.folder_volume.specs.Files.{after_listing, is_named, found, missing}
use Rattle.folder_volume.specs.MemoryFolder.{state_of}
use Rattle.folder_volume.proofs.Changes.{since_begun, handed_on, same_files, has_changed, is_there}
use Rattle.folder_volume.proofs.memory_folder.MemFolderFolder.sync_folder_of.Goals as goal

pub returns-clause-listed : goal.returns-clause-listed
returns-clause-listed c =
    let old = c.args.self.now in
    let new : MemFolder = record c.begin_call.new.self { files = c.list.new.files; failures = c.note.new.self; syncs = c.saturating_add-self.result } in
    let path = c.args.path.now in
    let same = ap (λ s. s.files) c.begin_call.ensures.same in
    let there = is_there (found (state_of old).files path) (ap (λ fs. missing (found fs path)) (sym same) ∙ handed_on _ _ _ c.list.result c.in_ok-note.ensures.same c.list.ensures.told) in
    ap is_named (has_changed after_listing (λ f. refl) path old new (since_begun after_listing path path _ _ _ refl same (handed_on _ _ _ c.list.result c.in_ok-note.ensures.same c.list.ensures.ok)) (λ f listed. refl) there.0 there.1)

pub returns-clause-files : goal.returns-clause-files
returns-clause-files c =
    let old = c.args.self.now in
    let new : MemFolder = record c.begin_call.new.self { files = c.list.new.files; failures = c.note.new.self; syncs = c.saturating_add-self.result } in
    let path = c.args.path.now in
    let same = ap (λ s. s.files) c.begin_call.ensures.same in
    same_files after_listing (λ f. refl) path old new (since_begun after_listing path path _ _ _ refl same (handed_on _ _ _ c.list.result c.in_ok-note.ensures.same c.list.ensures.ok)) (λ f listed. refl) (λ f. refl) (λ f synced. synced)

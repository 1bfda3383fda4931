use Rattle.std.proofs.Common.{◌≡◌, ℕ, List, length, take, refl, sym, ◌∙◌, ap, ap₂, subst, rules}
use Rattle.jet_volume.specs.Crash.{Torn, written}
use Rattle.folder_volume.specs.declared.memory_folder.MemFolder.{MemFolder}
use Rattle.folder_volume.specs.Files.{after_write, bytes_of, found, missing, with_change}
use Rattle.folder_volume.specs.MemoryFolder.{state_of, path_of_handle, mem_bytes_at}
use Rattle.folder_volume.proofs.Changes.{since_begun, handed_on, same_others, has_changed, is_there}
use Rattle.folder_volume.proofs.memory_folder.MemFolderFolder.write_at.Goals as goal

abbrev after : goal.After-note_short → MemFolder
after c = record c.begin_call.new.self { files = c.write.new.files; failures = c.note_short.new.self }

wrote : (c : goal.After-note_short) → (state_of (after c)).files ≡ with_change (after_write c.args.at (take c.min-count.result c.args.piece.now)) (path_of_handle c.args.handle.now) (state_of c.args.self.now).files
wrote c = since_begun (after_write c.args.at (take c.min-count.result c.args.piece.now)) _ (path_of_handle c.args.handle.now) _ _ _ c.as_str.ensures.value (ap (λ s. s.files) c.begin_call.ensures.same) (handed_on _ _ _ c.write.result c.in_ok-note.ensures.same c.write.ensures.ok)

bytes_after : (c : goal.After-note_short) → mem_bytes_at (after c) (path_of_handle c.args.handle.now) ≡ written c.args.at (take c.min-count.result c.args.piece.now) (mem_bytes_at c.args.self.now (path_of_handle c.args.handle.now))
bytes_after c =
    let change = after_write c.args.at (take c.min-count.result c.args.piece.now) in
    let path = path_of_handle c.args.handle.now in
    let files = (state_of c.args.self.now).files in
    let there = is_there (found files path) (sym (ap₂ (λ fs p. missing (found fs p)) (ap (λ s. s.files) c.begin_call.ensures.same) c.as_str.ensures.value) ∙ handed_on _ _ _ c.write.result c.in_ok-note.ensures.same c.write.ensures.told) in
    ap bytes_of (has_changed change (λ f. refl) path c.args.self.now (after c) (wrote c) (λ f listed. listed) there.0 there.1)
    ∙ ap (λ o. written c.args.at (take c.min-count.result c.args.piece.now) (bytes_of o)) (sym there.1)

pub returns-clause-written : goal.returns-clause-written
returns-clause-written c = λ some. bytes_after c

pub returns-clause-torn : goal.returns-clause-torn
returns-clause-torn c =
    let front = take c.min-count.result c.args.piece.now in
    let bytes = mem_bytes_at c.args.self.now (path_of_handle c.args.handle.now) in
    subst (λ (l : List ℕ). Torn c.args.at (length c.args.piece.now) bytes l) (sym (bytes_after c))
    (c.a_front_came_in_part.ensures c.args.at (length c.args.piece.now) front bytes (search rules))

pub returns-clause-others : goal.returns-clause-others
returns-clause-others c = same_others (after_write c.args.at (take c.min-count.result c.args.piece.now)) (λ f. refl) (path_of_handle c.args.handle.now) c.args.self.now (after c) (wrote c) (λ f listed. listed)

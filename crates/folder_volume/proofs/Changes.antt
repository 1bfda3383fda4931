-- What a change of the newest file at a path leaves of every file.
use Rattle.std.proofs.Common.{◌≡◌, ◌≢◌, ℕ, List, [], ◌∷◌, Bool, true, false, Result, Ok, Err, OnOk, OnErr, MatchResult, refl, sym, ◌∙◌, ap, ap₂, subst}
use Rattle.std.specs.Prelude.{if◌then◌else◌, Option, Some, None, IsTrue}
use Rattle.std.proofs.lemmas.Option.{none-some, same_Some}
use Rattle.std.proofs.lemmas.Slice.Eq.{bytes_eq-Decides}
use Rattle.std.specs.declared.io.ErrorKind.TheVariants.{NotFound}
use Rattle.folder_volume.specs.Folder.{SameFiles, SameOtherFiles}
use Rattle.folder_volume.specs.declared.memory_folder.MemFolder.{MemFolder}
use Rattle.folder_volume.specs.Files.{FileState, is_at, found, bytes_of, is_saved, is_named, changed, with_change, missing}
use Rattle.folder_volume.specs.MemoryFolder.{state_of, file_at, mem_bytes_at, mem_is_synced, mem_is_listed}

-- the first file at a path, of files with one more
found_in : (P : Option FileState → Type 0) (b : Bool) (file : FileState) (rest : Option FileState) → (b ≡ true → P (Some file)) → (b ≡ false → P rest)
    → P (if b then Some file else rest)
found_in P true file rest first later = first refl
found_in P false file rest first later = later refl

-- it has that path
pub found-path : (files : List FileState) (path : List ℕ) (file : FileState) → found files path ≡ Some file → file.path ≡ path
found-path [] path file is = absurd (none-some file is)
found-path (f ∷ files) path file is =
    found_in (λ o. o ≡ Some file → file.path ≡ path) (is_at path f) f (found files path)
    (λ here same. subst (λ (g : FileState). g.path ≡ path) (same_Some f file same) ((bytes_eq-Decides f.path path).0 here))
    (λ not same. found-path files path file same) is

module _ (change : FileState → FileState) (paths : (f : FileState) → (change f).path ≡ f.path) (path : List ℕ) (files : List FileState) where
  -- the changed file is the newest at its path
  pub changed_there : (file : FileState) → found files path ≡ Some file → found (with_change change path files) path ≡ Some (change file)
  changed_there file is =
      ap (λ o. found (changed change o files) path) is
      ∙ ap (λ b. if b then Some (change file) else found files path) ((bytes_eq-Decides (change file).path path).1 (paths file ∙ found-path files path file is))

  kept_by : (P : Option FileState → Type 0) (p : List ℕ) (o : Option FileState) → found files path ≡ o → ((f : FileState) → P (Some f) → P (Some (change f)))
      → P (found files p) → P (found (changed change o files) p)
  kept_by P p None is keeps holds = holds
  kept_by P p (Some f) is keeps holds =
      found_in P (is_at p (change f)) (change f) (found files p)
      (λ here. keeps f (subst P (ap (found files) (sym ((bytes_eq-Decides (change f).path p).0 here) ∙ paths f ∙ found-path files path f is) ∙ is) holds))
      (λ not. holds)

  -- what the change keeps of a file still holds of the newest at every path
  pub changed_keeps : (P : Option FileState → Type 0) (p : List ℕ) → ((f : FileState) → P (Some f) → P (Some (change f)))
      → P (found files p) → P (found (with_change change path files) p)
  changed_keeps P p keeps holds = kept_by P p (found files path) refl keeps holds

  others_by : (P : Option FileState → Type 0) (other : List ℕ) (o : Option FileState) → found files path ≡ o → other ≢ path
      → P (found files other) → P (found (changed change o files) other)
  others_by P other None is differs holds = holds
  others_by P other (Some f) is differs holds =
      found_in P (is_at other (change f)) (change f) (found files other)
      (λ here. absurd (differs (sym ((bytes_eq-Decides (change f).path other).0 here) ∙ paths f ∙ found-path files path f is)))
      (λ not. holds)

  -- all that holds of the newest at another path still does
  pub changed_others : (P : Option FileState → Type 0) (other : List ℕ) → other ≢ path → P (found files other) → P (found (with_change change path files) other)
  changed_others P other differs holds = others_by P other (found files path) refl differs holds

-- a call that goes on where another began, which left the files as they were
pub since_begun : (change : FileState → FileState) (p path : List ℕ) (new begun old : List FileState) → p ≡ path → begun ≡ old
    → new ≡ with_change change p begun → new ≡ with_change change path old
since_begun change p path new begun old at same is = is ∙ ap₂ (with_change change) at same

-- where a call of a file did not fail, there is one
pub is_there : (o : Option FileState) → missing o ≡ None → (file : FileState) × (o ≡ Some file)
is_there None is = absurd (none-some NotFound (sym is))
is_there (Some file) is = (file, refl)

-- what follows from either outcome
pub in_either : {T E : Type 0} (A C D : Type 0) (r : Result T E) → (A → D) → (C → D) → OnOk r A → OnErr r C → D
in_either A C D (Ok x) ok err a c = ok a
in_either A C D (Err e) ok err a c = err c

-- what follows at `Ok` from two facts that are known there
pub both_ok : {T E : Type 0} (A B D : Type 0) (Q : E → Type 0) (r : Result T E) → (A → B → D) → OnOk r A → MatchResult r (λ _. B) Q → OnOk r D
both_ok A B D Q (Ok x) follows a b = follows a b
both_ok A B D Q (Err e) follows a b = a

-- what holds at `Ok` of an answer that was handed on
pub handed_on : {T E : Type 0} (A : Type 0) (Q : E → Type 0) (x : T) (given : Result T E) → Ok x ≡ given → MatchResult given (λ _. A) Q → A
handed_on A Q x given same known = subst (λ r. MatchResult r (λ _. A) Q) (sym same) known

-- a folder whose files are those of another, but for a change
module _ (change : FileState → FileState) (paths : (f : FileState) → (change f).path ≡ f.path) (path : List ℕ) (old new : MemFolder)
    (is : (state_of new).files ≡ with_change change path (state_of old).files) (listed : (f : FileState) → IsTrue f.is_listed → IsTrue (change f).is_listed) where
  holds_on : (P : Option FileState → Type 0) (p : List ℕ) → ((f : FileState) → P (Some f) → P (Some (change f))) → P (file_at (state_of old) p) → P (file_at (state_of new) p)
  holds_on P p keeps holds = subst (λ (fs : List FileState). P (found fs p)) (sym is) (changed_keeps change paths path (state_of old).files P p keeps holds)

  holds_beside : (P : Option FileState → Type 0) (p : List ℕ) → p ≢ path → P (file_at (state_of old) p) → P (file_at (state_of new) p)
  holds_beside P p differs holds = subst (λ (fs : List FileState). P (found fs p)) (sym is) (changed_others change paths path (state_of old).files P p differs holds)

  -- where it keeps the bytes and a sync
  pub same_files : ((f : FileState) → (change f).bytes ≡ f.bytes) → ((f : FileState) → IsTrue f.is_synced → IsTrue (change f).is_synced)
      → SameFiles mem_bytes_at mem_is_synced mem_is_listed old new
  same_files bytes synced = record {
    bytes = λ p. holds_on (λ o. bytes_of o ≡ mem_bytes_at old p) p (λ f same. bytes f ∙ same) refl;
    synced = λ p. holds_on (λ o. IsTrue (is_saved o)) p synced;
    listed = λ p. holds_on (λ o. IsTrue (is_named o)) p listed;
  }

  -- and of the others in any case
  pub same_others : SameOtherFiles mem_bytes_at mem_is_synced mem_is_listed path old new
  same_others = record {
    bytes = λ p differs. holds_beside (λ o. bytes_of o ≡ mem_bytes_at old p) p differs refl;
    synced = λ p differs. holds_beside (λ o. IsTrue (is_saved o)) p differs;
    listed = λ p. holds_on (λ o. IsTrue (is_named o)) p listed;
  }

  -- the changed file is what the folder has at the path
  pub has_changed : (file : FileState) → file_at (state_of old) path ≡ Some file → file_at (state_of new) path ≡ Some (change file)
  has_changed file was = ap (λ (fs : List FileState). found fs path) is ∙ changed_there change paths path (state_of old).files file was

-- a folder with the same files
pub unchanged : (old new : MemFolder) → (state_of new).files ≡ (state_of old).files → SameFiles mem_bytes_at mem_is_synced mem_is_listed old new
unchanged old new is = record {
  bytes = λ p. ap (λ (fs : List FileState). bytes_of (found fs p)) is;
  synced = λ p holds. subst (λ (fs : List FileState). IsTrue (is_saved (found fs p))) (sym is) holds;
  listed = λ p holds. subst (λ (fs : List FileState). IsTrue (is_named (found fs p))) (sym is) holds;
}

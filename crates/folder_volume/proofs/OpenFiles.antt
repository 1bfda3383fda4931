-- The files of a volume in a folder: how they stay, and what a call of one of them does to the others.
use Rattle.std.proofs.Common.{◌≡◌, ◌⊎◌, inl, inr, ⊎_elim, ℕ, List, refl, sym, ◌∙◌, ap, subst}
use Rattle.std.specs.Prelude.{◌==◌, if◌then◌else◌, Option, Some, None, is_some, Result, Ok, Err, OnOk, get_or}
use Rattle.std.proofs.lemmas.List.{append_cancel_left}
use Rattle.std.proofs.lemmas.Option.{none-some, same_Some}
use Rattle.jet_volume.specs.declared.files.File.{File}
use Rattle.jet_volume.specs.declared.files.File.TheVariants.{Database, CheckpointA, CheckpointB, Log}
use Rattle.folder_volume.specs.declared.handles.Handles.{Handles}
use Rattle.folder_volume.specs.Names.{ending_of, file_path}
use Rattle.folder_volume.specs.Handles.{handle_of, with_handle, IsNotOpen, KeepsOpen}
use Rattle.folder_volume.specs.Folder.{SameFiles, SameOtherFiles}
use Rattle.folder_volume.specs.Opened.{IsOpenAt, HoldsItsFiles}

-- the file of an ending, by its first two bytes
abbrev file_ending_in : List ℕ → File
file_ending_in ending =
    if get_or ending 1 0 == 101 then Database else if get_or ending 0 0 == 48 then CheckpointA else if get_or ending 0 0 == 49 then CheckpointB else Log

file_ending_in-ending_of : (f : File) → file_ending_in (ending_of f) ≡ f
file_ending_in-ending_of Database = refl
file_ending_in-ending_of CheckpointA = refl
file_ending_in-ending_of CheckpointB = refl
file_ending_in-ending_of Log = refl

-- two files of one volume have two paths
pub file_path-injective : (name : List ℕ) (f g : File) → file_path name f ≡ file_path name g → f ≡ g
file_path-injective name f g same =
    sym (file_ending_in-ending_of f) ∙ ap file_ending_in (append_cancel_left name (ending_of f) (ending_of g) same) ∙ file_ending_in-ending_of g

-- what is put back or taken out is the file's own entry
pub handle_of-with_handle : {H : Type 0} → (f : File) (h : Option H) (hs : Handles H) → handle_of f (with_handle f h hs) ≡ h
handle_of-with_handle Database h hs = refl
handle_of-with_handle CheckpointA h hs = refl
handle_of-with_handle CheckpointB h hs = refl
handle_of-with_handle Log h hs = refl

-- two files are one, or what is put back or taken out at one leaves the other's entry
pub same_or_beside : {H : Type 0} → (f g : File) → (f ≡ g) ⊎ ((h : Option H) (hs : Handles H) → handle_of f (with_handle g h hs) ≡ handle_of f hs)
same_or_beside Database Database = inl refl
same_or_beside Database CheckpointA = inr (λ h hs. refl)
same_or_beside Database CheckpointB = inr (λ h hs. refl)
same_or_beside Database Log = inr (λ h hs. refl)
same_or_beside CheckpointA Database = inr (λ h hs. refl)
same_or_beside CheckpointA CheckpointA = inl refl
same_or_beside CheckpointA CheckpointB = inr (λ h hs. refl)
same_or_beside CheckpointA Log = inr (λ h hs. refl)
same_or_beside CheckpointB Database = inr (λ h hs. refl)
same_or_beside CheckpointB CheckpointA = inr (λ h hs. refl)
same_or_beside CheckpointB CheckpointB = inl refl
same_or_beside CheckpointB Log = inr (λ h hs. refl)
same_or_beside Log Database = inr (λ h hs. refl)
same_or_beside Log CheckpointA = inr (λ h hs. refl)
same_or_beside Log CheckpointB = inr (λ h hs. refl)
same_or_beside Log Log = inl refl

module _ {D H : Type 0} (path_of : H → List ℕ) (is_listed : D → List ℕ → Type 0) where
  -- an open file stays open as the folder goes on
  pub stays_open : (old new : D) (path : List ℕ) (was is : H) → path_of is ≡ path_of was → ((p : List ℕ) → is_listed old p → is_listed new p)
      → IsOpenAt path_of is_listed old path was → IsOpenAt path_of is_listed new path is
  stays_open old new path was is same later open_at = record { opened = same ∙ open_at.opened; listed = later path open_at.listed }

  -- where a file was taken out, the others are as they were
  pub holds_others : (old new : D) (name : List ℕ) (file : File) (handles : Handles H) → ((p : List ℕ) → is_listed old p → is_listed new p)
      → HoldsItsFiles path_of is_listed old name handles → HoldsItsFiles path_of is_listed new name (with_handle file None handles)
  holds_others old new name file handles later holds f handle is = ⊎_elim
      (λ (same : f ≡ file). absurd (none-some handle (sym (handle_of-with_handle file None handles) ∙ subst (λ g. handle_of g (with_handle file None handles) ≡ Some handle) same is)))
      (λ beside. stays_open old new (file_path name f) handle handle refl later (holds f handle (sym (beside None handles) ∙ is)))
      (same_or_beside f file)

  -- and where it was put back, it is one of them again
  pub holds_all : (old new : D) (name : List ℕ) (file : File) (handle : H) (handles : Handles H) → ((p : List ℕ) → is_listed old p → is_listed new p)
      → IsOpenAt path_of is_listed new (file_path name file) handle
      → HoldsItsFiles path_of is_listed old name handles → HoldsItsFiles path_of is_listed new name (with_handle file (Some handle) handles)
  holds_all old new name file handle handles later open_at holds f h is = ⊎_elim
      (λ (same : f ≡ file). subst (λ g. IsOpenAt path_of is_listed new (file_path name g) h) (sym same)
      (subst (λ i. IsOpenAt path_of is_listed new (file_path name file) i)
      (same_Some handle h (sym (handle_of-with_handle file (Some handle) handles) ∙ subst (λ g. handle_of g (with_handle file (Some handle) handles) ≡ Some h) same is))
      open_at))
      (λ beside. stays_open old new (file_path name f) h h refl later (holds f h (sym (beside (Some handle) handles) ∙ is)))
      (same_or_beside f file)

-- what two calls leave as it was
module _ {D : Type 0} (bytes_at : D → List ℕ → List ℕ) (is_synced is_listed : D → List ℕ → Type 0) where
  pub same_itself : (d : D) → SameFiles bytes_at is_synced is_listed d d
  same_itself d = record { bytes = λ p. refl; synced = λ p is. is; listed = λ p is. is }

  pub same_then_same : (a b c : D) → SameFiles bytes_at is_synced is_listed a b → SameFiles bytes_at is_synced is_listed b c → SameFiles bytes_at is_synced is_listed a c
  same_then_same a b c one two = record {
    bytes = λ p. two.bytes p ∙ one.bytes p;
    synced = λ p is. two.synced p (one.synced p is);
    listed = λ p is. two.listed p (one.listed p is);
  }

  pub same_then_others : (a b c : D) (path : List ℕ) → SameFiles bytes_at is_synced is_listed a b → SameOtherFiles bytes_at is_synced is_listed path b c
      → SameOtherFiles bytes_at is_synced is_listed path a c
  same_then_others a b c path one two = record {
    bytes = λ p other. two.bytes p other ∙ one.bytes p;
    synced = λ p other is. two.synced p other (one.synced p is);
    listed = λ p is. two.listed p (one.listed p is);
  }

  pub same_but_others : (a b : D) (path : List ℕ) → SameFiles bytes_at is_synced is_listed a b → SameOtherFiles bytes_at is_synced is_listed path a b
  same_but_others a b path same = record { bytes = λ p other. same.bytes p; synced = λ p other. same.synced p; listed = same.listed }

-- a call of an open file over a folder, from the table before to the table after
module _ {D H : Type 0} (path_of : H → List ℕ) (is_listed : D → List ℕ → Type 0) where
  -- the file was taken out, used and put back
  pub kept_on : (old mid new : D) (name : List ℕ) (file : File) (was is : H) (before taken after : Handles H)
      → taken ≡ with_handle file None before → after ≡ with_handle file (Some is) taken
      → ((p : List ℕ) → is_listed old p → is_listed mid p) → ((p : List ℕ) → is_listed mid p → is_listed new p)
      → path_of is ≡ path_of was → IsOpenAt path_of is_listed mid (file_path name file) was
      → HoldsItsFiles path_of is_listed old name before → HoldsItsFiles path_of is_listed new name after
  kept_on old mid new name file was is before taken after out back to_mid to_new same open_at holds =
      subst (λ hs. HoldsItsFiles path_of is_listed new name hs) (sym (back ∙ ap (with_handle file (Some is)) out))
      (holds_all path_of is_listed mid new name file is (with_handle file None before) to_new
      (stays_open path_of is_listed mid new (file_path name file) was is same to_new open_at)
      (holds_others path_of is_listed old mid name file before to_mid holds))

  -- it could not be opened
  pub lost_on : (old new : D) (name : List ℕ) (file : File) (before taken : Handles H) → taken ≡ with_handle file None before
      → ((p : List ℕ) → is_listed old p → is_listed new p) → HoldsItsFiles path_of is_listed old name before → HoldsItsFiles path_of is_listed new name taken
  lost_on old new name file before taken out later holds =
      subst (λ hs. HoldsItsFiles path_of is_listed new name hs) (sym out) (holds_others path_of is_listed old new name file before later holds)

-- what is open after a call: a file that was taken out, used and put back is
on_ok : {T E : Type 0} {A : Type 0} → (result : Result T E) → A → OnOk result A
on_ok (Ok value) a = a
on_ok (Err error) a = tt

pub keeps_open_after : {T E H : Type 0} → (file : File) (is : H) (result : Result T E) (before taken after : Handles H)
    → taken ≡ with_handle file None before → after ≡ with_handle file (Some is) taken → KeepsOpen file result before after
keeps_open_after {H = H} file is result before taken after out back =
    let there : handle_of file after ≡ Some is = ap (handle_of file) back ∙ handle_of-with_handle file (Some is) taken in
    record {
      used = on_ok result (ap is_some there);
      none_closed = λ other none. ⊎_elim
          (λ (same : other ≡ file). absurd (none-some is (sym (subst (λ f. IsNotOpen f after) same none) ∙ there)))
          (λ beside. sym (beside None before) ∙ ap (handle_of other) (sym out) ∙ sym (beside (Some is) taken) ∙ ap (handle_of other) (sym back) ∙ none)
          (same_or_beside {H = H} other file);
    }

-- one that could not be opened is not, and was not
pub keeps_open_without : {T E H : Type 0} → (file : File) (error : E) (before taken : Handles H)
    → taken ≡ with_handle file None before → IsNotOpen file before → KeepsOpen {T = T} file (Err error) before taken
keeps_open_without {H = H} file error before taken out was = record {
  used = tt;
  none_closed = λ other none. ⊎_elim
      (λ (same : other ≡ file). subst (λ f. IsNotOpen f before) (sym same) was)
      (λ beside. sym (beside None before) ∙ ap (handle_of other) (sym out) ∙ none)
      (same_or_beside {H = H} other file);
}

-- One file of four.
use Rattle.std.proofs.Common.{◌≡◌, ◌⊎◌, inl, inr, ℕ, List, true, false, refl, ◌∙◌, ap}
use Rattle.jet_volume.specs.declared.files.File.{File}
use Rattle.jet_volume.specs.declared.files.File.TheVariants.{Database, CheckpointA, CheckpointB, Log}
use Rattle.jet_volume.specs.Image.{Image, file_bytes, with_file, is_file}

-- two files are one, or the test tells them apart
pub same_or_other : (f g : File) → (f ≡ g) ⊎ (is_file f g ≡ false)
same_or_other Database Database = inl refl
same_or_other Database CheckpointA = inr refl
same_or_other Database CheckpointB = inr refl
same_or_other Database Log = inr refl
same_or_other CheckpointA Database = inr refl
same_or_other CheckpointA CheckpointA = inl refl
same_or_other CheckpointA CheckpointB = inr refl
same_or_other CheckpointA Log = inr refl
same_or_other CheckpointB Database = inr refl
same_or_other CheckpointB CheckpointA = inr refl
same_or_other CheckpointB CheckpointB = inl refl
same_or_other CheckpointB Log = inr refl
same_or_other Log Database = inr refl
same_or_other Log CheckpointA = inr refl
same_or_other Log CheckpointB = inr refl
same_or_other Log Log = inl refl

pub is_file_itself : (f : File) → is_file f f ≡ true
is_file_itself Database = refl
is_file_itself CheckpointA = refl
is_file_itself CheckpointB = refl
is_file_itself Log = refl

-- what was put into a file is there
pub file_bytes-with_file : (f : File) (bytes : List ℕ) (i : Image) → file_bytes f (with_file f bytes i) ≡ bytes
file_bytes-with_file Database bytes i = refl
file_bytes-with_file CheckpointA bytes i = refl
file_bytes-with_file CheckpointB bytes i = refl
file_bytes-with_file Log bytes i = refl

-- and the other files stay
pub file_bytes-with_other : (f g : File) (bytes : List ℕ) (i : Image) → is_file f g ≡ false → file_bytes f (with_file g bytes i) ≡ file_bytes f i
file_bytes-with_other Database Database bytes i other = cc
file_bytes-with_other Database CheckpointA bytes i other = refl
file_bytes-with_other Database CheckpointB bytes i other = refl
file_bytes-with_other Database Log bytes i other = refl
file_bytes-with_other CheckpointA Database bytes i other = refl
file_bytes-with_other CheckpointA CheckpointA bytes i other = cc
file_bytes-with_other CheckpointA CheckpointB bytes i other = refl
file_bytes-with_other CheckpointA Log bytes i other = refl
file_bytes-with_other CheckpointB Database bytes i other = refl
file_bytes-with_other CheckpointB CheckpointA bytes i other = refl
file_bytes-with_other CheckpointB CheckpointB bytes i other = cc
file_bytes-with_other CheckpointB Log bytes i other = refl
file_bytes-with_other Log Database bytes i other = refl
file_bytes-with_other Log CheckpointA bytes i other = refl
file_bytes-with_other Log CheckpointB bytes i other = refl
file_bytes-with_other Log Log bytes i other = cc

-- the last of two puts into one file counts
pub with_file-with_file : (f : File) (a b : List ℕ) (i : Image) → with_file f a (with_file f b i) ≡ with_file f a i
with_file-with_file Database a b i = refl
with_file-with_file CheckpointA a b i = refl
with_file-with_file CheckpointB a b i = refl
with_file-with_file Log a b i = refl

-- to put back what is there changes nothing
pub with_file-file_bytes : (f : File) (i : Image) → with_file f (file_bytes f i) i ≡ i
with_file-file_bytes Database i = refl
with_file-file_bytes CheckpointA i = refl
with_file-file_bytes CheckpointB i = refl
with_file-file_bytes Log i = refl

-- images that agree on each file are one
pub same_image : (a b : Image) → ((f : File) → file_bytes f a ≡ file_bytes f b) → a ≡ b
same_image a b same =
    ap (λ (l : List ℕ). with_file Database l a) (same Database)
    ∙ ap (λ (l : List ℕ). with_file CheckpointA l (with_file Database b.database a)) (same CheckpointA)
    ∙ ap (λ (l : List ℕ). with_file CheckpointB l (with_file CheckpointA b.checkpoint_a (with_file Database b.database a))) (same CheckpointB)
    ∙ ap (λ (l : List ℕ). with_file Log l (with_file CheckpointB b.checkpoint_b (with_file CheckpointA b.checkpoint_a (with_file Database b.database a)))) (same Log)

-- what holds of each of the four holds of every file
pub each_file : (P : File → Type 0) → P Database → P CheckpointA → P CheckpointB → P Log → (f : File) → P f
each_file P d a b l Database = d
each_file P d a b l CheckpointA = a
each_file P d a b l CheckpointB = b
each_file P d a b l Log = l

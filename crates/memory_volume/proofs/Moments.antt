-- The moments of a volume in memory.
use Rattle.std.proofs.Common.{◌≡◌, ◌⊎◌, inl, inr, ⊎_elim, ℕ, ◌≤◌, List, [], ◌∷◌, length, refl, sym, ap, subst, arith, Result, Ok, Err, OnOk, OnErr}
use Rattle.std.proofs.Math.Nat.{le_antisymm}
use Rattle.jet_volume.specs.declared.files.File.{File}
use Rattle.jet_volume.specs.declared.files.File.TheVariants.{Database, CheckpointA, CheckpointB, Log}
use Rattle.jet_volume.specs.Image.{Image, file_bytes, with_file}
use Rattle.jet_volume.specs.Crash.{TornFile, written, IsSettled, CrashFollows, Elapses}
use Rattle.jet_volume.specs.TornLaws.{written_torn, unwritten_torn}
use Rattle.memory_volume.specs.declared.volume.MemoryVolume.{MemoryVolume}
use Rattle.memory_volume.specs.Memory.{memory_seen, memory_past, memory_moment, memory_left_at, HeldAt}
use Rattle.memory_volume.specs.MemoryLaws.{now_held}

-- no moment is later than the last write
at_most : (now : Image) (past : List Image) (k : ℕ) (image : Image) → HeldAt now past k image → k ≤ length past
at_most now [] k image held = omega (arith, held.0)
at_most now (before ∷ earlier) k image (inl here) = omega (arith, here.0)
at_most now (before ∷ earlier) k image (inr was) = omega (arith, at_most before earlier k image was)

-- at the last moment files hold what they hold now
held_now : (now : Image) (past : List Image) (image : Image) → HeldAt now past (length past) image → image ≡ now
held_now now [] image held = held.1
held_now now (before ∷ earlier) image (inl here) = here.1
held_now now (before ∷ earlier) image (inr was) = absurd (omega (arith, at_most before earlier (length (before ∷ earlier)) image was))

-- a crash leaves what is there
pub settled : (volume : MemoryVolume) → IsSettled memory_moment memory_left_at memory_seen volume
settled volume image left = held_now (memory_seen volume) (memory_past volume) image left

-- a call that changes nothing takes no time
pub elapses_not : (volume : MemoryVolume) → Elapses memory_moment memory_left_at volume volume
elapses_not volume = record {
  later = omega arith;
  no_more = λ k image lt left. left;
  no_fewer = λ k image le left. left;
  inside = λ k image ge le left. inr (subst (λ j. memory_left_at volume j image) (le_antisymm le ge) left);
}

-- a write changes no image of the moments before it
pub elapses_write : (old new : MemoryVolume) → memory_past new ≡ memory_seen old ∷ memory_past old → Elapses memory_moment memory_left_at old new
elapses_write old new noted =
    let back : (k : ℕ) (image : Image) → memory_left_at new k image → ((k ≡ length (memory_seen old ∷ memory_past old)) × (image ≡ memory_seen new)) ⊎ memory_left_at old k image = λ k image left.
    subst (λ (past : List Image). HeldAt (memory_seen new) past k image) noted left in
    let longer : memory_moment new ≡ length (memory_seen old ∷ memory_past old) = ap length noted in
    record {
      later = omega (arith, longer);
      no_more = λ k image lt left. ⊎_elim (λ here. absurd (omega (arith, lt, here.0))) (λ was. was) (back k image left);
      no_fewer = λ k image le left. subst (λ (past : List Image). HeldAt (memory_seen new) past k image) (sym noted) (inr left);
      inside = λ k image ge le left. ⊎_elim
          (λ here. inr (subst (λ (i : Image). memory_left_at new (memory_moment new) i) (sym here.1) (now_held (memory_seen new) (memory_past new))))
          (λ was. inl (subst (λ j. memory_left_at old j image) (le_antisymm (at_most (memory_seen old) (memory_past old) k image was) ge) was))
          (back k image left);
    }

-- a write is whole, or it was not made
written_whole : (file : File) (at : ℕ) (piece : List ℕ) (old : Image) → TornFile file at (length piece) old (with_file file (written at piece (file_bytes file old)) old)
written_whole Database at piece old = record { torn = written_torn at piece old.database; others = refl }
written_whole CheckpointA at piece old = record { torn = written_torn at piece old.checkpoint_a; others = refl }
written_whole CheckpointB at piece old = record { torn = written_torn at piece old.checkpoint_b; others = refl }
written_whole Log at piece old = record { torn = written_torn at piece old.log; others = refl }

pub written_or_not : {T E : Type 0} (result : Result T E) (file : File) (at : ℕ) (piece : List ℕ) (old new : Image)
    → OnOk result (new ≡ with_file file (written at piece (file_bytes file old)) old) → OnErr result (new ≡ old) → TornFile file at (length piece) old new
written_or_not (Ok done) file at piece old new is same = subst (λ (i : Image). TornFile file at (length piece) old i) (sym is) (written_whole file at piece old)
written_or_not (Err error) file at piece old new is same =
    subst (λ (i : Image). TornFile file at (length piece) old i) (sym same) (record { torn = unwritten_torn at (length piece) (file_bytes file old); others = refl })

-- what is left after a write comes by it from what was left before
pub follows : (old new : MemoryVolume) (file : File) (at n : ℕ) → TornFile file at n (memory_seen old) (memory_seen new) → CrashFollows memory_moment memory_left_at (TornFile file at n) old new
follows old new file at n torn image left =
    (memory_seen old, now_held (memory_seen old) (memory_past old), subst (λ (i : Image). TornFile file at n (memory_seen old) i) (sym (settled new image left)) torn)

-- What one call more of a volume in memory tells.
use Rattle.std.proofs.Common.{◌≡◌, ◌⊎◌, inl, inr, ⊎_elim, ℕ, ◌+◌, ◌≤◌, List, [], ◌∷◌, ◌++◌, length, take, drop, reverse, refl, sym, ◌∙◌, ap, subst, arith, false, if◌then◌else◌}
use Rattle.std.proofs.Math.Nat.{le_antisymm}
use Rattle.jet_volume.specs.declared.files.File.{File}
use Rattle.jet_volume.specs.declared.record.Change.{Change}
use Rattle.jet_volume.specs.declared.record.Change.TheVariants.{Wrote, Missed, Synced}
use Rattle.jet_volume.specs.declared.record.Call.{Call}
use Rattle.jet_volume.specs.declared.memory.MemVolume.{MemVolume}
use Rattle.jet_volume.specs.Image.{Image, file_bytes, with_file, is_file}
use Rattle.jet_volume.specs.Covers.{Covers}
use Rattle.jet_volume.specs.Crash.{Torn, TornFile, written, IsSettled, CrashLeaves, CrashFollows, Elapses}
use Rattle.jet_volume.specs.Record.{undone, Reaches, MayHold, changes_of, settled_bytes, MayLeave, before_call, LeftAt}
use Rattle.jet_volume.specs.RecordLaws.{left_now}
use Rattle.jet_volume.specs.Memory.{mem_seen, mem_calls, mem_moment, mem_left_at}
use Rattle.jet_volume.specs.TornLaws.{unwritten_torn, written_torn}
use Rattle.jet_volume.proofs.Bytes.{undoes}
use Rattle.jet_volume.proofs.FileLemmas.{same_or_other, is_file_itself, file_bytes-with_file, file_bytes-with_other, with_file-with_file, with_file-file_bytes, same_image}

-- no moment is later than the last call
pub at_most : (now : Image) (calls : List Call) (k : ℕ) (image : Image) → LeftAt now calls k image → k ≤ length calls
at_most now [] k image left = omega (arith, left.0)
at_most now (call ∷ earlier) k image (inl here) = omega (arith, here.0)
at_most now (call ∷ earlier) k image (inr before) = omega (arith, at_most (before_call call now) earlier k image before)

-- a crash after the last call leaves no more than it may leave now
pub now_left : (now : Image) (calls : List Call) (image : Image) → LeftAt now calls (length calls) image → MayLeave now calls image
now_left now [] image left = left.1
now_left now (call ∷ earlier) image (inl here) = here.1
now_left now (call ∷ earlier) image (inr before) = absurd (omega (arith, at_most (before_call call now) earlier (length (call ∷ earlier)) image before))

-- the change of a file's own call comes first
pub changes_of-same : (file : File) (change : Change) (calls : List Call) → changes_of file (record { file = file; change = change } ∷ calls) ≡ change ∷ changes_of file calls
changes_of-same file change calls = ap (λ b. if b then change ∷ changes_of file calls else changes_of file calls) (is_file_itself file)

-- a call of another file is none of its own
pub changes_of-other : (f file : File) (change : Change) (calls : List Call) → is_file f file ≡ false → changes_of f (record { file = file; change = change } ∷ calls) ≡ changes_of f calls
changes_of-other f file change calls other = ap (λ b. if b then change ∷ changes_of f calls else changes_of f calls) other

-- a call that can be undone changes no image of the moments before it
pub elapses_by : (old new : MemVolume) (call : Call) → mem_calls new ≡ call ∷ mem_calls old → before_call call (mem_seen new) ≡ mem_seen old
    → Elapses mem_moment mem_left_at old new
elapses_by old new call noted undo =
    let back : (k : ℕ) (image : Image) → mem_left_at new k image → ((k ≡ length (call ∷ mem_calls old)) × MayLeave (mem_seen new) (call ∷ mem_calls old) image) ⊎ mem_left_at old k image = λ k image left.
    ⊎_elim inl (λ before. inr (subst (λ (i : Image). LeftAt i (mem_calls old) k image) undo before)) (subst (λ (calls : List Call). LeftAt (mem_seen new) calls k image) noted left) in
    let longer : mem_moment new ≡ length (call ∷ mem_calls old) = ap length noted in
    record {
      later = omega (arith, longer);
      no_more = λ k image lt left. ⊎_elim (λ here. absurd (omega (arith, lt, here.0))) (λ before. before) (back k image left);
      no_fewer = λ k image le left. subst (λ (calls : List Call). LeftAt (mem_seen new) calls k image) (sym noted) (inr (subst (λ (i : Image). LeftAt i (mem_calls old) k image) (sym undo) left));
      inside = λ k image ge le left. ⊎_elim
          (λ here. inr (left_now (mem_seen new) (mem_calls new) image (subst (λ (calls : List Call). MayLeave (mem_seen new) calls image) (sym noted) here.1)))
          (λ before. inl (subst (λ j. mem_left_at old j image) (le_antisymm (at_most (mem_seen old) (mem_calls old) k image before) ge) before))
          (back k image left);
    }

-- a call that is not noted changes nothing
pub elapses_same : (old new : MemVolume) → mem_calls new ≡ mem_calls old → mem_seen new ≡ mem_seen old → Elapses mem_moment mem_left_at old new
elapses_same old new calls seen =
    let forth : (k : ℕ) (image : Image) → mem_left_at old k image → mem_left_at new k image = λ k image left.
    subst (λ (i : Image). LeftAt i (mem_calls new) k image) (sym seen) (subst (λ (cs : List Call). LeftAt (mem_seen old) cs k image) (sym calls) left) in
    let back : (k : ℕ) (image : Image) → mem_left_at new k image → mem_left_at old k image = λ k image left.
    subst (λ (i : Image). LeftAt i (mem_calls old) k image) seen (subst (λ (cs : List Call). LeftAt (mem_seen new) cs k image) calls left) in
    let long : mem_moment new ≡ mem_moment old = ap length calls in
    record {
      later = omega (arith, long);
      no_more = λ k image lt left. back k image left;
      no_fewer = λ k image le left. forth k image left;
      inside = λ k image ge le left. inr (subst (λ j. mem_left_at new j image) (le_antisymm le (omega (arith, ge, long))) left);
    }

-- a write that was noted is undone to what was there
pub elapses_write : (old new : MemVolume) (file : File) (change : Change) (bytes : List ℕ) → mem_calls new ≡ record { file = file; change = change } ∷ mem_calls old
    → mem_seen new ≡ with_file file bytes (mem_seen old) → undone change bytes ≡ file_bytes file (mem_seen old) → Elapses mem_moment mem_left_at old new
elapses_write old new file change bytes noted seen undo =
    elapses_by old new (record { file = file; change = change }) noted
    (ap (λ (i : Image). with_file file (undone change (file_bytes file i)) i) seen
    ∙ ap (λ (b : List ℕ). with_file file (undone change b) (with_file file bytes (mem_seen old))) (file_bytes-with_file file bytes (mem_seen old))
    ∙ with_file-with_file file (undone change bytes) bytes (mem_seen old)
    ∙ ap (λ (b : List ℕ). with_file file b (mem_seen old)) undo
    ∙ with_file-file_bytes file (mem_seen old))

-- each image after a change that tears a range comes by a tear from one before
pub tear_follows : (old new : MemVolume) (file : File) (change : Change) (bytes : List ℕ) (at n : ℕ) → mem_calls new ≡ record { file = file; change = change } ∷ mem_calls old
    → mem_seen new ≡ with_file file bytes (mem_seen old) → Torn at n (file_bytes file (mem_seen old)) bytes
    → ((b : List ℕ) → Reaches bytes (change ∷ changes_of file (mem_calls old)) b → (d : List ℕ) × Reaches (file_bytes file (mem_seen old)) (changes_of file (mem_calls old)) d × Torn at n d b)
    → CrashFollows mem_moment mem_left_at (TornFile file at n) old new
tear_follows old new file change bytes at n noted seen torn back image left =
    let call : Call = record { file = file; change = change } in
    let may : MayLeave (with_file file bytes (mem_seen old)) (call ∷ mem_calls old) image =
    subst (λ (i : Image). MayLeave i (call ∷ mem_calls old) image) seen (subst (λ (cs : List Call). MayLeave (mem_seen new) cs image) noted (now_left (mem_seen new) (mem_calls new) image left)) in
    let held : MayHold bytes (change ∷ changes_of file (mem_calls old)) (file_bytes file image) =
    subst (λ (b : List ℕ). MayHold b (change ∷ changes_of file (mem_calls old)) (file_bytes file image)) (file_bytes-with_file file bytes (mem_seen old))
    (subst (λ (cs : List Change). MayHold (file_bytes file (with_file file bytes (mem_seen old))) cs (file_bytes file image)) (changes_of-same file change (mem_calls old)) (may file)) in
    let from : (a : List ℕ) × MayHold (file_bytes file (mem_seen old)) (changes_of file (mem_calls old)) a × Torn at n a (file_bytes file image) =
    ⊎_elim
    (λ (whole : file_bytes file image ≡ bytes). (file_bytes file (mem_seen old), inl refl, subst (λ (b : List ℕ). Torn at n (file_bytes file (mem_seen old)) b) (sym whole) torn))
    (λ reached. let d = back (file_bytes file image) reached in (d.0, inr d.1, d.2))
    held in
    let before = with_file file from.0 image in
    let was : MayLeave (mem_seen old) (mem_calls old) before = λ f.
    ⊎_elim
    (λ (same : f ≡ file). subst (λ g. MayHold (file_bytes g (mem_seen old)) (changes_of g (mem_calls old)) (file_bytes g before)) (sym same)
    (subst (λ (b : List ℕ). MayHold (file_bytes file (mem_seen old)) (changes_of file (mem_calls old)) b) (sym (file_bytes-with_file file from.0 image)) from.1))
    (λ (other : is_file f file ≡ false). subst (λ (b : List ℕ). MayHold (file_bytes f (mem_seen old)) (changes_of f (mem_calls old)) b) (sym (file_bytes-with_other f file from.0 image other))
    (subst (λ (b : List ℕ). MayHold b (changes_of f (mem_calls old)) (file_bytes f image)) (file_bytes-with_other f file bytes (mem_seen old) other)
    (subst (λ (cs : List Change). MayHold (file_bytes f (with_file file bytes (mem_seen old))) cs (file_bytes f image)) (changes_of-other f file change (mem_calls old) other) (may f))))
    (same_or_other f file) in (
      before,
      left_now (mem_seen old) (mem_calls old) before was,
      record {
        torn = subst (λ (b : List ℕ). Torn at n b (file_bytes file image)) (sym (file_bytes-with_file file from.0 image)) from.2;
        others = sym (with_file-with_file file [] from.0 image);
      },
    )

-- what a change covered is what undoing it gives
pub undone-covers : (at : ℕ) (piece old : List ℕ) (change : Change) → Covers at (length piece) old change → undone change (written at piece old) ≡ old
undone-covers at piece old (Wrote a n covered size) is =
    ap (λ s. take s (take a (written at piece old) ++ covered.items ++ drop (a + length covered.items) (written at piece old))) is.3
    ∙ ap (λ b. take (length old) (take b (written at piece old) ++ covered.items ++ drop (b + length covered.items) (written at piece old))) is.0
    ∙ undoes at piece old covered.items is.2
undone-covers at piece old (Missed a n) is = absurd is
undone-covers at piece old Synced is = absurd is

-- what a noted write reaches comes by a tear from what was reached before
pub wrote_back : (at : ℕ) (piece old : List ℕ) (change : Change) (changes : List Change) → Covers at (length piece) old change → (b : List ℕ)
    → Reaches (written at piece old) (change ∷ changes) b → (d : List ℕ) × Reaches old changes d × Torn at (length piece) d b
wrote_back at piece old (Wrote a n covered size) changes is b reached = (
  reached.0,
  subst (λ (l : List ℕ). Reaches l changes reached.0) (undone-covers at piece old (Wrote a n covered size) is) reached.1,
  subst (λ m. Torn at m reached.0 b) is.1 (subst (λ k. Torn k n reached.0 b) is.0 reached.2),
)
wrote_back at piece old (Missed a n) changes is b reached = absurd is
wrote_back at piece old Synced changes is b reached = absurd is

-- where nothing changed, each image is one from before
pub follows_same : (old new : MemVolume) (file : File) (at n : ℕ) → mem_calls new ≡ mem_calls old → mem_seen new ≡ mem_seen old
    → CrashFollows mem_moment mem_left_at (TornFile file at n) old new
follows_same old new file at n calls seen image left = (
  image,
  left_now (mem_seen old) (mem_calls old) image (subst (λ (i : Image). MayLeave i (mem_calls old) image) seen (subst (λ (cs : List Call). MayLeave (mem_seen new) cs image) calls (now_left (mem_seen new) (mem_calls new) image left))),
  record { torn = unwritten_torn at n (file_bytes file image); others = refl },
)

-- a write that failed may have torn its range
pub miss_follows : (old new : MemVolume) (file : File) (at n : ℕ) → mem_calls new ≡ record { file = file; change = Missed at n } ∷ mem_calls old
    → mem_seen new ≡ mem_seen old → CrashFollows mem_moment mem_left_at (TornFile file at n) old new
miss_follows old new file at n noted seen =
    tear_follows old new file (Missed at n) (file_bytes file (mem_seen old)) at n noted (seen ∙ sym (with_file-file_bytes file (mem_seen old)))
    (unwritten_torn at n (file_bytes file (mem_seen old))) (λ b reached. reached)

-- after a sync a crash leaves of the file what it holds
pub sync_holds : (old new : MemVolume) (file : File) → mem_calls new ≡ record { file = file; change = Synced } ∷ mem_calls old → mem_seen new ≡ mem_seen old
    → CrashLeaves mem_moment mem_left_at new (λ image. file_bytes file image ≡ file_bytes file (mem_seen old))
sync_holds old new file noted seen image left =
    let call : Call = record { file = file; change = Synced } in
    let may = subst (λ (cs : List Call). MayLeave (mem_seen new) cs image) noted (now_left (mem_seen new) (mem_calls new) image left) in
    let held = subst (λ (cs : List Change). MayHold (file_bytes file (mem_seen new)) cs (file_bytes file image)) (changes_of-same file Synced (mem_calls old)) (may file) in
    ⊎_elim (λ is. is) (λ is. is) held ∙ ap (λ (i : Image). file_bytes file i) seen

-- and of the others what it might leave before
pub sync_follows : (old new : MemVolume) (file : File) → mem_calls new ≡ record { file = file; change = Synced } ∷ mem_calls old → mem_seen new ≡ mem_seen old
    → CrashLeaves mem_moment mem_left_at new (mem_left_at old (mem_moment old))
sync_follows old new file noted seen image left =
    let call : Call = record { file = file; change = Synced } in
    let may : MayLeave (mem_seen old) (call ∷ mem_calls old) image =
    subst (λ (i : Image). MayLeave i (call ∷ mem_calls old) image) seen (subst (λ (cs : List Call). MayLeave (mem_seen new) cs image) noted (now_left (mem_seen new) (mem_calls new) image left)) in
    left_now (mem_seen old) (mem_calls old) image (λ f. ⊎_elim
    (λ (same : f ≡ file). inl (subst (λ g. file_bytes g image ≡ file_bytes g (mem_seen old)) (sym same) (sync_holds old new file noted seen image left)))
    (λ (other : is_file f file ≡ false). subst (λ (cs : List Change). MayHold (file_bytes f (mem_seen old)) cs (file_bytes f image)) (changes_of-other f file Synced (mem_calls old) other) (may f))
    (same_or_other f file))

-- where nothing changed, a crash leaves what it might leave before
pub leaves_same : (old new : MemVolume) → mem_calls new ≡ mem_calls old → mem_seen new ≡ mem_seen old → CrashLeaves mem_moment mem_left_at new (mem_left_at old (mem_moment old))
leaves_same old new calls seen image left =
    left_now (mem_seen old) (mem_calls old) image (subst (λ (i : Image). MayLeave i (mem_calls old) image) seen (subst (λ (cs : List Call). MayLeave (mem_seen new) cs image) calls (now_left (mem_seen new) (mem_calls new) image left)))

-- a write was noted and done, or neither
abbrev pub WritesOrNot : MemVolume → MemVolume → File → ℕ → List ℕ → Type 0
WritesOrNot old new file at piece =
    ((change : Change) × (mem_calls new ≡ record { file = file; change = change } ∷ mem_calls old) × Covers at (length piece) (file_bytes file (mem_seen old)) change
    × (mem_seen new ≡ with_file file (written at piece (file_bytes file (mem_seen old))) (mem_seen old)))
    ⊎ ((mem_calls new ≡ mem_calls old) × (mem_seen new ≡ mem_seen old))

pub write_crash : (old new : MemVolume) (file : File) (at : ℕ) (piece : List ℕ) → WritesOrNot old new file at piece → CrashFollows mem_moment mem_left_at (TornFile file at (length piece)) old new
write_crash old new file at piece (inl did) =
    tear_follows old new file did.0 (written at piece (file_bytes file (mem_seen old))) at (length piece) did.1 did.3 (written_torn at piece (file_bytes file (mem_seen old)))
    (wrote_back at piece (file_bytes file (mem_seen old)) did.0 (changes_of file (mem_calls old)) did.2)
write_crash old new file at piece (inr not) = follows_same old new file at (length piece) not.0 not.1

pub write_time : (old new : MemVolume) (file : File) (at : ℕ) (piece : List ℕ) → WritesOrNot old new file at piece → Elapses mem_moment mem_left_at old new
write_time old new file at piece (inl did) =
    elapses_write old new file did.0 (written at piece (file_bytes file (mem_seen old))) did.1 did.3 (undone-covers at piece (file_bytes file (mem_seen old)) did.0 did.2)
write_time old new file at piece (inr not) = elapses_same old new not.0 not.1

pub write_torn : (old new : MemVolume) (file : File) (at : ℕ) (piece : List ℕ) → WritesOrNot old new file at piece → TornFile file at (length piece) (mem_seen old) (mem_seen new)
write_torn old new file at piece (inl did) =
    let bytes = written at piece (file_bytes file (mem_seen old)) in
    subst (λ (i : Image). TornFile file at (length piece) (mem_seen old) i) (sym did.3) (record {
      torn = subst (λ (b : List ℕ). Torn at (length piece) (file_bytes file (mem_seen old)) b) (sym (file_bytes-with_file file bytes (mem_seen old))) (written_torn at piece (file_bytes file (mem_seen old)));
      others = with_file-with_file file [] bytes (mem_seen old);
    })
write_torn old new file at piece (inr not) =
    subst (λ (i : Image). TornFile file at (length piece) (mem_seen old) i) (sym not.1) (record { torn = unwritten_torn at (length piece) (file_bytes file (mem_seen old)); others = refl })

-- a volume with no call is settled
pub settled_anew : (volume : MemVolume) → volume.calls.items ≡ [] → IsSettled mem_moment mem_left_at mem_seen volume
settled_anew volume none image left =
    let may = subst (λ (cs : List Call). MayLeave (mem_seen volume) cs image) (ap reverse none) (now_left (mem_seen volume) (mem_calls volume) image left) in
    same_image image (mem_seen volume) (λ f. ⊎_elim (λ is. is) (λ is. is) (may f))

-- what the last sync left is among what the writes since reach
pub settled_reached : (now : List ℕ) (changes : List Change) → Reaches now changes (settled_bytes now changes)
settled_reached now [] = refl
settled_reached now (Synced ∷ earlier) = refl
settled_reached now (Missed at len ∷ earlier) = (settled_bytes now earlier, settled_reached now earlier, unwritten_torn at len (settled_bytes now earlier))
settled_reached now (Wrote at len covered size ∷ earlier) =
    let before = undone (Wrote at len covered size) now in
    (settled_bytes before earlier, settled_reached before earlier, unwritten_torn at len (settled_bytes before earlier))

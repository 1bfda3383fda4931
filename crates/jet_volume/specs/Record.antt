-- What a volume in memory tells of a crash, from what it holds now and the calls that it has kept.
use Rattle.std.specs.Prelude.{◌≡◌, ◌⊎◌, ℕ, ◌+◌, List, [], ◌∷◌, ◌++◌, length, take, drop, if◌then◌else◌}
use Rattle.jet_volume.specs.declared.files.File.{File}
use Rattle.jet_volume.specs.declared.record.Change.{Change}
use Rattle.jet_volume.specs.declared.record.Change.TheVariants.{Wrote, Missed, Synced}
use Rattle.jet_volume.specs.declared.record.Call.{Call}
use Rattle.jet_volume.specs.Image.{Image, file_bytes, with_file, is_file}
use Rattle.jet_volume.specs.Crash.{Torn}

-- the bytes that a file had before a change; a write kept those that it covered, and the size
abbrev pub undone : Change → List ℕ → List ℕ
undone (Wrote at len covered size) now = take size (take at now ++ covered.items ++ drop (at + length covered.items) now)
undone (Missed at len) now = now
undone Synced now = now

-- From what a file holds now and its changes, the newest first: what the writes since its last sync may have left,
-- each of them torn.
abbrev pub Reaches : List ℕ → List Change → List ℕ → Type 0
Reaches now [] bytes = bytes ≡ now
Reaches now (Synced ∷ earlier) bytes = bytes ≡ now
Reaches now (Missed at len ∷ earlier) bytes = (before : List ℕ) × Reaches now earlier before × Torn at len before bytes
Reaches now (Wrote at len covered size ∷ earlier) bytes =
    (before : List ℕ) × Reaches (take size (take at now ++ covered.items ++ drop (at + length covered.items) now)) earlier before × Torn at len before bytes

-- what the last sync of a file left, where none of the writes since has come
abbrev pub settled_bytes : List ℕ → List Change → List ℕ
settled_bytes now [] = now
settled_bytes now (Synced ∷ earlier) = now
settled_bytes now (Missed at len ∷ earlier) = settled_bytes now earlier
settled_bytes now (Wrote at len covered size ∷ earlier) =
    settled_bytes (take size (take at now ++ covered.items ++ drop (at + length covered.items) now)) earlier

-- what a crash may leave of one file: all that was written, or what the writes reach
abbrev pub MayHold : List ℕ → List Change → List ℕ → Type 0
MayHold now changes bytes = (bytes ≡ now) ⊎ Reaches now changes bytes

-- the changes of one file among the calls
abbrev pub changes_of : File → List Call → List Change
changes_of file [] = []
changes_of file (call ∷ calls) = if is_file file call.file then call.change ∷ changes_of file calls else changes_of file calls

-- what a crash may leave of the four files, after these calls, the newest first
abbrev pub MayLeave : Image → List Call → Image → Type 0
MayLeave now calls image = (file : File) → MayHold (file_bytes file now) (changes_of file calls) (file_bytes file image)

-- the image before a call
abbrev pub before_call : Call → Image → Image
before_call call now = with_file call.file (undone call.change (file_bytes call.file now)) now

-- What a crash after the first k of the calls may have left: each moment is one more call back.
abbrev pub LeftAt : Image → List Call → ℕ → Image → Type 0
LeftAt now [] k image = (k ≡ 0) × MayLeave now [] image
LeftAt now (call ∷ earlier) k image = ((k ≡ length (call ∷ earlier)) × MayLeave now (call ∷ earlier) image) ⊎ LeftAt (before_call call now) earlier k image

use Rattle.std.proofs.Common.{◌≡◌, length, map}
use Rattle.image_findings.specs.Images.{first_of}
use Rattle.image_live.specs.KeptRows.{HasSoundChanges}
use Rattle.image_live.proofs.Loops.{opened_finding}
use Rattle.image_live.proofs.keys.duplicate.duplicate_key.Given as goal

-- Nothing was found of the indexes so far.
abbrev pub invariant-loop-index : goal.invariant-loop-index
invariant-loop-index l =
    (kept : HasSoundChanges l.sessions l.variants) → first_of (map (opened_finding l.sessions l.variants kept) l.rest) ≡ first_of (map (opened_finding l.sessions l.variants kept) l.variants.opened.now.indexes.items)

abbrev pub decreases-loop-index : goal.decreases-loop-index
decreases-loop-index l = length l.rest

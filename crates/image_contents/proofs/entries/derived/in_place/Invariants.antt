use Rattle.std.proofs.Common.{◌≡◌, take}
use Rattle.image_contents.proofs.entries.derived.in_place.Given as goal

-- So far the entries are those that were passed.
abbrev pub invariant-loop-entry : goal.invariant-loop-entry
invariant-loop-entry l = l.entries.items ≡ take l.entry-index l.derived

use Rattle.std.proofs.Common.{◌≡◌, ℕ, List, ◌++◌, map, take}
use Rattle.image_contents.proofs.entries.derived.push_keys.Given as goal

-- So far the entries are those of the keys that were passed.
abbrev pub invariant-loop-key : goal.invariant-loop-key
invariant-loop-key l = l.entries.items ≡ l.initial.entries.items ++ map (λ (key : List ℕ). (key, l.bookmark)) (take l.key-index l.keys)

use Rattle.std.proofs.Common.{◌≡◌, ◌++◌, ◌-◌, ◌≤◌, drop, length}
use Rattle.image_contents.specs.ReadVariants.{contents_of}
use Rattle.image_live.specs.KeySpans.{spans_from}
use Rattle.image_live.proofs.keys.derived.push_before.Given as goal

-- The spans so far and those of the changes that are left are those of all.
abbrev pub invariant-loop-place : goal.invariant-loop-place
invariant-loop-place l =
    (l.place ≤ length l.variants.versions.now)
    × (l.spans.items ++ spans_from l.rule (contents_of l.variants) l.variants.versions.now l.place (drop l.place l.variants.versions.now) ≡ l.initial.spans.items ++ spans_from l.rule (contents_of l.variants) l.variants.versions.now 0 l.variants.versions.now)

abbrev pub decreases-loop-place : goal.decreases-loop-place
decreases-loop-place l = length l.variants.versions.now - l.place

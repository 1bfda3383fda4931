use Rattle.std.proofs.Common.{◌≡◌, ◌++◌, ◌-◌, ◌≤◌, drop, length}
use Rattle.std.specs.List.{flat_map}
use Rattle.database_state.specs.Table.{schema_of}
use Rattle.image_contents.specs.ReadVariants.{contents_of}
use Rattle.image_findings.specs.EntryFindings.{pairs_of, row_before}
use Rattle.image_contents.proofs.entries.variants.TableVariants.push_before.Given as goal

-- The entries so far and those of the changes that are left are those of all.
abbrev pub invariant-loop-place : goal.invariant-loop-place
invariant-loop-place l =
    (l.place ≤ length l.self.versions.now)
    × (l.entries.items ++ flat_map (pairs_of l.rule (schema_of l.self.table.now)) (flat_map (row_before (contents_of l.self)) (drop l.place l.self.versions.now))
    ≡ l.initial.entries.items ++ flat_map (pairs_of l.rule (schema_of l.self.table.now)) (flat_map (row_before (contents_of l.self)) l.self.versions.now))

abbrev pub decreases-loop-place : goal.decreases-loop-place
decreases-loop-place l = length l.self.versions.now - l.place

use Rattle.std.specs.Prelude.{ℕ, ◌<◌, Bool, List, IfSome, length}
use Rattle.index_derive.specs.declared.rules.IndexRule.{IndexRule}
use Rattle.index_derive.specs.declared.rules.Schema.{Schema}
use Rattle.table_versions.proofs.RecordConflicts.{Walks, up_to}
use Rattle.table_versions.proofs.conflicting_keys.has_concurrent.Given as goal
use Rattle.stored_variants.specs.RecordRows.{TableValues}

-- so far no change stands against any key
abbrev pub invariant-loop-found : goal.invariant-loop-found
invariant-loop-found l =
    IfSome l.found (λ place. place < length l.versions)
    × ((longs : TableValues) (rule : IndexRule) (schema : Schema) (key : List ℕ) (newest : Bool)
    → (after : Bool) × Walks longs (record { reader = l.reader; rule = rule; schema = schema; key = key; newest = newest; table = l.fn.table.0; bookmark = l.bookmark }) l.versions l.found after)

abbrev pub decreases-loop-found : goal.decreases-loop-found
decreases-loop-found l = up_to l.found

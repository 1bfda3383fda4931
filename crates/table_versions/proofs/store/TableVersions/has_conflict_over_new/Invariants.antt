use Rattle.std.proofs.Common.{List, ℕ, not, ◌&&◌}
use Rattle.std.specs.Prelude.{option_copied}
use Rattle.database_state.specs.Conflicts.{yields_key}
use Rattle.index_derive.specs.Entries.{key_list}
use Rattle.table_versions.specs.KeyConflicts.{has_conflict_over, replaced_seen}
use Rattle.table_versions.proofs.KeyWalks.{IsKeyWalk, keys_left}
use Rattle.table_versions.proofs.store.TableVersions.has_conflict_over_new.Given as goal

abbrev pub invariant-loop-found : goal.invariant-loop-found
invariant-loop-found g l =
    IsKeyWalk (λ (key : List ℕ). not (yields_key l.rule l.schema key (replaced_seen l.reader l.self.store l.fn.table.0 (option_copied l.fn.own))) && has_conflict_over l.reader l.self.store l.fn.table.0 l.rule l.schema key)
    (key_list l.rule l.schema (g.R.Values.fields l.«record»)) l.found

abbrev pub decreases-loop-found : goal.decreases-loop-found
decreases-loop-found g l = keys_left (key_list l.rule l.schema (g.R.Values.fields l.«record»)) l.found

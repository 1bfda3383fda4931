use Rattle.std.specs.Prelude.{option_copied}
use Rattle.index_derive.specs.Entries.{key_list}
use Rattle.table_versions.specs.KeyConflicts.{is_taken_for}
use Rattle.table_versions.proofs.KeyWalks.{IsKeyWalk, keys_left}
use Rattle.table_versions.proofs.store.TableVersions.has_taken_key.Given as goal

abbrev pub invariant-loop-found : goal.invariant-loop-found
invariant-loop-found g l =
    IsKeyWalk (is_taken_for l.reader l.self.store l.fn.table.0 l.rule.id.0 (option_copied l.fn.own)) (key_list l.rule l.schema (g.R.Values.fields l.«record»)) l.found

abbrev pub decreases-loop-found : goal.decreases-loop-found
decreases-loop-found g l = keys_left (key_list l.rule l.schema (g.R.Values.fields l.«record»)) l.found

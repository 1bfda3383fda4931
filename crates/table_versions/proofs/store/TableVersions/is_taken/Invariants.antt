use Rattle.std.proofs.Common.{List, ℕ, not}
use Rattle.std.specs.Prelude.{option_copied}
use Rattle.cursor_nav.specs.Places.{found_pair}
use Rattle.database_state.specs.Puts.{is_replaced}
use Rattle.stored_variants.specs.StoredVersions.{seen_entries}
use Rattle.laws_engine.proofs.TableLemmas.Neighbours.{left_from}
use Rattle.table_versions.proofs.WithKey.{KeyWalk}
use Rattle.table_versions.proofs.store.TableVersions.is_taken.Given as goal

abbrev pub invariant-loop-found : goal.invariant-loop-found
invariant-loop-found l =
    KeyWalk (λ (bookmark : List ℕ). not (is_replaced (option_copied l.fn.own) bookmark)) l.key (seen_entries l.reader l.self.store l.table.0 l.index.0) (found_pair l.found)

abbrev pub decreases-loop-found : goal.decreases-loop-found
decreases-loop-found l = left_from (seen_entries l.reader l.self.store l.table.0 l.index.0) (found_pair l.found)

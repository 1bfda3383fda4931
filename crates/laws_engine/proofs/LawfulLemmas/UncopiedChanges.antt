-- No kept change names a copied record.
use Rattle.std.proofs.Common.{◌≡◌, ℕ, ◌+◌, List, [], ◌∷◌, map, refl, sym, subst}
use Rattle.common_lemmas.proofs.Lists.{all_append, all_map, all_weaker}
use Rattle.column_set.specs.declared.changes.Change.{Change}
use Rattle.column_set.specs.declared.changes.Change.TheVariants.{Put, Drop, Hold, Add}
use Rattle.index_derive.specs.declared.log.EntryKind.{EntryKind}
use Rattle.index_derive.specs.declared.log.EntryKind.TheVariants as entry
use Rattle.database_state.specs.Changes.{without_copied}
use Rattle.database_state.specs.State.{DatabaseState, PastChange, levels}
use Rattle.database_state.specs.Step.{every_change, is_at_level}
use Rattle.laws_versions.specs.KeptSteps.{committed_own, is_own_open, kept_after, lowered_own, new_change, undone_where, with_next_number}
use Rattle.laws_versions.proofs.RecordLemmas.EachRecord.{KeepsRecords, commit_keeps, lower_keeps, undone_keeps}
use Rattle.laws_engine.specs.UncopiedPast.{AreUncopied, IsUncopied}

pub uncopied_twice : (change : Change) → without_copied change ≡ without_copied (without_copied change)
uncopied_twice (Put table bookmark copied values) = refl
uncopied_twice (Drop table bookmark) = refl
uncopied_twice (Hold table bookmark) = refl
uncopied_twice (Add table bookmark column amount) = refl

uncopied_mapped : (f : PastChange → PastChange) → KeepsRecords f → (kept : List PastChange) → AreUncopied kept → AreUncopied (map f kept)
uncopied_mapped f keeps kept h = all_map IsUncopied f kept (all_weaker IsUncopied (λ item. IsUncopied (f item)) (λ item e. subst (λ (c : Change). c ≡ without_copied c) (sym (keeps item).0) e) kept h)

pub uncopied_after : (state : DatabaseState) (label : ℕ) (kind : EntryKind) (kept : List PastChange) → AreUncopied kept → AreUncopied (kept_after state label kind kept)
uncopied_after state label entry.Enter kept h = h
uncopied_after state label entry.Leave kept h = uncopied_mapped (undone_where (is_own_open label every_change)) (undone_keeps (is_own_open label every_change)) kept h
uncopied_after state label (entry.Open table) kept h = h
uncopied_after state label (entry.Shut table) kept h = h
uncopied_after state label entry.Begin kept h = h
uncopied_after state label entry.Save kept h = h
uncopied_after state label (entry.Change change) kept h = all_append IsUncopied kept (new_change label change (with_next_number state) ∷ []) h (uncopied_twice change, tt)
uncopied_after state label entry.Release kept h = uncopied_mapped (lowered_own label (levels state label)) (lower_keeps label (levels state label)) kept h
uncopied_after state label entry.Undo kept h = uncopied_mapped (undone_where (is_own_open label (is_at_level (levels state label)))) (undone_keeps (is_own_open label (is_at_level (levels state label)))) kept h
uncopied_after state label entry.UndoAll kept h = uncopied_mapped (undone_where (is_own_open label every_change)) (undone_keeps (is_own_open label every_change)) kept h
uncopied_after state label entry.Commit kept h = uncopied_mapped (committed_own label (state.number + 1)) (commit_keeps label (state.number + 1)) kept h
uncopied_after state label (entry.Schema made) kept h = tt

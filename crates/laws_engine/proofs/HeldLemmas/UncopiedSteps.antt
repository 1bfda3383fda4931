-- No past change names a copied record.
use Rattle.std.proofs.Common.{ℕ, ◌-◌, Bool, true, false, ◌&&◌, cond, List, None}
use Rattle.std.specs.Prelude.{map, nat_lt, if◌then◌else◌}
use Rattle.common_lemmas.proofs.Lists.{all_append, all_map, all_weaker}
use Rattle.index_derive.specs.declared.log.Entry.{Entry}
use Rattle.index_derive.specs.declared.log.EntryKind.{EntryKind}
use Rattle.index_derive.specs.declared.log.EntryKind.TheVariants as entry
use Rattle.database_state.specs.State.{DatabaseState, PastChange, undone, committed, is_open_change_of, levels}
use Rattle.database_state.specs.Step.{applied, every_change, is_at_level, state_after, with_changes_at, with_levels, with_transaction}
use Rattle.laws_versions.specs.KeptSteps.{with_next_number}
use Rattle.laws_engine.specs.UncopiedPast.{AreUncopied, IsUncopied}
use Rattle.laws_engine.proofs.LawfulLemmas.UncopiedChanges.{uncopied_twice}

-- changes that become others of the same change
own_uncopied : (label : ℕ) (test : PastChange → Bool) (change : PastChange → PastChange) → ((x : PastChange) → IsUncopied x → IsUncopied (change x)) → (past : List PastChange) → AreUncopied past
    → AreUncopied (map (λ item. if is_open_change_of label item && test item then change item else item) past)
own_uncopied label test change same past h =
    all_map IsUncopied (λ item. if is_open_change_of label item && test item then change item else item) past
    (all_weaker IsUncopied (λ x. IsUncopied (if is_open_change_of label x && test x then change x else x)) (λ x p. by x (is_open_change_of label x && test x) p) past h)
  where
    by : (x : PastChange) (b : Bool) → IsUncopied x → IsUncopied (cond b (change x) x)
    by x true p = same x p
    by x false p = p

applied_uncopied : (state : DatabaseState) (label : ℕ) (kind : EntryKind) → AreUncopied state.past → AreUncopied (applied label kind state).past
applied_uncopied state label entry.Enter h = h
applied_uncopied state label entry.Leave h = own_uncopied label every_change (λ item. record item { status = undone }) (λ x p. p) state.past h
applied_uncopied state label (entry.Open table) h = h
applied_uncopied state label (entry.Shut table) h = h
applied_uncopied state label entry.Begin h = h
applied_uncopied state label entry.Save h = h
applied_uncopied state label (entry.Change change) h = all_append IsUncopied state.past _ h (uncopied_twice change, tt)
applied_uncopied state label entry.Release h = own_uncopied label (is_at_level (levels state label)) (λ item. record item { level = item.level - 1 }) (λ x p. p) state.past h
applied_uncopied state label entry.Undo h = by (nat_lt 1 (levels state label)) (own_uncopied label (is_at_level (levels state label)) (λ item. record item { status = undone }) (λ x p. p) state.past h)
  where
    undoing : DatabaseState
    undoing = with_changes_at label (is_at_level (levels state label)) (λ item. record item { status = undone }) state

    by : (b : Bool) → AreUncopied (map (λ item. if is_open_change_of label item && is_at_level (levels state label) item then record item { status = undone } else item) state.past)
        → AreUncopied (cond b (with_levels label (λ n. n - 1) undoing) (with_transaction label None undoing)).past
    by true g = g
    by false g = g
applied_uncopied state label entry.UndoAll h = own_uncopied label every_change (λ item. record item { status = undone }) (λ x p. p) state.past h
applied_uncopied state label entry.Commit h = own_uncopied label every_change (λ item. record item { status = committed state.number }) (λ x p. p) state.past h
applied_uncopied state label (entry.Schema made) h = h

pub stays_uncopied : (state : DatabaseState) (made : Entry) → AreUncopied state.past → AreUncopied (state_after state made).past
unfolding state_after
stays_uncopied state made h = applied_uncopied (with_next_number state) made.session.0 made.kind h

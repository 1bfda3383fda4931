-- Changes that are undone in two turns are undone as at once, where none that goes in the first turn stands before one that goes
-- in the second.
use Rattle.std.proofs.Common.{◌≡◌, Bool, true, false, ◌||◌, cond, List, [], ◌∷◌, map, refl, sym, ap, ◌∙◌}
use Rattle.std.specs.List.{AllByRecursion, list_any}
use Rattle.common_lemmas.proofs.Lists.{all_weaker}
use Rattle.database_state.specs.Table.{Table}
use Rattle.database_state.specs.Changes.{tables_after}
use Rattle.laws_versions.specs.History.{EachTwo}
use Rattle.laws_engine.specs.HeldRecords.{HeldRecord, as_undone, inverse, undone_change}
use Rattle.laws_engine.specs.VersionedTables.{LeavesUndone, VersionedTables, tables_taken_back, with_changes_undone}
use Rattle.laws_engine.proofs.TableLemmas.OneByOne.{none_undone}

-- what stands behind one of the first turn does not go in the second
abbrev pub GoesFirst : (HeldRecord → Bool) → (HeldRecord → Bool) → HeldRecord → HeldRecord → Type 0
GoesFirst first second earlier later = first earlier ≡ true → second later ≡ false

abbrev pub goes_in_either : (HeldRecord → Bool) → (HeldRecord → Bool) → HeldRecord → Bool
goes_in_either first second held = first held || second held

-- ---- none goes in the second turn

none_second : (first second : HeldRecord → Bool) → LeavesUndone second → (held : List HeldRecord) → AllByRecursion (λ h. second h ≡ false) held → list_any second (map (undone_change first) held) ≡ false
none_second first second leaves [] none = refl
none_second first second leaves (h ∷ held) none = ap (λ (b : Bool). b || list_any second (map (undone_change first) held)) (by (first h)) ∙ none_second first second leaves held none.1
  where
    by : (b : Bool) → second (cond b (as_undone h) h) ≡ false
    by true = leaves h
    by false = none.0

none_back : (test : HeldRecord → Bool) (held : List HeldRecord) (tables : List Table) → list_any test held ≡ false → tables_taken_back test held tables ≡ tables
none_back test held tables none = ap (λ (s : VersionedTables). s.tables) (none_undone test (record { tables = tables; held = held }) none)

-- ---- two turns

back_in_turns : (first second : HeldRecord → Bool) → LeavesUndone second → (held : List HeldRecord) (tables : List Table) → EachTwo (GoesFirst first second) held
    → tables_taken_back second (map (undone_change first) held) (tables_taken_back first held tables) ≡ tables_taken_back (goes_in_either first second) held tables
back_in_turns first second leaves [] tables goes = refl
back_in_turns first second leaves (h ∷ held) tables goes = by (first h) refl (back_in_turns first second leaves held tables goes.1)
  where
    rest : List HeldRecord
    rest = map (undone_change first) held

    later : List Table
    later = tables_taken_back first held tables

    all : List Table
    all = tables_taken_back (goes_in_either first second) held tables

    none : first h ≡ true → list_any second rest ≡ false
    none e = none_second first second leaves held (all_weaker (GoesFirst first second h) (λ (x : HeldRecord). second x ≡ false) (λ x g. g e) held goes.0)

    by : (b : Bool) → first h ≡ b → tables_taken_back second rest later ≡ all
        → cond (second (cond b (as_undone h) h)) (tables_after (tables_taken_back second rest (cond b (tables_after later (inverse h)) later)) (inverse (cond b (as_undone h) h)))
        (tables_taken_back second rest (cond b (tables_after later (inverse h)) later))
        ≡ cond (b || second h) (tables_after all (inverse h)) all
    by true e same =
        ap (λ (b : Bool). cond b (tables_after (tables_taken_back second rest (tables_after later (inverse h))) (inverse (as_undone h))) (tables_taken_back second rest (tables_after later (inverse h)))) (leaves h)
        ∙ none_back second rest (tables_after later (inverse h)) (none e)
        ∙ ap (λ (t : List Table). tables_after t (inverse h)) (sym (none_back second rest later (none e)) ∙ same)
    by false e same = ap (λ (t : List Table). cond (second h) (tables_after t (inverse h)) t) same

changed_in_turns : (first second : HeldRecord → Bool) → LeavesUndone second → (held : List HeldRecord) → map (undone_change second) (map (undone_change first) held) ≡ map (undone_change (goes_in_either first second)) held
changed_in_turns first second leaves [] = refl
changed_in_turns first second leaves (h ∷ held) = λ i. by (first h) i ∷ changed_in_turns first second leaves held i
  where
    by : (b : Bool) → undone_change second (cond b (as_undone h) h) ≡ cond (b || second h) (as_undone h) h
    by true = ap (λ (b : Bool). cond b (as_undone (as_undone h)) (as_undone h)) (leaves h)
    by false = refl

pub undone_in_turns : (first second : HeldRecord → Bool) (store : VersionedTables) → LeavesUndone second → EachTwo (GoesFirst first second) store.held
    → with_changes_undone second (with_changes_undone first store) ≡ with_changes_undone (goes_in_either first second) store
undone_in_turns first second store leaves goes = λ i. record {
  tables = back_in_turns first second leaves store.held store.tables goes i;
  held = changed_in_turns first second leaves store.held i;
}

-- ---- two tests that agree

abbrev pub Agree : (HeldRecord → Bool) → (HeldRecord → Bool) → HeldRecord → Type 0
Agree one other h = one h ≡ other h

back_alike : (one other : HeldRecord → Bool) (held : List HeldRecord) (tables : List Table) → AllByRecursion (Agree one other) held → tables_taken_back one held tables ≡ tables_taken_back other held tables
back_alike one other [] tables agree = refl
back_alike one other (h ∷ held) tables agree = λ i. cond (agree.0 i) (tables_after (back_alike one other held tables agree.1 i) (inverse h)) (back_alike one other held tables agree.1 i)

changed_alike : (one other : HeldRecord → Bool) (held : List HeldRecord) → AllByRecursion (Agree one other) held → map (undone_change one) held ≡ map (undone_change other) held
changed_alike one other [] agree = refl
changed_alike one other (h ∷ held) agree = λ i. cond (agree.0 i) (as_undone h) h ∷ changed_alike one other held agree.1 i

pub undone_alike : (one other : HeldRecord → Bool) (store : VersionedTables) → AllByRecursion (Agree one other) store.held → with_changes_undone one store ≡ with_changes_undone other store
undone_alike one other store agree = λ i. record { tables = back_alike one other store.held store.tables agree i; held = changed_alike one other store.held agree i }

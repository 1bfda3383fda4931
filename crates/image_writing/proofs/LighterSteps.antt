-- What an entry makes of a state without some of its undone changes.
use Rattle.std.proofs.Common.{◌≡◌, ℕ, ◌+◌, ◌-◌, Bool, true, false, not, ◌&&◌, List, [], ◌∷◌, ◌++◌, None, refl, sym, ap, ◌∙◌}
use Rattle.std.specs.Prelude.{map, nat_lt, if◌then◌else◌}
use Rattle.common_lemmas.proofs.Booleans.{impossible}
use Rattle.index_derive.specs.declared.log.Entry.{Entry}
use Rattle.index_derive.specs.declared.log.EntryKind.{EntryKind}
use Rattle.index_derive.specs.declared.log.EntryKind.TheVariants as entry
use Rattle.column_set.specs.ChangedRecords.{changed_bookmark, changed_table}
use Rattle.column_set.specs.declared.changes.Change.{Change}
use Rattle.database_state.specs.Changes.{tables_after, tables_after_all, without_copied}
use Rattle.database_state.specs.Lawful.{is_lawful}
use Rattle.database_state.specs.State.{DatabaseState, PastChange, committed, is_open_change_of, is_undone, levels, uncommitted, undone}
use Rattle.database_state.specs.Step.{applied, every_change, is_at_level, state_after, with_changes_at, with_levels, with_transaction}
use Rattle.database_state.specs.Table.{Table, record_in}
use Rattle.database_state.specs.View.{newest}
use Rattle.laws_images.proofs.SettledLemmas.Filters.{own_open_stands}
use Rattle.laws_images.proofs.SettledLemmas.LawfulEntries.{lawful_alike}
use Rattle.laws_images.specs.Settled.{settled}
use Rattle.laws_versions.specs.Readers.{is_standing}
use Rattle.image_writing.specs.LighterStates.{AreUndone, lighter, without_marked}
use Rattle.image_writing.proofs.LighterReads.{lighter_newest, own_open}
use Rattle.image_writing.proofs.Marked.{append-undone, append-without, filter-without, map-undone, map-without}

-- a state by its past
abbrev with_past : DatabaseState → List PastChange → DatabaseState
with_past state past = record state { past = past }

by_past : (state : DatabaseState) (one other : List PastChange) → one ≡ other → with_past state one ≡ with_past state other
by_past state one other e = ap (with_past state) e

-- what a change of the session becomes
abbrev becomes : ℕ → (PastChange → Bool) → (PastChange → PastChange) → PastChange → PastChange
becomes label test change item = if is_open_change_of label item && test item then change item else item

abbrev undone_item : PastChange → PastChange
undone_item item = record item { status = undone }

abbrev lowered_item : PastChange → PastChange
lowered_item item = record item { level = item.level - 1 }

abbrev committed_item : ℕ → PastChange → PastChange
committed_item number item = record item { status = committed number }

-- the new change of an entry, by the newest tables
abbrev new_item : ℕ → Change → DatabaseState → List Table → PastChange
new_item label change state tables = record {
  number = state.number;
  session = label;
  level = levels state label;
  change = without_copied change;
  before = record_in tables (changed_table change) (changed_bookmark change);
  after = record_in (tables_after tables change) (changed_table change) (changed_bookmark change);
  status = uncommitted;
}

-- undone changes stay as they are
stays : (label : ℕ) (test : PastChange → Bool) (change : PastChange → PastChange) (item : PastChange) → is_undone item.status ≡ true → becomes label test change item ≡ item
stays label test change item gone = by (is_open_change_of label item) refl
  where
    by : (b : Bool) → is_open_change_of label item ≡ b → (if b && test item then change item else item) ≡ item
    by true e = impossible (sym (ap not gone) ∙ own_open_stands label item e)
    by false e = refl

changes : (label : ℕ) (test : PastChange → Bool) (change : PastChange → PastChange) (marks : List Bool) (past : List PastChange)
    → map (becomes label test change) (without_marked marks past) ≡ without_marked marks (map (becomes label test change) past)
changes label test change marks past = sym (map-without (becomes label test change) marks past)

alike : (label : ℕ) (kind : EntryKind) (marks : List Bool) (state : DatabaseState) → AreUndone marks state.past → applied label kind (lighter marks state) ≡ lighter marks (applied label kind state)
alike label entry.Enter marks state h = refl
alike label entry.Leave marks state h = by_past (applied label entry.Leave state) _ _ (changes label every_change undone_item marks state.past)
alike label (entry.Open table) marks state h = refl
alike label (entry.Shut table) marks state h = refl
alike label entry.Begin marks state h = refl
alike label entry.Save marks state h = refl
alike label (entry.Change change) marks state h =
    by_past state _ _
    (ap (λ (tables : List Table). without_marked marks state.past ++ new_item label change state tables ∷ []) (lighter_newest marks state h)
    ∙ sym (append-without marks state.past h (new_item label change state (newest state))))
alike label entry.Release marks state h = by_past (applied label entry.Release state) _ _ (changes label (is_at_level (levels state label)) lowered_item marks state.past)
alike label entry.Undo marks state h = by (nat_lt 1 (levels state label))
  where
    undoing : DatabaseState → DatabaseState
    undoing s = with_changes_at label (is_at_level (levels state label)) undone_item s

    by : (b : Bool) → (if b then with_levels label (λ n. n - 1) (undoing (lighter marks state)) else with_transaction label None (undoing (lighter marks state)))
        ≡ lighter marks (if b then with_levels label (λ n. n - 1) (undoing state) else with_transaction label None (undoing state))
    by true = by_past (with_levels label (λ n. n - 1) state) _ _ (changes label (is_at_level (levels state label)) undone_item marks state.past)
    by false = by_past (with_transaction label None state) _ _ (changes label (is_at_level (levels state label)) undone_item marks state.past)
alike label entry.UndoAll marks state h = by_past (applied label entry.UndoAll state) _ _ (changes label every_change undone_item marks state.past)
alike label entry.Commit marks state h =
    by_past (applied label entry.Commit (lighter marks state)) _ _ (changes label every_change (committed_item state.number) marks state.past)
    ∙ ap (λ made. with_past (record (applied label entry.Commit state) { tables = tables_after_all state.tables made }) (without_marked marks (map (becomes label every_change (committed_item state.number)) state.past)))
    (own_open marks state.past h label)
alike label (entry.Schema made) marks state h = refl

undone_after : (label : ℕ) (kind : EntryKind) (marks : List Bool) (state : DatabaseState) → AreUndone marks state.past → AreUndone marks (applied label kind state).past
undone_after label entry.Enter marks state h = h
undone_after label entry.Leave marks state h = map-undone (becomes label every_change undone_item) (stays label every_change undone_item) marks state.past h
undone_after label (entry.Open table) marks state h = h
undone_after label (entry.Shut table) marks state h = h
undone_after label entry.Begin marks state h = h
undone_after label entry.Save marks state h = h
undone_after label (entry.Change change) marks state h = append-undone marks state.past h (new_item label change state (newest state))
undone_after label entry.Release marks state h =
    map-undone (becomes label (is_at_level (levels state label)) lowered_item) (stays label (is_at_level (levels state label)) lowered_item) marks state.past h
undone_after label entry.Undo marks state h = by (nat_lt 1 (levels state label))
  where
    undoing : DatabaseState
    undoing = with_changes_at label (is_at_level (levels state label)) undone_item state

    undoes : AreUndone marks undoing.past
    undoes = map-undone (becomes label (is_at_level (levels state label)) undone_item) (stays label (is_at_level (levels state label)) undone_item) marks state.past h

    by : (b : Bool) → AreUndone marks (if b then with_levels label (λ n. n - 1) undoing else with_transaction label None undoing).past
    by true = undoes
    by false = undoes
undone_after label entry.UndoAll marks state h = map-undone (becomes label every_change undone_item) (stays label every_change undone_item) marks state.past h
undone_after label entry.Commit marks state h = map-undone (becomes label every_change (committed_item state.number)) (stays label every_change (committed_item state.number)) marks state.past h
undone_after label (entry.Schema made) marks state h = h

pub lighter_after : (marks : List Bool) (state : DatabaseState) → AreUndone marks state.past → (made : Entry) → state_after (lighter marks state) made ≡ lighter marks (state_after state made)
unfolding state_after
lighter_after marks state h made = alike made.session.0 made.kind marks (record state { number = state.number + 1 }) h

pub after_undone : (marks : List Bool) (state : DatabaseState) → AreUndone marks state.past → (made : Entry) → AreUndone marks (state_after state made).past
unfolding state_after
after_undone marks state h made = undone_after made.session.0 made.kind marks (record state { number = state.number + 1 }) h

-- ---- lawful entries

pub lighter_settled : (marks : List Bool) (state : DatabaseState) → AreUndone marks state.past → settled (lighter marks state) ≡ settled state
lighter_settled marks state h = by_past state _ _ (filter-without is_standing (λ item e. e) marks state.past h)

pub lighter_takes : (marks : List Bool) (state : DatabaseState) → AreUndone marks state.past → (made : Entry) → is_lawful (lighter marks state) made ≡ is_lawful state made
lighter_takes marks state h made = sym (lawful_alike (lighter marks state) made) ∙ ap (λ (s : DatabaseState). is_lawful s made) (lighter_settled marks state h) ∙ lawful_alike state made

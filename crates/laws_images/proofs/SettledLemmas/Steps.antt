-- What an entry makes of a state without its undone changes.
use Rattle.std.proofs.Common.{◌≡◌, ℕ, ◌+◌, ◌-◌, Bool, true, false, List, [], ◌∷◌, ◌++◌, None, refl, sym, ap, ◌∙◌}
use Rattle.std.specs.Prelude.{filter, map, ◌&&◌, nat_lt, if◌then◌else◌}
use Rattle.common_lemmas.proofs.Booleans.{impossible}
use Rattle.index_derive.specs.declared.log.Entry.{Entry}
use Rattle.index_derive.specs.declared.log.EntryKind.{EntryKind}
use Rattle.index_derive.specs.declared.log.EntryKind.TheVariants as entry
use Rattle.database_state.specs.Changes.{tables_after, tables_after_all, without_copied}
use Rattle.column_set.specs.ChangedRecords.{changed_bookmark, changed_table}
use Rattle.database_state.specs.State.{DatabaseState, PastChange, change_of, is_open, is_open_change_of, levels, open_changes, open_changes_of, uncommitted, undone, committed}
use Rattle.database_state.specs.Step.{applied, every_change, is_at_level, state_after, state_after_all, with_changes_at, with_levels, with_transaction}
use Rattle.database_state.specs.Table.{Table, record_in}
use Rattle.database_state.specs.View.{newest}
use Rattle.laws_versions.specs.Readers.{is_standing}
use Rattle.laws_images.specs.Settled.{settled}
use Rattle.laws_images.proofs.SettledLemmas.Filters.{made_alike, newly_open_stands, one_more, own_open_stands, passing_stands, twice}

-- a state by its past
abbrev with_past : DatabaseState → List PastChange → DatabaseState
with_past state past = record state { past = past }

pub own_open : (session : ℕ) (past : List PastChange) → open_changes_of session (filter is_standing past) ≡ open_changes_of session past
own_open session past = ap (map change_of) (passing_stands (is_open_change_of session) (own_open_stands session) past)

all_open : (past : List PastChange) → open_changes (filter is_standing past) ≡ open_changes past
all_open past = ap (map change_of) (passing_stands (λ item. is_open item.status) newly_open_stands past)

pub newest_alike : (state : DatabaseState) → newest (settled state) ≡ newest state
unfolding newest
newest_alike state = ap (tables_after_all state.tables) (all_open state.past)

-- the session's open changes become others: undone ones stay
stays : (label : ℕ) (test : PastChange → Bool) (change : PastChange → PastChange) (item : PastChange) → is_standing item ≡ false → (if is_open_change_of label item && test item then change item else item) ≡ item
stays label test change item e = at (is_open_change_of label item) refl
  where
    at : (b : Bool) → is_open_change_of label item ≡ b → (if b && test item then change item else item) ≡ item
    at true f = impossible (sym e ∙ own_open_stands label item f)
    at false f = refl

changes_alike : (label : ℕ) (test : PastChange → Bool) (change : PastChange → PastChange) (past : List PastChange)
    → filter is_standing (map (λ item. if is_open_change_of label item && test item then change item else item) (filter is_standing past)) ≡ filter is_standing (map (λ item. if is_open_change_of label item && test item then change item else item) past)
changes_alike label test change past = made_alike (λ item. if is_open_change_of label item && test item then change item else item) (stays label test change) past

-- the same past makes the same state
by_past : (state : DatabaseState) (one other : List PastChange) → one ≡ other → with_past state one ≡ with_past state other
by_past state one other e = ap (with_past state) e

abbrev undone_item : PastChange → PastChange
undone_item item = record item { status = undone }

alike : (label : ℕ) (kind : EntryKind) (state : DatabaseState) → settled (applied label kind (settled state)) ≡ settled (applied label kind state)
alike label entry.Enter state = by_past (applied label entry.Enter state) _ _ (twice state.past)
alike label entry.Leave state = by_past (applied label entry.Leave state) _ _ (changes_alike label every_change undone_item state.past)
alike label (entry.Open table) state = by_past (applied label (entry.Open table) state) _ _ (twice state.past)
alike label (entry.Shut table) state = by_past (applied label (entry.Shut table) state) _ _ (twice state.past)
alike label entry.Begin state = by_past (applied label entry.Begin state) _ _ (twice state.past)
alike label entry.Save state = by_past (applied label entry.Save state) _ _ (twice state.past)
alike label (entry.Change change) state =
    by_past state _ _ (one_more state.past (item (newest (settled state))) ∙ ap (λ (tables : List Table). filter is_standing (state.past ++ item tables ∷ [])) (newest_alike state))
  where
    item : List Table → PastChange
    item tables = record {
      number = state.number;
      session = label;
      level = levels state label;
      change = without_copied change;
      before = record_in tables (changed_table change) (changed_bookmark change);
      after = record_in (tables_after tables change) (changed_table change) (changed_bookmark change);
      status = uncommitted;
    }
alike label entry.Release state = by_past (applied label entry.Release state) _ _ (changes_alike label (is_at_level (levels state label)) (λ item. record item { level = item.level - 1 }) state.past)
alike label entry.Undo state = at (nat_lt 1 (levels state label))
  where
    undoing : DatabaseState → DatabaseState
    undoing s = with_changes_at label (is_at_level (levels state label)) undone_item s

    at : (b : Bool) → settled (if b then with_levels label (λ n. n - 1) (undoing (settled state)) else with_transaction label None (undoing (settled state))) ≡ settled (if b then with_levels label (λ n. n - 1) (undoing state) else with_transaction label None (undoing state))
    at true = by_past (with_levels label (λ n. n - 1) state) _ _ (changes_alike label (is_at_level (levels state label)) undone_item state.past)
    at false = by_past (with_transaction label None state) _ _ (changes_alike label (is_at_level (levels state label)) undone_item state.past)
alike label entry.UndoAll state = by_past (applied label entry.UndoAll state) _ _ (changes_alike label every_change undone_item state.past)
alike label entry.Commit state =
    by_past (applied label entry.Commit (settled state)) _ _ (changes_alike label every_change (λ item. record item { status = committed state.number }) state.past)
    ∙ ap (λ changes. with_past (record (applied label entry.Commit state) { tables = tables_after_all state.tables changes }) (filter is_standing (map (λ item. if is_open_change_of label item && every_change item then record item { status = committed state.number } else item) state.past))) (own_open label state.past)
alike label (entry.Schema made) state = by_past (applied label (entry.Schema made) state) _ _ (twice state.past)

pub after_alike : (state : DatabaseState) (made : Entry) → settled (state_after (settled state) made) ≡ settled (state_after state made)
unfolding state_after
after_alike state made = alike made.session.0 made.kind (record state { number = state.number + 1 })

pub last_alike : (state : DatabaseState) (entries : List Entry) → settled (state_after_all (settled state) entries) ≡ settled (state_after_all state entries)
last_alike state [] = by_past state _ _ (twice state.past)
last_alike state (made ∷ entries) =
    sym (last_alike (state_after (settled state) made) entries) ∙ ap (λ (s : DatabaseState). settled (state_after_all s entries)) (after_alike state made) ∙ last_alike (state_after state made) entries

pub settled_again : (state : DatabaseState) → settled (settled state) ≡ settled state
settled_again state = by_past state _ _ (twice state.past)

-- In a transaction a session sees the same as others go on.
use Rattle.std.proofs.Common.{◌≡◌, ℕ, ◌+◌, ◌-◌, Bool, true, false, not, ◌&&◌, cond, List, [], ◌∷◌, ◌++◌, Option, Some, None, refl, sym, ap, ◌∙◌}
use Rattle.std.specs.Prelude.{◌==◌, nat_lt, is_some, map, filter, if◌then◌else◌}
use Rattle.std.proofs.lemmas.List.{map-append}
use Rattle.std.proofs.lemmas.List.Elements.{filter-append}
use Rattle.std.proofs.lemmas.Bool.{eqb-true}
use Rattle.common_lemmas.proofs.Numbers.{unequal_turned}
use Rattle.common_lemmas.proofs.Booleans.{and_false, and_left, and_right}
use Rattle.index_derive.specs.declared.log.Entry.{Entry}
use Rattle.index_derive.specs.declared.log.EntryKind.{EntryKind}
use Rattle.index_derive.specs.declared.log.EntryKind.TheVariants as entry
use Rattle.database_state.specs.Changes.{tables_after_all}
use Rattle.database_state.specs.State.{DatabaseState, PastChange, Transaction, committed, undone, is_open, is_open_change_of, change_of, live_session, transaction_of, levels, open_changes_of}
use Rattle.database_state.specs.View.{view, view_in}
use Rattle.database_state.specs.Step.{with_transaction, at_levels, with_levels, with_changes_at, is_at_level, every_change, all_undone, applied, state_after}
use Rattle.database_state.specs.Lawful.{has_number, is_lawful, is_lawful_kind}
use Rattle.laws_versions.specs.KeptSteps.{with_next_number}
use Rattle.laws_versions.proofs.HistoryLemmas.Keeping.{with_at}
use Rattle.laws_versions.proofs.HistoryLemmas.Transactions.{same-with, transaction-begun, transaction-ended, transaction-entered, transaction-left, transaction-levels}

-- ---- two states of which a session sees the same

by_parts : (one other : DatabaseState) (session : ℕ) (t : Transaction) → transaction_of one session ≡ Some t → transaction_of other session ≡ transaction_of one session → open_changes_of session other.past ≡ open_changes_of session one.past
    → view other session ≡ view one session
unfolding view
by_parts one other session t e same changes =
    ap (view_in other session) (same ∙ e) ∙ ap (tables_after_all t.snapshot) changes ∙ sym (ap (view_in one session) e)

-- another session's transaction
off : (session label : ℕ) → (session == label) ≡ false → (t : Option Transaction) (transactions : ℕ → Option Transaction) → with_at label t transactions session ≡ transactions session
off session label other t transactions = ap (λ b. cond b t (transactions session)) other

-- another session's changes
none_own : (session label : ℕ) (item : PastChange) → (session == label) ≡ false → is_open_change_of label item ≡ true → (item.session == session) ≡ false
none_own session label item other own =
    let is : item.session ≡ label = eqb-true item.session label (and_right (is_open item.status) _ own) in
    refuse (item.session == session) (λ e. sym (ap (λ k. k == label) (sym (eqb-true item.session session e)) ∙ and_right (is_open item.status) _ own) ∙ other)
  where
    refuse : (b : Bool) → (b ≡ true → true ≡ false) → b ≡ false
    refuse true f = f refl
    refuse false f = refl

others_changes : (session label : ℕ) (test : PastChange → Bool) (change : PastChange → PastChange) → (session == label) ≡ false → ((item : PastChange) → (change item).session ≡ item.session) → (past : List PastChange)
    → open_changes_of session (map (λ item. if is_open_change_of label item && test item then change item else item) past) ≡ open_changes_of session past
others_changes session label test change other same [] = refl
others_changes session label test change other same (item ∷ past) =
    elim (is_open_change_of label item && test item) as (λ b. (is_open_change_of label item && test item) ≡ b
    → map change_of (cond (is_open_change_of session (cond b (change item) item)) (cond b (change item) item ∷ rest) rest) ≡ map change_of (cond (is_open_change_of session item) (item ∷ filter (is_open_change_of session) past) (filter (is_open_change_of session) past))) [
      | true ↦ λ e.
          let mine : (item.session == session) ≡ false = none_own session label item other (and_left _ _ e) in
          ap (λ b. map change_of (cond b (change item ∷ rest) rest)) (ap (λ k. is_open (change item).status && (k == session)) (same item) ∙ ap (λ b. is_open (change item).status && b) mine ∙ and_false (is_open (change item).status))
          ∙ others_changes session label test change other same past
          ∙ sym (ap (λ b. map change_of (cond b (item ∷ filter (is_open_change_of session) past) (filter (is_open_change_of session) past))) (ap (λ b. is_open item.status && b) mine ∙ and_false (is_open item.status)))
      | false ↦ λ e. elim (is_open_change_of session item) as (λ b. map change_of (cond b (item ∷ rest) rest) ≡ map change_of (cond b (item ∷ filter (is_open_change_of session) past) (filter (is_open_change_of session) past))) [
        | true ↦ ap (λ xs. item.change ∷ xs) (others_changes session label test change other same past)
        | false ↦ others_changes session label test change other same past
      ]
    ] refl
  where
    rest : List PastChange
    rest = filter (is_open_change_of session) (map (λ item. if is_open_change_of label item && test item then change item else item) past)

one_more : (session : ℕ) (past : List PastChange) (new : PastChange) → (new.session == session) ≡ false → open_changes_of session (past ++ new ∷ []) ≡ open_changes_of session past
one_more session past new other =
    ap (map change_of) (filter-append (is_open_change_of session) past (new ∷ []))
    ∙ map-append change_of (filter (is_open_change_of session) past) (filter (is_open_change_of session) (new ∷ []))
    ∙ ap (λ b. open_changes_of session past ++ map change_of (cond b (new ∷ []) [])) (ap (λ b. is_open new.status && b) other ∙ and_false (is_open new.status))
    ∙ ends (open_changes_of session past)
  where
    ends : {X : Type 0} (xs : List X) → xs ++ [] ≡ xs
    ends [] = refl
    ends (x ∷ xs) = ap (λ ys. x ∷ ys) (ends xs)

-- ---- each entry of another session

-- the transaction of the session, and its open changes, are the same
abbrev pub Stays : DatabaseState → DatabaseState → ℕ → Type 0
Stays one other session = (transaction_of other session ≡ transaction_of one session) × (open_changes_of session other.past ≡ open_changes_of session one.past)

stays_with : (one other : DatabaseState) (session : ℕ) → transaction_of other session ≡ transaction_of one session → open_changes_of session other.past ≡ open_changes_of session one.past → Stays one other session
stays_with one other session same changes = (same, changes)

pub stays_by_kind : (state : DatabaseState) (label : ℕ) (kind : EntryKind) (session : ℕ) → (session == label) ≡ false → is_lawful_kind state label kind ≡ true → Stays state (applied label kind (with_next_number state)) session
stays_by_kind state label entry.Enter session other h =
    stays_with (with_next_number state) (applied label entry.Enter (with_next_number state)) session (ap (λ (f : ℕ → Option Transaction). f session) (transaction-entered label (with_next_number state) (not_true (is_some (live_session state label)) (and_left _ _ h)))) refl
  where
    not_true : (b : Bool) → not b ≡ true → b ≡ false
    not_true true e = sym e
    not_true false e = refl
stays_by_kind state label entry.Leave session other h =
    stays_with (with_next_number state) (applied label entry.Leave (with_next_number state)) session
    (ap (λ (f : ℕ → Option Transaction). f session) (transaction-left label (all_undone label (with_next_number state))) ∙ off session label other None (transaction_of (all_undone label (with_next_number state)))
    ∙ ap (λ (f : ℕ → Option Transaction). f session) (transaction-ended label (with_changes_at label every_change (λ item. record item { status = undone }) (with_next_number state))) ∙ off session label other None (transaction_of (with_next_number state)))
    (others_changes session label every_change (λ item. record item { status = undone }) other (λ item. refl) state.past)
stays_by_kind state label (entry.Open table) session other h =
    stays_with (with_next_number state) (applied label (entry.Open table) (with_next_number state)) session (ap (λ (f : ℕ → Option Transaction). f session) (same-with label _ (λ s. refl) (λ s. refl) (with_next_number state))) refl
stays_by_kind state label (entry.Shut table) session other h =
    stays_with (with_next_number state) (applied label (entry.Shut table) (with_next_number state)) session (ap (λ (f : ℕ → Option Transaction). f session) (same-with label _ (λ s. refl) (λ s. refl) (with_next_number state))) refl
stays_by_kind state label entry.Begin session other h =
    stays_with (with_next_number state) (applied label entry.Begin (with_next_number state)) session
    (ap (λ (f : ℕ → Option Transaction). f session) (transaction-begun label (record { levels = 1; begin = state.number + 1; snapshot = state.tables }) (with_next_number state) (and_left _ _ h))
    ∙ off session label other (Some (record { levels = 1; begin = state.number + 1; snapshot = state.tables })) (transaction_of (with_next_number state))) refl
stays_by_kind state label entry.Save session other h =
    stays_with (with_next_number state) (applied label entry.Save (with_next_number state)) session
    (ap (λ (f : ℕ → Option Transaction). f session) (transaction-levels label (λ n. n + 1) (with_next_number state)) ∙ off session label other (at_levels (λ n. n + 1) (transaction_of state label)) (transaction_of (with_next_number state))) refl
stays_by_kind state label (entry.Change change) session other h =
    stays_with (with_next_number state) (applied label (entry.Change change) (with_next_number state)) session refl (one_more session state.past _ (unequal_turned session label other))
stays_by_kind state label entry.Release session other h =
    stays_with (with_next_number state) (applied label entry.Release (with_next_number state)) session
    (ap (λ (f : ℕ → Option Transaction). f session) (transaction-levels label (λ n. n - 1) (with_changes_at label (is_at_level (levels state label)) (λ item. record item { level = item.level - 1 }) (with_next_number state)))
    ∙ off session label other (at_levels (λ n. n - 1) (transaction_of state label)) (transaction_of (with_next_number state)))
    (others_changes session label (is_at_level (levels state label)) (λ item. record item { level = item.level - 1 }) other (λ item. refl) state.past)
stays_by_kind state label entry.Undo session other h =
    elim (nat_lt 1 (levels state label)) as (λ b. Stays state (cond b (with_levels label (λ n. n - 1) undoing) (with_transaction label None undoing)) session) [
      | true ↦ stays_with (with_next_number state) (with_levels label (λ n. n - 1) undoing) session
          (ap (λ (f : ℕ → Option Transaction). f session) (transaction-levels label (λ n. n - 1) undoing) ∙ off session label other (at_levels (λ n. n - 1) (transaction_of state label)) (transaction_of (with_next_number state))) changes
      | false ↦ stays_with (with_next_number state) (with_transaction label None undoing) session
          (ap (λ (f : ℕ → Option Transaction). f session) (transaction-ended label undoing) ∙ off session label other None (transaction_of (with_next_number state))) changes
    ]
  where
    undoing : DatabaseState
    undoing = with_changes_at label (is_at_level (levels state label)) (λ item. record item { status = undone }) (with_next_number state)

    changes : open_changes_of session (map (λ item. if is_open_change_of label item && is_at_level (levels state label) item then record item { status = undone } else item) state.past) ≡ open_changes_of session state.past
    changes = others_changes session label (is_at_level (levels state label)) (λ item. record item { status = undone }) other (λ item. refl) state.past
stays_by_kind state label entry.UndoAll session other h =
    stays_with (with_next_number state) (applied label entry.UndoAll (with_next_number state)) session
    (ap (λ (f : ℕ → Option Transaction). f session) (transaction-ended label (with_changes_at label every_change (λ item. record item { status = undone }) (with_next_number state))) ∙ off session label other None (transaction_of (with_next_number state)))
    (others_changes session label every_change (λ item. record item { status = undone }) other (λ item. refl) state.past)
stays_by_kind state label entry.Commit session other h =
    stays_with (with_next_number state) (applied label entry.Commit (with_next_number state)) session
    (ap (λ (f : ℕ → Option Transaction). f session) (transaction-ended label (with_changes_at label every_change (λ item. record item { status = committed (state.number + 1) }) (record (with_next_number state) { tables = tables_after_all state.tables (open_changes_of label state.past) })))
    ∙ off session label other None (transaction_of (with_next_number state)))
    (others_changes session label every_change (λ item. record item { status = committed (state.number + 1) }) other (λ item. refl) state.past)
stays_by_kind state label (entry.Schema made) session other h = stays_with (with_next_number state) (applied label (entry.Schema made) (with_next_number state)) session refl refl

pub stays_after : (state : DatabaseState) (made : Entry) (session : ℕ) → (session == made.session.0) ≡ false → is_lawful state made ≡ true → Stays state (state_after state made) session
unfolding is_lawful state_after
stays_after state made session other h = stays_by_kind state made.session.0 made.kind session other (and_right (has_number state.number made.kind) _ h)

pub view_stays : (state : DatabaseState) (made : Entry) (session : ℕ) (t : Transaction) → transaction_of state session ≡ Some t → (session == made.session.0) ≡ false → is_lawful state made ≡ true
    → view (state_after state made) session ≡ view state session
view_stays state made session t e other h = let stays = stays_after state made session other h in by_parts state (state_after state made) session t e stays.0 stays.1

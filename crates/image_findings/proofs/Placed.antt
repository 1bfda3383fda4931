-- The held changes of the engine that is made of a consistent image are in their places.
use Rattle.std.proofs.Common.{◌≡◌, ◌≤◌, ◌<◌, ℕ, true, ◌&&◌, List, [], ◌∷◌, Option, Some, None, refl, sym, ap, subst, ◌∙◌}
use Rattle.std.specs.Prelude.{◌≢◌, not, ◌==◌, ◌^◌, map, filter, find, nat_le, nat_lt, is_some, option_map, option_and_then, unwrap_or, IfSome}
use Rattle.std.specs.List.{AllByRecursion, list_all}
use Rattle.std.proofs.lemmas.Bool.{eq-eqb, leb-true, ltb-true}
use Rattle.column_set.specs.RecordValues.{RecordFields}
use Rattle.column_set.specs.declared.changes.Change.{Change}
use Rattle.common_lemmas.proofs.Booleans.{and_left, and_right, impossible}
use Rattle.database_state.specs.Changes.{tables_after, tables_after_all}
use Rattle.database_state.specs.State.{PastChange, Status, Transaction, change_of, committed, transaction_of, uncommitted, undone}
use Rattle.database_state.specs.Table.{Table, record_in, table_with_id}
use Rattle.laws_engine.specs.HeldRecords.{HeldRecord, inverse_of}
use Rattle.laws_images.proofs.OpenedLemmas.TakenBack.{made_table}
use Rattle.laws_images.specs.InTurn.{AreInTurn, CanLeave}
use Rattle.laws_images.specs.ShownStates.{change_made, past_change, past_of, shown_state, tables_before, tables_with, with_snapshot}
use Rattle.laws_versions.proofs.ChangeLemmas.Projecting.{stays}
use Rattle.laws_versions.specs.History.{IsOpenIn, IsPlaced, IsPlacedBy}
use Rattle.laws_versions.specs.Readers.{was_committed}
use Rattle.laws_versions.specs.Records.{record_after}
use Rattle.live_part.specs.LiveBytes.{entry_of, held_fits, row_fits, status_fits}
use Rattle.log_grammar.specs.EntryBytes.{has_spelling}
use Rattle.stored_variants.specs.RecordRows.{held_record_in}
use Rattle.version_cleanup.specs.LiveSessions.{LiveState, transaction_in}
use Rattle.version_cleanup.specs.declared.live.Transaction.{Transaction as LiveTransaction}
use Rattle.version_store.specs.HeldChanges.{HeldChange}
use Rattle.version_store.specs.declared.calls.ChangeKind.{ChangeKind}
use Rattle.version_store.specs.declared.calls.ChangeKind.TheVariants as kind
use Rattle.image_findings.specs.Findings.{tables_shown, values_by_table}
use Rattle.image_findings.specs.LiveFindings.{begins_behind, begins_elsewhere, is_open_in, is_placed}
use Rattle.image_findings.specs.TableContents.{TableContents, newest_table}
use Rattle.image_findings.proofs.Changes.{IsKnown}
use Rattle.image_findings.proofs.Keys.{AreSteps}
use Rattle.image_findings.proofs.Lists.{each_passes, if_found}
use Rattle.image_findings.proofs.Sessions.{copied}
use Rattle.image_findings.proofs.Turns.{is_there, records_before}

-- ---- made again

some_is : (o : Option RecordFields) → is_some o ≡ true → Some (unwrap_or o []) ≡ o
some_is None e = impossible e
some_is (Some fields) e = refl

again : (what : ChangeKind) (id : ℕ) (bookmark : List ℕ) (before after : Option RecordFields) → CanLeave what (record_after (inverse_of what id bookmark before) after) after → record_after (change_made what id bookmark after) (record_after (inverse_of what id bookmark before) after) ≡ after
again kind.Put id bookmark before after can = some_is after can
again kind.Drop id bookmark before after can = sym can
again kind.Hold id bookmark before after can = refl
again (kind.Add column amount) id bookmark before after can = can

-- ---- tables that stay

all_stay : (tables : List Table) (changes : List Change) (id : ℕ) → is_some (table_with_id (tables_after_all tables changes) id) ≡ is_some (table_with_id tables id)
all_stay tables [] id = refl
all_stay tables (change ∷ changes) id = all_stay (tables_after tables change) changes id ∙ stays tables change id

-- ---- transactions

module _ (number : ℕ) (first : List Table) (past : List PastChange) (sessions : List LiveState) (transactions : ℕ → Option Transaction) (same : (label : ℕ) → transactions label ≡ option_map (with_snapshot first past) (transaction_in label sessions))
    (item : PastChange) (level : 1 ≤ item.level) where
  open_in : (o : Option LiveTransaction) → is_open_in item.number item.level o ≡ true → IsOpenIn item (option_map (with_snapshot first past) o)
  open_in None e = impossible e
  open_in (Some t) e = (ltb-true t.begin item.number (and_left (nat_lt t.begin item.number) (nat_le item.level t.levels) e), level, leb-true item.level t.levels (and_right (nat_lt t.begin item.number) (nat_le item.level t.levels) e))

  behind : (at : ℕ) (o : Option LiveTransaction) → begins_behind at o ≡ true → IfSome (option_map (with_snapshot first past) o) (λ t. at < t.begin)
  behind at None e = tt
  behind at (Some t) e = ltb-true at t.begin e

  elsewhere : (at : ℕ) (o : Option LiveTransaction) → begins_elsewhere at o ≡ true → IfSome (option_map (with_snapshot first past) o) (λ t. at ≢ t.begin)
  elsewhere at None e = tt
  elsewhere at (Some t) e = λ is. impossible (sym (ap not (eq-eqb at t.begin is)) ∙ e)

  found_elsewhere : (at : ℕ) (o : Option LiveState) → IfSome o (λ s. begins_elsewhere at s.transaction ≡ true) → IfSome (option_map (with_snapshot first past) (option_and_then (λ (s : LiveState). s.transaction) o)) (λ t. at ≢ t.begin)
  found_elsewhere at None e = tt
  found_elsewhere at (Some s) e = elsewhere at s.transaction e

  placed_by : (h : HeldChange) → h.number ≡ item.number → h.session ≡ item.session → h.level ≡ item.level → (status : Status) → is_placed number sessions h status ≡ true → IsPlacedBy number transactions item status
  placed_by h n s l uncommitted e =
      subst (λ (o : Option Transaction). IsOpenIn item o) (sym (same item.session))
      (open_in (transaction_in item.session sessions) (ap (λ m. is_open_in m item.level (transaction_in item.session sessions)) (sym n) ∙ ap (λ m. is_open_in h.number m (transaction_in item.session sessions)) (sym l) ∙ ap (λ m. is_open_in h.number h.level (transaction_in m sessions)) (sym s) ∙ e))
  placed_by h n s l (committed at) e =
      let times = and_left (nat_lt h.number at && nat_le at number) (begins_behind at (transaction_in h.session sessions) && list_all (λ (u : LiveState). begins_elsewhere at u.transaction) sessions) e in
      let begins = and_right (nat_lt h.number at && nat_le at number) (begins_behind at (transaction_in h.session sessions) && list_all (λ (u : LiveState). begins_elsewhere at u.transaction) sessions) e in
      let others = and_right (begins_behind at (transaction_in h.session sessions)) (list_all (λ (u : LiveState). begins_elsewhere at u.transaction) sessions) begins in (
        subst (λ m. m < at) n (ltb-true h.number at (and_left (nat_lt h.number at) (nat_le at number) times)),
        leb-true at number (and_right (nat_lt h.number at) (nat_le at number) times),
        subst (λ (o : Option Transaction). IfSome o (λ t. at < t.begin)) (sym (same item.session))
            (behind at (transaction_in item.session sessions) (ap (λ m. begins_behind at (transaction_in m sessions)) (sym s) ∙ and_left (begins_behind at (transaction_in h.session sessions)) (list_all (λ (u : LiveState). begins_elsewhere at u.transaction) sessions) begins)),
        λ session. subst (λ (o : Option Transaction). IfSome o (λ t. at ≢ t.begin)) (sym (same session))
            (found_elsewhere at (find (λ (u : LiveState). u.label == session) sessions)
            (if_found (λ (u : LiveState). begins_elsewhere at u.transaction ≡ true) (λ (u : LiveState). u.label == session) sessions (each_passes (λ (u : LiveState). begins_elsewhere at u.transaction) sessions others))),
      )
  placed_by h n s l undone e = tt

-- ---- all held changes

level_of : (h : HeldChange) → held_fits h ≡ true → 1 ≤ h.level
level_of h e =
    leb-true 1 h.level (and_left (nat_le 1 h.level) (nat_le h.level 7) (and_left (nat_le 1 h.level && nat_le h.level 7) (status_fits h.status && (has_spelling (entry_of h) && row_fits h.before))
    (and_right (nat_lt h.number (2 ^ 64)) ((nat_le 1 h.level && nat_le h.level 7) && (status_fits h.status && (has_spelling (entry_of h) && row_fits h.before))) e)))

pub all_placed : (number greatest : ℕ) (tables : List TableContents) (sessions : List LiveState) (all held : List HeldChange) → AllByRecursion (IsKnown number tables sessions) held → AreInTurn (map (held_record_in (values_by_table tables)) held) (map newest_table tables)
    → AllByRecursion (IsPlaced number (shown_state number greatest sessions (tables_shown tables all)).tables (transaction_of (shown_state number greatest sessions (tables_shown tables all)))) (past_of (map (held_record_in (values_by_table tables)) held) (map newest_table tables))
all_placed number greatest tables sessions all [] known turn = tt
all_placed number greatest tables sessions all (h ∷ held) known turn =
    let first = tables_before (map (held_record_in (values_by_table tables)) all) (map newest_table tables) in
    let past = past_of (map (held_record_in (values_by_table tables)) all) (map newest_table tables) in
    let own = held_record_in (values_by_table tables) h in
    let after = records_before tables held h.table h.bookmark in (
      (
        known.0.within,
        ap (λ n. is_some (table_with_id (tables_with (was_committed None) first past) n)) (made_table h.kind h.table h.bookmark after) ∙ all_stay first (map change_of (filter (was_committed None) past)) h.table ∙ is_there number tables sessions h known.0 all,
        placed_by number first past sessions (transaction_of (shown_state number greatest sessions (tables_shown tables all))) (copied first past sessions) (past_change own after) (level_of h known.0.fits) h refl refl refl h.status known.0.placed,
        sym (again h.kind h.table h.bookmark own.before after turn.2),
      ),
      all_placed number greatest tables sessions all held known.1 turn.3,
    )

-- ---- steps

pub all_steps : (changes : List HeldRecord) (tables : List Table) → AreInTurn changes tables → AreSteps (past_of changes tables)
all_steps [] tables turn = tt
all_steps (h ∷ changes) tables turn = ((ap not turn.0, sym (again h.kind h.table h.bookmark h.before (record_in (tables_before changes tables) h.table h.bookmark) turn.2)), all_steps changes tables turn.3)

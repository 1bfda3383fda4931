-- Levels that are released and sessions that commit.
use Rattle.std.proofs.Common.{◌≡◌, ℕ, ◌-◌, Bool, true, false, not, ◌&&◌, cond, List, None, option_map, refl, sym, ap, ◌∙◌}
use Rattle.std.specs.Prelude.{◌==◌}
use Rattle.std.proofs.lemmas.Bool.{and_from, eqb-true}
use Rattle.common_lemmas.proofs.Booleans.{and_left, and_right, impossible}
use Rattle.database_state.specs.State.{Status, uncommitted, committed, undone, is_open, is_undone}
use Rattle.database_state.specs.Table.{Table}
use Rattle.table_trees.specs.StoredTables.{StoredTable}
use Rattle.version_store.specs.HeldChanges.{HeldChange, committed_change, is_open_at, is_open_of, is_rewrite, released_change, with_status, is_standing}
use Rattle.laws_engine.specs.HeldRecords.{committed_change as committed_record, is_change_at, is_standing_rewrite, released_change as released_record}
use Rattle.stored_variants.specs.RecordRows.{TableValues, held_record_in, record_of}
use Rattle.stored_variants.specs.VersionsKept.{IsKeptChange}
use Rattle.stored_variants.proofs.ChangesKept.{LeavesBefore, open_stands}
use Rattle.stored_variants.specs.CountedValues.{row_before}
use Rattle.std.proofs.Math.Bool.{and_comm}

-- ---- a release

pub released_kept : (longs : TableValues) (tables : List Table) (trees : List StoredTable) (session level : ℕ) (h : HeldChange) → IsKeptChange longs tables trees h → IsKeptChange longs tables trees (released_change session level h)
released_kept longs tables trees session level h kept = by (is_open_at session level h)
  where
    by : (b : Bool) → IsKeptChange longs tables trees (cond b (record h { level = level - 1 }) h)
    by true = record { named = kept.named; before = kept.before; drop = kept.drop; room = kept.room; other = kept.other; sum = kept.sum }
    by false = kept

pub released_leaves : (longs : TableValues) (session level : ℕ) → LeavesBefore longs (released_change session level)
released_leaves longs session level h test table bookmark = by (is_open_at session level h)
  where
    by : (b : Bool) → (is_standing_rewrite table bookmark (held_record_in longs (cond b (record h { level = level - 1 }) h)) && test (held_record_in longs (cond b (record h { level = level - 1 }) h)).before)
        ≡ (is_standing_rewrite table bookmark (held_record_in longs h) && test (held_record_in longs h).before)
    by true = refl
    by false = refl

pub released_same : (longs : TableValues) (session level : ℕ) (h : HeldChange) → held_record_in longs (released_change session level h) ≡ released_record session level (held_record_in longs h)
released_same longs session level h =
    by (is_open_at session level h) refl
    ∙ ap (λ b. cond (b && (h.level == level)) (record (held_record_in longs h) { level = h.level - 1 }) (held_record_in longs h)) (and_comm (h.session == session) (is_open h.status))
  where
    level_is : (h.level == level) ≡ true → level ≡ h.level
    level_is e = sym (eqb-true h.level level e)

    by : (b : Bool) → is_open_at session level h ≡ b → held_record_in longs (cond b (record h { level = level - 1 }) h) ≡ cond b (record (held_record_in longs h) { level = h.level - 1 }) (held_record_in longs h)
    by true e = ap (λ n. record (held_record_in longs h) { level = n - 1 }) (level_is (and_right (is_open_of session h) _ e))
    by false e = refl

pub released_row : (session level : ℕ) (h : HeldChange) → ((released_change session level h).table ≡ h.table) × (row_before (released_change session level h) ≡ row_before h)
released_row session level h = by (is_open_at session level h)
  where
    by : (b : Bool) → ((cond b (record h { level = level - 1 }) h).table ≡ h.table) × (row_before (cond b (record h { level = level - 1 }) h) ≡ row_before h)
    by true = (refl, refl)
    by false = (refl, refl)

-- ---- a commit

pub committed_kept : (longs : TableValues) (tables : List Table) (trees : List StoredTable) (session number : ℕ) (h : HeldChange) → IsKeptChange longs tables trees h → IsKeptChange longs tables trees (committed_change session number h)
committed_kept longs tables trees session number h kept = by (is_open_of session h) refl
  where
    stood : is_open_of session h ≡ true → is_standing (with_status (committed number) h) ≡ true → is_standing h ≡ true
    stood e standing = and_from (is_rewrite h.kind) (not (is_undone h.status)) (and_left _ _ standing) (ap not (open_stands h.status (and_right (h.session == session) _ e)))

    by : (b : Bool) → is_open_of session h ≡ b → IsKeptChange longs tables trees (cond b (with_status (committed number) h) h)
    by true e = record {
      named = kept.named;
      before = λ standing. kept.before (stood e standing);
      drop = λ standing. kept.drop (stood e standing);
      room = λ open_again. impossible open_again;
      other = kept.other;
      sum = kept.sum;
    }
    by false e = kept

-- an open change stands as a committed one does
stays : (s : Status) (number : ℕ) → is_open s ≡ true → is_undone s ≡ is_undone (committed number)
stays uncommitted number e = refl
stays (committed n) number e = impossible e
stays undone number e = impossible e

pub committed_leaves : (longs : TableValues) (session number : ℕ) → LeavesBefore longs (committed_change session number)
committed_leaves longs session number h test table bookmark = by (is_open_of session h) refl
  where
    by : (b : Bool) → is_open_of session h ≡ b
        → (is_standing_rewrite table bookmark (held_record_in longs (cond b (with_status (committed number) h) h)) && test (held_record_in longs (cond b (with_status (committed number) h) h)).before)
        ≡ (is_standing_rewrite table bookmark (held_record_in longs h) && test (held_record_in longs h).before)
    by true e =
        ap (λ u. (is_change_at table bookmark (held_record_in longs h) && is_rewrite h.kind && not u) && test (cond (is_rewrite h.kind && not u) (option_map (record_of (longs h.table)) h.before) None))
        (sym (stays h.status number (and_right (h.session == session) _ e)))
    by false e = refl

pub committed_same : (longs : TableValues) (session number : ℕ) (h : HeldChange) → held_record_in longs (committed_change session number h) ≡ committed_record session number (held_record_in longs h)
committed_same longs session number h =
    by (is_open_of session h) refl
    ∙ ap (λ b. cond b (record (held_record_in longs h) { status = committed number }) (held_record_in longs h)) (and_comm (h.session == session) (is_open h.status))
  where
    by : (b : Bool) → is_open_of session h ≡ b → held_record_in longs (cond b (with_status (committed number) h) h) ≡ cond b (record (held_record_in longs h) { status = committed number }) (held_record_in longs h)
    by true e =
        ap (λ u. record (held_record_in longs h) { before = cond (is_rewrite h.kind && not u) (option_map (record_of (longs h.table)) h.before) None; status = committed number })
        (sym (stays h.status number (and_right (h.session == session) _ e)))
    by false e = refl

pub committed_row : (session number : ℕ) (h : HeldChange) → ((committed_change session number h).table ≡ h.table) × (row_before (committed_change session number h) ≡ row_before h)
committed_row session number h = by (is_open_of session h) refl
  where
    by : (b : Bool) → is_open_of session h ≡ b → ((cond b (with_status (committed number) h) h).table ≡ h.table) × (row_before (cond b (with_status (committed number) h) h) ≡ row_before h)
    by true e = (refl, (λ i. record (row_before h) { is_undone = sym (stays h.status number (and_right (h.session == session) _ e)) i }))
    by false e = (refl, refl)

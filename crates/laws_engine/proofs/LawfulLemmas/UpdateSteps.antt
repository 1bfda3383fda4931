-- The step of an update is lawful.
use Rattle.std.proofs.Common.{◌≡◌, ℕ, ◌+◌, Bool, true, false, not, ◌&&◌, ◌||◌, List, ◌∷◌, ◌++◌, Option, Some, None, refl, sym, ap, subst, ◌∙◌, arith, bytes_eq}
use Rattle.std.specs.Prelude.{◌==◌, filter, if◌then◌else◌, is_some, nat_le, IfSome}
use Rattle.std.specs.List.{AllByRecursion}
use Rattle.std.proofs.lemmas.Bool.{and_from, le-leb}
use Rattle.jet_base.specs.declared.ids.CursorId.{CursorId}
use Rattle.jet_base.specs.declared.replies.Jet.TheVariants as jet
use Rattle.jet_base.specs.ColumnType.{big_endian}
use Rattle.column_set.specs.declared.changes.Change.{Change}
use Rattle.column_set.specs.declared.changes.Change.TheVariants as change
use Rattle.column_set.specs.RecordValues.{RecordFields, is_missing_a_value, record_fits, record_size}
use Rattle.index_derive.specs.declared.rules.IndexRule.{IndexRule}
use Rattle.index_derive.specs.declared.rules.Schema.{Schema}
use Rattle.index_derive.specs.Entries.{is_legal, is_unique, primary_key}
use Rattle.index_derive.specs.Steps.{entries_of_step}
use Rattle.column_set.specs.Refusals.{Refusals}
use Rattle.database_state.specs.Table.{Rows, Table, row_at, rows_of, schema_of, table_with_id}
use Rattle.index_derive.specs.Schemas.{primary_rule, rule_with_id}
use Rattle.database_state.specs.Puts.{null_refusals, put_refusals}
use Rattle.database_state.specs.State.{DatabaseState, PastChange, transaction_of}
use Rattle.database_state.specs.View.{view}
use Rattle.database_state.specs.Conflicts.{has_key_conflict, has_write_conflict}
use Rattle.database_state.specs.Step.{state_after}
use Rattle.database_state.specs.Lawful.{has_free_keys, is_bookmark_of, is_copied_in, is_indexable, is_lawful_at, is_live, keeps_escrow}
use Rattle.laws_versions.proofs.IndexLemmas.Adding.{KeysRise}
use Rattle.laws_versions.specs.Records.{Records}
use Rattle.laws_versions.specs.UniqueKeys.{HasUniqueIndexes, IsSoundIndex, IsUniqueIndex}
use Rattle.laws_versions.proofs.KeyLemmas.BookmarkKeys.{HasOneEntry}
use Rattle.laws_versions.proofs.KeyLemmas.IndexNumbers.{all_primary_first}
use Rattle.laws_versions.proofs.KeyLemmas.UniqueKept.{id_of}
use Rattle.session_local.specs.declared.request.Request.TheVariants as call
use Rattle.session_local.specs.Agreement.{Agrees, IsStorable, MayReplace, replaced_in}
use Rattle.session_local.specs.Calls.{answer}
use Rattle.session_local.specs.Local.{OpenCursor, PreparedFor, PreparedUpdate, cursor_labelled, inserting, replacing}
use Rattle.session_local.specs.Outcome.{CallInputs, number_refusals, rows_seen, span_refusals, step_of_change}
use Rattle.session_local.specs.RecordCalls.{bookmark_for, copied_in, inserted_bookmark, is_other_key, is_primary_changed, number_of_change, on_prepared, put_of, replaced_by, update, update_with}
use Rattle.laws_engine.specs.LawfulSteps.{AreLawful, HasLawfulStep, IsReached, begin_of}
use Rattle.laws_engine.proofs.LawfulLemmas.Alone.{key_conflict_after, view_after}
use Rattle.laws_engine.proofs.LawfulLemmas.ChangeSteps.{IsAtTable, IsLawfulAtTable, after_tables, at_its_table, changes_lawful}
use Rattle.laws_engine.proofs.LawfulLemmas.Locks.{locked_free}
use Rattle.common_lemmas.proofs.Found.{of_found}
use Rattle.common_lemmas.proofs.Lists.{all_parted, all_weaker}
use Rattle.common_lemmas.proofs.Numbers.{equal_bytes, same_bytes}
use Rattle.laws_versions.proofs.RecordLemmas.PrimaryKeys.{AreUnrefused}
use Rattle.laws_engine.proofs.LawfulLemmas.NewBookmarks.{AreFound, IsNewFor, new_for, new_row}
use Rattle.laws_engine.proofs.LawfulLemmas.PutSteps.{IsFreeIn, IsOwn, free_rules, no_first, parts_of_put}
use Rattle.laws_engine.proofs.LawfulLemmas.Refusals.{at_found, past, when_begun}

-- ---- what the log asks of a put

abbrev is_storable_put : DatabaseState → ℕ → ℕ → Schema → Rows → List ℕ → Option (List ℕ) → RecordFields → Bool
is_storable_put as_seen session id schema rows bookmark copied values =
    record_fits schema.columns values && not (is_missing_a_value schema.columns values) && nat_le (record_size values) 1700 && is_indexable schema values
    && has_free_keys as_seen session id schema rows bookmark values && is_bookmark_of (as_seen.number + 1) schema rows (primary_rule schema) bookmark values && keeps_escrow schema.columns (row_at rows bookmark) values && is_copied_in rows copied

put_at : (asked : CallInputs) (c : OpenCursor) (at : IsAtTable asked c) (as_seen : DatabaseState) → view as_seen asked.session ≡ view asked.state asked.session → (bookmark : List ℕ) (copied : Option (List ℕ)) (values : RecordFields)
    → is_storable_put as_seen asked.session c.cursor.table c.schema (rows_seen asked c) bookmark copied values ≡ true
    → IsLawfulAtTable asked.state as_seen asked.session (change.Put (record { 0 = c.cursor.table }) bookmark copied values)
put_at asked c at as_seen same bookmark copied values h =
    let id = id_of asked.state.tables c.cursor.table at.table at.found in
    let rows = ap (λ tables. rows_of (table_with_id tables at.table.id)) same ∙ ap (λ k. rows_of (table_with_id (view asked.state asked.session) k)) id in
    ap (λ o. is_lawful_at as_seen asked.session o (change.Put (record { 0 = c.cursor.table }) bookmark copied values)) at.found
    ∙ (λ i. is_storable_put as_seen asked.session (id i) (sym at.schema i) (rows i) bookmark copied values) ∙ h

-- ---- its bookmark

-- the record that a replace is of
abbrev IsSeen : Rows → PreparedFor → Type 0
IsSeen rows (inserting copied) = Unit {0}
IsSeen rows (replacing b) = is_some (row_at rows b) ≡ true

bookmark_is : (asked : CallInputs) (schema : Schema) (rows : Rows) (for : PreparedFor) (values : RecordFields) (n : ℕ) → number_of_change asked ≡ n → is_primary_changed schema for values ≡ false
    → IsSeen rows for → is_bookmark_of n schema rows (primary_rule schema) (bookmark_for asked schema for values) values ≡ true
bookmark_is asked schema rows (inserting copied) values n e kept seen =
    elim (primary_rule schema) as (λ o. is_bookmark_of n schema rows o (inserted_bookmark asked schema o values) values ≡ true) [
      | None ↦ right (is_some (row_at rows (big_endian 8 (number_of_change asked)))) _ (equal_bytes (big_endian 8 (number_of_change asked)) (big_endian 8 n) (ap (big_endian 8) e))
      | Some rule ↦ equal_bytes (primary_key rule schema values) (primary_key rule schema values) refl
    ]
  where
    right : (a b : Bool) → b ≡ true → (a || b) ≡ true
    right true b e = refl
    right false b e = e
bookmark_is asked schema rows (replacing b) values n e kept seen =
    elim (primary_rule schema) as (λ o. is_other_key schema b values o ≡ false → is_bookmark_of n schema rows o b values ≡ true) [
      | None ↦ λ k. ap (λ x. x || bytes_eq b (big_endian 8 n)) seen
      | Some rule ↦ λ k. equal_bytes b (primary_key rule schema values) (sym (same_bytes (primary_key rule schema values) b (yes (bytes_eq (primary_key rule schema values) b) k)))
    ] kept
  where
    yes : (a : Bool) → not a ≡ false → a ≡ true
    yes true e = refl
    yes false e = sym e

own_of : (asked : CallInputs) (schema : Schema) (for : PreparedFor) (values : RecordFields) → IsOwn (bookmark_for asked schema for values) (replaced_by for)
own_of asked schema (inserting copied) values = tt
own_of asked schema (replacing b) values = refl

copied_is : (rows : Rows) (for : PreparedFor) → is_copied_in rows (copied_in rows for) ≡ true
copied_is rows (inserting None) = refl
copied_is rows (inserting (Some b)) = elim (is_some (row_at rows b)) as (λ x. is_some (row_at rows b) ≡ x → is_copied_in rows (if x then Some b else None) ≡ true) [ true ↦ λ e. e | false ↦ λ e. refl ] refl
copied_is rows (replacing b) = refl

-- ---- an update

sound_schema : (base : Records) (dropped kept : List PastChange) (asked : CallInputs) (c : OpenCursor) → IsReached base dropped kept asked.state → IsAtTable asked c → AreFound c.schema
sound_schema base dropped kept asked c reached at =
    subst (λ (schema : Schema). AreFound schema) (sym at.schema)
    (all_primary_first (λ rule. (rule_with_id (schema_of at.table) rule.id.0 ≡ Some rule) × (rule.flags.primary ≡ true → is_legal rule (schema_of at.table) ≡ true)) at.table.indexes
    (all_weaker (λ rule. IsSoundIndex at.table rule × IsUniqueIndex (transaction_of asked.state) base kept at.table rule) (λ rule. (rule_with_id (schema_of at.table) rule.id.0 ≡ Some rule) × (rule.flags.primary ≡ true → is_legal rule (schema_of at.table) ≡ true))
    (λ rule both. (both.0.0, λ primary. (both.0.2 primary).1)) at.table.indexes
    (subst (λ (o : Option Table). IfSome o (HasUniqueIndexes (transaction_of asked.state) base kept)) at.found (reached.unique.tables c.cursor.table))))

escrow_is : HasOneEntry → (asked : CallInputs) (c : OpenCursor) (for : PreparedFor) (values : RecordFields) → AreFound c.schema → AreUnrefused (null_refusals c.schema values)
    → AllByRecursion (IsFreeIn asked.state asked.session c.cursor.table c.schema (rows_seen asked c) (replaced_by for) values) (filter is_unique c.schema.indexes) → IsNewFor asked c for values
    → keeps_escrow c.schema.columns (replaced_in asked.state asked.session c for) values ≡ true → keeps_escrow c.schema.columns (row_at (rows_seen asked c) (bookmark_for asked c.schema for values)) values ≡ true
escrow_is one asked c (inserting copied) values found whole free new kept =
    ap (λ o. keeps_escrow c.schema.columns o values) (new_row one asked c.schema (rows_seen asked c) values found whole c.cursor.table free new.1) ∙ kept
escrow_is one asked c (replacing b) values found whole free new kept = kept

seen_is : (asked : CallInputs) (c : OpenCursor) (for : PreparedFor) → MayReplace asked.state asked.session c for → IsSeen (rows_seen asked c) for
seen_is asked c (inserting copied) h = tt
seen_is asked c (replacing b) h = h.0

free_of_conflict : (base : Records) (dropped kept : List PastChange) (asked : CallInputs) (c : OpenCursor) (for : PreparedFor) (values : RecordFields) → IsReached base dropped kept asked.state → MayReplace asked.state asked.session c for
    → IsNewFor asked c for values
    → has_write_conflict asked.state asked.session (put_of asked c (record { for = for; values = values }) (bookmark_for asked c.schema for values)) ≡ false
free_of_conflict base dropped kept asked c (inserting copied) values reached may new = new.0 (copied_in (rows_seen asked c) (inserting copied))
free_of_conflict base dropped kept asked c (replacing b) values reached may new =
    locked_free base dropped kept asked.state asked.session (put_of asked c (record { for = replacing b; values = values }) b) reached.history may.1

-- why an update is refused
abbrev pub update_refusals : CallInputs → OpenCursor → PreparedFor → RecordFields → Refusals
update_refusals asked c for values =
    (is_missing_a_value c.schema.columns values, jet.NullInvalid) ∷ (is_primary_changed c.schema for values, jet.RecordPrimaryChanged) ∷ put_refusals asked.state asked.session c.cursor.table c.schema (rows_seen asked c) (replaced_by for) values ++ number_refusals asked ++ span_refusals asked (put_of asked c (record { for = for; values = values }) (bookmark_for asked c.schema for values))

-- the entries of one that is not
pub update_entries : HasOneEntry → KeysRise → (base : Records) (dropped kept : List PastChange) (asked : CallInputs) (label : ℕ) (c : OpenCursor) (for : PreparedFor) (values : RecordFields) → IsReached base dropped kept asked.state
    → Agrees asked.state asked.session asked.local → asked.local.begun ≡ true → cursor_labelled asked.local label ≡ Some c → IsStorable asked.state asked.session c (Some (record { for = for; values = values }))
    → AreUnrefused (update_refusals asked c for values)
    → AreLawful asked.state (entries_of_step (step_of_change asked (put_of asked c (record { for = for; values = values }) (bookmark_for asked c.schema for values))))
update_entries one rise base dropped kept asked label c for values reached agrees begun e storable r =
    let first = all_parted (λ refusal. refusal.0 ≡ false) (put_refusals asked.state asked.session c.cursor.table c.schema (rows_seen asked c) (replaced_by for) values ++ number_refusals asked) (span_refusals asked put) r.1.1 in
    let second = all_parted (λ refusal. refusal.0 ≡ false) (put_refusals asked.state asked.session c.cursor.table c.schema (rows_seen asked c) (replaced_by for) values) (number_refusals asked) first.0 in
    let parts = parts_of_put asked.state asked.session c.cursor.table c.schema (rows_seen asked c) (replaced_by for) values second.0 in
    let new = new_for one base dropped kept asked c for values reached at second.1.0 (sound_schema base dropped kept asked c reached at) parts.0 parts.1 in
    changes_lawful one rise base dropped kept asked put reached live second.1.0 (free_of_conflict base dropped kept asked c for values reached storable.3 new)
    (λ inside. put_at asked c at asked.state refl bookmark copied values (fits asked.state (λ rule key. refl) (ap (λ b. asked.state.number + (if b then 2 else 1)) inside) r.0 r.1.0 parts.0 parts.1 new))
    (λ out. put_at asked c at begun_state (view_after base dropped kept asked.state asked.session reached.history live out) bookmark copied values
    (fits begun_state (key_conflict_after base dropped kept asked.state asked.session reached.history live out c.cursor.table c.schema)
    (ap (λ b. asked.state.number + (if b then 2 else 1)) out ∙ two asked.state.number ∙ ap (λ n. n + 1) (sym (after_tables asked.state asked.session).1)) r.0 r.1.0 parts.0 parts.1 new))
  where
    bookmark : List ℕ
    bookmark = bookmark_for asked c.schema for values

    copied : Option (List ℕ)
    copied = copied_in (rows_seen asked c) for

    put : Change
    put = put_of asked c (record { for = for; values = values }) (bookmark_for asked c.schema for values)

    live : is_live asked.state asked.session ≡ true
    live = sym agrees.begun ∙ begun

    at : IsAtTable asked c
    at = at_its_table asked label c agrees e

    begun_state : DatabaseState
    begun_state = state_after asked.state (begin_of asked.session)

    two : (n : ℕ) → n + 2 ≡ n + 1 + 1
    two n = omega arith

    fits : (as_seen : DatabaseState) → ((rule : IndexRule) (key : List ℕ) → has_key_conflict as_seen asked.session c.cursor.table c.schema rule key ≡ has_key_conflict asked.state asked.session c.cursor.table c.schema rule key)
        → number_of_change asked ≡ as_seen.number + 1 → is_missing_a_value c.schema.columns values ≡ false → is_primary_changed c.schema for values ≡ false → AreUnrefused (null_refusals c.schema values)
        → AllByRecursion (IsFreeIn asked.state asked.session c.cursor.table c.schema (rows_seen asked c) (replaced_by for) values) (filter is_unique c.schema.indexes) → IsNewFor asked c for values
        → is_storable_put as_seen asked.session c.cursor.table c.schema (rows_seen asked c) (bookmark_for asked c.schema for values) (copied_in (rows_seen asked c) for) values ≡ true
    fits as_seen same n missing kept_key whole free new =
        eight (record_fits c.schema.columns values) (not (is_missing_a_value c.schema.columns values)) (nat_le (record_size values) 1700) (is_indexable c.schema values)
        (has_free_keys as_seen asked.session c.cursor.table c.schema (rows_seen asked c) (bookmark_for asked c.schema for values) values)
        (is_bookmark_of (as_seen.number + 1) c.schema (rows_seen asked c) (primary_rule c.schema) (bookmark_for asked c.schema for values) values)
        (keeps_escrow c.schema.columns (row_at (rows_seen asked c) (bookmark_for asked c.schema for values)) values) (is_copied_in (rows_seen asked c) (copied_in (rows_seen asked c) for))
        storable.1 (ap not missing) (le-leb (record_size values) 1700 storable.0) (no_first (null_refusals c.schema values) whole)
        (free_rules asked.state as_seen asked.session c.cursor.table c.schema (rows_seen asked c) (bookmark_for asked c.schema for values) (replaced_by for) (own_of asked c.schema for values) values same (filter is_unique c.schema.indexes) free)
        (bookmark_is asked c.schema (rows_seen asked c) for values (as_seen.number + 1) n kept_key (seen_is asked c for storable.3))
        (escrow_is one asked c for values (sound_schema base dropped kept asked c reached at) whole free new storable.2)
        (copied_is (rows_seen asked c) for)
      where
        eight : (a b d e f g h i : Bool) → a ≡ true → b ≡ true → d ≡ true → e ≡ true → f ≡ true → g ≡ true → h ≡ true → i ≡ true → (a && b && d && e && f && g && h && i) ≡ true
        eight a b d e f g h i p q r s t u v w = and_from _ _ (and_from _ _ (and_from _ _ (and_from _ _ (and_from _ _ (and_from _ _ (and_from _ _ p q) r) s) t) u) v) w

update_lawful : HasOneEntry → KeysRise → (base : Records) (dropped kept : List PastChange) (asked : CallInputs) (label : ℕ) (c : OpenCursor) (for : PreparedFor) (values : RecordFields) → IsReached base dropped kept asked.state
    → Agrees asked.state asked.session asked.local → asked.local.begun ≡ true → cursor_labelled asked.local label ≡ Some c → IsStorable asked.state asked.session c (Some (record { for = for; values = values }))
    → HasLawfulStep asked.state (update_with asked c (record { for = for; values = values }))
update_lawful one rise base dropped kept asked label c for values reached agrees begun e storable =
    past asked (update_refusals asked c for values) _ (λ r. update_entries one rise base dropped kept asked label c for values reached agrees begun e storable r)

pub updates : HasOneEntry → KeysRise → (base : Records) (dropped kept : List PastChange) (asked : CallInputs) (cursor : CursorId) → IsReached base dropped kept asked.state → Agrees asked.state asked.session asked.local
    → HasLawfulStep asked.state (answer asked (call.Update cursor))
updates one rise base dropped kept asked cursor reached agrees = when_begun asked (call.Update cursor)
    (λ begun. at_found asked cursor.0 (update asked) (λ c e.
    elim (c.prepared) as (λ o. c.prepared ≡ o → HasLawfulStep asked.state (on_prepared asked o (update_with asked c))) [
      | None ↦ λ f. tt
      | Some prepared ↦ λ f. update_lawful one rise base dropped kept asked cursor.0 c prepared.for prepared.values reached agrees begun e
          (subst (λ (o : Option PreparedUpdate). IsStorable asked.state asked.session c o) f (of_found (λ c. IsStorable asked.state asked.session c c.prepared) (λ c. c.label == cursor.0) asked.local.cursors c e agrees.prepared))
    ] refl))
    (λ e. tt)

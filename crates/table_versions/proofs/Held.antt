-- A lock or a sum that is held behind the other changes.
use Rattle.std.proofs.Common.{◌≡◌, ℕ, Bool, true, false, not, ◌&&◌, ◌||◌, List, [], ◌∷◌, ◌++◌, Option, Some, None, map, refl, sym, ap, ◌∙◌}
use Rattle.std.specs.Prelude.{◌+◌, IfSome, is_some, nat_lt, option_map}
use Rattle.common_lemmas.proofs.Booleans.{and_left, impossible}
use Rattle.common_lemmas.proofs.Lists.{all_append}
use Rattle.column_set.specs.declared.changes.Change.{Change}
use Rattle.column_set.specs.declared.changes.Change.TheVariants.{Put, Drop, Hold, Add}
use Rattle.column_set.specs.ChangedRecords.{changed_table}
use Rattle.database_state.specs.State.{is_undone}
use Rattle.database_state.specs.Table.{Table, schema_of, table_with_id}
use Rattle.table_trees.specs.StoredTables.{StoredTable}
use Rattle.version_store.specs.declared.calls.By.{By}
use Rattle.version_store.specs.declared.calls.ChangeKind.{ChangeKind}
use Rattle.version_store.specs.declared.calls.ChangeKind.TheVariants as kind
use Rattle.version_store.specs.HeldChanges.{HeldChange, has_room as has_room_for_row, is_add, is_rewrite, kind_of, new_change}
use Rattle.laws_engine.specs.HeldRecords.{is_change_at, is_standing_rewrite, span as span_of_records, HeldRecord}
use Rattle.laws_engine.specs.VersionedTables.{VersionedTables, with_change}
use Rattle.stored_variants.specs.RecordRows.{TableValues, held_record_in, some_before}
use Rattle.stored_variants.specs.StoredVersions.{has_room}
use Rattle.stored_variants.specs.VersionsView.{with_newest_by}
use Rattle.stored_variants.specs.VersionsKept.{AddsToEscrow, AreKeptWith, IsKeptChange}
use Rattle.table_versions.proofs.Span.{same_span}
use Rattle.stored_variants.proofs.Tables.{table_at, unchanged}
use Rattle.stored_variants.proofs.ChangesKept.{SameVariants, changes_kept}
use Rattle.column_set.specs.RecordValues.{RecordFields}

-- ---- words

-- the variants of each record, as far as a test tells that passes no record that is not there
abbrev pub variants : (Option RecordFields → Bool) → Option RecordFields → ℕ → List ℕ → List HeldRecord → Bool
variants test newest table bookmark held = test newest || some_before test table bookmark held

abbrev pub is_drop : ChangeKind → Bool
is_drop kind.Put = false
is_drop kind.Drop = true
is_drop kind.Hold = false
is_drop (kind.Add column amount) = false

-- ---- the lock, or the sum, is kept

-- a change that is no sum adds to no column
pub no_sum : (o : Option Table) (what : ChangeKind) → is_add what ≡ false → IfSome o (λ table. AddsToEscrow (schema_of table) what)
no_sum None what e = tt
no_sum (Some table) kind.Put e = tt
no_sum (Some table) kind.Drop e = tt
no_sum (Some table) kind.Hold e = tt
no_sum (Some table) (kind.Add column amount) e = impossible (sym e)

held_kept : (longs : TableValues) (tables : List Table) (trees : List StoredTable) (by : By) (made : Change) → is_rewrite (kind_of made) ≡ false → is_some (table_with_id tables (changed_table made)) ≡ true
    → IfSome (table_with_id tables (changed_table made)) (λ table. AddsToEscrow (schema_of table) (kind_of made)) → IsKeptChange longs tables trees (new_change by made None)
held_kept longs tables trees by made other named sum = record {
  named = named;
  drop = λ standing dropped. impossible (sym other ∙ and_left (is_rewrite (kind_of made)) _ standing);
  before = λ standing. impossible (sym other ∙ and_left (is_rewrite (kind_of made)) _ standing);
  room = λ is_uncommitted. tt;
  other = λ e. refl;
  sum = sum;
}

no_variant : (longs : TableValues) (made : HeldChange) → is_rewrite made.kind ≡ false → (held : List HeldChange) → SameVariants (map (held_record_in longs) (held ++ made ∷ [])) (map (held_record_in longs) held)
no_variant longs made other [] test none table bookmark =
    ap (λ w. ((is_change_at table bookmark (held_record_in longs made) && w && not (is_undone made.status)) && test (held_record_in longs made).before) || false) other
    ∙ never (is_change_at table bookmark (held_record_in longs made))
  where
    never : (a : Bool) → (((a && false && not (is_undone made.status)) && test (held_record_in longs made).before) || false) ≡ false
    never true = refl
    never false = refl
no_variant longs made other (h ∷ held) test none table bookmark =
    ap (λ b. (is_standing_rewrite table bookmark (held_record_in longs h) && test (held_record_in longs h).before) || b) (no_variant longs made other held test none table bookmark)

-- a lock or a sum
pub is_held : (longs : TableValues) (tables : List Table) (trees : List StoredTable) (held : List HeldChange) (by : By) (made : Change) → is_rewrite (kind_of made) ≡ false → is_some (table_with_id tables (changed_table made)) ≡ true
    → IfSome (table_with_id tables (changed_table made)) (λ table. AddsToEscrow (schema_of table) (kind_of made)) → AreKeptWith longs tables trees held → AreKeptWith longs tables trees (held ++ new_change by made None ∷ [])
is_held longs tables trees held by made other named sum kept =
    changes_kept longs tables trees held (held ++ new_change by made None ∷ []) kept
    (all_append (IsKeptChange longs tables trees) held (new_change by made None ∷ []) kept.changes (held_kept longs tables trees by made other named sum, tt))
    (no_variant longs (new_change by made None) other held)

pub lock_is_kept : (longs : TableValues) (tables : List Table) (trees : List StoredTable) (held : List HeldChange) (by : By) (made : Change) → kind_of made ≡ kind.Hold → is_some (table_with_id tables (changed_table made)) ≡ true → AreKeptWith longs tables trees held
    → AreKeptWith longs tables trees (held ++ new_change by made None ∷ [])
lock_is_kept longs tables trees held by made lock named kept =
    is_held longs tables trees held by made (ap is_rewrite lock) named (no_sum (table_with_id tables (changed_table made)) (kind_of made) (ap is_add lock)) kept

-- ---- what it shows

pub appended : (longs : TableValues) (held : List HeldChange) (made : HeldChange) → map (held_record_in longs) (held ++ made ∷ []) ≡ map (held_record_in longs) held ++ held_record_in longs made ∷ []
appended longs [] made = refl
appended longs (h ∷ held) made = ap (λ rest. held_record_in longs h ∷ rest) (appended longs held made)

abbrev is_hold : ChangeKind → Bool
is_hold kind.Put = false
is_hold kind.Drop = false
is_hold kind.Hold = true
is_hold (kind.Add column amount) = false

-- a lock leaves the tables, and is held without a record
pub lock_shown : (longs : TableValues) (tables : List Table) (held : List HeldChange) (by : By) (made : Change) → kind_of made ≡ kind.Hold
    → record { tables = tables; held = map (held_record_in longs) (held ++ new_change by made None ∷ []) } ≡ with_change by made (record { tables = tables; held = map (held_record_in longs) held })
lock_shown longs tables held by (Put table bookmark copied values) lock = impossible (ap is_hold lock)
lock_shown longs tables held by (Drop table bookmark) lock = impossible (ap is_hold lock)
lock_shown longs tables held by (Hold table bookmark) lock = λ i. record { tables = sym (unchanged table.0 tables) i; held = appended longs held (new_change by (Hold table bookmark) None) i }
lock_shown longs tables held by (Add table bookmark column amount) lock = impossible (ap is_hold lock)

-- ---- its room and its table

pub other_room : (longs : TableValues) (by : By) (made : Change) → is_rewrite (kind_of made) ≡ false → (held : List HeldChange) (store : VersionedTables) → map (held_record_in longs) held ≡ store.held → has_room_for_row by made None held ≡ has_room by made store
other_room longs by (Put table bookmark copied values) other held store same = impossible (sym other)
other_room longs by (Drop table bookmark) other held store same = impossible (sym other)
other_room longs by (Hold table bookmark) other held store same = ap (λ n. not (nat_lt by.limit (n + 64))) (same_span longs by.oldest held ∙ ap (span_of_records by.oldest) same)
other_room longs by (Add table bookmark column amount) other held store same = ap (λ n. not (nat_lt by.limit (n + 64))) (same_span longs by.oldest held ∙ ap (span_of_records by.oldest) same)

pub lock_room : (longs : TableValues) (by : By) (made : Change) → kind_of made ≡ kind.Hold → (held : List HeldChange) (store : VersionedTables) → map (held_record_in longs) held ≡ store.held → has_room_for_row by made None held ≡ has_room by made store
lock_room longs by made lock held store same = other_room longs by made (ap is_rewrite lock) held store same

pub named_in_catalog : (longs : TableValues) (trees : List StoredTable) (tables : List Table) (id : ℕ) → is_some (table_with_id (map (with_newest_by longs trees) tables) id) ≡ true → is_some (table_with_id tables id) ≡ true
named_in_catalog longs trees tables id named = by (table_with_id tables id) (sym (ap is_some (table_at longs trees tables id)) ∙ named)
  where
    by : (o : Option Table) → is_some (option_map (with_newest_by longs trees) o) ≡ true → is_some o ≡ true
    by None e = e
    by (Some t) e = refl

-- What is kept where held changes change without a record.
use Rattle.std.proofs.Common.{◌≡◌, ℕ, Bool, false, ◌&&◌, ◌||◌, List, [], ◌∷◌, Option, Some, None, map, refl, sym, ap, ◌∙◌, true}
use Rattle.std.specs.Prelude.{IfSome, is_some}
use Rattle.std.specs.List.{AllByRecursion}
use Rattle.column_set.specs.RecordValues.{RecordFields}
use Rattle.database_state.specs.Conflicts.{yields_key}
use Rattle.database_state.specs.Table.{Table, row_at, schema_of, table_with_id}
use Rattle.index_derive.specs.declared.rules.IndexRule.{IndexRule}
use Rattle.long_value.specs.Values.{Values}
use Rattle.page_image.specs.Page.{Node}
use Rattle.table_trees.specs.StoredTables.{StoredTable, index_entries, table_nodes}
use Rattle.version_store.specs.HeldChanges.{HeldChange}
use Rattle.laws_engine.specs.HeldRecords.{HeldRecord, is_standing_rewrite}
use Rattle.laws_engine.specs.Variants.{HoldsVariants}
use Rattle.stored_variants.specs.RecordRows.{TableValues, some_before, held_record_in, rows_of_nodes}
use Rattle.stored_variants.specs.VersionsKept.{AreKeptWith, IsKeptChange, IsKeptTable, secondary_rule}
use Rattle.database_state.specs.State.{Status, committed, is_open, is_undone, uncommitted, undone}
use Rattle.common_lemmas.proofs.Booleans.{impossible}

-- an open change is not undone
pub open_stands : (status : Status) → is_open status ≡ true → is_undone status ≡ false
open_stands uncommitted e = refl
open_stands (committed number) e = refl
open_stands undone e = impossible e

-- held changes with the same records before them, for every record
abbrev pub SameVariants : List HeldRecord → List HeldRecord → Type 0
SameVariants one other = (test : Option RecordFields → Bool) → test None ≡ false → (table : ℕ) (bookmark : List ℕ) → some_before test table bookmark one ≡ some_before test table bookmark other

same_entries : (trees : List StoredTable) (longs : Values) (nodes : List Node) (table : Table) (index : ℕ) (one other : List HeldRecord) → SameVariants one other → (rule : Option IndexRule)
    → IfSome rule (λ rule. HoldsVariants (rows_of_nodes longs nodes) other rule (schema_of table) table.id (index_entries trees table.id index))
    → IfSome rule (λ rule. HoldsVariants (rows_of_nodes longs nodes) one rule (schema_of table) table.id (index_entries trees table.id index))
same_entries trees longs nodes table index one other same None kept = tt
same_entries trees longs nodes table index one other same (Some rule) kept = λ key bookmark.
    kept key bookmark
    ∙ ap (λ b. yields_key rule (schema_of table) key (row_at (rows_of_nodes longs nodes) bookmark) || b) (sym (same (yields_key rule (schema_of table) key) refl table.id bookmark))

table_kept : (trees : List StoredTable) (longs : Values) (nodes : List Node) (one other : List HeldRecord) → SameVariants one other → (table : Option Table) → IfSome table (IsKeptTable trees longs nodes other) → IfSome table (IsKeptTable trees longs nodes one)
table_kept trees longs nodes one other same None kept = tt
table_kept trees longs nodes one other same (Some table) kept = record {
  rules = kept.rules;
  rows = kept.rows;
  stands = λ bookmark. kept.stands bookmark ∙ ap (λ b. is_some (row_at (rows_of_nodes longs nodes) bookmark) || b) (sym (same is_some refl table.id bookmark));
  entries = λ index. same_entries trees longs nodes table index one other same (secondary_rule table index) (kept.entries index);
}

-- other held changes with the same variants are kept where each of them is
pub changes_kept : (longs : TableValues) (tables : List Table) (trees : List StoredTable) (held changed : List HeldChange) → AreKeptWith longs tables trees held → AllByRecursion (IsKeptChange longs tables trees) changed
    → SameVariants (map (held_record_in longs) changed) (map (held_record_in longs) held) → AreKeptWith longs tables trees changed
changes_kept longs tables trees held changed kept each same = record {
  plain = kept.plain;
  numbers = kept.numbers;
  each = λ table. table_kept trees (longs table) (table_nodes trees table) (map (held_record_in longs) changed) (map (held_record_in longs) held) same (table_with_id tables table) (kept.each table);
  changes = each;
}

-- ---- each change changes

pub all_changed : (P : HeldChange → Type 0) (change : HeldChange → HeldChange) → ((h : HeldChange) → P h → P (change h)) → (held : List HeldChange) → AllByRecursion P held → AllByRecursion P (map change held)
all_changed P change step [] all = tt
all_changed P change step (h ∷ held) all = (step h all.0, all_changed P change step held all.1)

-- each change leaves whether it stands for a record, and the record before it
abbrev pub LeavesBefore : TableValues → (HeldChange → HeldChange) → Type 0
LeavesBefore longs change =
    (h : HeldChange) (test : Option RecordFields → Bool) (table : ℕ) (bookmark : List ℕ)
    → (is_standing_rewrite table bookmark (held_record_in longs (change h)) && test (held_record_in longs (change h)).before) ≡ (is_standing_rewrite table bookmark (held_record_in longs h) && test (held_record_in longs h).before)

pub same_variants : (longs : TableValues) (change : HeldChange → HeldChange) → LeavesBefore longs change → (held : List HeldChange) → SameVariants (map (held_record_in longs) (map change held)) (map (held_record_in longs) held)
same_variants longs change leaves [] test none table bookmark = refl
same_variants longs change leaves (h ∷ held) test none table bookmark = λ i. leaves h test table bookmark i || same_variants longs change leaves held test none table bookmark i

-- the records are changed so too
pub map_held : (longs : TableValues) (change : HeldChange → HeldChange) (record_change : HeldRecord → HeldRecord) → ((h : HeldChange) → held_record_in longs (change h) ≡ record_change (held_record_in longs h)) → (held : List HeldChange)
    → map (held_record_in longs) (map change held) ≡ map record_change (map (held_record_in longs) held)
map_held longs change record_change step [] = refl
map_held longs change record_change step (h ∷ held) = λ i. step h i ∷ map_held longs change record_change step held i

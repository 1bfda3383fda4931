-- An entry with a spelling makes only what is built, and is as its type has it.
use Rattle.std.proofs.Common.{◌≡◌, ℕ, ◌^◌, ◌<◌, Bool, true, false, not, ◌&&◌, ◌||◌, List, [], ◌∷◌, length, refl, arith}
use Rattle.std.specs.Prelude.{ℤ, pos, negsuc, ◌==◌, T, ltb, nat_le, nat_lt, FitsSigned}
use Rattle.std.specs.Int.{w32}
use Rattle.std.specs.List.{list_all}
use Rattle.std.specs.FinMap.{is_sorted}
use Rattle.std.specs.Ordering.{nat_cmp}
use Rattle.std.proofs.lemmas.Bool.{and_parts, ltb-true}
use Rattle.std.proofs.lemmas.Bool.Decides.{nat_tests}
use Rattle.common_lemmas.proofs.Booleans.{impossible}
use Rattle.column_set.specs.declared.changes.Change.{Change}
use Rattle.column_set.specs.declared.changes.Change.TheVariants as change
use Rattle.column_set.specs.declared.columns.Column.{Column}
use Rattle.column_set.specs.RecordValues.{RecordFields}
use Rattle.column_set.specs.Record.{is_record}
use Rattle.column_set.specs.Rows.{record_values_in_order}
use Rattle.index_derive.specs.declared.log.Entry.{Entry}
use Rattle.index_derive.specs.declared.log.EntryKind.{EntryKind}
use Rattle.index_derive.specs.declared.log.EntryKind.TheVariants as entry
use Rattle.index_derive.specs.declared.rules.IndexRule.{IndexRule}
use Rattle.index_derive.specs.declared.schema_calls.SchemaStep.{SchemaStep}
use Rattle.index_derive.specs.declared.schema_calls.SchemaStep.TheVariants as step
use Rattle.laws_engine.specs.EntryTypes.{AreOfTheirTypes}
use Rattle.laws_versions.specs.EscrowNumbers.{ColumnsRise, IsOfItsType}
use Rattle.laws_versions.specs.RecordNumbers.{HasItsType}
use Rattle.log_grammar.specs.EntryBytes.{amount_fits, bookmark_fits, change_fits, column_fits, condition_fits, copied_fits, entry_rest, has_spelling, index_fits, kind_fits, name_fits, record_fits, schema_fits, segment_fits, value_fits}
use Rattle.log_grammar.specs.EntryStreams.{stream_fits}
use Rattle.session_local.specs.BuiltTables.{AllMakeBuilt, is_built_rule, is_unnumbered_column, makes_built}

kind_spelled : (made : Entry) → has_spelling made ≡ true → kind_fits made.kind ≡ true
unfolding has_spelling
kind_spelled made h =
    let behind = (and_parts (nat_le 1 made.session.0 && nat_le made.session.0 99) (kind_fits made.kind && nat_lt (length (entry_rest made)) (2 ^ 32)) h).1 in
    (and_parts (kind_fits made.kind) (nat_lt (length (entry_rest made)) (2 ^ 32)) behind).0

-- ---- what is built

neither : (version auto : Bool) → (not version && not auto) ≡ true → not (version || auto) ≡ true
neither true auto h = impossible h
neither false true h = impossible h
neither false false h = refl

built_column : (column : Column) → column_fits column ≡ true → is_unnumbered_column column ≡ true
built_column column h =
    let behind = (and_parts (nat_lt column.id.0 (2 ^ 16)) (name_fits column.name && (not column.version && not column.auto)) h).1 in
    neither column.version column.auto (and_parts (name_fits column.name) (not column.version && not column.auto) behind).1

limit : (n : ℕ) → (n == 255) ≡ true → nat_le n 255 ≡ true
limit n h = grind (arith, nat_tests)

built_rule : (rule : IndexRule) → index_fits rule ≡ true → is_built_rule rule ≡ true
built_rule rule h =
    let conditions = (nat_lt (length rule.conditions) 256 && list_all condition_fits rule.conditions) && (name_fits rule.name && (rule.key_most == 255)) in
    let segments = (nat_lt (length rule.segments) 256 && list_all segment_fits rule.segments) && conditions in
    let one = (and_parts (nat_lt rule.id.0 (2 ^ 16)) (nat_lt rule.order (2 ^ 32) && segments) h).1 in
    let two = (and_parts (nat_lt rule.order (2 ^ 32)) segments one).1 in
    let three = (and_parts (nat_lt (length rule.segments) 256 && list_all segment_fits rule.segments) conditions two).1 in
    let four = (and_parts (nat_lt (length rule.conditions) 256 && list_all condition_fits rule.conditions) (name_fits rule.name && (rule.key_most == 255)) three).1 in
    limit rule.key_most (and_parts (name_fits rule.name) (rule.key_most == 255) four).1

built_step : (made : SchemaStep) → schema_fits made ≡ true → makes_built (entry.Schema made) ≡ true
built_step (step.CreateTable table name) h = refl
built_step (step.DeleteTable table) h = refl
built_step (step.AddColumn table column) h = built_column column (and_parts (nat_lt table.0 (2 ^ 32)) (column_fits column) h).1
built_step (step.DeleteColumn table column) h = refl
built_step (step.CreateIndex table rule) h = built_rule rule (and_parts (nat_lt table.0 (2 ^ 32)) (index_fits rule) h).1
built_step (step.DeleteIndex table index) h = refl

built_kind : (kind : EntryKind) → kind_fits kind ≡ true → makes_built kind ≡ true
built_kind entry.Enter h = refl
built_kind entry.Leave h = refl
built_kind (entry.Open table) h = refl
built_kind (entry.Shut table) h = refl
built_kind entry.Begin h = refl
built_kind entry.Save h = refl
built_kind (entry.Change made) h = refl
built_kind entry.Release h = refl
built_kind entry.Undo h = refl
built_kind entry.UndoAll h = refl
built_kind entry.Commit h = refl
built_kind (entry.Schema made) h = built_step made h

pub all_built : (entries : List Entry) → stream_fits entries ≡ true → AllMakeBuilt entries
all_built [] h = tt
all_built (made ∷ entries) h =
    let both = and_parts (has_spelling made) (stream_fits entries) h in
    (built_kind made.kind (kind_spelled made both.0), all_built entries both.1)

-- ---- types

it_is : (b : Bool) → b ≡ true → T b
it_is true h = tt
it_is false h = impossible h

columns_rise : (fields : RecordFields) → record_fits fields ≡ true → ColumnsRise fields
columns_rise fields h =
    let formed = (and_parts (is_record fields) (nat_lt (length (record_values_in_order fields)) (2 ^ 16) && list_all value_fits (record_values_in_order fields)) h).0 in
    it_is (is_sorted nat_cmp fields) (and_parts (is_sorted nat_cmp fields) (list_all (λ (field : ℕ × List (List ℕ)). ltb 0 (length field.1)) fields) formed).0

signed : (amount : ℤ) → amount_fits amount ≡ true → FitsSigned w32 amount
signed (pos n) h = record { sfits = ltb-true _ _ h }
signed (negsuc n) h = record { sfits = ltb-true _ _ h }

typed_change : (made : Change) → change_fits made ≡ true → IsOfItsType made
typed_change (change.Put table bookmark copied values) h =
    let behind = (and_parts (nat_lt table.0 (2 ^ 32)) (bookmark_fits bookmark && (copied_fits copied && record_fits values)) h).1 in
    let copy = (and_parts (bookmark_fits bookmark) (copied_fits copied && record_fits values) behind).1 in
    columns_rise values (and_parts (copied_fits copied) (record_fits values) copy).1
typed_change (change.Drop table bookmark) h = tt
typed_change (change.Hold table bookmark) h = tt
typed_change (change.Add table bookmark column amount) h =
    let behind = (and_parts (nat_lt table.0 (2 ^ 32)) (bookmark_fits bookmark && (nat_lt column.0 (2 ^ 16) && amount_fits amount)) h).1 in
    let field = (and_parts (bookmark_fits bookmark) (nat_lt column.0 (2 ^ 16) && amount_fits amount) behind).1 in
    signed amount (and_parts (nat_lt column.0 (2 ^ 16)) (amount_fits amount) field).1

typed_kind : (kind : EntryKind) → kind_fits kind ≡ true → HasItsType kind
typed_kind entry.Enter h = tt
typed_kind entry.Leave h = tt
typed_kind (entry.Open table) h = tt
typed_kind (entry.Shut table) h = tt
typed_kind entry.Begin h = tt
typed_kind entry.Save h = tt
typed_kind (entry.Change made) h = typed_change made h
typed_kind entry.Release h = tt
typed_kind entry.Undo h = tt
typed_kind entry.UndoAll h = tt
typed_kind entry.Commit h = tt
typed_kind (entry.Schema made) h = tt

pub all_typed : (entries : List Entry) → stream_fits entries ≡ true → AreOfTheirTypes entries
all_typed [] h = tt
all_typed (made ∷ entries) h =
    let both = and_parts (has_spelling made) (stream_fits entries) h in
    (typed_kind made.kind (kind_spelled made both.0), all_typed entries both.1)

-- How many bytes entries and their fields have, and how they grow value by value.
use Rattle.std.proofs.Common.{◌≡◌, ℕ, ◌+◌, ◌-◌, ◌^◌, ◌<◌, ◌≤◌, true, ltb, leb, ◌&&◌, List, [], ◌∷◌, ◌++◌, length, take, get_or, Option, Some, None, refl, sym, ap, ◌∙◌, arith}
use Rattle.std.specs.List.{flat_map}
use Rattle.std.proofs.lemmas.Bool.{and_parts, ltb-true}
use Rattle.std.proofs.lemmas.List.{length-append, take_more}
use Rattle.std.proofs.lemmas.List.Sums.{sum_by_push, sum_by-take-le}
use Rattle.column_set.specs.declared.changes.Change.{Change}
use Rattle.column_set.specs.declared.changes.Change.TheVariants as change
use Rattle.column_set.specs.RecordValues.{RecordFields}
use Rattle.index_derive.specs.declared.log.Entry.{Entry}
use Rattle.index_derive.specs.declared.log.EntryKind.{EntryKind}
use Rattle.index_derive.specs.declared.log.EntryKind.TheVariants as kind
use Rattle.index_derive.specs.declared.rules.IndexRule.{IndexRule}
use Rattle.index_derive.specs.declared.schema_calls.SchemaStep.{SchemaStep}
use Rattle.index_derive.specs.declared.schema_calls.SchemaStep.TheVariants as schema
use Rattle.log_grammar.specs.EntryBytes.{change_bytes, condition_bytes, copied_bytes, entry_bytes, entry_rest, has_spelling, index_bytes, kind_bytes, kind_fits, name_bytes, record_bytes, schema_bytes, segment_bytes}
use Rattle.log_record.specs.EntrySizes.{size_of_change, size_of_copied, size_of_fields, size_of_index, size_of_kind, size_of_schema, size_of_values}
use Rattle.log_record.proofs.Sizes.{length-conditions, length-record, length-segments}

-- ---- value by value, and field by field

pub values_more : (values : List (List ℕ)) (i : ℕ) (value : List ℕ) → i < length values → value ≡ get_or values i value → size_of_values (take (i + 1) values) ≡ size_of_values (take i values) + (6 + length value)
values_more values i value lt is =
    ap size_of_values (take_more values i value lt ∙ ap (λ (v : List ℕ). take i values ++ v ∷ []) (sym is))
    ∙ sum_by_push (λ (v : List ℕ). 6 + length v) (take i values) value

pub values_within : (values : List (List ℕ)) (i : ℕ) → size_of_values (take i values) ≤ size_of_values values
values_within values i = sum_by-take-le (λ (v : List ℕ). 6 + length v) values i

pub fields_more : (fields : RecordFields) (i : ℕ) (field : ℕ × List (List ℕ)) → i < length fields → field ≡ get_or fields i field → size_of_fields (take (i + 1) fields) ≡ size_of_fields (take i fields) + size_of_values field.1
fields_more fields i field lt is =
    ap size_of_fields (take_more fields i field lt ∙ ap (λ (f : ℕ × List (List ℕ)). take i fields ++ f ∷ []) (sym is))
    ∙ sum_by_push (λ (f : ℕ × List (List ℕ)). size_of_values f.1) (take i fields) field

pub fields_within : (fields : RecordFields) (i : ℕ) → size_of_fields (take i fields) ≤ size_of_fields fields
fields_within fields i = sum_by-take-le (λ (f : ℕ × List (List ℕ)). size_of_values f.1) fields i

-- ---- changes

length-copied : (copied : Option (List ℕ)) → length (copied_bytes copied) ≡ size_of_copied copied
length-copied None = refl
length-copied (Some bookmark) = omega arith

length-change : (c : Change) → length (change_bytes c) ≡ size_of_change c
length-change (change.Put table bookmark copied values) =
    omega (arith, length-append bookmark (copied_bytes copied ++ record_bytes values), length-append (copied_bytes copied) (record_bytes values), length-copied copied, length-record values)
length-change (change.Drop table bookmark) = omega arith
length-change (change.Add table bookmark column amount) = omega (arith, length-append bookmark)
length-change (change.Hold table bookmark) = omega arith

-- ---- schema changes

length-index : (index : IndexRule) → length (index_bytes index) ≡ size_of_index index
unfolding index_bytes
length-index index =
    let segments = flat_map segment_bytes index.segments in
    let conditions = flat_map condition_bytes index.conditions in
    omega (arith, length-segments index.segments, length-conditions index.conditions, length-append segments ((length index.conditions ∷ conditions) ++ name_bytes index.name), length-append conditions (name_bytes index.name))

length-schema : (step : SchemaStep) → length (schema_bytes step) ≡ size_of_schema step
length-schema (schema.CreateTable table name) = omega arith
length-schema (schema.DeleteTable table) = omega arith
length-schema (schema.AddColumn table column) = omega arith
length-schema (schema.DeleteColumn table column) = omega arith
length-schema (schema.CreateIndex table index) = omega (arith, length-index index)
length-schema (schema.DeleteIndex table index) = omega arith

-- ---- entries

length-kind : (k : EntryKind) → length (kind_bytes k) ≡ size_of_kind k
length-kind kind.Enter = refl
length-kind kind.Leave = refl
length-kind (kind.Open table) = omega arith
length-kind (kind.Shut table) = omega arith
length-kind kind.Begin = refl
length-kind kind.Save = refl
length-kind (kind.Change c) = length-change c
length-kind kind.Release = refl
length-kind kind.Undo = refl
length-kind kind.UndoAll = refl
length-kind kind.Commit = refl
length-kind (kind.Schema step) = omega (arith, length-schema step)

pub length-entry : (entry : Entry) → length (entry_bytes entry) ≡ 9 + size_of_kind entry.kind
unfolding entry_bytes
length-entry entry = omega (arith, length-kind entry.kind)

pub spelled_kind : (entry : Entry) → has_spelling entry ≡ true → (kind_fits entry.kind ≡ true) × (size_of_kind entry.kind < 2 ^ 32 - 5)
unfolding has_spelling
spelled_kind entry h =
    let a = and_parts (leb 1 entry.session.0 && leb entry.session.0 99) (kind_fits entry.kind && ltb (length (entry_rest entry)) (2 ^ 32)) h in
    let b = and_parts (kind_fits entry.kind) (ltb (length (entry_rest entry)) (2 ^ 32)) a.1 in
    let short : length (entry_rest entry) < 2 ^ 32 = ltb-true _ _ b.1 in
    (b.0, omega (arith, length-kind entry.kind))

-- Which records can be written, and how many bytes entries have.
use Rattle.std.proofs.Common.{◌≡◌, ℕ, ◌+◌, ◌-◌, ◌*◌, ◌^◌, ◌<◌, ◌≤◌, Bool, true, false, ltb, ◌&&◌, List, [], ◌∷◌, ◌++◌, length, min, refl, sym, ap, ◌∙◌, arith}
use Rattle.std.specs.Prelude.{sum_by}
use Rattle.std.specs.List.{flat_map, list_all}
use Rattle.std.proofs.lemmas.Bool.{and_parts, lt-ltb, le-ltb}
use Rattle.std.proofs.lemmas.List.{length-append}
use Rattle.std.proofs.lemmas.List.Concat.{flat_map-append}
use Rattle.std.proofs.lemmas.List.Folds.{list_all-append, list_all-map}
use Rattle.std.proofs.lemmas.List.Sums.{sum_by-cons}
use Rattle.column_set.specs.declared.changes.Change.{Change}
use Rattle.column_set.specs.Record.{is_record}
use Rattle.column_set.specs.RecordValues.{RecordFields}
use Rattle.column_set.specs.Rows.{record_values_in_order}
use Rattle.index_derive.specs.declared.log.EntryKind.{EntryKind}
use Rattle.index_derive.specs.declared.log.EntryKind.TheVariants as kind
use Rattle.index_derive.specs.declared.rules.Condition.{Condition}
use Rattle.index_derive.specs.declared.rules.IndexRule.{IndexRule}
use Rattle.index_derive.specs.declared.rules.Segment.{Segment}
use Rattle.index_derive.specs.declared.schema_calls.SchemaStep.{SchemaStep}
use Rattle.index_derive.specs.declared.schema_calls.SchemaStep.TheVariants as schema
use Rattle.log_grammar.specs.EntryBytes.{column_fits, condition_bytes, index_bytes, index_fits, kind_bytes, kind_fits, name_bytes, name_fits, record_bytes, record_fits, schema_bytes, schema_fits, segment_bytes, value_bytes, value_fits}
use Rattle.log_record.specs.EntrySizes.{field_fits, size_of_fields, size_of_values}
use Rattle.log_grammar.proofs.Fits.{column_name, index_parts, name_short}
use Rattle.log_grammar.proofs.Values.{count_of, of_column}

-- ---- which records fit

pub fields_fit : (fields : RecordFields) → list_all value_fits (record_values_in_order fields) ≡ list_all field_fits fields
fields_fit [] = refl
fields_fit (field ∷ fields) =
    list_all-append value_fits (of_column field.0 field.1) (record_values_in_order fields)
    ∙ ap (λ (b : Bool). b && list_all value_fits (record_values_in_order fields)) (list_all-map value_fits (λ (value : List ℕ). (field.0, value)) field.1)
    ∙ ap (λ (b : Bool). field_fits field && b) (fields_fit fields)

few : (fields : RecordFields) (count : ℕ) → count ≡ min (sum_by (λ field. length field.1) fields) (2 ^ 64 - 1) → count ≤ 65535 → ltb (length (record_values_in_order fields)) (2 ^ 16) ≡ true
few fields count is small = lt-ltb _ _ (omega (arith, count_of fields))

many : (fields : RecordFields) (count : ℕ) → count ≡ min (sum_by (λ field. length field.1) fields) (2 ^ 64 - 1) → 65535 < count → ltb (length (record_values_in_order fields)) (2 ^ 16) ≡ false
many fields count is large = le-ltb _ _ (omega (arith, count_of fields))

pub record_of_few : (seen fields : RecordFields) (count : ℕ) → seen ≡ fields → is_record fields ≡ true → count ≡ min (sum_by (λ field. length field.1) seen) (2 ^ 64 - 1) → count ≤ 65535
    → list_all field_fits seen ≡ record_fits fields
record_of_few seen fields count is formed counted small =
    let e : ltb (length (record_values_in_order fields)) (2 ^ 16) ≡ true = few fields count (counted ∙ ap (λ (f : RecordFields). min (sum_by (λ field. length field.1) f) (2 ^ 64 - 1)) is) small in
    ap (list_all field_fits) is ∙ sym (λ k. formed k && (e k && fields_fit fields k))

pub record_of_many : (seen fields : RecordFields) (count : ℕ) → seen ≡ fields → is_record fields ≡ true → count ≡ min (sum_by (λ field. length field.1) seen) (2 ^ 64 - 1) → 65535 < count
    → false ≡ record_fits fields
record_of_many seen fields count is formed counted large =
    let e : ltb (length (record_values_in_order fields)) (2 ^ 16) ≡ false = many fields count (counted ∙ ap (λ (f : RecordFields). min (sum_by (λ field. length field.1) f) (2 ^ 64 - 1)) is) large in
    sym (λ k. formed k && (e k && list_all value_fits (record_values_in_order fields)))

-- ---- the size of a record

length-value_bytes : (column : ℕ) (value : List ℕ) → length (value_bytes (column, value)) ≡ 6 + length value
length-value_bytes column value = omega arith

length-column : (column : ℕ) (values : List (List ℕ)) → length (flat_map value_bytes (of_column column values)) ≡ size_of_values values
length-column column [] = refl
length-column column (value ∷ values) =
    omega (arith, length-column column values, length-append (value_bytes (column, value)) (flat_map value_bytes (of_column column values)), length-value_bytes column value, sum_by-cons (λ (v : List ℕ). 6 + length v) value values)

length-fields : (fields : RecordFields) → length (flat_map value_bytes (record_values_in_order fields)) ≡ size_of_fields fields
length-fields [] = refl
length-fields (field ∷ fields) =
    let here = of_column field.0 field.1 in
    ap length (flat_map-append value_bytes here (record_values_in_order fields))
    ∙ omega (arith, length-append (flat_map value_bytes here) (flat_map value_bytes (record_values_in_order fields)), length-column field.0 field.1, length-fields fields, sum_by-cons (λ (f : ℕ × List (List ℕ)). size_of_values f.1) field fields)

pub length-record : (fields : RecordFields) → length (record_bytes fields) ≡ 2 + size_of_fields fields
length-record fields = omega (arith, length-fields fields)

pub record_size : (seen fields : RecordFields) (size total : ℕ) → seen ≡ fields → size ≡ min (size_of_fields seen) (2 ^ 64 - 1) → total ≡ min (size + 2) (2 ^ 64 - 1) → total ≡ min (length (record_bytes fields)) (2 ^ 64 - 1)
record_size seen fields size total is sized summed = omega (arith, ap size_of_fields is, length-record fields)

-- ---- schema changes

pub length-segments : (segments : List Segment) → length (flat_map segment_bytes segments) ≡ 3 * length segments
length-segments [] = refl
length-segments (segment ∷ segments) = omega (arith, length-segments segments)

pub length-conditions : (conditions : List Condition) → length (flat_map condition_bytes conditions) ≡ 3 * length conditions
length-conditions [] = refl
length-conditions (condition ∷ conditions) = omega (arith, length-conditions conditions)

index_small : (index : IndexRule) → index_fits index ≡ true → length (index_bytes index) < 2 ^ 15
unfolding index_bytes
index_small index h =
    let parts = index_parts index h in
    let name : length index.name < 256 = name_short index.name parts.name in
    let segments = flat_map segment_bytes index.segments in
    let conditions = flat_map condition_bytes index.conditions in
    omega (arith, parts.segment_count, parts.condition_count, name, length-segments index.segments, length-conditions index.conditions, length-append segments ((length index.conditions ∷ conditions) ++ name_bytes index.name), length-append conditions (name_bytes index.name))

schema_small : (step : SchemaStep) → schema_fits step ≡ true → length (schema_bytes step) < 2 ^ 16
schema_small (schema.CreateTable table name) h =
    let short : length name < 256 = name_short name (and_parts (ltb table.0 (2 ^ 32)) (name_fits name) h).1 in
    omega arith
schema_small (schema.DeleteTable table) h = omega arith
schema_small (schema.AddColumn table column) h =
    let short : length column.name < 256 = name_short column.name (column_name column (and_parts (ltb table.0 (2 ^ 32)) (column_fits column) h).1) in
    omega arith
schema_small (schema.DeleteColumn table column) h = omega arith
schema_small (schema.CreateIndex table index) h =
    let short : length (index_bytes index) < 2 ^ 15 = index_small index (and_parts (ltb table.0 (2 ^ 32)) (index_fits index) h).1 in
    omega arith
schema_small (schema.DeleteIndex table index) h = omega arith

-- ---- entries without a change

pub kind_is_short : (k : EntryKind) → ((change : Change) → k ≡ kind.Change change → ⊥) → kind_fits k ≡ true → true ≡ ltb (length (kind_bytes k)) (2 ^ 32 - 5)
kind_is_short kind.Enter other h = refl
kind_is_short kind.Leave other h = refl
kind_is_short (kind.Open table) other h = refl
kind_is_short (kind.Shut table) other h = refl
kind_is_short kind.Begin other h = refl
kind_is_short kind.Save other h = refl
kind_is_short (kind.Change change) other h = absurd (other change refl)
kind_is_short kind.Release other h = refl
kind_is_short kind.Undo other h = refl
kind_is_short kind.UndoAll other h = refl
kind_is_short kind.Commit other h = refl
kind_is_short (kind.Schema step) other h =
    let small : length (schema_bytes step) < 2 ^ 16 = schema_small step h in
    sym (lt-ltb _ _ (omega arith))

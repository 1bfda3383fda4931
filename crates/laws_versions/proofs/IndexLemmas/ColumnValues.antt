-- The values with which a record takes part in an index are of the types of the key's columns.
use Rattle.std.proofs.Common.{◌≡◌, ℕ, ◌≤◌, Bool, true, false, ◌&&◌, ◌||◌, not, cond, List, [], ◌∷◌, map, take, length, Option, Some, None, refl, sym, ap, ◌∙◌, subst, true≢false, bytes_eq, ◌==◌, arith, length-take, unwrap_or}
use Rattle.std.specs.List.{list_all, AllByRecursion}
use Rattle.std.specs.Cmp.{unsigned_Decides, unsigned_ties}
use Rattle.std.specs.Ordering.{nat_cmp, eq_by_cmp}
use Rattle.std.specs.Cmp.Lexicographic.{bytes_decides}
use Rattle.std.specs.FinMap.Entries.{find as find_entry}
use Rattle.common_lemmas.proofs.Booleans.{and_left, and_right}
use Rattle.common_lemmas.proofs.Lists.{all_each, all_map, all_weaker}
use Rattle.jet_base.specs.declared.words.ColType.{ColType}
use Rattle.jet_base.specs.declared.words.ColType.TheVariants.{Bit, UnsignedByte, Short, UnsignedShort, Long, UnsignedLong, LongLong, Currency, Guid, Binary, Text, LongBinary, LongText}
use Rattle.jet_base.specs.ColumnType.{fixed_width}
use Rattle.column_set.specs.declared.columns.Column.{Column}
use Rattle.column_set.specs.RecordValues.{RecordFields, values_of, column_of_id, value_fits, values_fit, record_fits, is_kept_column, has_value}
use Rattle.key_normal.specs.KeyBytes.{KeyColumn}
use Rattle.index_derive.specs.declared.rules.IndexRule.{IndexRule}
use Rattle.index_derive.specs.declared.rules.Schema.{Schema}
use Rattle.index_derive.specs.declared.rules.Segment.{Segment}
use Rattle.index_derive.specs.Entries.{values_or_null, parts_of_columns, product, parts_of_text, parts_of_texts, all_key_values, key_columns, columns_of_key, type_of_column, is_text_type, is_tuples_key, is_legal_tuples, is_multi_column, is_legal}
use Rattle.laws_versions.proofs.IndexLemmas.Members.{all_flat}
use Rattle.laws_versions.proofs.IndexLemmas.Segments.{FitsWidth, IsOfType}
use Rattle.laws_versions.proofs.IndexLemmas.WholeKeys.{AreOfTypes}

-- ---- one value

of_width : (value : List ℕ) (width : ℕ) → (length value == width) ≡ true → length value ≡ width
of_width value width h = (unsigned_Decides (length value) width).0 h

bit_width : (value : List ℕ) (a b : Bool) → bytes_eq value (0 ∷ []) ≡ a → bytes_eq value (1 ∷ []) ≡ b → (a || b) ≡ true → length value ≡ 1
bit_width value true b e f h = ap length ((bytes_decides value (0 ∷ [])).0 e)
bit_width value false true e f h = ap length ((bytes_decides value (1 ∷ [])).0 f)
bit_width value false false e f h = absurd (true≢false (sym h))

width-fits : (kind : ColType) (value : List ℕ) → value_fits kind value ≡ true → FitsWidth (fixed_width kind) value
width-fits Bit value h = bit_width value (bytes_eq value (0 ∷ [])) (bytes_eq value (1 ∷ [])) refl refl h
width-fits UnsignedByte value h = of_width value 1 h
width-fits Short value h = of_width value 2 h
width-fits UnsignedShort value h = of_width value 2 h
width-fits Long value h = of_width value 4 h
width-fits UnsignedLong value h = of_width value 4 h
width-fits LongLong value h = of_width value 8 h
width-fits Currency value h = of_width value 8 h
width-fits Guid value h = of_width value 16 h
width-fits Binary value h = tt
width-fits Text value h = tt
width-fits LongBinary value h = tt
width-fits LongText value h = tt

seen : (value : List ℕ) (width : ℕ) → width ≤ 255 → length value ≡ width → length (take 255 value) ≡ width
seen value width short h = omega (arith, h, short, length-take 255 value)

-- an index sees all of a value of a type with a width
width-seen : (kind : ColType) (value : List ℕ) → FitsWidth (fixed_width kind) value → FitsWidth (fixed_width kind) (take 255 value)
width-seen Bit value h = seen value 1 (omega arith) h
width-seen UnsignedByte value h = seen value 1 (omega arith) h
width-seen Short value h = seen value 2 (omega arith) h
width-seen UnsignedShort value h = seen value 2 (omega arith) h
width-seen Long value h = seen value 4 (omega arith) h
width-seen UnsignedLong value h = seen value 4 (omega arith) h
width-seen LongLong value h = seen value 8 (omega arith) h
width-seen Currency value h = seen value 8 (omega arith) h
width-seen Guid value h = seen value 16 (omega arith) h
width-seen Binary value h = tt
width-seen Text value h = tt
width-seen LongBinary value h = tt
width-seen LongText value h = tt

-- ---- the values of a column

abbrev kind_of : Option Column → ColType
kind_of found = elim found [ Some column ↦ column.kind | None ↦ Binary ]

abbrev is_taken_by : Option Column → List (List ℕ) → Bool
is_taken_by found values = elim found [ Some column ↦ values_fit column values | None ↦ false ]

all_fit : (kind : ColType) (values : List (List ℕ)) → list_all (value_fits kind) values ≡ true → AllByRecursion (FitsWidth (fixed_width kind)) values
all_fit kind [] h = tt
all_fit kind (value ∷ values) h = (width-fits kind value (and_left (value_fits kind value) _ h), all_fit kind values (and_right (value_fits kind value) _ h))

fit_found : (found : Option Column) (values : List (List ℕ)) → is_taken_by found values ≡ true → AllByRecursion (FitsWidth (fixed_width (kind_of found))) values
fit_found None values h = absurd (true≢false (sym h))
fit_found (Some column) values h = all_fit column.kind values (and_right _ (list_all (value_fits column.kind) values) h)

fit_fields : (columns : List Column) (id : ℕ) (fields : RecordFields) → list_all (λ field. is_taken_by (column_of_id columns field.0) field.1) fields ≡ true
    → AllByRecursion (FitsWidth (fixed_width (kind_of (column_of_id columns id)))) (values_of fields id)
fit_fields columns id [] h = tt
fit_fields columns id (field ∷ fields) h =
    elim (eq_by_cmp nat_cmp id field.0) as (λ b. eq_by_cmp nat_cmp id field.0 ≡ b → AllByRecursion (FitsWidth (fixed_width (kind_of (column_of_id columns id)))) (unwrap_or (cond b (Some field.1) (find_entry nat_cmp id fields)) [])) [
      | true ↦ λ e.
          let same : id ≡ field.0 = (unsigned_Decides id field.0).0 (unsigned_ties id field.0 ∙ e) in
          subst (λ n. AllByRecursion (FitsWidth (fixed_width (kind_of (column_of_id columns n)))) field.1) (sym same)
          (fit_found (column_of_id columns field.0) field.1 (and_left (is_taken_by (column_of_id columns field.0) field.1) _ h))
      | false ↦ λ e. fit_fields columns id fields (and_right (is_taken_by (column_of_id columns field.0) field.1) _ h)
    ] refl

fit_column : (schema : Schema) (fields : RecordFields) (id : ℕ) → record_fits schema.columns fields ≡ true
    → AllByRecursion (FitsWidth (fixed_width (type_of_column schema id))) (values_of fields id)
fit_column schema fields id h =
    fit_fields schema.columns id fields (and_left _ (list_all (λ column. not (is_kept_column column) || has_value fields column.id.0) schema.columns) h)

-- ---- combinations of values

abbrev ListsAreOfTypes : List KeyColumn → List (List (Option (List ℕ))) → Type 0
ListsAreOfTypes [] [] = Unit {0}
ListsAreOfTypes (column ∷ columns) (values ∷ lists) = AllByRecursion (IsOfType column.kind) values × ListsAreOfTypes columns lists
ListsAreOfTypes _ _ = ⊥

product_types : (columns : List KeyColumn) (lists : List (List (Option (List ℕ)))) → ListsAreOfTypes columns lists → AllByRecursion (AreOfTypes columns) (product lists)
product_types [] [] h = (tt, tt)
product_types (column ∷ columns) (values ∷ lists) h =
    let rest = product lists in
    all_flat (AreOfTypes (column ∷ columns)) (λ x. map (λ ys. x ∷ ys) rest) values
    (all_weaker (IsOfType column.kind) (λ x. AllByRecursion (AreOfTypes (column ∷ columns)) (map (λ ys. x ∷ ys) rest))
    (λ x of_type. all_map (AreOfTypes (column ∷ columns)) (λ ys. x ∷ ys) rest (all_weaker (AreOfTypes columns) (λ ys. AreOfTypes (column ∷ columns) (x ∷ ys)) (λ ys of_types. (of_type, of_types)) rest (product_types columns lists h.1)))
    values h.0)
product_types [] (values ∷ lists) h = absurd h
product_types (column ∷ columns) [] h = absurd h

types-values : (kind : ColType) (values : List (List ℕ)) → AllByRecursion (FitsWidth (fixed_width kind)) values → AllByRecursion (IsOfType kind) (values_or_null values)
types-values kind [] h = (tt, tt)
types-values kind (value ∷ values) h =
    all_map (IsOfType kind) (λ v. Some (take 255 v)) (value ∷ values)
    (all_weaker (FitsWidth (fixed_width kind)) (λ v. FitsWidth (fixed_width kind) (take 255 v)) (width-seen kind) (value ∷ values) h)

types-first : (kind : ColType) (b : Bool) (values : List (Option (List ℕ))) → AllByRecursion (IsOfType kind) values → AllByRecursion (IsOfType kind) (cond b values (take 1 values))
types-first kind true values h = h
types-first kind false [] h = tt
types-first kind false (value ∷ values) h = (h.0, tt)

abbrev key_column : Schema → Segment → KeyColumn
key_column schema segment = record { kind = type_of_column schema segment.column.0; descending = segment.descending }

types-parts : (rule : IndexRule) (schema : Schema) (fields : RecordFields) → record_fits schema.columns fields ≡ true → (earlier : Bool) (segments : List Segment)
    → ListsAreOfTypes (map (key_column schema) segments) (parts_of_columns rule schema fields earlier (map (λ segment. segment.column.0) segments))
types-parts rule schema fields fits earlier [] = tt
types-parts rule schema fields fits earlier (segment ∷ segments) =
    let id = segment.column.0 in
    let is_multi = is_multi_column schema id in (
      types-first (type_of_column schema id) (is_multi && (rule.flags.crossproduct || not earlier)) (values_or_null (values_of fields id)) (types-values (type_of_column schema id) (values_of fields id) (fit_column schema fields id fits)),
      types-parts rule schema fields fits (earlier || is_multi) segments,
    )

-- ---- parts of texts

text_width : (kind : ColType) (value : List ℕ) → is_text_type kind ≡ true → FitsWidth (fixed_width kind) value
text_width Bit value h = absurd (true≢false (sym h))
text_width UnsignedByte value h = absurd (true≢false (sym h))
text_width Short value h = absurd (true≢false (sym h))
text_width UnsignedShort value h = absurd (true≢false (sym h))
text_width Long value h = absurd (true≢false (sym h))
text_width UnsignedLong value h = absurd (true≢false (sym h))
text_width LongLong value h = absurd (true≢false (sym h))
text_width Currency value h = absurd (true≢false (sym h))
text_width Guid value h = absurd (true≢false (sym h))
text_width Binary value h = tt
text_width Text value h = tt
text_width LongBinary value h = tt
text_width LongText value h = tt

types-texts : (schema : Schema) (fields : RecordFields) (segments : List Segment) → is_tuples_key schema segments ≡ true
    → AllByRecursion (AreOfTypes (map (key_column schema) segments)) (parts_of_texts fields (map (λ segment. segment.column.0) segments))
types-texts schema fields [] h = absurd (true≢false (sym h))
types-texts schema fields (segment ∷ []) h =
    let text = and_right (not segment.descending) (is_text_type (type_of_column schema segment.column.0)) h in
    let P = AreOfTypes (key_column schema segment ∷ []) in
    all_flat P (λ value. map (λ part. Some part ∷ []) (parts_of_text (take 1024 value))) (values_of fields segment.column.0)
    (all_each (λ value. AllByRecursion P (map (λ part. Some part ∷ []) (parts_of_text (take 1024 value))))
    (λ value. all_map P (λ part. Some part ∷ []) (parts_of_text (take 1024 value))
    (all_each (λ part. P (Some part ∷ [])) (λ part. (text_width (type_of_column schema segment.column.0) part text, tt)) (parts_of_text (take 1024 value))))
    (values_of fields segment.column.0))
types-texts schema fields (one ∷ other ∷ segments) h = absurd (true≢false (sym h))

-- ---- all of them

implied : (a b : Bool) → a ≡ true → (not a || b) ≡ true → b ≡ true
implied true b h k = k
implied false b h k = absurd (true≢false (sym h))

legal_tuples : (rule : IndexRule) (schema : Schema) → is_legal rule schema ≡ true → rule.flags.tuples ≡ true → is_tuples_key schema rule.segments ≡ true
unfolding is_legal
legal_tuples rule schema legal tuples =
    and_left (is_tuples_key schema rule.segments) _ (implied rule.flags.tuples (is_legal_tuples rule schema) tuples (and_right _ (not rule.flags.tuples || is_legal_tuples rule schema) legal))

pub types-all : (rule : IndexRule) (schema : Schema) (fields : RecordFields) → is_legal rule schema ≡ true → record_fits schema.columns fields ≡ true
    → AllByRecursion (AreOfTypes (columns_of_key rule schema)) (all_key_values rule schema fields)
types-all rule schema fields legal fits =
    elim rule.flags.tuples as (λ b. rule.flags.tuples ≡ b → AllByRecursion (AreOfTypes (columns_of_key rule schema)) (elim b [ true ↦ parts_of_texts fields (key_columns rule) | false ↦ product (parts_of_columns rule schema fields false (key_columns rule)) ])) [
      | true ↦ λ e. types-texts schema fields rule.segments (legal_tuples rule schema legal e)
      | false ↦ λ e. product_types (columns_of_key rule schema) (parts_of_columns rule schema fields false (key_columns rule)) (types-parts rule schema fields fits false rule.segments)
    ] refl

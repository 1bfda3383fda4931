-- The rows of a consistent image.
use Rattle.std.proofs.Common.{◌≡◌, ℕ, Bool, true, false, ◌&&◌, ◌||◌, List, [], ◌∷◌, ◌++◌, length, Option, Some, None, refl, sym, ap, subst, ◌∙◌, arith}
use Rattle.std.specs.Prelude.{◌==◌, not, cond, ◌^◌, nat_le, nat_lt, map, filter, flat_map, option_map, unwrap_or, IfSome, bytes_eq, is_some}
use Rattle.std.specs.List.{AllByRecursion, list_all, list_any}
use Rattle.std.specs.Ordering.{eq_by_cmp, nat_cmp}
use Rattle.std.specs.Cmp.Lexicographic.{slice_cmp}
use Rattle.std.specs.FinMap.Entries.{by_order, is_sorted}
use Rattle.std.specs.declared.cmp.Ordering.{Ordering}
use Rattle.std.specs.declared.cmp.Ordering.TheVariants.{Less, Equal, Greater}
use Rattle.std.proofs.lemmas.Bool.{and_from, eqb-true, leb-true}
use Rattle.std.proofs.lemmas.List.Concat.{flat_map-cons}
use Rattle.jet_base.specs.TypeKinds.{is_long_type}
use Rattle.jet_base.specs.declared.words.ColType.{ColType}
use Rattle.jet_base.specs.declared.words.ColType.TheVariants as kind
use Rattle.column_set.specs.declared.columns.Column.{Column}
use Rattle.column_set.specs.declared.rows.RowValue.{RowValue}
use Rattle.column_set.specs.declared.rows.RowValue.TheVariants.{Here, Apart}
use Rattle.column_set.specs.RecordValues.{column_of_id, has_value, is_kept_column, lookup_by_number, record_fits, stands_in, value_fits, values_fit}
use Rattle.column_set.specs.RowReading.{row_in}
use Rattle.column_set.specs.Rows.{RowFields, field_fits_row, is_row, is_well_formed, largest_row, row_bytes, row_values_of, value_fits_row, values_in_order}
use Rattle.common_lemmas.proofs.Booleans.{and_left, and_right, impossible}
use Rattle.common_lemmas.proofs.Lists.{all_parted}
use Rattle.common_lemmas.proofs.Numbers.{same_bytes}
use Rattle.common_lemmas.proofs.Options.{some_apart}
use Rattle.database_state.specs.Lawful.{is_indexable}
use Rattle.database_state.specs.Table.{schema_of}
use Rattle.index_derive.specs.Entries.{insert_key, sorted_keys}
use Rattle.long_rows.specs.WholeRows.{bytes_of_value, has_length, is_there, is_whole, record_in, whole_value}
use Rattle.long_rows.specs.RowReferences.{identifier}
use Rattle.long_value.specs.Values.{LongValue, Values, value_of}
use Rattle.page_image.specs.Page.{Node}
use Rattle.stored_variants.specs.CountedValues.{newest_rows, row_before, rows_before, with_own_row}
use Rattle.stored_variants.specs.RecordRows.{record_of, row_in_node}
use Rattle.version_store.specs.HeldChanges.{HeldChange}
use Rattle.image_findings.specs.Images.{Finding, at_least_key, first_key}
use Rattle.image_findings.specs.RowFindings.{has_before, is_newest_row, is_own_bookmark, is_row_under, is_sound_node, lacks_node, lacks_room, row_finding, unsound_bookmarks}
use Rattle.image_findings.specs.SoundRows.{HasSoundRow, HasSoundRows}
use Rattle.image_findings.specs.TableContents.{TableContents, field_fits, is_short_row, long_values, row_fits, row_value_fits}
use Rattle.image_findings.specs.ValueFindings.{broken_values, missing_before, missing_of_row, missing_value, missing_values, value_finding}

-- ---- no finding at some keys: there are none

inserted : (found : List ℕ → Finding) (k : List ℕ) (ks : List (List ℕ)) → option_map found (first_key (insert_key k ks)) ≡ None → ⊥
inserted found k [] h = some_apart (found k) h
inserted found k (x ∷ ks) h = by (slice_cmp nat_cmp k x) h
  where
    by : (o : Ordering) → option_map found (first_key (by_order o (k ∷ x ∷ ks) (x ∷ ks) (x ∷ insert_key k ks))) ≡ None → ⊥
    by Less h = some_apart (found k) h
    by Equal h = some_apart (found x) h
    by Greater h = some_apart (found x) h

pub no_keys : (found : List ℕ → Finding) (keys : List (List ℕ)) → at_least_key found keys ≡ None → keys ≡ []
no_keys found [] h = refl
no_keys found (k ∷ ks) h = absurd (inserted found k (sorted_keys ks) h)

-- ---- lists without elements

pub no_cons : {X A : Type 0} (x : X) (xs : List X) → x ∷ xs ≡ [] → A
no_cons x xs e = cc

pub left_empty : {X : Type 0} (xs ys : List X) → xs ++ ys ≡ [] → xs ≡ []
left_empty [] ys e = refl
left_empty (x ∷ xs) ys e = no_cons x (xs ++ ys) e

pub right_empty : {X : Type 0} (xs ys : List X) → xs ++ ys ≡ [] → ys ≡ []
right_empty [] ys e = e
right_empty (x ∷ xs) ys e = no_cons x (xs ++ ys) e

pub each_empty : {X Y : Type 0} (f : X → List Y) (xs : List X) → flat_map f xs ≡ [] → AllByRecursion (λ x. f x ≡ []) xs
each_empty f [] e = tt
each_empty f (x ∷ xs) e =
    let split : f x ++ flat_map f xs ≡ [] = sym (flat_map-cons f x xs) ∙ e in
    (left_empty (f x) (flat_map f xs) split, each_empty f xs (right_empty (f x) (flat_map f xs) split))

-- what no element passes
none_passes : {X Y : Type 0} (p : X → Bool) (f : X → Y) (xs : List X) → map f (filter p xs) ≡ [] → AllByRecursion (λ x. p x ≡ false) xs
none_passes p f [] e = tt
none_passes {X} {Y} p f (x ∷ xs) e = by (p x) refl e (none_passes p f xs)
  where
    by : (b : Bool) → p x ≡ b → map f (cond b (x ∷ filter p xs) (filter p xs)) ≡ [] → (map f (filter p xs) ≡ [] → AllByRecursion (λ x. p x ≡ false) xs) → (p x ≡ false) × AllByRecursion (λ x. p x ≡ false) xs
    by true q e rest = no_cons (f x) (map f (filter p xs)) e
    by false q e rest = (q, rest e)

not_false : (b : Bool) → not b ≡ false → b ≡ true
not_false true e = refl
not_false false e = impossible (sym e)

-- ---- values that are there

there : (values : Values) (v : RowValue) → missing_value values v ≡ [] → is_there values v ≡ true
there values (Here bytes) e = refl
there values (Apart entry place size) e = by (is_there values (Apart entry place size)) e
  where
    by : (b : Bool) → cond b [] (identifier entry place ∷ []) ≡ [] → b ≡ true
    by true e = refl
    by false e = no_cons (identifier entry place) [] e

all_there : (values : Values) (xs : List (ℕ × RowValue)) → AllByRecursion (λ (v : ℕ × RowValue). missing_value values v.1 ≡ []) xs → AllByRecursion (λ (v : ℕ × RowValue). is_there values v.1 ≡ true) xs
all_there values [] h = tt
all_there values (x ∷ xs) h = (there values x.1 h.0, all_there values xs h.1)

field_there : (values : Values) (column : ℕ) (xs : List RowValue) → AllByRecursion (λ (v : ℕ × RowValue). is_there values v.1 ≡ true) (map (λ (value : RowValue). (column, value)) xs) → list_all (is_there values) xs ≡ true
field_there values column [] h = refl
field_there values column (x ∷ xs) h = and_from (is_there values x) (list_all (is_there values) xs) h.0 (field_there values column xs h.1)

row_there : (values : Values) (row : RowFields) → AllByRecursion (λ (v : ℕ × RowValue). is_there values v.1 ≡ true) (values_in_order row) → is_whole values row ≡ true
row_there values [] h = refl
row_there values (field ∷ row) h =
    let split = subst (AllByRecursion (λ (v : ℕ × RowValue). is_there values v.1 ≡ true)) (flat_map-cons (λ (f : ℕ × List RowValue). map (λ (value : RowValue). (f.0, value)) f.1) field row) h in
    let parts = all_parted (λ (v : ℕ × RowValue). is_there values v.1 ≡ true) (map (λ (value : RowValue). (field.0, value)) field.1) (values_in_order row) split in
    and_from (list_all (is_there values) field.1) (is_whole values row) (field_there values field.0 field.1 parts.0) (row_there values row parts.1)

pub whole : (values : Values) (row : RowFields) → missing_of_row values row ≡ [] → is_whole values row ≡ true
whole values row e = row_there values row (all_there values (values_in_order row) (each_empty (λ (value : ℕ × RowValue). missing_value values value.1) (values_in_order row) e))

-- ---- rows that fit columns

short_long : (type : ColType) (bytes : List ℕ) → is_long_type type ≡ true → nat_le (length bytes) 1048576 ≡ true → value_fits type bytes ≡ true
short_long kind.LongBinary bytes l h = h
short_long kind.LongText bytes l h = h
short_long kind.Bit bytes l h = impossible l
short_long kind.UnsignedByte bytes l h = impossible l
short_long kind.Short bytes l h = impossible l
short_long kind.UnsignedShort bytes l h = impossible l
short_long kind.Long bytes l h = impossible l
short_long kind.UnsignedLong bytes l h = impossible l
short_long kind.LongLong bytes l h = impossible l
short_long kind.Currency bytes l h = impossible l
short_long kind.Guid bytes l h = impossible l
short_long kind.Binary bytes l h = impossible l
short_long kind.Text bytes l h = impossible l

own_length : (size : ℕ) (o : Option LongValue) → has_length size o ≡ true → nat_le size 1048576 ≡ true → nat_le (length (bytes_of_value o)) 1048576 ≡ true
own_length size None h small = impossible h
own_length size (Some value) h small = ap (λ n. nat_le n 1048576) (sym (eqb-true size (length value.bytes) h)) ∙ small

value_of_type : (values : Values) (type : ColType) (v : RowValue) → row_value_fits type v ≡ true → is_there values v ≡ true → value_fits_row v ≡ true → value_fits type (whole_value values v) ≡ true
value_of_type values type (Here bytes) fits is small = fits
value_of_type values type (Apart entry place size) fits is small =
    short_long type (whole_value values (Apart entry place size)) fits
    (own_length size (value_of (identifier entry place) values) is (and_right (nat_lt entry (2 ^ 64) && nat_lt place (2 ^ 32) && nat_le 256 size) (nat_le size 1048576) small))

values_of_type : (values : Values) (type : ColType) (vs : List RowValue) → list_all (row_value_fits type) vs ≡ true → list_all (is_there values) vs ≡ true → list_all value_fits_row vs ≡ true → list_all (value_fits type) (map (whole_value values) vs) ≡ true
values_of_type values type [] fits is small = refl
values_of_type values type (v ∷ vs) fits is small =
    and_from (value_fits type (whole_value values v)) (list_all (value_fits type) (map (whole_value values) vs))
    (value_of_type values type v (and_left (row_value_fits type v) (list_all (row_value_fits type) vs) fits) (and_left (is_there values v) (list_all (is_there values) vs) is) (and_left (value_fits_row v) (list_all value_fits_row vs) small))
    (values_of_type values type vs (and_right (row_value_fits type v) (list_all (row_value_fits type) vs) fits) (and_right (is_there values v) (list_all (is_there values) vs) is) (and_right (value_fits_row v) (list_all value_fits_row vs) small))

as_many : (values : Values) (vs : List RowValue) → length (map (whole_value values) vs) ≡ length vs
as_many values [] = refl
as_many values (v ∷ vs) = omega (arith, as_many values vs)

field_stands : (values : Values) (columns : List Column) (field : ℕ × List RowValue) → field_fits columns field ≡ true → list_all (is_there values) field.1 ≡ true → list_all value_fits_row field.1 ≡ true
    → stands_in columns (field.0, map (whole_value values) field.1) ≡ true
field_stands values columns field fits is small = by (column_of_id columns field.0) fits
  where
    by : (o : Option Column) → elim o [ Some column ↦ (column.multi || nat_le (length field.1) 1) && list_all (row_value_fits column.kind) field.1 | None ↦ false ] ≡ true
        → elim o [ Some column ↦ values_fit column (map (whole_value values) field.1) | None ↦ false ] ≡ true
    by None h = h
    by (Some column) h =
        and_from (column.multi || nat_le (length (map (whole_value values) field.1)) 1) (list_all (value_fits column.kind) (map (whole_value values) field.1))
        (ap (λ n. column.multi || nat_le n 1) (as_many values field.1) ∙ and_left (column.multi || nat_le (length field.1) 1) (list_all (row_value_fits column.kind) field.1) h)
        (values_of_type values column.kind field.1 (and_right (column.multi || nat_le (length field.1) 1) (list_all (row_value_fits column.kind) field.1) h) is small)

fields_stand : (values : Values) (columns : List Column) (row : RowFields) → list_all (field_fits columns) row ≡ true → is_whole values row ≡ true → list_all field_fits_row row ≡ true → list_all (stands_in columns) (record_in values row) ≡ true
fields_stand values columns [] fits is small = refl
fields_stand values columns (field ∷ row) fits is small =
    and_from (stands_in columns (field.0, map (whole_value values) field.1)) (list_all (stands_in columns) (record_in values row))
    (field_stands values columns field (and_left (field_fits columns field) (list_all (field_fits columns) row) fits) (and_left (list_all (is_there values) field.1) (is_whole values row) is)
    (and_right (nat_lt field.0 (2 ^ 16) && nat_lt 0 (length field.1)) (list_all value_fits_row field.1) (and_left (field_fits_row field) (list_all field_fits_row row) small)))
    (fields_stand values columns row (and_right (field_fits columns field) (list_all (field_fits columns) row) fits) (and_right (list_all (is_there values) field.1) (is_whole values row) is) (and_right (field_fits_row field) (list_all field_fits_row row) small))

-- a column has as many values in the record as in the row
looked_up : (values : Values) (row : RowFields) (id : ℕ) → lookup_by_number id (record_in values row) ≡ option_map (map (whole_value values)) (lookup_by_number id row)
looked_up values [] id = refl
looked_up values (field ∷ row) id = by (eq_by_cmp nat_cmp id field.0) (looked_up values row id)
  where
    by : (b : Bool) → lookup_by_number id (record_in values row) ≡ option_map (map (whole_value values)) (lookup_by_number id row)
        → cond b (Some (map (whole_value values) field.1)) (lookup_by_number id (record_in values row)) ≡ option_map (map (whole_value values)) (cond b (Some field.1) (lookup_by_number id row))
    by true e = refl
    by false e = e

same_count : (values : Values) (o : Option (List RowValue)) → length (unwrap_or (option_map (map (whole_value values)) o) []) ≡ length (unwrap_or o [])
same_count values None = refl
same_count values (Some vs) = as_many values vs

has_as_many : (values : Values) (row : RowFields) (id : ℕ) → has_value (record_in values row) id ≡ nat_lt 0 (length (row_values_of row id))
has_as_many values row id = ap (λ o. nat_lt 0 (length (unwrap_or o []))) (looked_up values row id) ∙ ap (λ n. nat_lt 0 n) (same_count values (lookup_by_number id row))

kept_columns : (values : Values) (row : RowFields) (columns : List Column) → list_all (λ column. not (is_kept_column column) || nat_lt 0 (length (row_values_of row column.id.0))) columns ≡ true
    → list_all (λ column. not (is_kept_column column) || has_value (record_in values row) column.id.0) columns ≡ true
kept_columns values row [] h = refl
kept_columns values row (c ∷ columns) h =
    let old = not (is_kept_column c) || nat_lt 0 (length (row_values_of row c.id.0)) in
    let others = list_all (λ column. not (is_kept_column column) || nat_lt 0 (length (row_values_of row column.id.0))) columns in
    and_from (not (is_kept_column c) || has_value (record_in values row) c.id.0) (list_all (λ column. not (is_kept_column column) || has_value (record_in values row) column.id.0) columns)
    (ap (λ b. not (is_kept_column c) || b) (has_as_many values row c.id.0) ∙ and_left old others h) (kept_columns values row columns (and_right old others h))

fits : (values : Values) (columns : List Column) (row : RowFields) → row_fits columns row ≡ true → is_whole values row ≡ true → is_row row ≡ true → record_fits columns (record_in values row) ≡ true
fits values columns row h is formed =
    let fields = list_all (field_fits columns) row in
    let kept = list_all (λ column. not (is_kept_column column) || nat_lt 0 (length (row_values_of row column.id.0))) columns in
    let well = and_left (is_well_formed row) (nat_lt (length (values_in_order row)) (2 ^ 16)) formed in
    and_from (list_all (stands_in columns) (record_in values row)) (list_all (λ column. not (is_kept_column column) || has_value (record_in values row) column.id.0) columns)
    (fields_stand values columns row (and_left fields kept h) is (and_right (is_sorted nat_cmp row) (list_all field_fits_row row) well))
    (kept_columns values row columns (and_right fields kept h))

-- ---- sound rows

pub sound_row : (number : ℕ) (t : TableContents) (bookmark bytes : List ℕ) → is_row_under number (long_values t) t.table bookmark bytes ≡ true → is_whole (long_values t) (row_in bytes) ≡ true → HasSoundRow number t bookmark bytes
sound_row number t bookmark bytes h is =
    let columns = row_fits t.table.columns (row_in bytes) in
    let indexable = is_indexable (schema_of t.table) (record_of (long_values t) bytes) in
    let own = is_own_bookmark number t.table (record_of (long_values t) bytes) bookmark in
    let short = and_left (is_short_row bytes) (columns && (indexable && own)) h in
    let rest = and_right (is_short_row bytes) (columns && (indexable && own)) h in
    let formed = and_left (is_row (row_in bytes)) (bytes_eq bytes (row_bytes (row_in bytes)) && nat_le (length bytes) largest_row) short in
    let spelled = and_right (is_row (row_in bytes)) (bytes_eq bytes (row_bytes (row_in bytes)) && nat_le (length bytes) largest_row) short in
    record {
      row = record {
        formed = formed;
        spelled = same_bytes bytes (row_bytes (row_in bytes)) (and_left (bytes_eq bytes (row_bytes (row_in bytes))) (nat_le (length bytes) largest_row) spelled);
        whole = is;
        small = leb-true (length bytes) largest_row (and_right (bytes_eq bytes (row_bytes (row_in bytes))) (nat_le (length bytes) largest_row) spelled);
      };
      columns = fits (long_values t) t.table.columns (row_in bytes) (and_left columns (indexable && own) rest) is formed;
      indexable = and_left indexable own (and_right columns (indexable && own) rest);
      own = and_right indexable own (and_right columns (indexable && own) rest);
    }

-- the newest row of each node names values that are there
newest_whole : (values : Values) (nodes : List Node) → AllByRecursion (λ (row : List ℕ × RowFields). missing_of_row values row.1 ≡ []) (newest_rows nodes) → AllByRecursion (λ (n : Node). IfSome (row_in_node n.data) (λ bytes. is_whole values (row_in bytes) ≡ true)) nodes
newest_whole values [] h = tt
newest_whole values (n ∷ nodes) h = by (row_in_node n.data) h (newest_whole values nodes)
  where
    by : (o : Option (List ℕ)) → AllByRecursion (λ (row : List ℕ × RowFields). missing_of_row values row.1 ≡ []) (with_own_row n.key o (newest_rows nodes))
        → (AllByRecursion (λ (row : List ℕ × RowFields). missing_of_row values row.1 ≡ []) (newest_rows nodes) → AllByRecursion (λ (m : Node). IfSome (row_in_node m.data) (λ bytes. is_whole values (row_in bytes) ≡ true)) nodes)
        → IfSome o (λ bytes. is_whole values (row_in bytes) ≡ true) × AllByRecursion (λ (m : Node). IfSome (row_in_node m.data) (λ bytes. is_whole values (row_in bytes) ≡ true)) nodes
    by None h rest = (tt, rest h)
    by (Some bytes) h rest = (whole values (row_in bytes) h.0, rest h.1)

newest_sound : (number : ℕ) (held : List HeldChange) (t : TableContents) (nodes : List Node) → AllByRecursion (λ n. is_sound_node number held t n ≡ true) nodes
    → AllByRecursion (λ (n : Node). IfSome (row_in_node n.data) (λ bytes. is_whole (long_values t) (row_in bytes) ≡ true)) nodes → AllByRecursion (λ (n : Node). IfSome (row_in_node n.data) (HasSoundRow number t n.key)) nodes
newest_sound number held t [] sound is = tt
newest_sound number held t (n ∷ nodes) sound is = (by (row_in_node n.data) under is.0, newest_sound number held t nodes sound.1 is.1)
  where
    key : Bool
    key = nat_le 1 (length n.key) && nat_le (length n.key) 255

    stands : Bool
    stands = is_some (row_in_node n.data) || has_before t.table.id n.key held

    room : Bool
    room = nat_le n.extent largest_row && not (list_any (lacks_room n.extent t.table.id n.key) held)

    row : Bool
    row = is_newest_row number (long_values t) t.table n.key (row_in_node n.data)

    under : row ≡ true
    under = and_right room row (and_right stands (room && row) (and_right key (stands && (room && row)) sound.0))

    by : (o : Option (List ℕ)) → is_newest_row number (long_values t) t.table n.key o ≡ true → IfSome o (λ bytes. is_whole (long_values t) (row_in bytes) ≡ true) → IfSome o (HasSoundRow number t n.key)
    by None h is = tt
    by (Some bytes) h is = sound_row number t n.key bytes h is

each_sound : {X : Type 0} (p : X → Bool) (xs : List X) → AllByRecursion (λ x. not (p x) ≡ false) xs → AllByRecursion (λ x. p x ≡ true) xs
each_sound p [] h = tt
each_sound p (x ∷ xs) h = (not_false (p x) h.0, each_sound p xs h.1)

pub newest_are_whole : (held : List HeldChange) (t : TableContents) → missing_values held t ≡ [] → AllByRecursion (λ (n : Node). IfSome (row_in_node n.data) (λ bytes. is_whole (long_values t) (row_in bytes) ≡ true)) t.nodes
newest_are_whole held t missing =
    let newest = left_empty (flat_map (λ (row : List ℕ × RowFields). missing_of_row (long_values t) row.1) (newest_rows t.nodes)) (flat_map (missing_before (long_values t)) (rows_before t.table.id held)) missing in
    newest_whole (long_values t) t.nodes (each_empty (λ (row : List ℕ × RowFields). missing_of_row (long_values t) row.1) (newest_rows t.nodes) newest)

pub sound_rows : (number : ℕ) (held : List HeldChange) (t : TableContents) → value_finding number held t ≡ None → row_finding number held t ≡ None → HasSoundRows number held t
sound_rows number held t values rows =
    let is = newest_are_whole held t (right_empty (broken_values number t) (missing_values held t) (no_keys _ (broken_values number t ++ missing_values held t) values)) in
    let unsound = no_keys _ (unsound_bookmarks number held t) rows in
    let nodes = each_sound (is_sound_node number held t) t.nodes (none_passes (λ n. not (is_sound_node number held t n)) (λ (n : Node). n.key) t.nodes
    (left_empty (map (λ (n : Node). n.key) (filter (λ n. not (is_sound_node number held t n)) t.nodes)) (map (λ (h : HeldChange). h.bookmark) (filter (lacks_node t) held)) unsound)) in
    record {
      nodes = nodes;
      rows = newest_sound number held t t.nodes nodes is;
      changed = none_passes (lacks_node t) (λ (h : HeldChange). h.bookmark) held
          (right_empty (map (λ (n : Node). n.key) (filter (λ n. not (is_sound_node number held t n)) t.nodes)) (map (λ (h : HeldChange). h.bookmark) (filter (lacks_node t) held)) unsound);
    }

pub each_sound_rows : (number : ℕ) (held : List HeldChange) (tables : List TableContents) → AllByRecursion (λ t. value_finding number held t ≡ None) tables → AllByRecursion (λ t. row_finding number held t ≡ None) tables → AllByRecursion (HasSoundRows number held) tables
each_sound_rows number held [] values rows = tt
each_sound_rows number held (t ∷ tables) values rows = (sound_rows number held t values.0 rows.0, each_sound_rows number held tables values.1 rows.1)

-- ---- rows before held changes

abbrev IsWhole : Values → List ℕ → Type 0
IsWhole values row = is_whole values (row_in row) ≡ true

abbrev IsWholeBefore : TableContents → HeldChange → Type 0
IsWholeBefore t h = (h.table == t.table.id) ≡ true → IfSome h.before (IsWhole (long_values t))

whole_before : (values : Values) (h : HeldChange) → missing_before values (row_before h) ≡ [] → IfSome h.before (IsWhole values)
whole_before values h e = by h.before e
  where
    by : (o : Option (List ℕ)) → missing_before values (row_before (record h { before = o })) ≡ [] → IfSome o (IsWhole values)
    by None e = tt
    by (Some row) e = whole values (row_in row) e

each_whole : (t : TableContents) (held : List HeldChange) → AllByRecursion (λ change. missing_before (long_values t) change ≡ []) (rows_before t.table.id held) → AllByRecursion (IsWholeBefore t) held
each_whole t [] missing = tt
each_whole t (h ∷ held) missing = by (h.table == t.table.id) refl missing (each_whole t held)
  where
    by : (b : Bool) → (h.table == t.table.id) ≡ b → AllByRecursion (λ change. missing_before (long_values t) change ≡ []) (map row_before (cond b (h ∷ filter (λ (g : HeldChange). g.table == t.table.id) held) (filter (λ (g : HeldChange). g.table == t.table.id) held)))
        → (AllByRecursion (λ change. missing_before (long_values t) change ≡ []) (rows_before t.table.id held) → AllByRecursion (IsWholeBefore t) held) → IsWholeBefore t h × AllByRecursion (IsWholeBefore t) held
    by true e missing rest = ((λ own. whole_before (long_values t) h missing.0), rest missing.1)
    by false e missing rest = ((λ own. impossible (sym e ∙ own)), rest missing)

pub each_before_whole : (held : List HeldChange) (t : TableContents) → missing_values held t ≡ [] → AllByRecursion (IsWholeBefore t) held
each_before_whole held t missing =
    each_whole t held (each_empty (missing_before (long_values t)) (rows_before t.table.id held) (right_empty (flat_map (λ (row : List ℕ × RowFields). missing_of_row (long_values t) row.1) (newest_rows t.nodes)) (flat_map (missing_before (long_values t)) (rows_before t.table.id held)) missing))

-- Each long value of a store is whole: of an entry that was made, with a length that a long value has, and with its own nodes alone.
use Rattle.std.proofs.Common.{◌≡◌, ◌≤◌, ◌<◌, ℕ, zero, suc, ◌+◌, ◌^◌, inl, inr, Bool, true, false, cond, ◌&&◌, List, [], ◌∷◌, Option, Some, None, length, take, drop, refl, sym, ap, subst, ◌∙◌, arith, bytes_eq}
use Rattle.std.specs.Prelude.{◌==◌, filter, map, nat_le, nat_lt, option_map, sum_by, IfSome, if◌then◌else◌}
use Rattle.std.specs.List.{AllByRecursion, list_all, list_any}
use Rattle.std.proofs.lemmas.Bool.{and_from, cases_lt}
use Rattle.std.proofs.lemmas.Bool.Decides.{nat_tests}
use Rattle.std.proofs.lemmas.List.Sums.{sum_by-cons}
use Rattle.byteorder.specs.Endian.{big_bytes, big_number, little_number}
use Rattle.byteorder.specs.Numbers.{big_from-take, big_number-reads_back, little_number-reads_back}
use Rattle.column_set.specs.RowReading.{row_in}
use Rattle.column_set.specs.Rows.{RowFields, field_fits_row, is_row, is_well_formed, value_fits_row, values_in_order}
use Rattle.column_set.specs.declared.rows.RowValue.{RowValue}
use Rattle.column_set.specs.declared.rows.RowValue.TheVariants.{Here, Apart}
use Rattle.common_lemmas.proofs.Booleans.{and_left, and_right}
use Rattle.common_lemmas.proofs.Lists.{all_append}
use Rattle.common_lemmas.proofs.Numbers.{same_bytes}
use Rattle.live_part.specs.LiveBytes.{standing}
use Rattle.long_rows.specs.ReferenceCounts.{references_before}
use Rattle.long_rows.specs.RowReferences.{identifier, named_by, references, times_among}
use Rattle.long_value.specs.Shown.{id_of, value_at}
use Rattle.long_value.specs.Values.{LongValue, Values, chunk_count, chunk_node, head_data, head_node, nodes_of_values, with_chunks, with_value}
use Rattle.page_image.specs.Page.{Node}
use Rattle.stored_variants.specs.CountedValues.{newest_rows, row_before, with_own_row}
use Rattle.stored_variants.specs.RecordRows.{row_in_node}
use Rattle.version_store.specs.HeldChanges.{HeldChange}
use Rattle.image_findings.specs.ValueFindings.{entry_in, has_long_length, is_whole_value, nodes_of_value}
use Rattle.image_findings.specs.CatalogFindings.{are_same_nodes}
use Rattle.own_images.proofs.Counted.{before_of, first_before}
use Rattle.own_images.proofs.ReadBack.{same_nodes}
use Rattle.own_images.proofs.ValueNodes.{insert_all, key_begins}
use Rattle.own_images.specs.OwnContents.{IsOwnValue}

-- ---- identifiers that rows name

-- an identifier is that of an entry and a place
pub record IsNamed (id : List ℕ) : Type 0 where
  pub entry : ℕ
  pub place : ℕ
  pub is : id ≡ identifier entry place
  pub low_entry : entry < 2 ^ 64
  pub low_place : place < 2 ^ 32

is_below : (m n : ℕ) → nat_lt m n ≡ true → m < n
is_below m n e = grind (arith, nat_tests, e)

one_named : (id : List ℕ) (entry place size : ℕ) → value_fits_row (Apart entry place size) ≡ true → bytes_eq id (identifier entry place) ≡ true → IsNamed id
one_named id entry place size fits e =
    let three = and_left (nat_lt entry (2 ^ 64) && nat_lt place (2 ^ 32) && nat_le 256 size) (nat_le size 1048576) fits in
    let two = and_left (nat_lt entry (2 ^ 64) && nat_lt place (2 ^ 32)) (nat_le 256 size) three in
    record {
      entry = entry;
      place = place;
      is = same_bytes id (identifier entry place) e;
      low_entry = is_below entry (2 ^ 64) (and_left (nat_lt entry (2 ^ 64)) (nat_lt place (2 ^ 32)) two);
      low_place = is_below place (2 ^ 32) (and_right (nat_lt entry (2 ^ 64)) (nat_lt place (2 ^ 32)) two);
    }

more_among : (id x : List ℕ) (ids : List (List ℕ)) → times_among id (x ∷ ids) ≡ (if bytes_eq id x then 1 else 0) + times_among id ids
more_among id x ids = sum_by-cons (λ y. cond (bytes_eq id y) 1 0) x ids

named_among : (id : List ℕ) (values : List (ℕ × RowValue)) → AllByRecursion (λ (v : ℕ × RowValue). value_fits_row v.1 ≡ true) values → 0 < times_among id (named_by values) → IsNamed id
named_among id [] fits some = absurd (omega (arith, some))
named_among id ((column, Here bytes) ∷ values) fits some = named_among id values fits.1 some
named_among id ((column, Apart entry place size) ∷ values) fits some = at (list_any (bytes_eq (identifier entry place)) (named_by values)) some (named_among id values fits.1)
  where
    this : (b : Bool) → bytes_eq id (identifier entry place) ≡ b → 0 < (if b then 1 else 0) + times_among id (named_by values) → (0 < times_among id (named_by values) → IsNamed id) → IsNamed id
    this true e some rest = one_named id entry place size fits.0 e
    this false e some rest = rest (omega (arith, some))

    at : (b : Bool) → 0 < times_among id (if b then named_by values else identifier entry place ∷ named_by values) → (0 < times_among id (named_by values) → IsNamed id) → IsNamed id
    at true some rest = rest some
    at false some rest = this (bytes_eq id (identifier entry place)) refl (subst (λ (n : ℕ). 0 < n) (more_among id (identifier entry place) (named_by values)) some) rest

field_fits : (column : ℕ) (list : List RowValue) → list_all value_fits_row list ≡ true → AllByRecursion (λ (v : ℕ × RowValue). value_fits_row v.1 ≡ true) (map (λ (value : RowValue). (column, value)) list)
field_fits column [] h = tt
field_fits column (v ∷ list) h = (and_left (value_fits_row v) (list_all value_fits_row list) h, field_fits column list (and_right (value_fits_row v) (list_all value_fits_row list) h))

fields_fit : (row : RowFields) → list_all field_fits_row row ≡ true → AllByRecursion (λ (v : ℕ × RowValue). value_fits_row v.1 ≡ true) (values_in_order row)
fields_fit [] h = tt
fields_fit (field ∷ row) h =
    all_append (λ (v : ℕ × RowValue). value_fits_row v.1 ≡ true) (map (λ (value : RowValue). (field.0, value)) field.1) (values_in_order row)
    (field_fits field.0 field.1 (and_right (nat_lt field.0 (2 ^ 16) && nat_lt 0 (length field.1)) (list_all value_fits_row field.1) (and_left (field_fits_row field) (list_all field_fits_row row) h)))
    (fields_fit row (and_right (field_fits_row field) (list_all field_fits_row row) h))

row_names : (id : List ℕ) (row : RowFields) → is_row row ≡ true → 0 < references id (Some row) → IsNamed id
row_names id row formed some =
    named_among id (values_in_order row) (fields_fit row (and_right _ (list_all field_fits_row row) (and_left (is_well_formed row) (nat_lt (length (values_in_order row)) (2 ^ 16)) formed))) some

abbrev pub IsFormed : List ℕ → Type 0
IsFormed bytes = is_row (row_in bytes) ≡ true

abbrev pub newest_of : List ℕ → List Node → ℕ
newest_of id nodes = sum_by (λ (row : List ℕ × RowFields). references id (Some row.1)) (newest_rows nodes)

newest_named : (id : List ℕ) (nodes : List Node) → AllByRecursion (λ (n : Node). IfSome (row_in_node n.data) IsFormed) nodes → 0 < newest_of id nodes → IsNamed id
newest_named id [] all some = absurd (omega (arith, some))
newest_named id (n ∷ nodes) all some = at (row_in_node n.data) all.0 some (newest_named id nodes all.1)
  where
    at : (o : Option (List ℕ)) → IfSome o IsFormed → 0 < sum_by (λ (row : List ℕ × RowFields). references id (Some row.1)) (with_own_row n.key o (newest_rows nodes)) → (0 < newest_of id nodes → IsNamed id) → IsNamed id
    at None formed some rest = rest some
    at (Some bytes) formed some rest = elim (cases_lt 0 (references id (Some (row_in bytes)))) [
      | inl here ↦ row_names id (row_in bytes) formed here
      | inr none ↦ rest (omega (arith, some, none, sum_by-cons (λ (row : List ℕ × RowFields). references id (Some row.1)) (n.key, row_in bytes) (newest_rows nodes)))
    ]

before_named : (id : List ℕ) (table : ℕ) (held : List HeldChange) → AllByRecursion (λ (h : HeldChange). IfSome h.before IsFormed) held → 0 < before_of id table held → IsNamed id
before_named id table [] all some = absurd (omega (arith, some))
before_named id table (h ∷ held) all some = at (h.table == table) (subst (λ (n : ℕ). 0 < n) (first_before id table h held) some) (before_named id table held all.1)
  where
    row : (o : Option (List ℕ)) → IfSome o IsFormed → 0 < references id (option_map row_in o) → IsNamed id
    row None formed some = absurd (omega (arith, some))
    row (Some bytes) formed some = row_names id (row_in bytes) formed some

    standing_row : (b : Bool) → 0 < (if b then 0 else references id (option_map row_in h.before)) → IsNamed id
    standing_row true some = absurd (omega (arith, some))
    standing_row false some = row h.before all.0 some

    at : (b : Bool) → 0 < (if b then references_before id (row_before h) else 0) + before_of id table held → (0 < before_of id table held → IsNamed id) → IsNamed id
    at true some rest = elim (cases_lt 0 (references_before id (row_before h))) [
      | inl here ↦ standing_row (row_before h).is_undone here
      | inr none ↦ rest (omega (arith, some, none))
    ]
    at false some rest = rest (omega (arith, some))

pub referred_is_named : (id : List ℕ) (nodes : List Node) (table : ℕ) (held : List HeldChange) → AllByRecursion (λ (n : Node). IfSome (row_in_node n.data) IsFormed) nodes → AllByRecursion (λ (h : HeldChange). IfSome h.before IsFormed) held
    → 0 < newest_of id nodes + before_of id table held → IsNamed id
referred_is_named id nodes table held newest befores some = elim (cases_lt 0 (newest_of id nodes)) [
  | inl here ↦ newest_named id nodes newest here
  | inr none ↦ before_named id table held befores (omega (arith, some, none))
]

-- ---- the entry of an identifier

pub entry_read : (entry place : ℕ) → entry < 2 ^ 64 → entry_in (identifier entry place) ≡ entry
entry_read entry place low = big_from-take 0 8 8 (identifier entry place) (omega arith) ∙ big_number-reads_back 8 entry (big_bytes 4 place) (omega (arith, low))

at_most : (m n : ℕ) → m ≤ n → nat_le m n ≡ true
at_most m n h = grind (arith, nat_tests, h)

length_read : (value : LongValue) → length value.bytes ≤ 1048576 → little_number 4 (drop 4 (head_data value)) ≡ length value.bytes
length_read value short = little_number-reads_back 4 (length value.bytes) [] (omega (arith, short))

long_length : (id : List ℕ) (value : LongValue) → 256 ≤ length value.bytes → length value.bytes ≤ 1048576 → has_long_length (head_node id value) ≡ true
long_length id value long short =
    ap (λ (n : ℕ). nat_le 256 n && nat_le n 1048576) (length_read value short) ∙ and_from (nat_le 256 (length value.bytes)) (nat_le (length value.bytes) 1048576) (at_most 256 (length value.bytes) long) (at_most (length value.bytes) 1048576 short)

-- ---- a whole value

pub value_is_whole : (number : ℕ) (all : List Node) (row : List ℕ × LongValue) → IsOwnValue all row → 256 ≤ length row.1.bytes → length row.1.bytes ≤ 1048576 → 1 ≤ entry_in row.0 → entry_in row.0 ≤ number → is_whole_value number row.0 (nodes_of_value row.0 all) ≡ true
value_is_whole number all row own long short some made =
    let head = head_node row.0 row.1 in
    let chunks = with_chunks row.0 row.1.bytes (chunk_count (length row.1.bytes)) [] in
    let nodes : nodes_of_value row.0 all ≡ head ∷ chunks = own.own ∙ own.first in
    let value : value_at (head ∷ chunks) head ≡ row.1 = ap (λ (l : List Node). value_at l head) (sym nodes) ∙ own.shown in
    let same : are_same_nodes (with_value row.0 (value_at (head ∷ chunks) head) []) (head ∷ chunks) ≡ true =
    ap (λ (v : LongValue). are_same_nodes (with_value row.0 v []) (head ∷ chunks)) value ∙ ap (λ (l : List Node). are_same_nodes l (head ∷ chunks)) own.first ∙ same_nodes (head ∷ chunks) in
    ap (is_whole_value number row.0) nodes
    ∙ and_from (nat_le 1 (entry_in row.0) && nat_le (entry_in row.0) number) (has_long_length head && are_same_nodes (with_value row.0 (value_at (head ∷ chunks) head) []) (head ∷ chunks))
    (and_from (nat_le 1 (entry_in row.0)) (nat_le (entry_in row.0) number) (at_most 1 (entry_in row.0) some) (at_most (entry_in row.0) number made))
    (and_from (has_long_length head) (are_same_nodes (with_value row.0 (value_at (head ∷ chunks) head) []) (head ∷ chunks)) (long_length row.0 row.1 long short) same)

-- what holds of the identifiers of values holds of those of their nodes
chunks_have : (P : List ℕ → Type 0) (id bytes : List ℕ) (k : ℕ) (nodes : List Node) → length id ≡ 12 → P id → AllByRecursion (λ n. P (id_of n)) nodes → AllByRecursion (λ n. P (id_of n)) (with_chunks id bytes k nodes)
chunks_have P id bytes zero nodes long h all = all
chunks_have P id bytes (suc k) nodes long h all = insert_all (λ n. P (id_of n)) (with_chunks id bytes k nodes) (chunk_node id bytes k) (subst P (sym (key_begins id (suc k) long)) h) (chunks_have P id bytes k nodes long h all)

pub nodes_have : (P : List ℕ → Type 0) (values : Values) → AllByRecursion (λ (row : List ℕ × LongValue). (length row.0 ≡ 12) × P row.0) values → AllByRecursion (λ n. P (id_of n)) (nodes_of_values values)
nodes_have P [] h = tt
nodes_have P (row ∷ values) h =
    insert_all (λ n. P (id_of n)) (with_chunks row.0 row.1.bytes (chunk_count (length row.1.bytes)) (nodes_of_values values)) (head_node row.0 row.1) (subst P (sym (key_begins row.0 0 h.0.0)) h.0.1)
    (chunks_have P row.0 row.1.bytes (chunk_count (length row.1.bytes)) (nodes_of_values values) h.0.0 h.0.1 (nodes_have P values h.1))

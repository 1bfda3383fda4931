-- Rows of written values, as they are stored.
use Rattle.std.proofs.Common.{◌≡◌, ℕ, zero, suc, ◌+◌, ◌-◌, ◌*◌, ◌/◌, ◌<◌, ◌≤◌, Bool, true, false, cond, not, ◌&&◌, List, [], ◌∷◌, ◌++◌, length, map, take, drop, replicate, min, get_or, Option, Some, None, option_map, Ok, slice_get, ◌==◌, refl, sym, subst, ap, ◌∙◌, arith, nat_le, nat_lt, append_assoc, unwrap_or}
use Rattle.std.specs.Prelude.{ℤ, OnOk, Result, Err}
use Rattle.jet_base.specs.declared.memory.OutOfMemory.{OutOfMemory}
use Rattle.std.proofs.lemmas.Bool.{false≢true, leb-true, not-false}
use Rattle.std.proofs.lemmas.Bool.Decides.{nat_tests}
use Rattle.std.proofs.lemmas.List.{length-replicate, take_all}
use Rattle.common_lemmas.proofs.Booleans.{and_left, and_right}
use Rattle.common_lemmas.proofs.Numbers.{self_equal}
use Rattle.jet_base.specs.declared.replies.Jet.{Jet}
use Rattle.jet_base.specs.declared.replies.Jet.TheVariants as jet
use Rattle.jet_base.specs.declared.words.ColType.{ColType}
use Rattle.jet_base.specs.declared.words.ColType.TheVariants.{Bit, UnsignedByte, Short, UnsignedShort, Long, UnsignedLong, LongLong, Currency, Guid, Binary, Text, LongBinary, LongText}
use Rattle.jet_base.specs.declared.words.Given.{Given}
use Rattle.jet_base.specs.declared.words.Given.TheVariants.{Null, Number, Bytes, Fill}
use Rattle.jet_base.specs.ColumnType.{little_endian, twos_complement, largest_value}
use Rattle.jet_base.specs.Given.{as_bit, as_stored, given_bytes, given_fits, given_front, given_is_null, given_length}
use Rattle.jet_base.specs.TypeKinds.{is_long_type}
use Rattle.column_set.specs.RecordValues.{value_fits}
use Rattle.temp_table.specs.declared.columns.TempColumn.{TempColumn}
use Rattle.temp_table.specs.declared.fault.TempFault.{TempFault}
use Rattle.temp_table.specs.TempColumns.{RowValues, are_short, are_temp_columns, key_columns_first, row_fits}
use Rattle.temp_table.specs.TempRows.{TempRows, current_value, is_on, put_refusal, put_row}
use Rattle.session_local.specs.FittingLaws.{value_fits-given_bytes}
use Rattle.session_local.specs.TempCalls.{column_read, value_read, put_reply, row_read, row_refusal, stored_in, stored_row, value_refusal, values_refusal}
use Rattle.session_local.specs.Answer.{Answered, Nothing}
use Rattle.session_local.specs.ChangingTemps.{IsPut, PutsTo, bytes_of_row}

-- ---- slices by their first items

-- what is behind the first, as the code has it
abbrev pub behind : {X : Type 0} → List X → List X
behind xs = take (length xs - 1) (drop 1 xs)

behind-cons : {X : Type 0} (x : X) (xs : List X) → behind (x ∷ xs) ≡ xs
behind-cons x xs = take_all (suc (length xs) - 1) xs (omega arith)

-- ---- a value that is not refused

pub record IsStored (kind : ColType) (value : Given) : Type 0 where
  pub fits : given_fits kind value ≡ true
  pub small : nat_lt (largest_value kind) (given_length value) ≡ false

tested : (b : Bool) (reply : Jet) (rest : Option Jet) → cond b (Some reply) rest ≡ None → (b ≡ false) × (rest ≡ None)
tested false reply rest h = (refl, h)
tested true reply rest h = cc

pub is_stored : (kind : ColType) (value : Given) → value_refusal kind value ≡ None → IsStored kind value
is_stored kind value h =
    let one = tested (not (given_fits kind value)) jet.InvalidBufferSize _ h in
    let two = tested (nat_lt (largest_value kind) (given_length value)) jet.ColumnTooBig None one.1 in
    record { fits = not-false _ one.0; small = two.0 }

abbrev then : Option Jet → Option Jet → Option Jet
then first rest = elim first [ Some reply ↦ Some reply | None ↦ rest ]

first_none : (first : Option Jet) (rest : Option Jet) → then first rest ≡ None → (first ≡ None) × (rest ≡ None)
first_none None rest h = (refl, h)
first_none (Some reply) rest h = cc

-- a row whose values are not refused fits its columns
fits_here : (kind : ColType) (value : Given) (columns : List TempColumn) (row : RowValues) (c : TempColumn) → c.kind ≡ kind → IsStored kind value → row_fits columns row ≡ true → row_fits (c ∷ columns) (stored_in kind value ∷ row) ≡ true
fits_here kind value columns row c same it rest =
    elim (given_is_null value) as (λ b. given_is_null value ≡ b → row_fits (c ∷ columns) (elim b [ true ↦ None | false ↦ Some (given_bytes kind value) ] ∷ row) ≡ true) [
      | true ↦ λ e. rest
      | false ↦ λ e. ap (λ k. value_fits k (given_bytes kind value) && row_fits columns row) same ∙ ap (λ b. b && row_fits columns row) (value_fits-given_bytes kind value it.fits it.small e) ∙ rest
    ] refl

one_less : (n m : ℕ) → suc n ≡ suc m → n ≡ m
one_less n m e = omega (arith, e)

pub stored_row-fits : (columns : List TempColumn) (values : List Given) → length values ≡ length columns → values_refusal columns values ≡ None → row_fits columns (stored_row columns values) ≡ true
stored_row-fits [] [] same h = refl
stored_row-fits [] (value ∷ values) same h = absurd (omega (arith, same))
stored_row-fits (column ∷ columns) [] same h = absurd (omega (arith, same))
stored_row-fits (column ∷ columns) (value ∷ values) same h =
    let parts = first_none (value_refusal column.kind value) (values_refusal columns values) h in
    fits_here column.kind value columns (stored_row columns values) column refl (is_stored column.kind value parts.0) (stored_row-fits columns values (one_less _ _ same) parts.1)

-- ---- what is written to the buffer

short_width : (kind : ColType) → not (is_long_type kind) ≡ true → largest_value kind ≤ 255
short_width Bit h = omega arith
short_width UnsignedByte h = omega arith
short_width Short h = omega arith
short_width UnsignedShort h = omega arith
short_width Long h = omega arith
short_width UnsignedLong h = omega arith
short_width LongLong h = omega arith
short_width Currency h = omega arith
short_width Guid h = omega arith
short_width Binary h = omega arith
short_width Text h = omega arith
short_width LongBinary h = absurd (false≢true h)
short_width LongText h = absurd (false≢true h)

at_most : (m n : ℕ) → nat_lt n m ≡ false → m ≤ n
at_most m n e = grind (arith, nat_tests)

least : (m n : ℕ) → m ≤ n → min n m ≡ m
least m n h = omega (arith, h)

front_of_number : (kind : ColType) (n : ℤ) → not (is_long_type kind) ≡ true → take 255 (given_bytes kind (Number n)) ≡ given_bytes kind (Number n)
front_of_number kind n h = take_all 255 (little_endian (largest_value kind) (twos_complement (8 * largest_value kind) n)) (few (largest_value kind) (twos_complement (8 * largest_value kind) n) (short_width kind h))
  where
    long : (width n : ℕ) → length (little_endian width n) ≡ width
    long zero n = refl
    long (suc width) n = ap suc (long width (n / 256))

    few : (width n : ℕ) → width ≤ 255 → length (little_endian width n) ≤ 255
    few width n h = omega (arith, h, long width n)

-- the whole of a value that is stored in a column of a short type
pub front_is_whole : (kind : ColType) (value : Given) → not (is_long_type kind) ≡ true → IsStored kind value → given_front 255 kind value ≡ given_bytes kind value
front_is_whole kind Null short it = refl
front_is_whole kind (Number n) short it = front_of_number kind n short
front_is_whole kind (Bytes bytes) short it =
    let few : length bytes ≤ 255 = omega (arith, at_most (length bytes) (largest_value kind) it.small, short_width kind short) in
    ap (as_stored kind) (take_all 255 bytes few)
front_is_whole kind (Fill count byte) short it =
    let few : count ≤ 255 = omega (arith, at_most count (largest_value kind) it.small, short_width kind short) in
    ap (λ n. as_stored kind (replicate n byte)) (least count 255 few)

null_bytes : (kind : ColType) (value : Given) → given_is_null value ≡ true → given_bytes kind value ≡ []
null_bytes kind Null e = refl
null_bytes kind (Number n) e = absurd (false≢true e)
null_bytes kind (Bytes bytes) e = absurd (false≢true e)
null_bytes kind (Fill count byte) e = absurd (false≢true e)

-- the bytes of a stored value, NULL without any
pub bytes_stored : (kind : ColType) (value : Given) → unwrap_or (stored_in kind value) [] ≡ given_bytes kind value
bytes_stored kind value = elim (given_is_null value) as (λ b. given_is_null value ≡ b → unwrap_or (elim b [ true ↦ None | false ↦ Some (given_bytes kind value) ]) [] ≡ given_bytes kind value) [
  | true ↦ λ e. sym (null_bytes kind value e)
  | false ↦ λ e. refl
] refl

length-map : {A B : Type 0} (f : A → B) (xs : List A) → length (map f xs) ≡ length xs
length-map f [] = refl
length-map f (x ∷ xs) = ap suc (length-map f xs)

length-as_stored : (kind : ColType) (bytes : List ℕ) → length (as_stored kind bytes) ≡ length bytes
length-as_stored Bit bytes = length-map as_bit bytes
length-as_stored UnsignedByte bytes = refl
length-as_stored Short bytes = refl
length-as_stored UnsignedShort bytes = refl
length-as_stored Long bytes = refl
length-as_stored UnsignedLong bytes = refl
length-as_stored LongLong bytes = refl
length-as_stored Currency bytes = refl
length-as_stored Guid bytes = refl
length-as_stored Binary bytes = refl
length-as_stored Text bytes = refl
length-as_stored LongBinary bytes = refl
length-as_stored LongText bytes = refl

length-little_endian : (width n : ℕ) → length (little_endian width n) ≡ width
length-little_endian zero n = refl
length-little_endian (suc width) n = ap suc (length-little_endian width (n / 256))

-- how many bytes are stored
pub length-number : (kind : ColType) (n : ℤ) → length (given_bytes kind (Number n)) ≡ largest_value kind
length-number kind n = length-little_endian (largest_value kind) (twos_complement (8 * largest_value kind) n)

pub length-bytes : (kind : ColType) (bytes : List ℕ) → length (given_bytes kind (Bytes bytes)) ≡ length bytes
length-bytes kind bytes = length-as_stored kind bytes

pub length-fill : (kind : ColType) (count byte : ℕ) → length (given_bytes kind (Fill count byte)) ≡ count
length-fill kind count byte = length-as_stored kind (replicate count byte) ∙ length-replicate count byte

-- ---- a row that is put

pub short_columns : (columns : List TempColumn) → are_temp_columns columns ≡ true → are_short columns ≡ true
short_columns [] legal = absurd (false≢true legal)
short_columns (first ∷ columns) legal = and_right ((first.is_key && nat_le (length (first ∷ columns)) 12) && key_columns_first (first ∷ columns)) (are_short (first ∷ columns)) legal

pub few_columns : (columns : List TempColumn) → are_temp_columns columns ≡ true → length columns ≤ 12
few_columns [] legal = absurd (false≢true legal)
few_columns (first ∷ columns) legal =
    let few : Bool = nat_le (length (first ∷ columns)) 12 in
    let keys : Bool = key_columns_first (first ∷ columns) in
    leb-true (length (first ∷ columns)) 12
    (and_right first.is_key few (and_left (first.is_key && few) keys (and_left ((first.is_key && few) && keys) (are_short (first ∷ columns)) legal)))

-- why a row is not put, or that it is
abbrev row_by : TempRows → List Given → Bool → Option Jet
row_by table values each = elim each [
  | false ↦ Some jet.InvalidParameter
  | true ↦ then (values_refusal table.columns values) (option_map put_reply (put_refusal table (stored_row table.columns values)))
]

put_by : (table new : TempRows) (values : List Given) (reply : Jet) (refusal : Option Jet) → row_refusal table values ≡ refusal → IsPut table values refusal reply new → PutsTo table values (Ok reply) new
put_by table new values reply refusal is does = subst (λ (r : Option Jet). IsPut table values r reply new) (sym is) does

unequal : (n m : ℕ) → (n ≡ m → ⊥) → (n == m) ≡ false
unequal n m other = grind (arith, nat_tests)

equal : (n m : ℕ) → n ≡ m → (n == m) ≡ true
equal n m same = rw same (self_equal m)

pub put-few : (table : TempRows) (values : List Given) → (length values ≡ length table.columns → ⊥) → PutsTo table values (Ok jet.InvalidParameter) table
put-few table values other = put_by table table values jet.InvalidParameter (Some jet.InvalidParameter) (ap (row_by table values) (unequal (length values) (length table.columns) other)) (refl, refl)

pub put-refused : (table : TempRows) (values : List Given) (reply : Jet) → length values ≡ length table.columns → values_refusal table.columns values ≡ Some reply → PutsTo table values (Ok reply) table
put-refused table values reply each refused =
    put_by table table values reply (Some reply)
    (ap (row_by table values) (equal (length values) (length table.columns) each) ∙ ap (λ r. then r (option_map put_reply (put_refusal table (stored_row table.columns values)))) refused)
    (refl, refl)

told_row : (table : TempRows) (values : List Given) (fault : Option TempFault) → length values ≡ length table.columns → values_refusal table.columns values ≡ None → put_refusal table (stored_row table.columns values) ≡ fault → row_refusal table values ≡ option_map put_reply fault
told_row table values fault each none is =
    ap (row_by table values) (equal (length values) (length table.columns) each)
    ∙ ap (λ r. then r (option_map put_reply (put_refusal table (stored_row table.columns values)))) none
    ∙ ap (option_map put_reply) is

pub put-fault : (table new : TempRows) (values : List Given) (fault : TempFault) → length values ≡ length table.columns → values_refusal table.columns values ≡ None → put_refusal table (stored_row table.columns values) ≡ Some fault → new ≡ table → PutsTo table values (Ok (put_reply fault)) new
put-fault table new values fault each none is same = put_by table new values (put_reply fault) (Some (put_reply fault)) (told_row table values (Some fault) each none is) (refl, same)

pub put-done : (table new : TempRows) (values : List Given) → length values ≡ length table.columns → values_refusal table.columns values ≡ None → put_refusal table (stored_row table.columns values) ≡ None → new ≡ put_row table (stored_row table.columns values) → PutsTo table values (Ok jet.Success) new
put-done table new values each none is made = put_by table new values jet.Success None (told_row table values None each none is) (refl, made)

-- ---- what is read

abbrev read_when : TempRows → ℕ → Bool → Answered
read_when table column on = elim on [
  | false ↦ record { jet = jet.NoCurrentRecord; shown = Nothing }
  | true ↦ column_read table (column - 1) (elim (column == 0) [ true ↦ None | false ↦ slice_get table.columns (column - 1) ])
]

abbrev found_when : TempRows → ℕ → Bool → Answered
found_when table column none = column_read table (column - 1) (elim none [ true ↦ None | false ↦ slice_get table.columns (column - 1) ])

pub read-off : (table : TempRows) (column : ℕ) → is_on table.place ≡ false → row_read table column ≡ record { jet = jet.NoCurrentRecord; shown = Nothing }
read-off table column off = ap (read_when table column) off

pub read-none : (table : TempRows) (column : ℕ) → is_on table.place ≡ true → column ≡ 0 → row_read table column ≡ record { jet = jet.ColumnNotFound; shown = Nothing }
read-none table column on none = ap (read_when table column) on ∙ ap (found_when table column) (equal column 0 none)

pub read-column : (table : TempRows) (column at : ℕ) (found : Option TempColumn) → is_on table.place ≡ true → (column ≡ 0 → ⊥) → column - 1 ≡ at → slice_get table.columns at ≡ found → row_read table column ≡ column_read table at found
read-column table column at found on some is its =
    ap (read_when table column) on
    ∙ ap (found_when table column) (unequal column 0 some)
    ∙ ap (λ n. column_read table n (slice_get table.columns n)) is
    ∙ ap (column_read table at) its

pub read-value : (table : TempRows) (column at : ℕ) (found : TempColumn) (value : Option (List ℕ)) → is_on table.place ≡ true → (column ≡ 0 → ⊥) → column - 1 ≡ at → slice_get table.columns at ≡ Some found → value ≡ current_value table at → row_read table column ≡ value_read found.kind value
read-value table column at found value on some is its told = read-column table column at (Some found) on some is its ∙ ap (value_read found.kind) (sym told)

-- ---- values one by one

-- there is a column and a value, and this is the first value
pub record HasFirst (columns : List TempColumn) (values : List Given) (value : Given) : Type 0 where
  pub column : 1 ≤ length columns
  pub some : 1 ≤ length values
  pub first : value ≡ get_or values 0 value

pub refused-empty : (columns : List TempColumn) (values : List Given) → length columns < 1 → values_refusal columns values ≡ None
refused-empty [] values h = refl
refused-empty (c ∷ cs) values h = absurd (omega (arith, h))

pub refused-no_values : (columns : List TempColumn) (values : List Given) → length values < 1 → values_refusal columns values ≡ None
refused-no_values [] values h = refl
refused-no_values (c ∷ cs) [] h = refl
refused-no_values (c ∷ cs) (v ∷ vs) h = absurd (omega (arith, h))

split : (columns : List TempColumn) (values : List Given) (d : TempColumn) (value : Given) → HasFirst columns values value → values_refusal columns values ≡ then (value_refusal (get_or columns 0 d).kind value) (values_refusal (behind columns) (behind values))
split [] values d value has = absurd (omega (arith, has.column))
split (c ∷ cs) [] d value has = absurd (omega (arith, has.some))
split (c ∷ cs) (v ∷ vs) d value has =
    ap (λ (x : Given). then (value_refusal c.kind x) (values_refusal cs vs)) (sym has.first)
    ∙ sym (ap (λ xs. then (value_refusal c.kind value) (values_refusal xs (behind (v ∷ vs)))) (behind-cons c cs) ∙ ap (λ ys. then (value_refusal c.kind value) (values_refusal cs ys)) (behind-cons v vs))

pub refused-first : (columns : List TempColumn) (values : List Given) (d : TempColumn) (value : Given) (reply : Jet) → HasFirst columns values value → value_refusal (get_or columns 0 d).kind value ≡ Some reply → values_refusal columns values ≡ Some reply
refused-first columns values d value reply has refused = split columns values d value has ∙ ap (λ r. then r (values_refusal (behind columns) (behind values))) refused

pub refused-later : (columns : List TempColumn) (values : List Given) (d : TempColumn) (value : Given) → HasFirst columns values value → value_refusal (get_or columns 0 d).kind value ≡ None → values_refusal columns values ≡ values_refusal (behind columns) (behind values)
refused-later columns values d value has none = split columns values d value has ∙ ap (λ r. then r (values_refusal (behind columns) (behind values))) none

-- none is refused: neither the first, nor one behind it
pub fit-first : (columns : List TempColumn) (values : List Given) (d : TempColumn) (value : Given) → HasFirst columns values value → values_refusal columns values ≡ None → (value_refusal (get_or columns 0 d).kind value ≡ None) × (values_refusal (behind columns) (behind values) ≡ None)
fit-first columns values d value has none = first_none (value_refusal (get_or columns 0 d).kind value) (values_refusal (behind columns) (behind values)) (sym (split columns values d value has) ∙ none)

pub short-first : (columns : List TempColumn) (d : TempColumn) → 1 ≤ length columns → are_short columns ≡ true → (not (is_long_type (get_or columns 0 d).kind) ≡ true) × (are_short (behind columns) ≡ true)
short-first [] d some short = absurd (omega (arith, some))
short-first (c ∷ cs) d some short = (
  and_left (not (is_long_type c.kind)) (are_short cs) short,
  ap are_short (behind-cons c cs) ∙ and_right (not (is_long_type c.kind)) (are_short cs) short,
)

-- ---- stored rows one by one

pub row-empty : (columns : List TempColumn) (values : List Given) → length columns < 1 → stored_row columns values ≡ []
row-empty [] values h = refl
row-empty (c ∷ cs) values h = absurd (omega (arith, h))

pub row-no_values : (columns : List TempColumn) (values : List Given) → length values < 1 → stored_row columns values ≡ []
row-no_values [] values h = refl
row-no_values (c ∷ cs) [] h = refl
row-no_values (c ∷ cs) (v ∷ vs) h = absurd (omega (arith, h))

row-first : (columns : List TempColumn) (values : List Given) (d : TempColumn) (value : Given) → HasFirst columns values value → stored_row columns values ≡ stored_in (get_or columns 0 d).kind value ∷ stored_row (behind columns) (behind values)
row-first [] values d value has = absurd (omega (arith, has.column))
row-first (c ∷ cs) [] d value has = absurd (omega (arith, has.some))
row-first (c ∷ cs) (v ∷ vs) d value has =
    ap (λ (x : Given). stored_in c.kind x ∷ stored_row cs vs) (sym has.first)
    ∙ sym (ap (λ xs. stored_in c.kind value ∷ stored_row xs (behind (v ∷ vs))) (behind-cons c cs) ∙ ap (λ ys. stored_in c.kind value ∷ stored_row cs ys) (behind-cons v vs))

-- the bytes of a row are those of its first value and of the others
bytes-first : (columns : List TempColumn) (values : List Given) (d : TempColumn) (value : Given) → HasFirst columns values value → bytes_of_row (stored_row columns values) ≡ given_bytes (get_or columns 0 d).kind value ++ bytes_of_row (stored_row (behind columns) (behind values))
bytes-first columns values d value has =
    ap bytes_of_row (row-first columns values d value has)
    ∙ ap (λ bytes. bytes ++ bytes_of_row (stored_row (behind columns) (behind values))) (bytes_stored (get_or columns 0 d).kind value)

pub written-first : (columns : List TempColumn) (values : List Given) (d : TempColumn) (value : Given) (old front mid new : List ℕ) → HasFirst columns values value → are_short columns ≡ true → values_refusal columns values ≡ None → front ≡ given_front 255 (get_or columns 0 d).kind value
    → mid ≡ old ++ front → new ≡ mid ++ bytes_of_row (stored_row (behind columns) (behind values)) → new ≡ old ++ bytes_of_row (stored_row columns values)
written-first columns values d value old front mid new has short none is made more =
    let rest = bytes_of_row (stored_row (behind columns) (behind values)) in
    let whole : front ≡ given_bytes (get_or columns 0 d).kind value = is ∙ front_is_whole (get_or columns 0 d).kind value (short-first columns d has.column short).0 (is_stored (get_or columns 0 d).kind value (fit-first columns values d value has none).0) in
    more
    ∙ ap (λ bytes. bytes ++ rest) made
    ∙ append_assoc old front rest
    ∙ ap (λ bytes. old ++ (bytes ++ rest)) whole
    ∙ ap (λ bytes. old ++ bytes) (sym (bytes-first columns values d value has))

-- ---- a row that is cut

take_front : (p q : List ℕ) → take (length p) (p ++ q) ≡ p
take_front [] q = refl
take_front (x ∷ p) q = ap (λ xs. x ∷ xs) (take_front p q)

drop_front : (p q : List ℕ) → drop (length p) (p ++ q) ≡ q
drop_front [] q = refl
drop_front (x ∷ p) q = drop_front p q

longer : (p q : List ℕ) → length p ≤ length (p ++ q)
longer [] q = omega arith
longer (x ∷ p) q = omega (arith, longer p q)

pub record IsCut (columns : List TempColumn) (values : List Given) (d : TempColumn) (value : Given) (count : ℕ) (bytes : List ℕ) : Type 0 where
  pub within : count ≤ length bytes
  pub front : take count bytes ≡ given_bytes (get_or columns 0 d).kind value
  pub rest : drop count bytes ≡ bytes_of_row (stored_row (behind columns) (behind values))

pub is_cut : (columns : List TempColumn) (values : List Given) (d : TempColumn) (value : Given) (count : ℕ) (bytes : List ℕ) → HasFirst columns values value → bytes ≡ bytes_of_row (stored_row columns values) → count ≡ length (given_bytes (get_or columns 0 d).kind value) → IsCut columns values d value count bytes
is_cut columns values d value count bytes has are is =
    let first = given_bytes (get_or columns 0 d).kind value in
    let rest = bytes_of_row (stored_row (behind columns) (behind values)) in
    let parts : bytes ≡ first ++ rest = are ∙ bytes-first columns values d value has in
    record {
      within = omega (arith, is, ap (λ (b : List ℕ). length b) parts, longer first rest);
      front = ap (λ n. take n bytes) is ∙ ap (take (length first)) parts ∙ take_front first rest;
      rest = ap (λ n. drop n bytes) is ∙ ap (drop (length first)) parts ∙ drop_front first rest;
    }

map_push : {X : Type 0} (f : X → Option (List ℕ)) (xs : List X) (x : X) → map f (xs ++ x ∷ []) ≡ map f xs ++ f x ∷ []
map_push f [] x = refl
map_push f (y ∷ ys) x = ap (λ zs. f y ∷ zs) (map_push f ys x)

pub cut-first : {X : Type 0} (f : X → Option (List ℕ)) (columns : List TempColumn) (values : List Given) (d : TempColumn) (value : Given) (old mid : List X) (x : X) (stored : List ℕ) (new : List (Option (List ℕ))) → HasFirst columns values value → stored ≡ given_bytes (get_or columns 0 d).kind value
    → f x ≡ elim (given_is_null value) [ true ↦ None | false ↦ Some stored ] → mid ≡ old ++ x ∷ [] → new ≡ map f mid ++ stored_row (behind columns) (behind values) → new ≡ map f old ++ stored_row columns values
cut-first f columns values d value old mid x stored new has its is made more =
    let rest = stored_row (behind columns) (behind values) in
    let own : f x ≡ stored_in (get_or columns 0 d).kind value = is ∙ ap (λ (b : List ℕ). elim (given_is_null value) [ true ↦ None | false ↦ Some b ]) its in
    more
    ∙ ap (λ xs. map f xs ++ rest) made
    ∙ ap (λ ys. ys ++ rest) (map_push f old x)
    ∙ append_assoc (map f old) (f x ∷ []) rest
    ∙ ap (λ y. map f old ++ y ∷ rest) own
    ∙ ap (λ ys. map f old ++ ys) (sym (row-first columns values d value has))

-- nothing more stands behind a row of none
pub cut-none : (row more : RowValues) → more ≡ [] → row ≡ row ++ more
cut-none row more none = sym (ap (λ xs. row ++ xs) none ∙ append_nil row)
  where
    append_nil : (xs : RowValues) → xs ++ [] ≡ xs
    append_nil [] = refl
    append_nil (x ∷ xs) = ap (λ ys. x ∷ ys) (append_nil xs)

pub written-none : (bytes : List ℕ) (row : RowValues) → row ≡ [] → bytes ≡ bytes ++ bytes_of_row row
written-none bytes row none = sym (ap (λ r. bytes ++ bytes_of_row r) none ∙ append_nil bytes)
  where
    append_nil : (xs : List ℕ) → xs ++ [] ≡ xs
    append_nil [] = refl
    append_nil (x ∷ xs) = ap (λ ys. x ∷ ys) (append_nil xs)

-- what holds where a write succeeded
pub on_ok : {A B : Type 0} (result : Result (Unit {0}) OutOfMemory) → (A → B) → OnOk result A → OnOk result B
on_ok (Ok u) f told = f told
on_ok (Err e) f told = tt

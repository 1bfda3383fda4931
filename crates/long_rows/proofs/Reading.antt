-- The row that a put makes is read back as its record once its values are taken.
use Rattle.std.proofs.Common.{◌≡◌, ◌≢◌, ◌⊎◌, inl, inr, ℕ, suc, ◌+◌, ◌<◌, ◌≤◌, ◌^◌, true, false, Some, None, List, [], ◌∷◌, ◌++◌, length, map, refl, sym, ap, subst, ◌∙◌, arith, true≢false}
use Rattle.std.specs.Prelude.{is_some}
use Rattle.std.specs.List.{list_all}
use Rattle.std.proofs.lemmas.Bool.{and_from, eq-eqb}
use Rattle.common_lemmas.proofs.Booleans.{by_test}
use Rattle.column_set.specs.declared.rows.RowValue.{RowValue}
use Rattle.column_set.specs.declared.rows.RowValue.TheVariants.{Here, Apart}
use Rattle.column_set.specs.RecordValues.{RecordFields}
use Rattle.column_set.specs.Rows.{record_values_in_order, values_in_order}
use Rattle.long_value.specs.Values.{Values, put_value, value_of}
use Rattle.long_rows.specs.RowReferences.{identifier}
use Rattle.long_rows.specs.ReferenceCounts.{with_all_taken, with_taken}
use Rattle.long_rows.proofs.Taken.{ValueLaws, shared}
use Rattle.long_rows.specs.WholeRows.{is_there, is_whole, record_in, whole_value}
use Rattle.long_rows.specs.KeptRows.{Found, given_by, kept_fields, kept_value, kept_values, next_place, place_after}
use Rattle.long_rows.proofs.Keeping.{Keeps, bytes_in, kept_one, some_is}
use Rattle.long_rows.proofs.Steps.{joined, keeps_all_taken, keeps_taken}
use Rattle.long_rows.proofs.Kept.{AreKept, IsNew, IsShared, fields_kept}
use Rattle.long_rows.proofs.Given.{IdLaw, IsFresh, added, among, differ_by_value, next_bound, not_given, other_place, there}

-- ---- a value that is taken

placed : (values : Values) (given : List ℕ × List ℕ) → is_some (value_of given.0 values) ≡ false → with_taken values given ≡ put_value given.0 (record { count = 1; bytes = given.1 }) values
placed values given t = rw t refl

pub taken_beside : ValueLaws → (values : Values) (given : List ℕ × List ℕ) (id : List ℕ) → id ≢ given.0 → value_of id (with_taken values given) ≡ value_of id values
taken_beside laws values given id n =
    by_test (is_some (value_of given.0 values))
    (λ t. ap (value_of id) (shared values given t) ∙ laws.more_beside values given.0 id n)
    (λ f. ap (value_of id) (placed values given f) ∙ laws.beside values given.0 id (record { count = 1; bytes = given.1 }) n)

pub taken_new : ValueLaws → (values : Values) (id bytes : List ℕ) → value_of id values ≡ None → value_of id (with_taken values (id, bytes)) ≡ Some (record { count = 1; bytes = bytes })
taken_new laws values id bytes none = ap (value_of id) (placed values (id, bytes) (ap is_some none)) ∙ laws.put values id (record { count = 1; bytes = bytes })

-- ---- what is read

-- The values of a row are there and read as those of a record.
abbrev pub ReadAs : Values → List (ℕ × RowValue) → List (ℕ × List ℕ) → Type 0
ReadAs values [] [] = Unit {0}
ReadAs values (x ∷ xs) (v ∷ vs) = (whole_value values x.1 ≡ v.1) × (is_there values x.1 ≡ true) × ReadAs values xs vs
ReadAs values [] (v ∷ vs) = ⊥
ReadAs values (x ∷ xs) [] = ⊥

-- Values as they are while a row's are taken: the next new one is not there, nor is one behind it.
pub record IsAmid (found : Found) (at : ℕ) (values : Values) : Type 0 where
  pub keeps : (k : List ℕ) → Keeps found.values values k
  pub absent : (place : ℕ) → at ≤ place → place < 2 ^ 32 → value_of (identifier found.number place) values ≡ None

head_read : (values : Values) (entry own size : ℕ) (bytes : List ℕ) → bytes_in (value_of (identifier entry own) values) ≡ Some bytes → size ≡ length bytes
    → (whole_value values (Apart entry own size) ≡ bytes) × (is_there values (Apart entry own size) ≡ true)
head_read values entry own size bytes e same = kept_one size (record { count = 1; bytes = bytes }) (value_of (identifier entry own) values) e (eq-eqb size (length bytes) same)

-- the row's value is read where its bytes are there before the rest is taken
read_with : ValueLaws → (values : Values) (given : List (List ℕ × List ℕ)) (x : ℕ × RowValue) (entry own size : ℕ) (v : ℕ × List ℕ) (xs : List (ℕ × RowValue)) (vs : List (ℕ × List ℕ)) → x.1 ≡ Apart entry own size
    → bytes_in (value_of (identifier entry own) values) ≡ Some v.1 → size ≡ length v.1 → ReadAs (with_all_taken given values) xs vs → ReadAs (with_all_taken given values) (x ∷ xs) (v ∷ vs)
read_with laws values given x entry own size v xs vs is e same rest =
    let was = some_is (value_of (identifier entry own) values) v.1 e in
    let still : bytes_in (value_of (identifier entry own) (with_all_taken given values)) ≡ Some v.1 = keeps_all_taken laws given values (identifier entry own) was.0 was.1 ∙ sym (ap bytes_in was.1) ∙ e in
    let head = head_read (with_all_taken given values) entry own size v.1 still same in
    (ap (whole_value (with_all_taken given values)) is ∙ head.0, ap (is_there (with_all_taken given values)) is ∙ head.1, rest)

amid_taken : ValueLaws → IdLaw → (found : Found) → IsFresh found → (at behind entry own : ℕ) (bytes : List ℕ) (values : Values) → (IsShared found.values found.rows entry own bytes × (behind ≡ at)) ⊎ IsNew found at behind entry own → at < 2 ^ 32
    → IsAmid found at values → IsAmid found behind (with_taken values (identifier entry own, bytes))
amid_taken laws law found fresh at behind entry own bytes values how small amid = record { keeps = keeps; absent = absent how }
  where
    keeps : (k : List ℕ) → Keeps found.values (with_taken values (identifier entry own, bytes)) k
    keeps k = joined found.values values (with_taken values (identifier entry own, bytes)) k (amid.keeps k) (keeps_taken laws values (identifier entry own, bytes) k)

    absent : (IsShared found.values found.rows entry own bytes × (behind ≡ at)) ⊎ IsNew found at behind entry own → (place : ℕ) → behind ≤ place → place < 2 ^ 32 → value_of (identifier found.number place) (with_taken values (identifier entry own, bytes)) ≡ None
    absent (inl old) place le lt =
        let e = old.1 in
        let none = amid.absent place (omega (arith, e, le)) lt in
        let was = some_is (value_of (identifier entry own) values) old.0.value.bytes (amid.keeps (identifier entry own) old.0.value old.0.there) in
        taken_beside laws values (identifier entry own, bytes) (identifier found.number place) (differ_by_value values (identifier found.number place) (identifier entry own) was.0 none was.1) ∙ none
    absent (inr new) place le lt =
        let more = new.one_more in
        let first = new.first in
        let none = amid.absent place (omega (arith, more, le)) lt in
        let apart : place ≢ own = λ e. omega (arith, first, more, le, e) in
        let other : identifier found.number place ≢ identifier entry own = subst (λ (n : ℕ). identifier found.number place ≢ identifier n own) (sym new.number) (other_place law found.number place own fresh.number lt (omega (arith, first, small)) apart) in
        taken_beside laws values (identifier entry own, bytes) (identifier found.number place) other ∙ none

amid_same : (found : Found) (at behind : ℕ) (values : Values) → at ≤ behind → IsAmid found at values → IsAmid found behind values
amid_same found at behind values le amid = record { keeps = amid.keeps; absent = λ place le' lt. amid.absent place (omega (arith, le, le')) lt }

-- a value that is taken has its bytes then
bytes_taken : ValueLaws → (found : Found) (at behind entry own : ℕ) (bytes : List ℕ) (values : Values) → (IsShared found.values found.rows entry own bytes × (behind ≡ at)) ⊎ IsNew found at behind entry own → at < 2 ^ 32
    → IsAmid found at values → bytes_in (value_of (identifier entry own) (with_taken values (identifier entry own, bytes))) ≡ Some bytes
bytes_taken laws found at behind entry own bytes values (inl old) small amid =
    joined found.values values (with_taken values (identifier entry own, bytes)) (identifier entry own) (amid.keeps (identifier entry own)) (keeps_taken laws values (identifier entry own, bytes) (identifier entry own)) old.0.value old.0.there
    ∙ ap (λ (b : List ℕ). Some b) old.0.equal
bytes_taken laws found at behind entry own bytes values (inr new) small amid =
    let first = new.first in
    let none : value_of (identifier entry own) values ≡ None = ap (λ (n : ℕ). value_of (identifier n own) values) new.number ∙ amid.absent own (omega (arith, first)) (omega (arith, first, small)) in
    ap bytes_in (taken_new laws values (identifier entry own) bytes none)

-- one that is among those that are taken later has been there all the time
bytes_there : IdLaw → (found : Found) → IsFresh found → (at behind entry own : ℕ) (v : ℕ × List ℕ) (xs : List (ℕ × RowValue)) (vs : List (ℕ × List ℕ)) (values : Values) → (IsShared found.values found.rows entry own v.1 × (behind ≡ at)) ⊎ IsNew found at behind entry own
    → AreKept found behind xs vs → behind + length xs < 2 ^ 32 → among (identifier entry own) (given_by xs vs) ≡ true → IsAmid found at values → bytes_in (value_of (identifier entry own) values) ≡ Some v.1
bytes_there law found fresh at behind entry own v xs vs values (inl old) kept small later amid = amid.keeps (identifier entry own) old.0.value old.0.there ∙ ap (λ (b : List ℕ). Some b) old.0.equal
bytes_there law found fresh at behind entry own v xs vs values (inr new) kept small later amid =
    let first = new.first in
    let more = new.one_more in
    let none : among (identifier entry own) (given_by xs vs) ≡ false =
    ap (λ (n : ℕ). among (identifier n own) (given_by xs vs)) new.number ∙ not_given law found fresh behind xs vs kept own (omega (arith, first, more)) small in
    absurd (true≢false (sym later ∙ none))

pub reads : ValueLaws → IdLaw → (found : Found) → IsFresh found → (at : ℕ) (xs : List (ℕ × RowValue)) (vs : List (ℕ × List ℕ)) → AreKept found at xs vs → at + length xs < 2 ^ 32 → (values : Values) → IsAmid found at values
    → ReadAs (with_all_taken (given_by xs vs) values) xs vs
reads laws law found fresh at [] [] kept small values amid = tt
reads laws law found fresh at ((column, Here own) ∷ xs) (v ∷ vs) kept small values amid =
    let bound = next_bound found at kept.0 (Here own) v.1 kept.1.1 in
    (kept.1.1.0, refl, reads laws law found fresh kept.0 xs vs kept.1.2 (omega (arith, small, bound)) values (amid_same found at kept.0 values bound.0 amid))
reads laws law found fresh at ((column, Apart entry own size) ∷ xs) (v ∷ vs) kept small values amid =
    let bound = next_bound found at kept.0 (Apart entry own size) v.1 kept.1.1 in
    let id = identifier entry own in
    let rest_small : kept.0 + length xs < 2 ^ 32 = omega (arith, small, bound) in
    by_test (among id (given_by xs vs))
    (λ t.
    let rest = reads laws law found fresh kept.0 xs vs kept.1.2 rest_small values (amid_same found at kept.0 values bound.0 amid) in
    let bytes = bytes_there law found fresh at kept.0 entry own v xs vs values kept.1.1.2 kept.1.2 rest_small t amid in
    subst (λ (l : List (List ℕ × List ℕ)). ReadAs (with_all_taken l values) ((column, Apart entry own size) ∷ xs) (v ∷ vs)) (sym (there id v.1 (given_by xs vs) t))
    (read_with laws values (given_by xs vs) (column, Apart entry own size) entry own size v xs vs refl bytes kept.1.1.1 rest))
    (λ f.
    let at_small : at < 2 ^ 32 = omega (arith, small) in
    let rest = reads laws law found fresh kept.0 xs vs kept.1.2 rest_small (with_taken values (id, v.1)) (amid_taken laws law found fresh at kept.0 entry own v.1 values kept.1.1.2 at_small amid) in
    let bytes = bytes_taken laws found at kept.0 entry own v.1 values kept.1.1.2 at_small amid in
    subst (λ (l : List (List ℕ × List ℕ)). ReadAs (with_all_taken l values) ((column, Apart entry own size) ∷ xs) (v ∷ vs)) (sym (added id v.1 (given_by xs vs) f))
    (read_with laws (with_taken values (id, v.1)) (given_by xs vs) (column, Apart entry own size) entry own size v xs vs refl bytes kept.1.1.1 rest))
reads laws law found fresh at [] (v ∷ vs) kept small values amid = absurd kept
reads laws law found fresh at ((column, Here own) ∷ xs) [] kept small values amid = absurd kept
reads laws law found fresh at ((column, Apart entry own size) ∷ xs) [] kept small values amid = absurd kept

-- ---- by columns

column_read : (found : Found) (values : Values) (column at place : ℕ) (vs : List (List ℕ)) (ys : List (ℕ × RowValue)) (ws : List (ℕ × List ℕ))
    → ReadAs values (map (λ v. (column, v)) (kept_values found column at place vs) ++ ys) (map (λ v. (column, v)) vs ++ ws)
    → (map (whole_value values) (kept_values found column at place vs) ≡ vs) × (list_all (is_there values) (kept_values found column at place vs) ≡ true) × ReadAs values ys ws
column_read found values column at place [] ys ws read = (refl, refl, read)
column_read found values column at place (v ∷ vs) ys ws read =
    let x = kept_value found column at place v in
    let xs = kept_values found column (suc at) (next_place found column at place v) vs in
    let rest = column_read found values column (suc at) (next_place found column at place v) vs ys ws read.2 in
    (ap (λ (b : List ℕ). b ∷ map (whole_value values) xs) read.0 ∙ ap (λ (l : List (List ℕ)). v ∷ l) rest.0, and_from (is_there values x) (list_all (is_there values) xs) read.1 rest.1, rest.2)

pub fields_read : (found : Found) (values : Values) (place : ℕ) (fields : RecordFields) → ReadAs values (values_in_order (kept_fields found place fields)) (record_values_in_order fields)
    → (record_in values (kept_fields found place fields) ≡ fields) × (is_whole values (kept_fields found place fields) ≡ true)
fields_read found values place [] read = (refl, refl)
fields_read found values place ((column, vs) ∷ fields) read =
    let behind = place_after found column 0 place vs in
    let one = column_read found values column 0 place vs (values_in_order (kept_fields found behind fields)) (record_values_in_order fields) read in
    let rest = fields_read found values behind fields one.2 in (
      ap (λ (l : List (List ℕ)). (column, l) ∷ record_in values (kept_fields found behind fields)) one.0 ∙ ap (λ (fs : RecordFields). (column, vs) ∷ fs) rest.0,
      and_from (list_all (is_there values) (kept_values found column 0 place vs)) (is_whole values (kept_fields found behind fields)) one.1 rest.1,
    )

pub row_read : ValueLaws → IdLaw → (found : Found) → IsFresh found → (fields : RecordFields) → length (values_in_order (kept_fields found 0 fields)) < 2 ^ 32
    → let now = with_all_taken (given_by (values_in_order (kept_fields found 0 fields)) (record_values_in_order fields)) found.values in
    (record_in now (kept_fields found 0 fields) ≡ fields) × (is_whole now (kept_fields found 0 fields) ≡ true)
row_read laws law found fresh fields small =
    let xs = values_in_order (kept_fields found 0 fields) in
    let vs = record_values_in_order fields in
    fields_read found (with_all_taken (given_by xs vs) found.values) 0 fields
    (reads laws law found fresh 0 xs vs (fields_kept found 0 fields) (omega (arith, small)) found.values (record { keeps = λ k value is. ap bytes_in is; absent = λ place le lt. fresh.absent place lt }))

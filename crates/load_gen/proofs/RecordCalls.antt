-- The calls of a record, by their places.
use Rattle.std.proofs.Common.{◌≡◌, ℕ, ◌+◌, ◌-◌, ◌%◌, ◌<◌, ◌≤◌, List, [], ◌∷◌, ◌++◌, length, map, Some, None, refl, ap, ◌∙◌, arith}
use Rattle.std.specs.Prelude.{◌==◌, Bool, true, codes, false, if◌then◌else◌, pos, slice_get}
use Rattle.std.specs.List.{range_with_len}
use Rattle.std.proofs.lemmas.List.{length-append}
use Rattle.std.proofs.lemmas.List.FromFn.{length-map-range_with_len}
use Rattle.std.proofs.lemmas.Bool.Decides.{nat_tests}
use Rattle.std.proofs.lemmas.Option.{slice_get_past}
use Rattle.jet_base.specs.declared.words.Given.TheVariants as given
use Rattle.jet_base.specs.declared.words.Prepare.TheVariants as prepare
use Rattle.session_local.specs.declared.request.Request.{Request}
use Rattle.session_local.specs.declared.request.Request.TheVariants as call
use Rattle.load_gen.specs.Table.{cursor}
use Rattle.load_gen.specs.Records.{begins_transaction, ends_transaction, filling_calls, record_calls, set_group, set_last_values, set_later_values, set_mail, set_mails, set_note, set_number, set_value, set_values, six_digits}
use Rattle.load_gen.proofs.Pieces.{get_behind, get_front, get_mapped, get_mapped_past}

-- ---- a test for zero

pub at_zero : {X : Type 0} (n : ℕ) (x y : X) → n ≡ 0 → (if n == 0 then x else y) ≡ x
at_zero n x y e = ap (λ k. if k == 0 then x else y) e

no_test : (n : ℕ) → 0 < n → (n == 0) ≡ false
no_test n h = grind (arith, nat_tests)

pub above_zero : {X : Type 0} (n : ℕ) (x y : X) → 0 < n → (if n == 0 then x else y) ≡ y
above_zero n x y h = ap (λ b. if b then x else y) (no_test n h)

length_if : {X : Type 0} (b : Bool) (x : X) → length (if b then x ∷ [] else []) ≡ (if b then 1 else 0)
length_if true x = refl
length_if false x = refl

pub length_unless : {X : Type 0} (b : Bool) (x : X) → length (if b then [] else x ∷ []) ≡ (if b then 0 else 1)
length_unless true x = refl
length_unless false x = refl

-- ---- values

pub last_note : (i place : ℕ) → place ≡ 0 → slice_get (set_last_values i) place ≡ Some (set_note i)
unfolding set_last_values
last_note i place e = ap (slice_get (set_last_values i)) e

pub last_number : (i place : ℕ) → 1 ≤ place → place ≤ 34 → slice_get (set_last_values i) place ≡ Some (set_number i (6 + place))
unfolding set_last_values
last_number i place least most =
    get_behind (set_note i ∷ []) (map (set_number i) (range_with_len 7 34)) 1 place refl least
    ∙ get_mapped (set_number i) 7 34 (place - 1) (6 + place) (omega arith) (omega arith)

pub last_past : (i place : ℕ) → 35 ≤ place → slice_get (set_last_values i) place ≡ None
unfolding set_last_values
last_past i place least =
    get_behind (set_note i ∷ []) (map (set_number i) (range_with_len 7 34)) 1 place refl (omega arith)
    ∙ get_mapped_past (set_number i) 7 34 (place - 1) (omega arith)

pub later_null : (i place : ℕ) → i % 10 ≡ 0 → slice_get (set_later_values i) place ≡ slice_get (set_last_values i) place
unfolding set_later_values
later_null i place e =
    ap (λ calls. slice_get (calls ++ set_last_values i) place) (at_zero (i % 10) [] (set_value (codes "grp") 1 (given.Number (pos (i % 7))) ∷ []) e)

with_group : (i : ℕ) → 0 < i % 10 → set_later_values i ≡ set_value (codes "grp") 1 (given.Number (pos (i % 7))) ∷ set_last_values i
unfolding set_later_values
with_group i h = ap (λ calls. calls ++ set_last_values i) (above_zero (i % 10) [] (set_value (codes "grp") 1 (given.Number (pos (i % 7))) ∷ []) h)

pub later_group : (i place : ℕ) → 0 < i % 10 → place ≡ 0 → slice_get (set_later_values i) place ≡ Some (set_value (codes "grp") 1 (given.Number (pos (i % 7))))
later_group i place h e = ap (λ calls. slice_get calls place) (with_group i h) ∙ ap (slice_get (set_value (codes "grp") 1 (given.Number (pos (i % 7))) ∷ set_last_values i)) e

pub later_behind : (i place : ℕ) → 0 < i % 10 → 1 ≤ place → slice_get (set_later_values i) place ≡ slice_get (set_last_values i) (place - 1)
later_behind i place h least =
    ap (λ calls. slice_get calls place) (with_group i h)
    ∙ get_behind (set_value (codes "grp") 1 (given.Number (pos (i % 7))) ∷ []) (set_last_values i) 1 place refl least

pub value_id : (i place : ℕ) → place ≡ 0 → slice_get (set_values i) place ≡ Some (set_value (codes "id") 1 (given.Number (pos i)))
unfolding set_values
value_id i place e = ap (slice_get (set_values i)) e

pub value_name : (i place : ℕ) → place ≡ 1 → slice_get (set_values i) place ≡ Some (set_value (codes "name") 1 (given.Bytes (codes "u" ++ six_digits i)))
unfolding set_values
value_name i place e = ap (slice_get (set_values i)) e

behind_name : (i place : ℕ) → 2 ≤ place → slice_get (set_values i) place ≡ slice_get (set_mails i ++ set_later_values i) (place - 2)
unfolding set_values
behind_name i place least =
    get_behind (set_value (codes "id") 1 (given.Number (pos i)) ∷ set_value (codes "name") 1 (given.Bytes (codes "u" ++ six_digits i)) ∷ [])
    (set_mails i ++ set_later_values i) 2 place refl least

length-set_mails : (i : ℕ) → length (set_mails i) ≡ 1 + i % 3
length-set_mails i = length-map-range_with_len (set_mail i) 1 (1 + i % 3)

pub value_mail : (i place : ℕ) → 2 ≤ place → place < 3 + i % 3 → slice_get (set_values i) place ≡ Some (set_mail i (place - 1))
value_mail i place least most =
    let within : place - 2 < length (set_mails i) = omega (arith, length-set_mails i) in
    behind_name i place least
    ∙ get_front (set_mails i) (set_later_values i) (place - 2) within
    ∙ get_mapped (set_mail i) 1 (1 + i % 3) (place - 2) (place - 1) (omega arith) (omega arith)

pub value_later : (i place : ℕ) → 3 + i % 3 ≤ place → slice_get (set_values i) place ≡ slice_get (set_later_values i) (place - (3 + i % 3))
value_later i place least =
    behind_name i place (omega arith)
    ∙ get_behind (set_mails i) (set_later_values i) (1 + i % 3) (place - 2) (length-set_mails i) (omega arith)
    ∙ ap (slice_get (set_later_values i)) (omega arith)

length-set_last_values : (i : ℕ) → length (set_last_values i) ≡ 35
unfolding set_last_values
length-set_last_values i = refl

length-set_later_values : (i : ℕ) → length (set_later_values i) ≡ (if i % 10 == 0 then 0 else 1) + 35
unfolding set_later_values
length-set_later_values i =
    let group : length (set_group i) ≡ (if i % 10 == 0 then 0 else 1) = length_unless (i % 10 == 0) (set_value (codes "grp") 1 (given.Number (pos (i % 7)))) in
    omega (arith, length-append (set_group i) (set_last_values i), length-set_last_values i, group)

pub length-set_values : (i : ℕ) → length (set_values i) ≡ 38 + i % 3 + (if i % 10 == 0 then 0 else 1)
unfolding set_values
length-set_values i = omega (arith, length-append (set_mails i) (set_later_values i), length-set_mails i, length-set_later_values i)

pub ruleset values = (last_note, last_number, last_past, later_null, later_group, later_behind, value_id, value_name, value_mail, value_later)

pub ruleset value_counts = (length-set_values, at_zero, above_zero)

-- ---- what puts the record

commit_of : ℕ → List Request
commit_of i = if ends_transaction i then call.CommitTransaction false ∷ [] else []

pub filling_prepare : (i place : ℕ) → place ≡ 0 → slice_get (filling_calls i) place ≡ Some (call.PrepareUpdate cursor prepare.Insert)
unfolding filling_calls
filling_prepare i place e = ap (slice_get (filling_calls i)) e

behind_prepare : (i place : ℕ) → 1 ≤ place → slice_get (filling_calls i) place ≡ slice_get (set_values i ++ call.Update cursor ∷ commit_of i) (place - 1)
unfolding filling_calls commit_of
behind_prepare i place least = get_behind (call.PrepareUpdate cursor prepare.Insert ∷ []) (set_values i ++ call.Update cursor ∷ commit_of i) 1 place refl least

pub filling_value : (i place : ℕ) → 1 ≤ place → place ≤ length (set_values i) → slice_get (filling_calls i) place ≡ slice_get (set_values i) (place - 1)
filling_value i place least most =
    behind_prepare i place least
    ∙ get_front (set_values i) (call.Update cursor ∷ commit_of i) (place - 1) (omega arith)

behind_values : (i place at : ℕ) → place ≡ length (set_values i) + 1 + at → slice_get (filling_calls i) place ≡ slice_get (call.Update cursor ∷ commit_of i) at
behind_values i place at e =
    let same : place - 1 - length (set_values i) ≡ at = omega arith in
    behind_prepare i place (omega arith)
    ∙ get_behind (set_values i) (call.Update cursor ∷ commit_of i) (length (set_values i)) (place - 1) refl (omega arith)
    ∙ ap (slice_get (call.Update cursor ∷ commit_of i)) same

pub filling_update : (i place : ℕ) → place ≡ length (set_values i) + 1 → slice_get (filling_calls i) place ≡ Some (call.Update cursor)
filling_update i place e = behind_values i place 0 (omega arith)

pub filling_commit : (i place : ℕ) → place ≡ length (set_values i) + 2 → i % 100 ≡ 0 → slice_get (filling_calls i) place ≡ Some (call.CommitTransaction false)
unfolding commit_of
filling_commit i place e hundredth =
    behind_values i place 1 (omega arith)
    ∙ ap (λ calls. slice_get calls 0) (at_zero (i % 100) (call.CommitTransaction false ∷ []) [] hundredth)

pub filling_no_commit : (i place : ℕ) → length (set_values i) + 2 ≤ place → 0 < i % 100 → slice_get (filling_calls i) place ≡ None
unfolding commit_of
filling_no_commit i place least other =
    behind_values i place (place - length (set_values i) - 1) (omega arith)
    ∙ get_behind (call.Update cursor ∷ []) (commit_of i) 1 (place - length (set_values i) - 1) refl (omega arith)
    ∙ ap (λ calls. slice_get calls (place - length (set_values i) - 1 - 1)) (above_zero (i % 100) (call.CommitTransaction false ∷ []) [] other)

length-filling_calls : (i : ℕ) → length (filling_calls i) ≡ 2 + length (set_values i) + (if i % 100 == 0 then 1 else 0)
unfolding filling_calls
length-filling_calls i = omega (arith, length-append (set_values i) (call.Update cursor ∷ (if ends_transaction i then call.CommitTransaction false ∷ [] else [])), length_if (i % 100 == 0) (call.CommitTransaction false))

pub filling_past : (i place : ℕ) → length (set_values i) + 3 ≤ place → slice_get (filling_calls i) place ≡ None
filling_past i place least = slice_get_past (filling_calls i) place (most (i % 100 == 0) (length-filling_calls i))
  where
    most : (b : Bool) → length (filling_calls i) ≡ 2 + length (set_values i) + (if b then 1 else 0) → length (filling_calls i) ≤ place
    most true e = omega arith
    most false e = omega arith

pub ruleset fillings = (filling_prepare, filling_value, filling_update, filling_commit, filling_no_commit, filling_past)

-- ---- all calls of the record

pub record_within : (i place : ℕ) → 0 < (i - 1) % 100 → slice_get (record_calls i) place ≡ slice_get (filling_calls i) place
unfolding record_calls
record_within i place other = ap (λ calls. slice_get (calls ++ filling_calls i) place) (above_zero ((i - 1) % 100) (call.BeginTransaction ∷ []) [] other)

with_begin : (i : ℕ) → (i - 1) % 100 ≡ 0 → record_calls i ≡ call.BeginTransaction ∷ filling_calls i
unfolding record_calls
with_begin i e = ap (λ calls. calls ++ filling_calls i) (at_zero ((i - 1) % 100) (call.BeginTransaction ∷ []) [] e)

pub record_begin : (i place : ℕ) → (i - 1) % 100 ≡ 0 → place ≡ 0 → slice_get (record_calls i) place ≡ Some call.BeginTransaction
record_begin i place first e = ap (λ calls. slice_get calls place) (with_begin i first) ∙ ap (slice_get (call.BeginTransaction ∷ filling_calls i)) e

pub record_behind : (i place : ℕ) → (i - 1) % 100 ≡ 0 → 1 ≤ place → slice_get (record_calls i) place ≡ slice_get (filling_calls i) (place - 1)
record_behind i place first least =
    ap (λ calls. slice_get calls place) (with_begin i first)
    ∙ get_behind (call.BeginTransaction ∷ []) (filling_calls i) 1 place refl least

pub length-record_calls : (i : ℕ) → length (record_calls i)
    ≡ (if (i - 1) % 100 == 0 then 1 else 0) + (40 + i % 3 + (if i % 10 == 0 then 0 else 1) + (if i % 100 == 0 then 1 else 0))
unfolding record_calls
length-record_calls i = omega (
  arith,
  length-append (if begins_transaction i then call.BeginTransaction ∷ [] else []) (filling_calls i),
  length_if ((i - 1) % 100 == 0) call.BeginTransaction,
  length-filling_calls i,
  length-set_values i,
)

pub ruleset places = (record_within, record_begin, record_behind)

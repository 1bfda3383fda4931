-- Temporary tables by label.
use Rattle.std.proofs.Common.{◌≡◌, ℕ, zero, suc, ◌<◌, ◌≤◌, ◌==◌, ◌++◌, Bool, true, false, cond, List, [], ◌∷◌, length, Option, Some, None, Result, Ok, Err, get_or, remove, refl, sym, ap, subst, ◌∙◌, arith, is_some, nat_le}
use Rattle.std.specs.List.{position}
use Rattle.std.proofs.Math.ListN.{set}
use Rattle.std.proofs.lemmas.Bool.{eqb-true, le-leb}
use Rattle.std.proofs.lemmas.Bool.Decides.{nat_tests}
use Rattle.std.proofs.lemmas.List.{set-get_or}
use Rattle.std.proofs.lemmas.List.Quantifiers.{position-Some}
use Rattle.jet_base.specs.declared.ids.CursorId.{CursorId}
use Rattle.jet_base.specs.declared.memory.OutOfMemory.{OutOfMemory}
use Rattle.jet_base.specs.declared.replies.Jet.{Jet}
use Rattle.jet_base.specs.declared.replies.Jet.TheVariants as jet
use Rattle.jet_base.specs.declared.words.Given.{Given}
use Rattle.jet_base.specs.declared.words.Way.{Way}
use Rattle.temp_table.specs.declared.columns.TempColumn.{TempColumn}
use Rattle.temp_table.specs.TempRows.{TempRows, is_on, moved, opened}
use Rattle.session_local.specs.declared.open_temp.OpenTemp.{OpenTemp}
use Rattle.session_local.specs.Answer.{Answered, Nothing, Count}
use Rattle.session_local.specs.ChangingTemps.{ChangesTemps, IsPut, PutsTo}
use Rattle.session_local.specs.Finishing.{temps_with}
use Rattle.session_local.specs.Local.{temp_labelled, with_temp, without_temp}
use Rattle.session_local.specs.TempCalls.{TempOutcome, at_temp, on_temp, row_read, row_refusal, temp_close, temp_count, temp_move, temp_open, temp_put, temp_read, temps_become, temps_refuse, temps_say, temps_unless, with_given}
use Rattle.session_local.proofs.Distinct.{found-position, is_some-position, missing-position}

abbrev has_label : ℕ → OpenTemp → Bool
has_label label temp = temp.label.0 == label

-- the place is that of the first with the label
record IsFirst (label : ℕ) (temps : List OpenTemp) (at : ℕ) (d : OpenTemp) : Type 0 where
  within : at < length temps
  its : has_label label (get_or temps at d) ≡ true
  before : (k : ℕ) → k < at → has_label label (get_or temps k d) ≡ false

behind : (label : ℕ) (temp : OpenTemp) (temps : List OpenTemp) (at : ℕ) (d : OpenTemp) → IsFirst label (temp ∷ temps) (suc at) d → IsFirst label temps at d
behind label temp temps at d is = record {
  within = omega (arith, is.within);
  its = is.its;
  before = λ k lt. is.before (suc k) (omega (arith, lt));
}

other : (label : ℕ) (temp : OpenTemp) (temps : List OpenTemp) (at : ℕ) (d : OpenTemp) → IsFirst label (temp ∷ temps) (suc at) d → has_label label temp ≡ false
other label temp temps at d is = is.before 0 (omega arith)

set_first : (temps : List OpenTemp) (at : ℕ) (new d : OpenTemp) → IsFirst new.label.0 temps at d → set temps at new ≡ with_temp temps new
set_first [] at new d is = refl
set_first (temp ∷ temps) zero new d is = sym (ap (λ b. cond b (new ∷ temps) (temp ∷ with_temp temps new)) is.its)
set_first (temp ∷ temps) (suc at) new d is =
    ap (λ ts. temp ∷ ts) (set_first temps at new d (behind new.label.0 temp temps at d is))
    ∙ sym (ap (λ b. cond b (new ∷ temps) (temp ∷ with_temp temps new)) (other new.label.0 temp temps at d is))

remove_first : (label : CursorId) (temps : List OpenTemp) (at : ℕ) (d : OpenTemp) → IsFirst label.0 temps at d → remove temps at ≡ without_temp temps label
remove_first label [] at d is = absurd (omega (arith, is.within))
remove_first label (temp ∷ temps) zero d is = sym (ap (λ b. cond b temps (temp ∷ without_temp temps label)) is.its)
remove_first label (temp ∷ temps) (suc at) d is =
    ap (λ ts. temp ∷ ts) (remove_first label temps at d (behind label.0 temp temps at d is))
    ∙ sym (ap (λ b. cond b temps (temp ∷ without_temp temps label)) (other label.0 temp temps at d is))

first : (label : ℕ) (temps : List OpenTemp) (at : ℕ) (d : OpenTemp) → position (λ temp. temp.label.0 == label) temps ≡ Some at → IsFirst label temps at d
first label temps at d place = let told = position-Some (has_label label) temps at d place in record { within = told.0; its = told.1; before = told.2 }

-- a table at the place of its label
pub set-temp : (label : CursorId) (temps : List OpenTemp) (at : ℕ) (old new : OpenTemp) → position (λ temp. temp.label.0 == label.0) temps ≡ Some at → old ≡ get_or temps at old → new.label ≡ old.label → set temps at new ≡ with_temp temps new
set-temp label temps at old new place is same =
    let it = first label.0 temps at old place in
    let its : old.label.0 ≡ label.0 = eqb-true old.label.0 label.0 (ap (has_label label.0) is ∙ it.its) in
    let named : new.label.0 ≡ label.0 = ap (λ (c : CursorId). c.0) same ∙ its in
    set_first temps at new old (subst (λ l. IsFirst l temps at old) (sym named) it)

pub remove-temp : (label : CursorId) (temps : List OpenTemp) (at : ℕ) (d : OpenTemp) → position (λ temp. temp.label.0 == label.0) temps ≡ Some at → remove temps at ≡ without_temp temps label
remove-temp label temps at d place = remove_first label temps at d (first label.0 temps at d place)

-- ---- TempOpen

pub open-taken : (temps : List OpenTemp) (label : CursorId) (unique : Bool) (columns : List TempColumn) (at : ℕ) → position (λ temp. temp.label.0 == label.0) temps ≡ Some at → temp_open temps label unique columns ≡ temps_refuse temps jet.InvalidTableId
open-taken temps label unique columns at place =
    let there : is_some (temp_labelled temps label) ≡ true = sym (is_some-position (has_label label.0) temps) ∙ ap is_some place in
    rw there refl

open-free : (temps : List OpenTemp) (label : CursorId) → position (λ temp. temp.label.0 == label.0) temps ≡ None → is_some (temp_labelled temps label) ≡ false
open-free temps label place = sym (is_some-position (has_label label.0) temps) ∙ ap is_some place

pub open-full : (temps : List OpenTemp) (label : CursorId) (unique : Bool) (columns : List TempColumn) → position (λ temp. temp.label.0 == label.0) temps ≡ None → 4 ≤ length temps → temp_open temps label unique columns ≡ temps_refuse temps jet.OutOfCursors
open-full temps label unique columns place full = rw (open-free temps label place, le-leb 4 (length temps) full) refl

pub open-new : (temps : List OpenTemp) (label : CursorId) (unique : Bool) (columns : List TempColumn) → position (λ temp. temp.label.0 == label.0) temps ≡ None → length temps < 4 → temp_open temps label unique columns ≡ temps_become (temps ++ record { label = label; table = opened columns unique } ∷ [])
open-new temps label unique columns place few = rw (open-free temps label place, room (length temps) few) refl
  where
    room : (n : ℕ) → n < 4 → nat_le 4 n ≡ false
    room n h = grind (arith, nat_tests)

-- ---- a table that was filled

pub has-position : (temps : List OpenTemp) (label : CursorId) → is_some (position (λ temp. temp.label.0 == label.0) temps) ≡ is_some (temp_labelled temps label)
has-position temps label = is_some-position (has_label label.0) temps

pub add-taken : (temps : List OpenTemp) (label : CursorId) (table : TempRows) (at : ℕ) → position (λ temp. temp.label.0 == label.0) temps ≡ Some at → temps ≡ temps_with temps label table
add-taken temps label table at place =
    let there : is_some (temp_labelled temps label) ≡ true = sym (has-position temps label) ∙ ap is_some place in
    rw there refl

pub add-full : (temps : List OpenTemp) (label : CursorId) (table : TempRows) → position (λ temp. temp.label.0 == label.0) temps ≡ None → 4 ≤ length temps → temps ≡ temps_with temps label table
add-full temps label table place full = rw (open-free temps label place, le-leb 4 (length temps) full) refl

pub add-new : (temps : List OpenTemp) (label : CursorId) (table : TempRows) → position (λ temp. temp.label.0 == label.0) temps ≡ None → length temps < 4 → temps ++ record { label = label; table = table } ∷ [] ≡ temps_with temps label table
add-new temps label table place few = rw (open-free temps label place, room (length temps) few) refl
  where
    room : (n : ℕ) → n < 4 → nat_le 4 n ≡ false
    room n h = grind (arith, nat_tests)

-- ---- a table that was found

pub found-temp : (label : CursorId) (temps : List OpenTemp) (at : ℕ) (temp : OpenTemp) → position (λ temp. temp.label.0 == label.0) temps ≡ Some at → temp ≡ get_or temps at temp → temp_labelled temps label ≡ Some temp
found-temp label temps at temp place is = found-position (has_label label.0) temps at temp place is

pub missing-temp : (label : CursorId) (temps : List OpenTemp) → position (λ temp. temp.label.0 == label.0) temps ≡ None → temp_labelled temps label ≡ None
missing-temp label temps place = missing-position (has_label label.0) temps place

-- a call at a label that no table has, and at one that was found
pub at_none : (temps : List OpenTemp) (label : CursorId) (next : OpenTemp → TempOutcome) → position (λ temp. temp.label.0 == label.0) temps ≡ None → at_temp temps label next ≡ temps_refuse temps jet.InvalidTableId
at_none temps label next place = ap (λ (found : Option OpenTemp). on_temp temps found next) (missing-temp label temps place)

pub at_found : (temps : List OpenTemp) (label : CursorId) (next : OpenTemp → TempOutcome) (at : ℕ) (temp : OpenTemp) → position (λ temp. temp.label.0 == label.0) temps ≡ Some at → temp ≡ get_or temps at temp → at_temp temps label next ≡ next temp
at_found temps label next at temp place is = ap (λ (found : Option OpenTemp). on_temp temps found next) (found-temp label temps at temp place is)

-- ---- TempPut

kept_at : (temps : List OpenTemp) (at : ℕ) (old : OpenTemp) (new : TempRows) → old ≡ get_or temps at old → new ≡ old.table → set temps at (record old { table = new }) ≡ temps
kept_at temps at old new is same = ap (λ t. set temps at (record old { table = t })) same ∙ ap (λ o. set temps at o) is ∙ set-get_or temps at old

put_by : (temps : List OpenTemp) (label : CursorId) (values : List Given) (at : ℕ) (old : OpenTemp) (new : TempRows) (reply : Jet) (refusal : Option Jet) → position (λ temp. temp.label.0 == label.0) temps ≡ Some at → old ≡ get_or temps at old → IsPut old.table values refusal reply new
    → temps_unless temps refusal (λ _. temps_become (with_temp temps (record old { table = with_given old.table values }))) ≡ record { answered = record { jet = reply; shown = Nothing }; temps = set temps at (record old { table = new }) }
put_by temps label values at old new reply (Some refusal) place is does =
    ap (λ j. temps_say temps j Nothing) (sym does.0)
    ∙ ap (λ ts. temps_say ts reply Nothing) (sym (kept_at temps at old new is does.1))
put_by temps label values at old new reply None place is does =
    ap (λ t. temps_become (with_temp temps (record old { table = t }))) (sym does.1)
    ∙ ap temps_become (sym (set-temp label temps at old (record old { table = new }) place is refl))
    ∙ ap (λ j. temps_say (set temps at (record old { table = new })) j Nothing) (sym does.0)

pub put-at : (temps : List OpenTemp) (label : CursorId) (values : List Given) (at : ℕ) (old : OpenTemp) (new : TempRows) (result : Result Jet OutOfMemory) → position (λ temp. temp.label.0 == label.0) temps ≡ Some at → old ≡ get_or temps at old → PutsTo old.table values result new
    → ChangesTemps temps (temp_put temps label values) result (set temps at (record old { table = new }))
put-at temps label values at old new (Ok reply) place is does =
    at_found temps label _ at old place is ∙ put_by temps label values at old new reply (row_refusal old.table values) place is does
put-at temps label values at old new (Err e) place is does = kept_at temps at old new is does

-- ---- the others

pub move-at : (temps : List OpenTemp) (label : CursorId) (way : Way) (at : ℕ) (old : OpenTemp) (new : TempRows) (on : Bool) → position (λ temp. temp.label.0 == label.0) temps ≡ Some at → old ≡ get_or temps at old → new ≡ moved old.table way → on ≡ is_on new.place
    → temp_move temps label way ≡ record { answered = record { jet = elim on [ true ↦ jet.Success | false ↦ jet.NoCurrentRecord ]; shown = Nothing }; temps = set temps at (record old { table = new }) }
move-at temps label way at old new on place is does found =
    at_found temps label _ at old place is
    ∙ ap (λ (t : TempRows). temps_say (with_temp temps (record old { table = t })) (elim (is_on t.place) [ true ↦ jet.Success | false ↦ jet.NoCurrentRecord ]) Nothing) (sym does)
    ∙ ap (λ b. temps_say (with_temp temps (record old { table = new })) (elim b [ true ↦ jet.Success | false ↦ jet.NoCurrentRecord ]) Nothing) (sym found)
    ∙ ap (λ ts. temps_say ts (elim on [ true ↦ jet.Success | false ↦ jet.NoCurrentRecord ]) Nothing) (sym (set-temp label temps at old (record old { table = new }) place is refl))

pub read-at : (temps : List OpenTemp) (label : CursorId) (column at : ℕ) (old : OpenTemp) (answered : Answered) → position (λ temp. temp.label.0 == label.0) temps ≡ Some at → old ≡ get_or temps at old → answered ≡ row_read old.table column → temp_read temps label column ≡ record { answered = answered; temps = temps }
read-at temps label column at old answered place is told = at_found temps label _ at old place is ∙ ap (λ (a : Answered). record { answered = a; temps = temps }) (sym told)

pub count-at : (temps : List OpenTemp) (label : CursorId) (at : ℕ) (old : OpenTemp) (count : ℕ) → position (λ temp. temp.label.0 == label.0) temps ≡ Some at → old ≡ get_or temps at old → count ≡ length old.table.rows → temp_count temps label ≡ temps_say temps jet.Success (Count count)
count-at temps label at old count place is told = at_found temps label _ at old place is ∙ ap (λ n. temps_say temps jet.Success (Count n)) (sym told)

pub close-at : (temps : List OpenTemp) (label : CursorId) (at : ℕ) (old : OpenTemp) → position (λ temp. temp.label.0 == label.0) temps ≡ Some at → old ≡ get_or temps at old → temp_close temps label ≡ temps_become (remove temps at)
close-at temps label at old place is = at_found temps label _ at old place is ∙ ap temps_become (sym (remove-temp label temps at old place))

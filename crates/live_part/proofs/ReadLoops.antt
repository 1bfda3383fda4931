-- Reading one after the other, as a loop does.
use Rattle.std.proofs.Common.{◌≡◌, ℕ, suc, ◌-◌, ◌+◌, ◌≤◌, ◌<◌, Bool, true, false, cond, ltb, leb, not, List, [], ◌∷◌, ◌++◌, filter, Option, Some, None, refl, sym, ap, subst, ◌∙◌, append_assoc, arith}
use Rattle.std.proofs.lemmas.List.{append-nil}
use Rattle.std.specs.List.{list_all}
use Rattle.std.proofs.lemmas.Bool.{and_parts, and_from, leb-true, lt-ltb, ltb-true, le-leb}
use Rattle.column_set.specs.NumberReading.{◌>>=◌, bind_some, passed_some, some_is}
use Rattle.database_state.specs.State.{is_undone}
use Rattle.log_record.specs.declared.fault.EntryFault.{EntryFault}
use Rattle.log_record.specs.declared.fault.EntryFault.TheVariants.{BadEntry, OutOfMemory}
use Rattle.log_grammar.specs.EntryReading.{changed, many_at, tested}
use Rattle.log_record.specs.EntrySeen.{Fails}
use Rattle.version_cleanup.specs.LiveSessions.{LiveState}
use Rattle.version_store.specs.HeldChanges.{HeldChange}
use Rattle.live_part.specs.LiveBytes.{standing}
use Rattle.live_part.specs.LiveReading.{parted, rising_at, undone_of}

-- what was read before, and what is still read
abbrev pub with_front : {A : Type 0} → List A → Option (List A × List ℕ) → Option (List A × List ℕ)
with_front front read = read >>= λ x. Some (front ++ x.0, x.1)

regroup : {A : Type 0} (front : List A) (value : A) (read : Option (List A × List ℕ)) → with_front front (read >>= λ x. Some (value ∷ x.0, x.1)) ≡ with_front (front ++ value ∷ []) read
regroup {A = A} front value (Some x) = ap (λ (values : List A). Some (values, x.1)) (simp append_assoc)
regroup front value None = refl

-- ---- so many

pub goes_on : {A : Type 0} (read : List ℕ → Option (A × List ℕ)) (front : List A) (count i : ℕ) (bytes : List ℕ) (value : A) (after : List ℕ) (total : Option (List A × List ℕ)) → i < count → read bytes ≡ Some (value, after)
    → with_front front (many_at read (count - i) bytes) ≡ total → with_front (front ++ value ∷ []) (many_at read (count - (i + 1)) after) ≡ total
goes_on read front count i bytes value after total lt h so_far =
    let k : count - i ≡ suc (count - (i + 1)) = omega arith in
    let one : with_front front (many_at read (count - i) bytes) ≡ with_front (front ++ value ∷ []) (many_at read (count - (i + 1)) after) = rw (k, h) (regroup front value (many_at read (count - (i + 1)) after)) in
    sym one ∙ so_far

pub ends : {A : Type 0} (e : EntryFault) (read : List ℕ → Option (A × List ℕ)) (front : List A) (count i : ℕ) (bytes : List ℕ) (total : Option (List A × List ℕ)) → i < count → Fails e (read bytes)
    → with_front front (many_at read (count - i) bytes) ≡ total → Fails e total
ends BadEntry read front count i bytes total lt h so_far =
    let k : count - i ≡ suc (count - (i + 1)) = omega arith in
    let one : with_front front (many_at read (count - i) bytes) ≡ None = rw (k, h) refl in
    sym so_far ∙ one
ends OutOfMemory read front count i bytes total lt h so_far = tt

pub is_done : {A : Type 0} (read : List ℕ → Option (A × List ℕ)) (front : List A) (count i : ℕ) (bytes : List ℕ) (total : Option (List A × List ℕ)) → count ≤ i → with_front front (many_at read (count - i) bytes) ≡ total → total ≡ Some (front, bytes)
is_done {A = A} read front count i bytes total le so_far =
    let k : count - i ≡ 0 = omega arith in
    let one : with_front front (many_at read (count - i) bytes) ≡ Some (front, bytes) = rw k (ap (λ (xs : List A). Some (xs, bytes)) (append-nil front)) in
    sym so_far ∙ one

-- ---- so many by rising keys

abbrev pub next_above : {A : Type 0} → (A → ℕ) → (List ℕ → Option (A × List ℕ)) → ℕ → List ℕ → Option (A × List ℕ)
next_above key read low bytes = tested (λ x. ltb low (key x)) read bytes

pub rising_goes_on : {A : Type 0} (key : A → ℕ) (read : List ℕ → Option (A × List ℕ)) (front : List A) (low count i : ℕ) (bytes : List ℕ) (value : A) (after : List ℕ) (total : Option (List A × List ℕ)) → i < count → next_above key read low bytes ≡ Some (value, after)
    → with_front front (rising_at key read low (count - i) bytes) ≡ total → with_front (front ++ value ∷ []) (rising_at key read (key value) (count - (i + 1)) after) ≡ total
rising_goes_on key read front low count i bytes value after total lt h so_far =
    let k : count - i ≡ suc (count - (i + 1)) = omega arith in
    let one : with_front front (rising_at key read low (count - i) bytes) ≡ with_front (front ++ value ∷ []) (rising_at key read (key value) (count - (i + 1)) after) = rw (k, h) (regroup front value (rising_at key read (key value) (count - (i + 1)) after)) in
    sym one ∙ so_far

pub rising_ends : {A : Type 0} (e : EntryFault) (key : A → ℕ) (read : List ℕ → Option (A × List ℕ)) (front : List A) (low count i : ℕ) (bytes : List ℕ) (total : Option (List A × List ℕ)) → i < count → Fails e (next_above key read low bytes)
    → with_front front (rising_at key read low (count - i) bytes) ≡ total → Fails e total
rising_ends BadEntry key read front low count i bytes total lt h so_far =
    let k : count - i ≡ suc (count - (i + 1)) = omega arith in
    let one : with_front front (rising_at key read low (count - i) bytes) ≡ None = rw (k, h) refl in
    sym so_far ∙ one
rising_ends OutOfMemory key read front low count i bytes total lt h so_far = tt

pub rising_done : {A : Type 0} (key : A → ℕ) (read : List ℕ → Option (A × List ℕ)) (front : List A) (low count i : ℕ) (bytes : List ℕ) (total : Option (List A × List ℕ)) → count ≤ i → with_front front (rising_at key read low (count - i) bytes) ≡ total → total ≡ Some (front, bytes)
rising_done {A = A} key read front low count i bytes total le so_far =
    let k : count - i ≡ 0 = omega arith in
    let one : with_front front (rising_at key read low (count - i) bytes) ≡ Some (front, bytes) = rw k (ap (λ (xs : List A). Some (xs, bytes)) (append-nil front)) in
    sym so_far ∙ one

-- what was read is above
pub is_above : {A : Type 0} (key : A → ℕ) (read : List ℕ → Option (A × List ℕ)) (low : ℕ) (bytes : List ℕ) (x : A × List ℕ) → next_above key read low bytes ≡ Some x → ltb low (key x.0) ≡ true
is_above {A = A} key read low bytes x e =
    let a = bind_some (read bytes) (λ (y : A × List ℕ). cond (ltb low (key y.0)) (Some y) None) x e in
    let p = passed_some (ltb low (key a.0.0)) (Some a.0) x a.2 in
    subst (λ (y : A × List ℕ). ltb low (key y.0) ≡ true) (some_is a.0 x p.1) p.0

-- ---- labels so far

abbrev pub are_up_to : ℕ → List LiveState → Bool
are_up_to last sessions = list_all (λ s. leb s.label last) sessions

pub all_below : (last label : ℕ) (sessions : List LiveState) → are_up_to last sessions ≡ true → ltb last label ≡ true → list_all (λ s. ltb s.label label) sessions ≡ true
all_below last label [] upto above = refl
all_below last label (s ∷ sessions) upto above =
    let p = and_parts (leb s.label last) (are_up_to last sessions) upto in
    and_from (ltb s.label label) (list_all (λ s. ltb s.label label) sessions) (lt-ltb s.label label (omega (arith, leb-true s.label last p.0, ltb-true last label above))) (all_below last label sessions p.1 above)

pub all_up_to : (last : ℕ) (new : LiveState) (sessions : List LiveState) → are_up_to last sessions ≡ true → ltb last new.label ≡ true → are_up_to new.label (sessions ++ new ∷ []) ≡ true
all_up_to last new [] upto above = and_from (leb new.label new.label) true (le-leb new.label new.label (omega arith)) refl
all_up_to last new (s ∷ sessions) upto above =
    let p = and_parts (leb s.label last) (are_up_to last sessions) upto in
    and_from (leb s.label new.label) (are_up_to new.label (sessions ++ new ∷ [])) (le-leb s.label new.label (omega (arith, leb-true s.label last p.0, ltb-true last new.label above))) (all_up_to last new sessions p.1 above)

-- ---- so many changes, parted

abbrev pub Parts : Type 0
Parts = (List HeldChange × List HeldChange) × List ℕ

abbrev pub with_parts : List HeldChange → List HeldChange → Option (List HeldChange × List ℕ) → Option Parts
with_parts stand gone read = read >>= λ x. Some ((stand ++ standing x.0, gone ++ undone_of x.0), x.1)

of_none : (read : Option (List HeldChange × List ℕ)) → with_parts [] [] read ≡ (read >>= λ x. Some (parted x.0, x.1))
of_none (Some x) = refl
of_none None = refl

from_the_start : (stand gone : List HeldChange) (read : Option (List HeldChange × List ℕ)) → stand ≡ [] → gone ≡ [] → with_parts stand gone read ≡ (read >>= λ x. Some (parted x.0, x.1))
from_the_start stand gone read s g = ap (λ (xs : List HeldChange). with_parts xs gone read) s ∙ ap (λ (xs : List HeldChange). with_parts [] xs read) g ∙ of_none read

pub parts_begin : (key : HeldChange → ℕ) (read : List ℕ → Option (HeldChange × List ℕ)) (stand gone : List HeldChange) (low count : ℕ) (bytes : List ℕ) → stand ≡ [] → gone ≡ []
    → with_parts stand gone (rising_at key read low (count - 0) bytes) ≡ changed parted (rising_at key read low count) bytes
parts_begin key read stand gone low count bytes s g =
    let all : count - 0 ≡ count = omega arith in
    ap (λ (n : ℕ). with_parts stand gone (rising_at key read low n bytes)) all ∙ from_the_start stand gone (rising_at key read low count bytes) s g

filter_front : {A : Type 0} (p : A → Bool) (front : List A) (value : A) (rest : List A) → front ++ filter p (value ∷ rest) ≡ (front ++ filter p (value ∷ [])) ++ filter p rest
filter_front p front value rest = at (p value)
  where
    at : (b : Bool) → front ++ cond b (value ∷ filter p rest) (filter p rest) ≡ (front ++ cond b (value ∷ []) []) ++ filter p rest
    at true = sym (append_assoc front (value ∷ []) (filter p rest))
    at false = ap (λ xs. xs ++ filter p rest) (sym (append-nil front))

parts_regroup : (stand gone : List HeldChange) (value : HeldChange) (read : Option (List HeldChange × List ℕ))
    → with_parts stand gone (read >>= λ x. Some (value ∷ x.0, x.1)) ≡ with_parts (stand ++ standing (value ∷ [])) (gone ++ undone_of (value ∷ [])) read
parts_regroup stand gone value (Some x) =
    ap (λ (s : List HeldChange). let y : Parts = ((s, gone ++ undone_of (value ∷ x.0)), x.1) in Some y) (filter_front (λ h. not (is_undone h.status)) stand value x.0)
    ∙ ap (λ (u : List HeldChange). let y : Parts = (((stand ++ standing (value ∷ [])) ++ standing x.0, u), x.1) in Some y) (filter_front (λ h. is_undone h.status) gone value x.0)
parts_regroup stand gone value None = refl

pub parts_go_on : (key : HeldChange → ℕ) (read : List ℕ → Option (HeldChange × List ℕ)) (stand gone : List HeldChange) (low count i : ℕ) (bytes : List ℕ) (value : HeldChange) (after : List ℕ) (total : Option Parts) → i < count → next_above key read low bytes ≡ Some (value, after)
    → with_parts stand gone (rising_at key read low (count - i) bytes) ≡ total → with_parts (stand ++ standing (value ∷ [])) (gone ++ undone_of (value ∷ [])) (rising_at key read (key value) (count - (i + 1)) after) ≡ total
parts_go_on key read stand gone low count i bytes value after total lt h so_far =
    let k : count - i ≡ suc (count - (i + 1)) = omega arith in
    let one : with_parts stand gone (rising_at key read low (count - i) bytes) ≡ with_parts (stand ++ standing (value ∷ [])) (gone ++ undone_of (value ∷ [])) (rising_at key read (key value) (count - (i + 1)) after) =
    rw (k, h) (parts_regroup stand gone value (rising_at key read (key value) (count - (i + 1)) after)) in
    sym one ∙ so_far

pub parts_end : (e : EntryFault) (key : HeldChange → ℕ) (read : List ℕ → Option (HeldChange × List ℕ)) (stand gone : List HeldChange) (low count i : ℕ) (bytes : List ℕ) (total : Option Parts) → i < count → Fails e (next_above key read low bytes)
    → with_parts stand gone (rising_at key read low (count - i) bytes) ≡ total → Fails e total
parts_end BadEntry key read stand gone low count i bytes total lt h so_far =
    let k : count - i ≡ suc (count - (i + 1)) = omega arith in
    let one : with_parts stand gone (rising_at key read low (count - i) bytes) ≡ None = rw (k, h) refl in
    sym so_far ∙ one
parts_end OutOfMemory key read stand gone low count i bytes total lt h so_far = tt

pub parts_done : (key : HeldChange → ℕ) (read : List ℕ → Option (HeldChange × List ℕ)) (stand gone : List HeldChange) (low count i : ℕ) (bytes : List ℕ) (total : Option Parts) → count ≤ i
    → with_parts stand gone (rising_at key read low (count - i) bytes) ≡ total → total ≡ Some ((stand, gone), bytes)
parts_done key read stand gone low count i bytes total le so_far =
    let k : count - i ≡ 0 = omega arith in
    let one : with_parts stand gone (rising_at key read low (count - i) bytes) ≡ Some ((stand, gone), bytes) =
    rw k (ap (λ (s : List HeldChange). let y : Parts = ((s, gone ++ []), bytes) in Some y) (append-nil stand) ∙ ap (λ (u : List HeldChange). let y : Parts = ((stand, u), bytes) in Some y) (append-nil gone)) in
    sym so_far ∙ one

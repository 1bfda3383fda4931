-- A session by its place.
use Rattle.std.proofs.Common.{◌≡◌, ℕ, zero, suc, ◌+◌, ◌<◌, Bool, true, false, not, cond, List, [], ◌∷◌, ◌++◌, Option, Some, None, length, get_or, set, remove, refl, sym, ap, subst, ◌∙◌, arith}
use Rattle.std.specs.Prelude.{◌==◌, nat_lt, option_and_then, if◌then◌else◌}
use Rattle.std.specs.List.{position, position_or_len, insert, list_all}
use Rattle.std.proofs.lemmas.Bool.{eqb-true}
use Rattle.std.proofs.lemmas.Bool.Decides.{nat_tests}
use Rattle.std.proofs.lemmas.List.{length_push, set-get_or}
use Rattle.std.proofs.lemmas.List.Quantifiers.{position-Some}
use Rattle.common_lemmas.proofs.Booleans.{and_left, and_right}
use Rattle.version_cleanup.specs.declared.live.Transaction.{Transaction}
use Rattle.version_cleanup.specs.LiveSessions.{LiveState, session_in, is_live, transaction_in, levels_in, levels_of, lowered, ended, level_ended, with_session, left, insert_session, are_rising, new_session, has_table, has_open_in}
use Rattle.version_cleanup.specs.Shown.{AreLive}
use Rattle.version_cleanup.proofs.Rising.{KeepsLabel, are_above, rising-changed, rising-left, rising-inserted, rising-pushed, others-stay, others-left, length-changed, length-left, length-inserted}

abbrev pub has_label : ℕ → LiveState → Bool
has_label label s = s.label == label

-- the first session of the label stands at the place
pub record Found (label place : ℕ) (sessions : List LiveState) : Type 0 where
  pub within : place < length sessions
  pub here : (d : LiveState) → has_label label (get_or sessions place d) ≡ true
  pub before : (k : ℕ) (d : LiveState) → k < place → has_label label (get_or sessions k d) ≡ false

pub found : (label place : ℕ) (sessions : List LiveState) → position (has_label label) sessions ≡ Some place → Found label place sessions
found label place sessions is = record {
  within = (position-Some (has_label label) sessions place (new_session 0) is).0;
  here = λ (d : LiveState). (position-Some (has_label label) sessions place d is).1;
  before = λ (k : ℕ) (d : LiveState) (lt : k < place). (position-Some (has_label label) sessions place d is).2 k lt;
}

found-tail : (label place : ℕ) (s : LiveState) (sessions : List LiveState) → Found label (suc place) (s ∷ sessions) → Found label place sessions
found-tail label place s sessions is = record {
  within = omega (arith, is.within);
  here = is.here;
  before = λ (k : ℕ) (d : LiveState) (lt : k < place). is.before (suc k) d (omega (arith, lt));
}

abbrev place_if : Bool → ℕ → Option ℕ
place_if b n = cond b (Some n) None

below : (n m : ℕ) (b : Bool) → nat_lt (1 + n) (suc m) ≡ b → place_if b (1 + n) ≡ None → nat_lt n m ≡ false
below n m true e h = cc
below n m false e h = grind (arith, nat_tests)

above_none : (m : ℕ) (b : Bool) → nat_lt 0 (suc m) ≡ b → place_if b 0 ≡ None → ⊥
above_none m true e h = cc
above_none m false e h = let is : nat_lt 0 (suc m) ≡ true = grind (arith, nat_tests) in cc

-- no session has the label
none-first : (label : ℕ) (s : LiveState) (sessions : List LiveState) → position (has_label label) (s ∷ sessions) ≡ None → (has_label label s ≡ false) × (position (has_label label) sessions ≡ None)
none-first label s sessions e = at (has_label label s) (position_or_len (has_label label) sessions) (length sessions) e
  where
    at : (b : Bool) (n m : ℕ) → place_if (nat_lt (cond (not b) (1 + n) 0) (suc m)) (cond (not b) (1 + n) 0) ≡ None → (b ≡ false) × (place_if (nat_lt n m) n ≡ None)
    at true n m h = absurd (above_none m (nat_lt 0 (suc m)) refl h)
    at false n m h = (refl, ap (λ (b : Bool). place_if b n) (below n m (nat_lt (1 + n) (suc m)) refl h))

pub find-found : (label place : ℕ) (sessions : List LiveState) (d : LiveState) → Found label place sessions → session_in label sessions ≡ Some (get_or sessions place d)
find-found label place [] d is = absurd (omega (arith, is.within))
find-found label zero (s ∷ sessions) d is = ap (λ (b : Bool). if b then Some s else session_in label sessions) (is.here d)
find-found label (suc place) (s ∷ sessions) d is = ap (λ (b : Bool). if b then Some s else session_in label sessions) (is.before 0 d (omega arith)) ∙ find-found label place sessions d (found-tail label place s sessions is)

pub find-none : (label : ℕ) (sessions : List LiveState) → position (has_label label) sessions ≡ None → session_in label sessions ≡ None
find-none label [] e = refl
find-none label (s ∷ sessions) e =
    let first = none-first label s sessions e in
    ap (λ (b : Bool). if b then Some s else session_in label sessions) first.0 ∙ find-none label sessions first.1

pub transaction-found : (label place : ℕ) (sessions : List LiveState) (d : LiveState) → Found label place sessions → transaction_in label sessions ≡ (get_or sessions place d).transaction
transaction-found label place sessions d is = ap (λ (o : Option LiveState). option_and_then (λ (s : LiveState). s.transaction) o) (find-found label place sessions d is)

-- the session at its place is changed
changed-here : (label place : ℕ) (change : LiveState → LiveState) (sessions : List LiveState) (d : LiveState) → are_rising sessions ≡ true → Found label place sessions → set sessions place (change (get_or sessions place d)) ≡ with_session label change sessions
changed-here label place change [] d rising is = absurd (omega (arith, is.within))
changed-here label zero change (s ∷ sessions) d rising is =
    let same : s.label ≡ label = eqb-true s.label label (is.here d) in
    ap (λ (l : List LiveState). change s ∷ l) (sym (others-stay label change sessions (subst (λ (n : ℕ). are_above n sessions ≡ true) same (and_left (are_above s.label sessions) (are_rising sessions) rising))))
    ∙ ap (λ (b : Bool). (if b then change s else s) ∷ with_session label change sessions) (sym (is.here d))
changed-here label (suc place) change (s ∷ sessions) d rising is =
    ap (λ (l : List LiveState). s ∷ l) (changed-here label place change sessions d (and_right (are_above s.label sessions) (are_rising sessions) rising) (found-tail label place s sessions is))
    ∙ ap (λ (b : Bool). (if b then change s else s) ∷ with_session label change sessions) (sym (is.before 0 d (omega arith)))

changed-none : (label : ℕ) (change : LiveState → LiveState) (sessions : List LiveState) → position (has_label label) sessions ≡ None → with_session label change sessions ≡ sessions
changed-none label change [] e = refl
changed-none label change (s ∷ sessions) e =
    let first = none-first label s sessions e in
    ap (λ (b : Bool). (if b then change s else s) ∷ with_session label change sessions) first.0 ∙ ap (λ (l : List LiveState). s ∷ l) (changed-none label change sessions first.1)

removed-here : (label place : ℕ) (sessions : List LiveState) → are_rising sessions ≡ true → Found label place sessions → remove sessions place ≡ left label sessions
removed-here label place [] rising is = absurd (omega (arith, is.within))
removed-here label zero (s ∷ sessions) rising is =
    let same : s.label ≡ label = eqb-true s.label label (is.here s) in
    sym (others-left label sessions (subst (λ (n : ℕ). are_above n sessions ≡ true) same (and_left (are_above s.label sessions) (are_rising sessions) rising)))
    ∙ ap (λ (b : Bool). if not b then s ∷ left label sessions else left label sessions) (sym (is.here s))
removed-here label (suc place) (s ∷ sessions) rising is =
    ap (λ (l : List LiveState). s ∷ l) (removed-here label place sessions (and_right (are_above s.label sessions) (are_rising sessions) rising) (found-tail label place s sessions is))
    ∙ ap (λ (b : Bool). if not b then s ∷ left label sessions else left label sessions) (sym (is.before 0 s (omega arith)))

-- ---- what the calls leave, from what `position` answers

-- the session at the place of its label, in the field that shows the sessions
pub record Here (label place : ℕ) (items sessions : List LiveState) (x : LiveState) : Type 0 where
  pub shown : items ≡ sessions
  pub live : AreLive items
  pub at_place : position (has_label label) sessions ≡ Some place
  pub is : x ≡ get_or items place x

found-here : (label place : ℕ) (items sessions : List LiveState) (x : LiveState) → Here label place items sessions x → Found label place items
found-here label place items sessions x here = found label place items (ap (position (has_label label)) here.shown ∙ here.at_place)

pub set-is : (label place : ℕ) (change : LiveState → LiveState) (items sessions : List LiveState) (x y : LiveState) → Here label place items sessions x → y ≡ change x → set items place y ≡ with_session label change sessions
set-is label place change items sessions x y here new =
    ap (set items place) (new ∙ ap change here.is) ∙ changed-here label place change items x here.live.rising (found-here label place items sessions x here) ∙ ap (with_session label change) here.shown

pub set-none : (label : ℕ) (change : LiveState → LiveState) (sessions : List LiveState) → position (has_label label) sessions ≡ None → sessions ≡ with_session label change sessions
set-none label change sessions is = sym (changed-none label change sessions is)

pub live-set : (label place : ℕ) (change : LiveState → LiveState) (items sessions : List LiveState) (x y : LiveState) → KeepsLabel change → Here label place items sessions x → y ≡ change x → AreLive (set items place y)
live-set label place change items sessions x y same here new =
    subst AreLive (sym (set-is label place change items sessions x y here new ∙ ap (with_session label change) (sym here.shown)))
    (record { rising = rising-changed label change items same ∙ here.live.rising; few = omega (arith, length-changed label change items, here.live.few) })

pub open-here : (label table place : ℕ) (items sessions : List LiveState) (x : LiveState) → Here label place items sessions x → has_table table (Some x) ≡ has_open_in label table sessions
open-here label table place items sessions x here =
    ap (λ (s : LiveState). has_table table (Some s)) here.is ∙ sym (ap (has_table table) (find-found label place items x (found-here label place items sessions x here))) ∙ ap (has_open_in label table) here.shown

pub transaction-here : (label place : ℕ) (items sessions : List LiveState) (x : LiveState) → Here label place items sessions x → x.transaction ≡ transaction_in label sessions
transaction-here label place items sessions x here =
    ap (λ (s : LiveState). s.transaction) here.is ∙ sym (transaction-found label place items x (found-here label place items sessions x here)) ∙ ap (transaction_in label) here.shown

-- what the end of the innermost level leaves of a session
abbrev pub level_less : LiveState → LiveState
level_less s = if nat_lt 1 (levels_of s.transaction) then lowered s else ended s

pub level_less-label : KeepsLabel level_less
level_less-label s = at (nat_lt 1 (levels_of s.transaction))
  where
    at : (b : Bool) → (if b then lowered s else ended s).label ≡ s.label
    at true = refl
    at false = refl

pub level-is : (label place : ℕ) (items sessions : List LiveState) (x y : LiveState) → Here label place items sessions x → y ≡ level_less x → set items place y ≡ level_ended label sessions
level-is label place items sessions x y here new =
    at (nat_lt 1 (levels_of x.transaction)) new
    ∙ ap (λ (t : Option Transaction). if nat_lt 1 (levels_of t) then with_session label lowered sessions else with_session label ended sessions) (transaction-here label place items sessions x here)
  where
    at : (b : Bool) → y ≡ (if b then lowered x else ended x) → set items place y ≡ (if b then with_session label lowered sessions else with_session label ended sessions)
    at true is = set-is label place lowered items sessions x y here is
    at false is = set-is label place ended items sessions x y here is

pub level-none : (label : ℕ) (sessions : List LiveState) → position (has_label label) sessions ≡ None → sessions ≡ level_ended label sessions
level-none label sessions is = at (nat_lt 1 (levels_in label sessions))
  where
    at : (b : Bool) → sessions ≡ (if b then with_session label lowered sessions else with_session label ended sessions)
    at true = set-none label lowered sessions is
    at false = set-none label ended sessions is

pub remove-is : (label place : ℕ) (items sessions : List LiveState) → items ≡ sessions → AreLive items → position (has_label label) sessions ≡ Some place → remove items place ≡ left label sessions
remove-is label place items sessions shown live is = removed-here label place items live.rising (found label place items (ap (position (has_label label)) shown ∙ is)) ∙ ap (left label) shown

pub remove-none : (label : ℕ) (sessions : List LiveState) → position (has_label label) sessions ≡ None → sessions ≡ left label sessions
remove-none label [] e = refl
remove-none label (s ∷ sessions) e =
    let first = none-first label s sessions e in
    ap (λ (l : List LiveState). s ∷ l) (remove-none label sessions first.1) ∙ ap (λ (b : Bool). if not b then s ∷ left label sessions else left label sessions) (sym first.0)

pub live-left : (label : ℕ) (sessions : List LiveState) → AreLive sessions → AreLive (left label sessions)
live-left label sessions live = record { rising = rising-left label sessions live.rising; few = omega (arith, length-left label sessions, live.few) }

-- a session that is changed at its place or stays there
pub live-same : (place : ℕ) (items : List LiveState) (x y : LiveState) → AreLive items → x ≡ get_or items place x → y ≡ x → AreLive (set items place y)
live-same place items x y live is same = subst AreLive (sym (ap (set items place) (same ∙ is) ∙ set-get_or items place x)) live

live-entered : (new : LiveState) (sessions : List LiveState) → AreLive sessions → is_live new.label sessions ≡ false → length sessions < 64 → AreLive (insert_session new sessions)
live-entered new sessions live none few = record { rising = rising-inserted new sessions none live.rising; few = omega (arith, length-inserted new sessions) }

-- after an insert at the place of a session more, which may fail
pub live-inserted : (ok : Bool) (place : ℕ) (new : LiveState) (items after : List LiveState) → after ≡ (if ok then insert items place new else items) → insert items place new ≡ insert_session new items → AreLive items → is_live new.label items ≡ false → length items < 64 → AreLive after
live-inserted true place new items after is at_place live none few = subst AreLive (sym (is ∙ at_place)) (live-entered new items live none few)
live-inserted false place new items after is at_place live none few = subst AreLive (sym is) live

-- after a push of a session whose label is above the others', which may fail
pub live-pushed : (ok : Bool) (new : LiveState) (items after : List LiveState) → after ≡ (if ok then items ++ new ∷ [] else items) → AreLive items → list_all (λ s. nat_lt s.label new.label) items ≡ true → length items < 64 → AreLive after
live-pushed true new items after is live last few = subst AreLive (sym is) (record { rising = rising-pushed new items last live.rising; few = omega (arith, length_push items new) })
live-pushed false new items after is live last few = subst AreLive (sym is) live

-- ---- the place of a session more

pub insert-read : (new : LiveState) (label : ℕ) (sessions : List LiveState) (place : ℕ) (d : LiveState) → new.label ≡ label → place < length sessions → nat_lt label (get_or sessions place d).label ≡ true → ((k : ℕ) → k < place → nat_lt label (get_or sessions k d).label ≡ false)
    → insert sessions place new ≡ insert_session new sessions
insert-read new label [] place d same within here before = absurd (omega (arith, within))
insert-read new label (s ∷ sessions) zero d same within here before =
    ap (λ (b : Bool). if b then new ∷ s ∷ sessions else s ∷ insert_session new sessions) (sym (ap (λ (n : ℕ). nat_lt n s.label) same ∙ here))
insert-read new label (s ∷ sessions) (suc place) d same within here before =
    ap (λ (l : List LiveState). s ∷ l) (insert-read new label sessions place d same (omega (arith, within)) here (λ k lt. before (suc k) (omega (arith, lt))))
    ∙ ap (λ (b : Bool). if b then new ∷ s ∷ sessions else s ∷ insert_session new sessions) (sym (ap (λ (n : ℕ). nat_lt n s.label) same ∙ before 0 (omega arith)))

pub insert-unread : (new : LiveState) (label : ℕ) (sessions : List LiveState) (d : LiveState) → new.label ≡ label → ((k : ℕ) → k < length sessions → nat_lt label (get_or sessions k d).label ≡ false)
    → insert sessions (length sessions) new ≡ insert_session new sessions
insert-unread new label [] d same each = refl
insert-unread new label (s ∷ sessions) d same each =
    ap (λ (l : List LiveState). s ∷ l) (insert-unread new label sessions d same (λ k lt. each (suc k) (omega (arith, lt))))
    ∙ ap (λ (b : Bool). if b then new ∷ s ∷ sessions else s ∷ insert_session new sessions) (sym (ap (λ (n : ℕ). nat_lt n s.label) same ∙ each 0 (omega arith)))

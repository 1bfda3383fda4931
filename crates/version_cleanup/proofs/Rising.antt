-- Labels that rise stay so as sessions come, go and change.
use Rattle.std.proofs.Common.{◌≡◌, ℕ, suc, ◌≤◌, Bool, true, false, not, ◌&&◌, List, [], ◌∷◌, ◌++◌, length, refl, ap, ◌∙◌, arith}
use Rattle.std.specs.Prelude.{◌==◌, nat_lt, is_some, Some, if◌then◌else◌}
use Rattle.std.specs.List.{list_all}
use Rattle.std.proofs.lemmas.Bool.Decides.{nat_tests}
use Rattle.std.proofs.lemmas.Bool.{and_from}
use Rattle.common_lemmas.proofs.Booleans.{and_left, and_right}
use Rattle.version_cleanup.specs.LiveSessions.{LiveState, with_session, insert_session, left, are_rising, is_live, session_in}

-- whether each label is above this one
abbrev pub are_above : ℕ → List LiveState → Bool
are_above label sessions = list_all (λ other. nat_lt label other.label) sessions

abbrev pub KeepsLabel : (LiveState → LiveState) → Type 0
KeepsLabel change = (s : LiveState) → (change s).label ≡ s.label

label-changed : (label : ℕ) (change : LiveState → LiveState) (s : LiveState) → KeepsLabel change → (if s.label == label then change s else s).label ≡ s.label
label-changed label change s same = at (s.label == label)
  where
    at : (b : Bool) → (if b then change s else s).label ≡ s.label
    at true = same s
    at false = refl

above-changed : (least label : ℕ) (change : LiveState → LiveState) (sessions : List LiveState) → KeepsLabel change → are_above least (with_session label change sessions) ≡ are_above least sessions
above-changed least label change [] same = refl
above-changed least label change (s ∷ sessions) same =
    ap (λ (n : ℕ). nat_lt least n && are_above least (with_session label change sessions)) (label-changed label change s same)
    ∙ ap (λ (b : Bool). nat_lt least s.label && b) (above-changed least label change sessions same)

pub rising-changed : (label : ℕ) (change : LiveState → LiveState) (sessions : List LiveState) → KeepsLabel change → are_rising (with_session label change sessions) ≡ are_rising sessions
rising-changed label change [] same = refl
rising-changed label change (s ∷ sessions) same =
    ap (λ (n : ℕ). are_above n (with_session label change sessions) && are_rising (with_session label change sessions)) (label-changed label change s same)
    ∙ ap (λ (b : Bool). are_above s.label (with_session label change sessions) && b) (rising-changed label change sessions same)
    ∙ ap (λ (b : Bool). b && are_rising sessions) (above-changed s.label label change sessions same)

above-left : (least label : ℕ) (sessions : List LiveState) → are_above least sessions ≡ true → are_above least (left label sessions) ≡ true
above-left least label [] e = refl
above-left least label (s ∷ sessions) e = at (not (s.label == label)) (above-left least label sessions (and_right (nat_lt least s.label) (are_above least sessions) e))
  where
    at : (b : Bool) → are_above least (left label sessions) ≡ true → are_above least (if b then s ∷ left label sessions else left label sessions) ≡ true
    at true rest = and_from (nat_lt least s.label) (are_above least (left label sessions)) (and_left (nat_lt least s.label) (are_above least sessions) e) rest
    at false rest = rest

pub rising-left : (label : ℕ) (sessions : List LiveState) → are_rising sessions ≡ true → are_rising (left label sessions) ≡ true
rising-left label [] e = refl
rising-left label (s ∷ sessions) e = at (not (s.label == label)) (rising-left label sessions (and_right (are_above s.label sessions) (are_rising sessions) e))
  where
    at : (b : Bool) → are_rising (left label sessions) ≡ true → are_rising (if b then s ∷ left label sessions else left label sessions) ≡ true
    at true rest = and_from (are_above s.label (left label sessions)) (are_rising (left label sessions)) (above-left s.label label sessions (and_left (are_above s.label sessions) (are_rising sessions) e)) rest
    at false rest = rest

above-inserted : (least : ℕ) (new : LiveState) (sessions : List LiveState) → nat_lt least new.label ≡ true → are_above least sessions ≡ true → are_above least (insert_session new sessions) ≡ true
above-inserted least new [] here e = and_from (nat_lt least new.label) true here refl
above-inserted least new (s ∷ sessions) here e = at (nat_lt new.label s.label) (above-inserted least new sessions here (and_right (nat_lt least s.label) (are_above least sessions) e))
  where
    at : (b : Bool) → are_above least (insert_session new sessions) ≡ true → are_above least (if b then new ∷ s ∷ sessions else s ∷ insert_session new sessions) ≡ true
    at true rest = and_from (nat_lt least new.label) (are_above least (s ∷ sessions)) here e
    at false rest = and_from (nat_lt least s.label) (are_above least (insert_session new sessions)) (and_left (nat_lt least s.label) (are_above least sessions) e) rest

lt-trans : (a b c : ℕ) → nat_lt a b ≡ true → nat_lt b c ≡ true → nat_lt a c ≡ true
lt-trans a b c h k = grind (arith, nat_tests)

above-trans : (least label : ℕ) (sessions : List LiveState) → nat_lt least label ≡ true → are_above label sessions ≡ true → are_above least sessions ≡ true
above-trans least label [] lt e = refl
above-trans least label (s ∷ sessions) lt e = and_from (nat_lt least s.label) (are_above least sessions) (lt-trans least label s.label lt (and_left (nat_lt label s.label) (are_above label sessions) e))
    (above-trans least label sessions lt (and_right (nat_lt label s.label) (are_above label sessions) e))

above-other : (a b : ℕ) → nat_lt a b ≡ false → (b == a) ≡ false → nat_lt b a ≡ true
above-other a b h k = grind (arith, nat_tests)

pub not-first : (label : ℕ) (s : LiveState) (sessions : List LiveState) → is_live label (s ∷ sessions) ≡ false → ((s.label == label) ≡ false) × (is_live label sessions ≡ false)
not-first label s sessions e = at (s.label == label) e
  where
    at : (b : Bool) → is_some (if b then Some s else session_in label sessions) ≡ false → (b ≡ false) × (is_live label sessions ≡ false)
    at true h = cc
    at false h = (refl, h)

pub rising-inserted : (new : LiveState) (sessions : List LiveState) → is_live new.label sessions ≡ false → are_rising sessions ≡ true → are_rising (insert_session new sessions) ≡ true
rising-inserted new [] none e = refl
rising-inserted new (s ∷ sessions) none e =
    at (nat_lt new.label s.label) refl (rising-inserted new sessions (not-first new.label s sessions none).1 (and_right (are_above s.label sessions) (are_rising sessions) e))
  where
    above : are_above s.label sessions ≡ true
    above = and_left (are_above s.label sessions) (are_rising sessions) e

    at : (b : Bool) → nat_lt new.label s.label ≡ b → are_rising (insert_session new sessions) ≡ true → are_rising (if b then new ∷ s ∷ sessions else s ∷ insert_session new sessions) ≡ true
    at true lt rest = and_from (are_above new.label (s ∷ sessions)) (are_rising (s ∷ sessions)) (and_from (nat_lt new.label s.label) (are_above new.label sessions) lt (above-trans new.label s.label sessions lt above)) e
    at false ge rest = and_from (are_above s.label (insert_session new sessions)) (are_rising (insert_session new sessions))
        (above-inserted s.label new sessions (above-other new.label s.label ge (not-first new.label s sessions none).0) above) rest

above-pushed : (least : ℕ) (new : LiveState) (sessions : List LiveState) → nat_lt least new.label ≡ true → are_above least sessions ≡ true → are_above least (sessions ++ new ∷ []) ≡ true
above-pushed least new [] here e = and_from (nat_lt least new.label) true here refl
above-pushed least new (s ∷ sessions) here e =
    and_from (nat_lt least s.label) (are_above least (sessions ++ new ∷ [])) (and_left (nat_lt least s.label) (are_above least sessions) e) (above-pushed least new sessions here (and_right (nat_lt least s.label) (are_above least sessions) e))

-- a session whose label is above all others is the last
pub rising-pushed : (new : LiveState) (sessions : List LiveState) → list_all (λ s. nat_lt s.label new.label) sessions ≡ true → are_rising sessions ≡ true → are_rising (sessions ++ new ∷ []) ≡ true
rising-pushed new [] last e = refl
rising-pushed new (s ∷ sessions) last e =
    and_from (are_above s.label (sessions ++ new ∷ [])) (are_rising (sessions ++ new ∷ []))
    (above-pushed s.label new sessions (and_left (nat_lt s.label new.label) (list_all (λ s. nat_lt s.label new.label) sessions) last) (and_left (are_above s.label sessions) (are_rising sessions) e))
    (rising-pushed new sessions (and_right (nat_lt s.label new.label) (list_all (λ s. nat_lt s.label new.label) sessions) last) (and_right (are_above s.label sessions) (are_rising sessions) e))

apart : (a b : ℕ) → nat_lt a b ≡ true → (b == a) ≡ false
apart a b h = grind (arith, nat_tests)

-- sessions with greater labels are others
pub others-stay : (label : ℕ) (change : LiveState → LiveState) (sessions : List LiveState) → are_above label sessions ≡ true → with_session label change sessions ≡ sessions
others-stay label change [] e = refl
others-stay label change (s ∷ sessions) e =
    ap (λ (b : Bool). (if b then change s else s) ∷ with_session label change sessions) (apart label s.label (and_left (nat_lt label s.label) (are_above label sessions) e))
    ∙ ap (λ (l : List LiveState). s ∷ l) (others-stay label change sessions (and_right (nat_lt label s.label) (are_above label sessions) e))

pub others-left : (label : ℕ) (sessions : List LiveState) → are_above label sessions ≡ true → left label sessions ≡ sessions
others-left label [] e = refl
others-left label (s ∷ sessions) e =
    ap (λ (b : Bool). if not b then s ∷ left label sessions else left label sessions) (apart label s.label (and_left (nat_lt label s.label) (are_above label sessions) e))
    ∙ ap (λ (l : List LiveState). s ∷ l) (others-left label sessions (and_right (nat_lt label s.label) (are_above label sessions) e))

pub length-changed : (label : ℕ) (change : LiveState → LiveState) (sessions : List LiveState) → length (with_session label change sessions) ≡ length sessions
length-changed label change [] = refl
length-changed label change (s ∷ sessions) = ap (λ (n : ℕ). suc n) (length-changed label change sessions)

pub length-inserted : (new : LiveState) (sessions : List LiveState) → length (insert_session new sessions) ≡ suc (length sessions)
length-inserted new [] = refl
length-inserted new (s ∷ sessions) = at (nat_lt new.label s.label) (length-inserted new sessions)
  where
    at : (b : Bool) → length (insert_session new sessions) ≡ suc (length sessions) → length (if b then new ∷ s ∷ sessions else s ∷ insert_session new sessions) ≡ suc (suc (length sessions))
    at true rest = refl
    at false rest = ap (λ (n : ℕ). suc n) rest

pub length-left : (label : ℕ) (sessions : List LiveState) → length (left label sessions) ≤ length sessions
length-left label [] = omega arith
length-left label (s ∷ sessions) = at (not (s.label == label)) (length-left label sessions)
  where
    at : (b : Bool) → length (left label sessions) ≤ length sessions → length (if b then s ∷ left label sessions else left label sessions) ≤ suc (length sessions)
    at true rest = omega (arith, rest)
    at false rest = omega (arith, rest)

-- The levels of each session's open changes: none is below the highest of those before it.
use Rattle.std.proofs.Common.{◌≡◌, ℕ, ◌+◌, ◌≤◌, ◌<◌, Bool, true, false, ◌&&◌, ◌||◌, List, [], ◌∷◌, ◌++◌, length, Some, get_or, set, take, max, refl, sym, ap, subst, ◌∙◌, arith}
use Rattle.std.specs.Prelude.{◌==◌, nat_le, not, slice_get, if◌then◌else◌}
use Rattle.std.specs.List.{list_all}
use Rattle.std.proofs.lemmas.Bool.{eqb-true}
use Rattle.std.proofs.lemmas.Bool.Decides.{nat_tests}
use Rattle.std.proofs.lemmas.List.{get_or-set_other, get_or-set_same}
use Rattle.common_lemmas.proofs.Booleans.{and_false, by_test, impossible}
use Rattle.common_lemmas.proofs.Numbers.{self_equal}
use Rattle.database_state.specs.State.{is_open}
use Rattle.image_findings.specs.LiveFindings.{levels_rise}
use Rattle.version_store.specs.HeldChanges.{HeldChange}
use Rattle.image_live.proofs.Fronts.{next_place, take_more}

-- the level of an open change of the session, or 0
abbrev pub own_level : ℕ → HeldChange → ℕ
own_level session h = if is_open h.status && (h.session == session) then h.level else 0

abbrev pub highest : ℕ → List HeldChange → ℕ
highest session [] = 0
highest session (h ∷ held) = max (own_level session h) (highest session held)

max_assoc : (a b c : ℕ) → max a (max b c) ≡ max (max a b) c
max_assoc a b c = omega arith

pub highest_more : (session : ℕ) (held : List HeldChange) (h : HeldChange) → highest session (held ++ h ∷ []) ≡ max (highest session held) (own_level session h)
highest_more session [] h = omega arith
highest_more session (x ∷ held) h = ap (max (own_level session x)) (highest_more session held h) ∙ max_assoc (own_level session x) (highest session held) (own_level session h)

-- ---- one more

le_max : (a b n : ℕ) → (nat_le a n && nat_le b n) ≡ nat_le (max a b) n
le_max a b n = grind (arith, nat_tests)

none_below : (n : ℕ) → nat_le 0 n ≡ true
none_below n = grind (arith, nat_tests)

one_rises : (x h : HeldChange) → is_open h.status ≡ true → levels_rise x h ≡ nat_le (own_level h.session x) h.level
one_rises x h opened = by (is_open x.status) (is_open h.status) (x.session == h.session) opened
  where
    by : (a b c : Bool) → b ≡ true → (not (a && (b && c)) || nat_le x.level h.level) ≡ nat_le (if a && c then x.level else 0) h.level
    by true true true e = refl
    by true true false e = sym (none_below h.level)
    by true false c e = impossible e
    by false b c e = sym (none_below h.level)

pub levels_rise_by : (held : List HeldChange) (h : HeldChange) → is_open h.status ≡ true → list_all (λ (x : HeldChange). levels_rise x h) held ≡ nat_le (highest h.session held) h.level
levels_rise_by [] h opened = sym (none_below h.level)
levels_rise_by (x ∷ held) h opened =
    ap (λ b. b && list_all (λ (x : HeldChange). levels_rise x h) held) (one_rises x h opened)
    ∙ ap (λ b. nat_le (own_level h.session x) h.level && b) (levels_rise_by held h opened)
    ∙ le_max (own_level h.session x) (highest h.session held) h.level

pub shut_rises : (held : List HeldChange) (h : HeldChange) → is_open h.status ≡ false → list_all (λ (x : HeldChange). levels_rise x h) held ≡ true
shut_rises [] h shut = refl
shut_rises (x ∷ held) h shut =
    ap (λ b. b && list_all (λ (x : HeldChange). levels_rise x h) held) (by (is_open x.status) (is_open h.status) (x.session == h.session) shut) ∙ shut_rises held h shut
  where
    by : (a b c : Bool) → b ≡ false → (not (a && (b && c)) || nat_le x.level h.level) ≡ true
    by true false c e = refl
    by true true c e = impossible (sym e)
    by false b c e = refl

-- ---- with one change more

one_behind : (session : ℕ) (held : List HeldChange) (place : ℕ) (h : HeldChange) → slice_get held place ≡ Some h → highest session (take (place + 1) held) ≡ max (highest session (take place held)) (own_level session h)
one_behind session held place h at =
    ap (λ (n : ℕ). highest session (take n held)) (sym (next_place place)) ∙ ap (highest session) (take_more held place h at) ∙ highest_more session (take place held) h

max_zero : (n : ℕ) → max n 0 ≡ n
max_zero n = omega arith

max_right : (a b : ℕ) → nat_le a b ≡ true → max a b ≡ b
max_right a b le = grind (arith, nat_tests)

no_level : (session : ℕ) (held : List HeldChange) (place : ℕ) (h : HeldChange) → slice_get held place ≡ Some h → own_level session h ≡ 0 → highest session (take (place + 1) held) ≡ highest session (take place held)
no_level session held place h at none = one_behind session held place h at ∙ ap (max (highest session (take place held))) none ∙ max_zero (highest session (take place held))

pub shut_more : (session : ℕ) (held : List HeldChange) (place : ℕ) (h : HeldChange) → slice_get held place ≡ Some h → is_open h.status ≡ false → highest session (take (place + 1) held) ≡ highest session (take place held)
shut_more session held place h at shut = no_level session held place h at (ap (λ b. if b && (h.session == session) then h.level else 0) shut)

other_more : (session : ℕ) (held : List HeldChange) (place : ℕ) (h : HeldChange) → slice_get held place ≡ Some h → (h.session == session) ≡ false → highest session (take (place + 1) held) ≡ highest session (take place held)
other_more session held place h at other =
    no_level session held place h at (ap (λ b. if is_open h.status && b then h.level else 0) other ∙ ap (λ b. if b then h.level else 0) (and_false (is_open h.status)))

own_more : (held : List HeldChange) (place : ℕ) (h : HeldChange) → slice_get held place ≡ Some h → is_open h.status ≡ true → nat_le (highest h.session (take place held)) h.level ≡ true → highest h.session (take (place + 1) held) ≡ h.level
own_more held place h at opened le =
    one_behind h.session held place h at
    ∙ ap (max (highest h.session (take place held))) (ap (λ b. if b && (h.session == h.session) then h.level else 0) opened ∙ ap (λ b. if b then h.level else 0) (self_equal h.session))
    ∙ max_right (highest h.session (take place held)) h.level le

-- the highest levels are known by label
abbrev pub AreKnown : List ℕ → List HeldChange → Type 0
AreKnown levels held = (session : ℕ) → session < 100 → get_or levels session 0 ≡ highest session held

pub known_next : (levels : List ℕ) (held : List HeldChange) (place : ℕ) (h : HeldChange) → slice_get held place ≡ Some h → is_open h.status ≡ true → h.session < length levels → nat_le (highest h.session (take place held)) h.level ≡ true → AreKnown levels (take place held)
    → AreKnown (set levels h.session h.level) (take (place + 1) held)
known_next levels held place h at opened few le known session lt = by_test (h.session == session) same other
  where
    same : (h.session == session) ≡ true → get_or (set levels h.session h.level) session 0 ≡ highest session (take (place + 1) held)
    same e =
        subst (λ (s : ℕ). get_or (set levels h.session h.level) s 0 ≡ highest s (take (place + 1) held)) (eqb-true h.session session e)
        (get_or-set_same levels h.session h.level 0 few ∙ sym (own_more held place h at opened le))

    other : (h.session == session) ≡ false → get_or (set levels h.session h.level) session 0 ≡ highest session (take (place + 1) held)
    other e =
        get_or-set_other levels h.session session h.level 0 (λ is. impossible (sym e ∙ ap (λ (s : ℕ). h.session == s) is ∙ self_equal h.session))
        ∙ known session lt
        ∙ sym (other_more session held place h at e)

pub known_shut : (levels : List ℕ) (held : List HeldChange) (place : ℕ) (h : HeldChange) → slice_get held place ≡ Some h → is_open h.status ≡ false → AreKnown levels (take place held) → AreKnown levels (take (place + 1) held)
known_shut levels held place h at shut known session lt = known session lt ∙ sym (shut_more session held place h at shut)

-- ---- whether one more rises

pub rises_open : (levels : List ℕ) (held : List HeldChange) (place : ℕ) (h : HeldChange) (rises : Bool) → h.session < 100 → is_open h.status ≡ true → AreKnown levels (take place held) → nat_le (get_or levels h.session 0) h.level ≡ rises
    → list_all (λ (x : HeldChange). levels_rise x h) (take place held) ≡ rises
rises_open levels held place h rises few opened known is = levels_rise_by (take place held) h opened ∙ ap (λ (n : ℕ). nat_le n h.level) (sym (known h.session few)) ∙ is

pub le_known : (levels : List ℕ) (held : List HeldChange) (place : ℕ) (h : HeldChange) → h.session < 100 → AreKnown levels (take place held) → nat_le (get_or levels h.session 0) h.level ≡ true → nat_le (highest h.session (take place held)) h.level ≡ true
le_known levels held place h few known is = ap (λ (n : ℕ). nat_le n h.level) (sym (known h.session few)) ∙ is

pub not_above : (a b : ℕ) → b ≤ a → nat_le b a ≡ true
not_above a b le = grind (arith, nat_tests)

pub is_above : (a b : ℕ) → a < b → nat_le b a ≡ false
is_above a b lt = grind (arith, nat_tests)

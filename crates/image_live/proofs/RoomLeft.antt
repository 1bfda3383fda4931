-- Room for what sessions are still to end, session by session.
use Rattle.std.proofs.Common.{◌≡◌, ℕ, ◌+◌, ◌-◌, ◌<◌, ◌≤◌, true, false, List, Some, drop, sym, ap, subst, ◌∙◌, arith}
use Rattle.std.specs.Prelude.{nat_le, slice_get}
use Rattle.std.proofs.lemmas.Bool.Decides.{nat_tests}
use Rattle.std.proofs.lemmas.List.Sums.{sum_by-drop_more}
use Rattle.std.proofs.lemmas.Option.{get_or_from_slice_get, slice_get_within}
use Rattle.common_lemmas.proofs.Booleans.{by_test}
use Rattle.image_findings.specs.LiveFindings.{have_room}
use Rattle.laws_engine.specs.EngineState.{ends_in, ends_of}
use Rattle.version_cleanup.specs.LiveSessions.{LiveState}

-- What is left decides whether there is room.
abbrev pub LeftDecides : ℕ → List LiveState → ℕ → ℕ → Type 0
LeftDecides number sessions left place = nat_le (ends_in (drop place sessions)) left ≡ have_room number sessions

first_left : (sessions : List LiveState) (i : ℕ) (s : LiveState) → slice_get sessions i ≡ Some s → ends_in (drop i sessions) ≡ ends_of s + ends_in (drop (i + 1) sessions)
first_left sessions i s is = sum_by-drop_more ends_of sessions i s (slice_get_within sessions i s is) ∙ ap (λ x. ends_of x + ends_in (drop (i + 1) sessions)) (get_or_from_slice_get sessions i s s is)

less : (here rest left after : ℕ) → left ≡ after + here → nat_le rest after ≡ nat_le (here + rest) left
less here rest left after is = grind (arith, nat_tests)

over : (here rest left : ℕ) → left < here → nat_le (here + rest) left ≡ false
over here rest left lt = grind (arith, nat_tests)

pub goes : (number : ℕ) (sessions : List LiveState) (i left after : ℕ) (s : LiveState) → slice_get sessions i ≡ Some s → left ≡ after + ends_of s → LeftDecides number sessions left i → LeftDecides number sessions after (i + 1)
goes number sessions i left after s is taken so_far = less (ends_of s) (ends_in (drop (i + 1) sessions)) left after taken ∙ sym (ap (λ n. nat_le n left) (first_left sessions i s is)) ∙ so_far

pub fails : (number : ℕ) (sessions : List LiveState) (i left : ℕ) (s : LiveState) → slice_get sessions i ≡ Some s → left < ends_of s → LeftDecides number sessions left i → false ≡ have_room number sessions
fails number sessions i left s is lacks so_far = sym (ap (λ n. nat_le n left) (first_left sessions i s is) ∙ over (ends_of s) (ends_in (drop (i + 1) sessions)) left lacks) ∙ so_far

-- ---- as a session's entries are taken off

pub behind : (number : ℕ) (sessions : List LiveState) (i left here after : ℕ) (s : LiveState) → slice_get sessions i ≡ Some s → here ≡ ends_of s → (here ≤ left) × (after ≡ left - here) → LeftDecides number sessions left i → LeftDecides number sessions after (i + 1)
behind number sessions i left here after s is ends_are off so_far = goes number sessions i left after s is (taken here left after off.0 off.1 ∙ ap (λ n. after + n) ends_are) so_far
  where
    taken : (here left after : ℕ) → here ≤ left → after ≡ left - here → left ≡ after + here
    taken here left after le sub = omega (arith, le, sub)

pub lacking : (number : ℕ) (sessions : List LiveState) (i left here : ℕ) (s : LiveState) → slice_get sessions i ≡ Some s → here ≡ ends_of s → (here ≤ left → ⊥) → LeftDecides number sessions left i → false ≡ have_room number sessions
lacking number sessions i left here s is ends_are over so_far = fails number sessions i left s is (subst (λ n. left < n) ends_are (above here left over)) so_far
  where
    within : (here left : ℕ) → nat_le here left ≡ true → here ≤ left
    within here left e = grind (arith, nat_tests)

    beyond : (here left : ℕ) → nat_le here left ≡ false → left < here
    beyond here left e = grind (arith, nat_tests)

    above : (here left : ℕ) → (here ≤ left → ⊥) → left < here
    above here left over = by_test (nat_le here left) (λ le. absurd (over (within here left le))) (λ e. beyond here left e)

-- What is known of the held changes of a sound live part that are not undone.
use Rattle.std.proofs.Common.{◌≡◌, ℕ, zero, suc, ◌<◌, Bool, true, false, ◌&&◌, ◌||◌, List, [], ◌∷◌, length, Option, Some, None, refl, sym, ap, subst, ◌∙◌, arith}
use Rattle.std.specs.Prelude.{not, nat_le, nat_lt, is_some, slice_get, if◌then◌else◌, ◌==◌, ◌^◌}
use Rattle.std.specs.List.{list_all}
use Rattle.std.proofs.lemmas.Bool.{eqb-true}
use Rattle.std.proofs.lemmas.Bool.Decides.{nat_tests}
use Rattle.common_lemmas.proofs.Booleans.{and_left, and_right, impossible}
use Rattle.common_lemmas.proofs.Lists.{all_at}
use Rattle.common_lemmas.proofs.Options.{none_some, same_some}
use Rattle.database_state.specs.State.{Status, uncommitted, committed, undone, is_undone}
use Rattle.image_findings.specs.LiveFindings.{adds_to_sum, are_apart, are_in_order, are_sound_sessions, begins_behind, begins_elsewhere, goes_on, is_before, is_placed, is_sound_before, is_sound_change, is_sound_live, is_sound_of, is_sound_row_before, levels_rise, node_under}
use Rattle.image_findings.specs.TableContents.{TableContents, contents_with_id}
use Rattle.live_part.specs.LiveBytes.{LivePart, held_fits, label_of, live_fits, number_of, rises, session_fits, standing}
use Rattle.version_cleanup.specs.LiveSessions.{LiveState, transaction_in}
use Rattle.version_store.specs.HeldChanges.{HeldChange, is_add, is_record, is_rewrite}
use Rattle.image_live.specs.Orders.{IsCommittedBehind, stays_apart}
use Rattle.image_live.proofs.RecordsLeft.{IsTold}

pub record AreHeld (sessions : List LiveState) (tables : List TableContents) (t : TableContents) (held : List HeldChange) : Type 0 where
  pub told : (i : ℕ) (h : HeldChange) → slice_get held i ≡ Some h → IsTold tables t h
  pub rise : (i j : ℕ) (h k : HeldChange) → i < j → slice_get held i ≡ Some h → slice_get held j ≡ Some k → h.number < k.number
  pub behind : (i : ℕ) (h : HeldChange) → slice_get held i ≡ Some h → IsCommittedBehind h.number h.status
  pub apart : (i j : ℕ) (h k : HeldChange) → i < j → slice_get held i ≡ Some h → slice_get held j ≡ Some k → stays_apart sessions h k ≡ true

-- ---- numbers rise

lower : (low more : ℕ) (held : List HeldChange) → low < more → rises number_of more held ≡ true → rises number_of low held ≡ true
lower low more [] lt all = refl
lower low more (h ∷ held) lt all = ap (λ b. b && rises number_of h.number held) (above low more h.number lt (and_left (nat_lt more h.number) (rises number_of h.number held) all)) ∙ and_right (nat_lt more h.number) (rises number_of h.number held) all
  where
    above : (low more number : ℕ) → low < more → nat_lt more number ≡ true → nat_lt low number ≡ true
    above low more number lt is = grind (arith, nat_tests)

less : (low number : ℕ) → nat_lt low number ≡ true → low < number
less low number is = grind (arith, nat_tests)

standing_rises : (low : ℕ) (held : List HeldChange) → rises number_of low held ≡ true → rises number_of low (standing held) ≡ true
standing_rises low [] all = refl
standing_rises low (h ∷ held) all = by (is_undone h.status) (standing_rises h.number held (and_right (nat_lt low h.number) (rises number_of h.number held) all))
  where
    first : nat_lt low h.number ≡ true
    first = and_left (nat_lt low h.number) (rises number_of h.number held) all

    by : (b : Bool) → rises number_of h.number (standing held) ≡ true → rises number_of low (if not b then h ∷ standing held else standing held) ≡ true
    by true rest = lower low h.number (standing held) (less low h.number first) rest
    by false rest = ap (λ b. b && rises number_of h.number (standing held)) first ∙ rest

above_all : (low : ℕ) (held : List HeldChange) (j : ℕ) (k : HeldChange) → rises number_of low held ≡ true → slice_get held j ≡ Some k → low < k.number
above_all low [] j k all at = none_some k at
above_all low (h ∷ held) zero k all at = subst (λ (x : HeldChange). low < x.number) (same_some h k at) (less low h.number (and_left (nat_lt low h.number) (rises number_of h.number held) all))
above_all low (h ∷ held) (suc j) k all at =
    let first : low < h.number = less low h.number (and_left (nat_lt low h.number) (rises number_of h.number held) all) in
    let rest : h.number < k.number = above_all h.number held j k (and_right (nat_lt low h.number) (rises number_of h.number held) all) at in
    omega (arith, first, rest)

pairs_rise : (low : ℕ) (held : List HeldChange) → rises number_of low held ≡ true → (i j : ℕ) (h k : HeldChange) → i < j → slice_get held i ≡ Some h → slice_get held j ≡ Some k → h.number < k.number
pairs_rise low [] all i j h k lt at_i at_j = none_some h at_i
pairs_rise low (x ∷ held) all i zero h k lt at_i at_j = absurd (omega (arith, lt))
pairs_rise low (x ∷ held) all zero (suc j) h k lt at_i at_j =
    subst (λ (y : HeldChange). y.number < k.number) (same_some x h at_i) (above_all x.number held j k (and_right (nat_lt low x.number) (rises number_of x.number held) all) at_j)
pairs_rise low (x ∷ held) all (suc i) (suc j) h k lt at_i at_j = pairs_rise x.number held (and_right (nat_lt low x.number) (rises number_of x.number held) all) i j h k (omega (arith, lt)) at_i at_j

-- ---- each change

-- what all pass, those that stand pass, and they stand
standing_pass : (p : HeldChange → Bool) (held : List HeldChange) → list_all p held ≡ true → list_all (λ (h : HeldChange). not (is_undone h.status) && p h) (standing held) ≡ true
standing_pass p [] all = refl
standing_pass p (h ∷ held) all = by (is_undone h.status) refl (standing_pass p held (and_right (p h) (list_all p held) all))
  where
    by : (b : Bool) → is_undone h.status ≡ b → list_all (λ (x : HeldChange). not (is_undone x.status) && p x) (standing held) ≡ true
        → list_all (λ (x : HeldChange). not (is_undone x.status) && p x) (if not b then h ∷ standing held else standing held) ≡ true
    by true e rest = rest
    by false e rest =
        ap (λ b. (not b && p h) && list_all (λ (x : HeldChange). not (is_undone x.status) && p x) (standing held)) e
        ∙ ap (λ b. b && list_all (λ (x : HeldChange). not (is_undone x.status) && p x) (standing held)) (and_left (p h) (list_all p held) all)
        ∙ rest

not_false : (b : Bool) → not b ≡ true → b ≡ false
not_false true e = sym e
not_false false e = refl

behind_own : (number : ℕ) (sessions : List LiveState) (h : HeldChange) (status : Status) → not (is_undone status) ≡ true → is_placed number sessions h status ≡ true → IsCommittedBehind h.number status
behind_own number sessions h uncommitted stands placed = tt
behind_own number sessions h undone stands placed = impossible stands
behind_own number sessions h (committed at) stands placed =
    less h.number at (and_left (nat_lt h.number at) (nat_le at number) (and_left (nat_lt h.number at && nat_le at number) (begins_behind at (transaction_in h.session sessions) && list_all (λ (s : LiveState). begins_elsewhere at s.transaction) sessions) placed))

there_of : (number : ℕ) (h : HeldChange) (o : Option TableContents) → is_sound_of number h o ≡ true → is_some o ≡ true
there_of number h None sound = sound
there_of number h (Some t) sound = refl

rewrite_of : (number : ℕ) (t : TableContents) (h : HeldChange) (o : Option (List ℕ)) → is_sound_before number t h o ≡ true → is_some o ≡ true → is_rewrite h.kind ≡ true
rewrite_of number t h None sound some = impossible some
rewrite_of number t h (Some bytes) sound some = and_left (is_rewrite h.kind) (is_sound_row_before number t h bytes) sound

told : (number : ℕ) (tables : List TableContents) (sessions : List LiveState) (t : TableContents) → contents_with_id tables t.table.id ≡ Some t → (h : HeldChange) → not (is_undone h.status) ≡ true → is_sound_change number tables sessions h ≡ true → IsTold tables t h
told number tables sessions t found h stands sound = record {
  there = there_of number h (contents_with_id tables h.table) sound_of;
  stands = not_false (is_undone h.status) stands;
  adds = λ own. and_left (adds_to_sum t.table h.kind) (is_sound_before number t h h.before) (at_own own);
  before = λ own some. rewrite_of number t h h.before (and_right (adds_to_sum t.table h.kind) (is_sound_before number t h h.before) (at_own own)) some;
}
  where
    sound_of : is_sound_of number h (contents_with_id tables h.table) ≡ true
    sound_of =
        and_right (is_placed number sessions h h.status) (is_sound_of number h (contents_with_id tables h.table))
        (and_right (nat_le h.number number) (is_placed number sessions h h.status && is_sound_of number h (contents_with_id tables h.table)) sound)

    at_own : (h.table == t.table.id) ≡ true → is_sound_of number h (Some t) ≡ true
    at_own own = subst (λ (o : Option TableContents). is_sound_of number h o ≡ true) (ap (contents_with_id tables) (eqb-true h.table t.table.id own) ∙ found) sound_of

-- ---- pairs

two_apart : (tables : List TableContents) (sessions : List LiveState) (held : List HeldChange) → are_in_order tables sessions held ≡ true → (i j : ℕ) (h k : HeldChange) → i < j → slice_get held i ≡ Some h → slice_get held j ≡ Some k → stays_apart sessions h k ≡ true
two_apart tables sessions [] order i j h k lt at_i at_j = none_some h at_i
two_apart tables sessions (x ∷ held) order i zero h k lt at_i at_j = absurd (omega (arith, lt))
two_apart tables sessions (x ∷ held) order zero (suc j) h k lt at_i at_j =
    subst (λ (y : HeldChange). stays_apart sessions y k ≡ true) (same_some x h at_i)
    (and_left (stays_apart sessions x k) (levels_rise x k)
    (all_at (is_before sessions x) held j k (and_left (list_all (is_before sessions x) held) (are_in_order tables sessions held) (and_right (goes_on (node_under tables x) x held) (list_all (is_before sessions x) held && are_in_order tables sessions held) order)) at_j))
two_apart tables sessions (x ∷ held) order (suc i) (suc j) h k lt at_i at_j =
    two_apart tables sessions held
    (and_right (list_all (is_before sessions x) held) (are_in_order tables sessions held) (and_right (goes_on (node_under tables x) x held) (list_all (is_before sessions x) held && are_in_order tables sessions held) order))
    i j h k (omega (arith, lt)) at_i at_j

-- ---- the whole

rises_of : (live : LivePart) → live_fits live ≡ true → rises number_of 0 live.held ≡ true
rises_of live fits =
    and_left (rises number_of 0 live.held) (list_all held_fits live.held)
    (and_right (nat_lt (length live.held) (2 ^ 32)) (rises number_of 0 live.held && list_all held_fits live.held)
    (and_right (nat_le (length live.sessions) 64 && (rises label_of 0 live.sessions && list_all session_fits live.sessions)) (nat_lt (length live.held) (2 ^ 32) && (rises number_of 0 live.held && list_all held_fits live.held)) fits))

pub are_held : (number : ℕ) (tables : List TableContents) (live : LivePart) (t : TableContents) → live_fits live ≡ true → contents_with_id tables t.table.id ≡ Some t → is_sound_live number tables live ≡ true → AreHeld live.sessions tables t (standing live.held)
are_held number tables live t fits found sound = record {
  told = λ i h at. let both = pass i h at in told number tables live.sessions t found h (and_left (not (is_undone h.status)) (is_sound_change number tables live.sessions h) both) (and_right (not (is_undone h.status)) (is_sound_change number tables live.sessions h) both);
  rise = pairs_rise 0 (standing live.held) (standing_rises 0 live.held (rises_of live fits));
  behind = λ i h at.
      let both = pass i h at in
      behind_own number live.sessions h h.status (and_left (not (is_undone h.status)) (is_sound_change number tables live.sessions h) both)
      (and_left (is_placed number live.sessions h h.status) (is_sound_of number h (contents_with_id tables h.table))
      (and_right (nat_le h.number number) (is_placed number live.sessions h h.status && is_sound_of number h (contents_with_id tables h.table)) (and_right (not (is_undone h.status)) (is_sound_change number tables live.sessions h) both)));
  apart = two_apart tables live.sessions (standing live.held) (and_right (list_all (is_sound_change number tables live.sessions) live.held) (are_in_order tables live.sessions (standing live.held)) rest);
}
  where
    rest : (list_all (is_sound_change number tables live.sessions) live.held && are_in_order tables live.sessions (standing live.held)) ≡ true
    rest = and_right (are_sound_sessions number tables live.sessions) (list_all (is_sound_change number tables live.sessions) live.held && are_in_order tables live.sessions (standing live.held)) sound

    pass : (i : ℕ) (h : HeldChange) → slice_get (standing live.held) i ≡ Some h → (not (is_undone h.status) && is_sound_change number tables live.sessions h) ≡ true
    pass i h at =
        all_at (λ (x : HeldChange). not (is_undone x.status) && is_sound_change number tables live.sessions x) (standing live.held) i h
        (standing_pass (is_sound_change number tables live.sessions) live.held (and_left (list_all (is_sound_change number tables live.sessions) live.held) (are_in_order tables live.sessions (standing live.held)) rest)) at

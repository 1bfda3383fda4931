-- What is known of the changes of a live part that was read, where each is sound by itself.
use Rattle.std.proofs.Common.{◌≡◌, ℕ, zero, suc, ◌<◌, Bool, true, false, ◌&&◌, List, [], ◌∷◌, length, Some, refl, sym, ap, subst, ◌∙◌, arith}
use Rattle.std.specs.Prelude.{IfOk, Result, Ok, Err, nat_le, nat_lt, not, slice_get, if◌then◌else◌, ◌^◌}
use Rattle.std.specs.List.{list_all}
use Rattle.std.proofs.lemmas.Bool.Decides.{nat_tests}
use Rattle.common_lemmas.proofs.Booleans.{and_left, and_right, impossible}
use Rattle.common_lemmas.proofs.Options.{none_some, same_some}
use Rattle.database_state.specs.State.{Status, uncommitted, committed, undone, is_undone}
use Rattle.image_findings.specs.LiveFindings.{are_in_order, are_sound_sessions, begins_behind, begins_elsewhere, is_placed, is_sound_change, is_sound_live, is_sound_of}
use Rattle.image_findings.specs.TableContents.{TableContents, contents_with_id}
use Rattle.live_part.specs.LiveBytes.{LivePart, entry_of, held_fits, label_of, live_fits, number_of, rises, row_fits, session_fits, standing, status_fits}
use Rattle.live_part.specs.declared.reading.LoadedPart.{LoadedPart}
use Rattle.log_grammar.specs.EntryBytes.{entry_rest, has_spelling, kind_fits}
use Rattle.version_cleanup.specs.LiveSessions.{LiveState, transaction_in}
use Rattle.version_store.specs.HeldChanges.{HeldChange}
use Rattle.image_live.proofs.Pairs.{all_at}
use Rattle.image_live.specs.LoadedParts.{IsLoaded, has_sound_parts}
use Rattle.image_live.specs.Orders.{ArePlaced, HasSpelling, IsCommittedBehind}
use Rattle.image_live.specs.TablesRead.{AreTablesOf}
use Rattle.image_live.specs.declared.tables.ImageTables.{ImageTables}

-- ---- numbers rise

lower : (low more : ℕ) (held : List HeldChange) → low < more → rises number_of more held ≡ true → rises number_of low held ≡ true
lower low more [] lt all = refl
lower low more (h ∷ held) lt all = ap (λ b. b && rises number_of h.number held) (above low more h.number lt (and_left (nat_lt more h.number) (rises number_of h.number held) all)) ∙ and_right (nat_lt more h.number) (rises number_of h.number held) all
  where
    above : (low more number : ℕ) → low < more → nat_lt more number ≡ true → nat_lt low number ≡ true
    above low more number lt is = grind (arith, nat_tests)

less : (low number : ℕ) → nat_lt low number ≡ true → low < number
less low number is = grind (arith, nat_tests)

standing_rises : (low : ℕ) (held : List HeldChange) → rises number_of low held ≡ true → rises number_of low (standing held) ≡ true
standing_rises low [] all = refl
standing_rises low (h ∷ held) all = by (is_undone h.status) (standing_rises h.number held (and_right (nat_lt low h.number) (rises number_of h.number held) all))
  where
    first : nat_lt low h.number ≡ true
    first = and_left (nat_lt low h.number) (rises number_of h.number held) all

    by : (b : Bool) → rises number_of h.number (standing held) ≡ true → rises number_of low (if not b then h ∷ standing held else standing held) ≡ true
    by true rest = lower low h.number (standing held) (less low h.number first) rest
    by false rest = ap (λ b. b && rises number_of h.number (standing held)) first ∙ rest

above_all : (low : ℕ) (held : List HeldChange) (j : ℕ) (k : HeldChange) → rises number_of low held ≡ true → slice_get held j ≡ Some k → low < k.number
above_all low [] j k all at = none_some k at
above_all low (h ∷ held) zero k all at = subst (λ (x : HeldChange). low < x.number) (same_some h k at) (less low h.number (and_left (nat_lt low h.number) (rises number_of h.number held) all))
above_all low (h ∷ held) (suc j) k all at =
    let first : low < h.number = less low h.number (and_left (nat_lt low h.number) (rises number_of h.number held) all) in
    let rest : h.number < k.number = above_all h.number held j k (and_right (nat_lt low h.number) (rises number_of h.number held) all) at in
    omega (arith, first, rest)

pairs_rise : (low : ℕ) (held : List HeldChange) → rises number_of low held ≡ true → (i j : ℕ) (h k : HeldChange) → i < j → slice_get held i ≡ Some h → slice_get held j ≡ Some k → h.number < k.number
pairs_rise low [] all i j h k lt at_i at_j = none_some h at_i
pairs_rise low (x ∷ held) all i zero h k lt at_i at_j = absurd (omega (arith, lt))
pairs_rise low (x ∷ held) all zero (suc j) h k lt at_i at_j =
    subst (λ (y : HeldChange). y.number < k.number) (same_some x h at_i) (above_all x.number held j k (and_right (nat_lt low x.number) (rises number_of x.number held) all) at_j)
pairs_rise low (x ∷ held) all (suc i) (suc j) h k lt at_i at_j = pairs_rise x.number held (and_right (nat_lt low x.number) (rises number_of x.number held) all) i j h k (omega (arith, lt)) at_i at_j

-- ---- each change

-- what all pass, those that stand pass, and they stand
standing_pass : (p : HeldChange → Bool) (held : List HeldChange) → list_all p held ≡ true → list_all (λ (h : HeldChange). not (is_undone h.status) && p h) (standing held) ≡ true
standing_pass p [] all = refl
standing_pass p (h ∷ held) all = by (is_undone h.status) refl (standing_pass p held (and_right (p h) (list_all p held) all))
  where
    by : (b : Bool) → is_undone h.status ≡ b → list_all (λ (x : HeldChange). not (is_undone x.status) && p x) (standing held) ≡ true
        → list_all (λ (x : HeldChange). not (is_undone x.status) && p x) (if not b then h ∷ standing held else standing held) ≡ true
    by true e rest = rest
    by false e rest =
        ap (λ b. (not b && p h) && list_all (λ (x : HeldChange). not (is_undone x.status) && p x) (standing held)) e
        ∙ ap (λ b. b && list_all (λ (x : HeldChange). not (is_undone x.status) && p x) (standing held)) (and_left (p h) (list_all p held) all)
        ∙ rest

stands_so : (p : HeldChange → Bool) (held : List HeldChange) (place : ℕ) (h : HeldChange) → list_all p held ≡ true → slice_get (standing held) place ≡ Some h → (not (is_undone h.status) && p h) ≡ true
stands_so p held place h all at = all_at (λ (x : HeldChange). not (is_undone x.status) && p x) (standing held) place h (standing_pass p held all) at

behind_own : (number : ℕ) (sessions : List LiveState) (h : HeldChange) (status : Status) → not (is_undone status) ≡ true → is_placed number sessions h status ≡ true → IsCommittedBehind h.number status
behind_own number sessions h uncommitted stands placed = tt
behind_own number sessions h undone stands placed = impossible stands
behind_own number sessions h (committed at) stands placed =
    less h.number at (and_left (nat_lt h.number at) (nat_le at number) (and_left (nat_lt h.number at && nat_le at number) (begins_behind at (transaction_in h.session sessions) && list_all (λ (s : LiveState). begins_elsewhere at s.transaction) sessions) placed))

spelled_label : (h : HeldChange) → has_spelling (entry_of h) ≡ true → nat_le h.session 99 ≡ true
unfolding has_spelling
spelled_label h is = and_right (nat_le 1 h.session) (nat_le h.session 99) (and_left (nat_le 1 h.session && nat_le h.session 99) (kind_fits (entry_of h).kind && nat_lt (length (entry_rest (entry_of h))) (2 ^ 32)) is)

below_hundred : (label : ℕ) → nat_le label 99 ≡ true → label < 100
below_hundred label is = grind (arith, nat_tests)

few_labels : (h : HeldChange) → held_fits h ≡ true → h.session < 100
few_labels h fits =
    let levels : ((nat_le 1 h.level && nat_le h.level 7) && (status_fits h.status && (has_spelling (entry_of h) && row_fits h.before))) ≡ true = and_right (nat_lt h.number (2 ^ 64)) ((nat_le 1 h.level && nat_le h.level 7) && (status_fits h.status && (has_spelling (entry_of h) && row_fits h.before))) fits in
    let status : (status_fits h.status && (has_spelling (entry_of h) && row_fits h.before)) ≡ true = and_right (nat_le 1 h.level && nat_le h.level 7) (status_fits h.status && (has_spelling (entry_of h) && row_fits h.before)) levels in
    below_hundred h.session (spelled_label h (and_left (has_spelling (entry_of h)) (row_fits h.before) (and_right (status_fits h.status) (has_spelling (entry_of h) && row_fits h.before) status)))

-- ---- the part

rises_of : (live : LivePart) → live_fits live ≡ true → rises number_of 0 live.held ≡ true
rises_of live fits = and_left (rises number_of 0 live.held) (list_all held_fits live.held) (and_right (nat_lt (length live.held) (2 ^ 32)) (rises number_of 0 live.held && list_all held_fits live.held) (of_held live fits))
  where
    of_held : (live : LivePart) → live_fits live ≡ true → (nat_lt (length live.held) (2 ^ 32) && (rises number_of 0 live.held && list_all held_fits live.held)) ≡ true
    of_held live fits = and_right (nat_le (length live.sessions) 64 && (rises label_of 0 live.sessions && list_all session_fits live.sessions)) (nat_lt (length live.held) (2 ^ 32) && (rises number_of 0 live.held && list_all held_fits live.held)) fits

fits_of : (live : LivePart) → live_fits live ≡ true → list_all held_fits live.held ≡ true
fits_of live fits =
    and_right (rises number_of 0 live.held) (list_all held_fits live.held)
    (and_right (nat_lt (length live.held) (2 ^ 32)) (rises number_of 0 live.held && list_all held_fits live.held)
    (and_right (nat_le (length live.sessions) 64 && (rises label_of 0 live.sessions && list_all session_fits live.sessions)) (nat_lt (length live.held) (2 ^ 32) && (rises number_of 0 live.held && list_all held_fits live.held)) fits))

all_placed : (number : ℕ) (tables : List TableContents) (live : LivePart) → live_fits live ≡ true → list_all (is_sound_change number tables live.sessions) live.held ≡ true → ArePlaced (standing live.held)
all_placed number tables live fits sound = record {
  rise = pairs_rise 0 (standing live.held) (standing_rises 0 live.held (rises_of live fits));
  behind = λ place h at.
      let both : (not (is_undone h.status) && is_sound_change number tables live.sessions h) ≡ true = stands_so (is_sound_change number tables live.sessions) live.held place h sound at in
      behind_own number live.sessions h h.status (and_left (not (is_undone h.status)) (is_sound_change number tables live.sessions h) both)
      (and_left (is_placed number live.sessions h h.status) (is_sound_of number h (contents_with_id tables h.table)) (and_right (nat_le h.number number) (is_placed number live.sessions h h.status && is_sound_of number h (contents_with_id tables h.table)) (and_right (not (is_undone h.status)) (is_sound_change number tables live.sessions h) both)));
  labels = λ place h at. few_labels h (and_right (not (is_undone h.status)) (held_fits h) (stands_so held_fits live.held place h (fits_of live fits) at));
}

-- the sessions and changes of a part that are sound by themselves
abbrev pub PartsAre : ImageTables → LoadedPart → Bool → Type 0
PartsAre image part sound = (tables : List TableContents) (live : LivePart) → AreTablesOf image tables → IsLoaded live part → sound ≡ has_sound_parts image.number tables live

pub placed_of : (image : ImageTables) (part : LoadedPart) (tables : List TableContents) → AreTablesOf image tables → HasSpelling part → PartsAre image part true → ArePlaced part.versions
placed_of image part tables are spelled parts =
    subst ArePlaced spelled.loaded.versions
    (all_placed image.number tables spelled.live spelled.fits
    (and_right (are_sound_sessions image.number tables spelled.live.sessions) (list_all (is_sound_change image.number tables spelled.live.sessions) spelled.live.held) (sym (parts tables spelled.live are spelled.loaded))))

-- ---- the answer

abbrev pub LiveIs : ImageTables → LoadedPart → Bool → Type 0
LiveIs image part sound = (tables : List TableContents) (live : LivePart) → AreTablesOf image tables → IsLoaded live part → sound ≡ is_sound_live image.number tables live

front : (a b c : Bool) → (a && (b && c)) ≡ ((a && b) && c)
front true b c = refl
front false b c = refl

live_is : (image : ImageTables) (tables : List TableContents) (live : LivePart) (part : LoadedPart) → IsLoaded live part → is_sound_live image.number tables live ≡ (has_sound_parts image.number tables live && are_in_order tables part.sessions part.versions)
live_is image tables live part of =
    front (are_sound_sessions image.number tables live.sessions) (list_all (is_sound_change image.number tables live.sessions) live.held) (are_in_order tables live.sessions (standing live.held))
    ∙ ap (λ (s : List LiveState). has_sound_parts image.number tables live && are_in_order tables s (standing live.held)) of.sessions
    ∙ ap (λ (l : List HeldChange). has_sound_parts image.number tables live && are_in_order tables part.sessions l) of.versions

pub not_sound : (image : ImageTables) (part : LoadedPart) → PartsAre image part false → LiveIs image part false
not_sound image part parts tables live are of = sym (live_is image tables live part of ∙ ap (λ b. b && are_in_order tables part.sessions part.versions) (sym (parts tables live are of)))

pub by_order : {E : Type 0} (image : ImageTables) (part : LoadedPart) (r : Result Bool E) → PartsAre image part true → IfOk r (λ ordered. (tables : List TableContents) → AreTablesOf image tables → ordered ≡ are_in_order tables part.sessions part.versions)
    → IfOk r (LiveIs image part)
by_order image part (Ok ordered) parts is = λ tables live are of.
    is tables are ∙ sym (live_is image tables live part of ∙ ap (λ b. b && are_in_order tables part.sessions part.versions) (sym (parts tables live are of)))
by_order image part (Err fault) parts is = is

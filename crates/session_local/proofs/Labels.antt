-- Cursors by label.
use Rattle.std.proofs.Common.{◌≡◌, ℕ, ◌==◌, true, false, cond, List, [], ◌∷◌, map, find, Some, refl, sym, subst, if◌then◌else◌}
use Rattle.common_lemmas.proofs.Numbers.{self_equal}
use Rattle.session_local.specs.Local.{LocalState, OpenCursor, cursor_labelled, with_cursor}

abbrev put_at : ℕ → OpenCursor → List OpenCursor → List OpenCursor
put_at label new cursors = map (λ c. if c.label == label then new else c) cursors

found_after : (label : ℕ) (cursors : List OpenCursor) (new old : OpenCursor) → (new.label == label) ≡ true → find (λ c. c.label == label) cursors ≡ Some old → find (λ c. c.label == label) (put_at label new cursors) ≡ Some new
found_after label [] new old same found = cc
found_after label (x ∷ xs) new old same found =
    elim (x.label == label) as (λ b. (x.label == label) ≡ b → cond b (Some x) (find (λ c. c.label == label) xs) ≡ Some old → find (λ c. c.label == label) ((if b then new else x) ∷ put_at label new xs) ≡ Some new) [
      | true ↦ λ e h. rw same refl
      | false ↦ λ e h. rw e (found_after label xs new old same h)
    ] refl found

-- once a cursor is put in the place of the one with its label, that label finds it
pub cursor_labelled-with_cursor : (local : LocalState) (label : ℕ) (new old : OpenCursor) → new.label ≡ label → cursor_labelled local label ≡ Some old → cursor_labelled (with_cursor local new) label ≡ Some new
cursor_labelled-with_cursor local label new old same found =
    let P : ℕ → Type 0 = λ l. find (λ c. c.label == label) (put_at l new local.cursors) ≡ Some new in
    subst P (sym same) (found_after label local.cursors new old (rw same (self_equal label)) found)

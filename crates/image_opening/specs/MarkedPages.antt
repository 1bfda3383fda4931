-- Pages and their marks once trees are walked.
use Rattle.std.specs.Prelude.{◌≡◌, ℕ, suc, Bool, not, ◌&&◌, List, [], ◌∷◌, Option, Some, None, is_some, if◌then◌else◌}
use Rattle.page_space.specs.Frames.{Frames, page_at}
use Rattle.tree_check.specs.Marks.{copies, is_marked}

-- the least page, counted from a number, that is taken and has no mark
abbrev pub unmarked_from : ℕ → Frames → List Bool → Option ℕ
unmarked_from number [] marks = None
unmarked_from number (o ∷ frames) marks = if is_some o && not (is_marked marks number) then Some number else unmarked_from (suc number) frames marks

-- Each page that is taken is among these once, and no other is.
abbrev pub IsEachOnce : Frames → List ℕ → Type 0
IsEachOnce frames pages = (p : ℕ) → copies p pages ≡ (if is_some (page_at frames p) then 1 else 0)

-- Pages that were walked: which are marked, and that what stands on them are pages.
use Rattle.std.specs.Prelude.{ℕ, zero, suc, ◌<◌, ◌==◌, Bool, true, List, [], ◌∷◌, length, count_by, slice_index_or, slice_set, if◌then◌else◌}
use Rattle.page_image.specs.Page.{IsPage, node_at}
use Rattle.page_space.specs.Frames.{Frames}
use Rattle.btree_inplace.specs.Shape.{child_of, page_in}

-- whether the page of a number is marked; one past the last mark is
abbrev pub is_marked : List Bool → ℕ → Bool
is_marked marks page = slice_index_or marks page true

-- the marks with one for each page of a list
abbrev pub with_marks : List ℕ → List Bool → List Bool
with_marks [] marks = marks
with_marks (page ∷ list) marks = with_marks list (slice_set marks page true)

-- how often a page is in a list
abbrev pub copies : ℕ → List ℕ → ℕ
copies page list = count_by (λ p. p == page) list

-- 1 for a page that is marked, and 0 for any other
abbrev pub times_marked : List Bool → ℕ → ℕ
times_marked marks page = if is_marked marks page then 1 else 0

-- what stands on the pages down to a depth are pages
abbrev pub ArePages : ℕ → Frames → ℕ → Type 0
ArePages zero frames page = IsPage (page_in frames page)
ArePages (suc depth) frames page = IsPage (page_in frames page) × ((i : ℕ) → i < length (page_in frames page).nodes → ArePages depth frames (child_of (node_at (page_in frames page).nodes i)))

-- A space: for each page number the page, where it is taken.
use Rattle.std.specs.Prelude.{◌≡◌, ℕ, ◌<◌, ◌≤◌, Option, Some, None, List, [], ◌∷◌, ◌++◌, length, slice_index_or, slice_set, IsSome, All}
use Rattle.page_image.specs.Page.{PageContents}

abbrev pub Frames : Type 0
Frames = List (Option PageContents)

-- the page of a number, none where it is free or was never made
abbrev pub page_at : Frames → ℕ → Option PageContents
page_at frames page = slice_index_or frames page None

abbrev pub IsTaken : Frames → ℕ → Type 0
IsTaken frames page = IsSome (page_at frames page)

-- A page that was taken is a leaf with no node and bears its number.
abbrev pub empty_page : ℕ → PageContents
empty_page page = record { number = page; kind = 1; nodes = [] }

-- A free page is taken, or, where none is free, one more page.
pub record Takes (old : Frames) (page : ℕ) (new : Frames) : Type 0 where
  pub reused : page < length old → (page_at old page ≡ None) × (new ≡ slice_set old page (Some (empty_page page)))
  pub grown : length old ≤ page → (page ≡ length old) × All IsSome old × (new ≡ old ++ Some (empty_page page) ∷ [])

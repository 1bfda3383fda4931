-- What the fields of a space show, and what they keep.
use Rattle.std.specs.Prelude.{◌≡◌, ◌≢◌, ℕ, ◌≤◌, Bool, true, false, Some, None, List, [], ◌∷◌, length, slice_index_or, if◌then◌else◌, All, AllPairs, Box}
use Rattle.std.specs.Global.{Global}
use Rattle.std.specs.Vec.{vec_capacity}
use Rattle.page_image.specs.Page.{PageContents}
use Rattle.page_space.specs.Frames.{Frames}
use Rattle.page_space.specs.Free.{free_in}
use Rattle.page_space.specs.declared.TheConstants.{MAX_PAGES}
use Rattle.page_space.specs.declared.Space.TheInside.{Inside}

-- a page in a block of its own
abbrev pub PageBox : Type 0
PageBox = Box PageContents Global

-- each page with whether it is taken
abbrev pub frames_of : List PageBox → List Bool → Frames
frames_of [] taken = []
frames_of (p ∷ pages) [] = []
frames_of (p ∷ pages) (t ∷ taken) = (if t then Some p.value else None) ∷ frames_of pages taken

-- The free list has each free page once, and room for all pages.
pub record Keeps (pages : List PageBox) (taken : List Bool) (free : List ℕ) (capacity : ℕ) : Type 0 where
  pub same : length taken ≡ length pages
  pub are_free : All (λ page. slice_index_or taken page true ≡ false) free
  pub once : AllPairs (λ p q. p ≢ q) free
  pub all : length free ≡ free_in taken
  pub room : length pages ≤ capacity
  pub few : length pages ≤ MAX_PAGES

abbrev pub frames : Inside → Frames
frames a = frames_of a.pages.items a.taken.items

abbrev pub IsKept : Inside → Type 0
IsKept a = Keeps a.pages.items a.taken.items a.free.items (vec_capacity a.free)

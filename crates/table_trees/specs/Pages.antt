-- The pages of trees that share a space, by how often each page is among them.
use Rattle.std.specs.Prelude.{◌≡◌, ℕ, ◌+◌, ◌≤◌, ◌==◌, List, count_by, if◌then◌else◌, is_some}
use Rattle.page_space.specs.Frames.{Frames, page_at}

-- how often a page is among some
abbrev pub copies : ℕ → List ℕ → ℕ
copies page pages = count_by (λ p. p == page) pages

-- 1 for a page that is taken, and 0 for one that is free
abbrev pub times_taken : Frames → ℕ → ℕ
times_taken frames page = if is_some (page_at frames page) then 1 else 0

-- Each of these pages is taken, and is among them once.
abbrev pub AreOwn : Frames → List ℕ → Type 0
AreOwn frames pages = (p : ℕ) → copies p pages ≤ times_taken frames p

-- These are the pages of all trees, one tree's behind another's: no two trees have a page in common, and each page that is taken is one of a tree.
abbrev pub IsForest : Frames → List ℕ → Type 0
IsForest frames pages = (p : ℕ) → copies p pages ≡ times_taken frames p

-- What had the pages before has the pages after: those that it lost are free, those that it won were free, and all others are as they were.
pub record Rearranges (old new : Frames) (before after : List ℕ) : Type 0 where
  pub balance : (p : ℕ) → copies p after + times_taken old p ≡ copies p before + times_taken new p
  pub others : (p : ℕ) → copies p before ≡ 0 → copies p after ≡ 0 → page_at new p ≡ page_at old p

-- A change of pages leaves each thing that has none of them: it is as it should be, shows the same, and has the same pages.
abbrev pub OthersStay : {X V : Type 0} → (Frames → X → Type 0) → (Frames → X → List ℕ) → (Frames → X → V) → Type 0
OthersStay {X} IsGood pages shown =
    (old new : Frames) (before after : List ℕ) (x : X) → Rearranges old new before after → IsGood old x → ((p : ℕ) → copies p (pages old x) + copies p before ≤ times_taken old p)
    → IsGood new x × (shown new x ≡ shown old x) × (pages new x ≡ pages old x)

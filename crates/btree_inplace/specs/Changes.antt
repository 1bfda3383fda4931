-- A change at one key, in one leaf of a tree.
use Rattle.std.specs.Prelude.{◌≡◌, ◌≢◌, ℕ, ◌<◌, ◌⊎◌, List, [], ◌∷◌, ◌++◌, length, map, not, filter, find, is_some, All, if◌then◌else◌}
use Rattle.std.specs.Ordering.{nat_cmp, is_lt}
use Rattle.std.specs.Cmp.Lexicographic.{slice_cmp}
use Rattle.page_image.specs.Page.{Node, IsBelow, node_at}
use Rattle.page_space.specs.Frames.{Frames, page_at}
use Rattle.btree_inplace.specs.Order.{has_key}
use Rattle.btree_inplace.specs.Shape.{IsSubtree, entries, pages}

-- the nodes with other data under a key
abbrev pub with_data_at : List Node → List ℕ → List ℕ → List Node
with_data_at nodes key value = map (λ n. if has_key key n then record n { «data» = value } else n) nodes

-- the nodes with another extent under a key
abbrev pub with_extent_at : List Node → List ℕ → ℕ → List Node
with_extent_at nodes key extent = map (λ n. if has_key key n then record n { extent = extent } else n) nodes

-- the nodes with one more, behind those with lower keys
abbrev pub inserted : List Node → Node → List Node
inserted [] node = node ∷ []
inserted (n ∷ nodes) node = if is_lt (slice_cmp nat_cmp n.key node.key) then n ∷ inserted nodes node else node ∷ n ∷ nodes

-- the nodes with one more, where its key is not there
abbrev pub inserted_if_absent : List Node → Node → List Node
inserted_if_absent nodes node = if is_some (find (has_key node.key) nodes) then nodes else inserted nodes node

-- the nodes without the one that has a key
abbrev pub without_key : List Node → List ℕ → List Node
without_key nodes key = filter (λ n. not (has_key key n)) nodes

-- all pages but one stay
abbrev pub StayBut : Frames → Frames → ℕ → Type 0
StayBut old new leaf = (p : ℕ) → p ≢ leaf → page_at new p ≡ page_at old p

-- A change at a key leaves what is below the key and what is above it.
abbrev pub IsLocal : (List Node → List Node) → List ℕ → Type 0
IsLocal change key = (a b c : List Node) → All (λ e. IsBelow e.key key) a → All (λ e. IsBelow key e.key) c → change (a ++ (b ++ c)) ≡ a ++ (change b ++ c)

-- the key itself, or the key of a node that was there
abbrev pub IsOldKey : List ℕ → List Node → Node → Type 0
IsOldKey key old e = (e.key ≡ key) ⊎ ((k : ℕ) × (k < length old) × ((node_at old k).key ≡ e.key))

-- below a page the list has changed so, and the pages are the same
pub record Changed (change : List Node → List Node) (key : List ℕ) (depth : ℕ) (old new : Frames) (page : ℕ) : Type 0 where
  pub shape : IsSubtree depth new page
  pub nodes : entries depth new page ≡ change (entries depth old page)
  pub same : pages depth new page ≡ pages depth old page
  pub keys : All (IsOldKey key (entries depth old page)) (entries depth new page)
  pub some : 0 < length (entries depth new page)

-- Spaces for worked examples.
use Rattle.std.specs.Prelude.{ℕ, zero, suc, false, Bool, Option, Some, List, [], ◌∷◌, map}
use Rattle.byteorder.specs.Endian.{little_bytes}
use Rattle.page_image.specs.Page.{Node, PageContents}
use Rattle.page_space.specs.Frames.{Frames}

abbrev pub leaf : ℕ → List Node → Option PageContents
leaf number nodes = Some (record { number = number; kind = 1; nodes = nodes })

abbrev pub inner : ℕ → List Node → Option PageContents
inner number nodes = Some (record { number = number; kind = 2; nodes = nodes })

-- a node of a leaf, with a key of one byte
abbrev pub entry : ℕ → Node
entry key = record { key = key ∷ []; extent = 1; «data» = 0 ∷ [] }

-- a node of an inner page
abbrev pub child : List ℕ → ℕ → Node
child key page = record { key = key; extent = 4; «data» = little_bytes 4 page }

-- no page is marked
abbrev pub no_marks : Frames → List Bool
no_marks frames = map (λ o. false) frames

-- A root with two leaves: the second has the keys from 5 on.
abbrev pub two_leaves : Option PageContents → Option PageContents → Frames
two_leaves first second = inner 0 (child [] 1 ∷ child (5 ∷ []) 2 ∷ []) ∷ first ∷ second ∷ []

abbrev pub lower_leaf : Option PageContents
lower_leaf = leaf 1 (entry 1 ∷ entry 4 ∷ [])

abbrev pub upper_leaf : Option PageContents
upper_leaf = leaf 2 (entry 5 ∷ entry 9 ∷ [])

-- so many inner pages one below the other, and a leaf below them
abbrev pub chain_from : ℕ → ℕ → Frames
chain_from number zero = leaf number (entry 1 ∷ []) ∷ []
chain_from number (suc more) = inner number (child [] (suc number) ∷ []) ∷ chain_from (suc number) more

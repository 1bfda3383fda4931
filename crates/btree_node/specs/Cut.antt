-- Where an inner page leads a key, and where a full page is cut.
use Rattle.std.specs.Prelude.{ℕ, ◌+◌, ◌<◌, ◌≤◌, List, length, map, sum, take, drop, insert}
use Rattle.page_image.specs.declared.spelling.TheConstants.{PAGE_BYTES}
use Rattle.page_image.specs.Page.{Node, IsBelow, node_at, node_size}

-- A key belongs to the last child whose key is not above it.
pub record IsChildPlace (nodes : List Node) (key : List ℕ) (i : ℕ) : Type 0 where
  pub within : i < length nodes
  pub lower : ¬ IsBelow key (node_at nodes i).key
  pub upper : i + 1 < length nodes → IsBelow key (node_at nodes (i + 1)).key

-- how much each node takes once a new one of this size stands at place i
abbrev pub sizes_with : List Node → ℕ → ℕ → List ℕ
sizes_with nodes i need = insert (map node_size nodes) i need

-- The first m of the nodes with the new one fit on a page, the others on another, and neither part is empty.
pub record IsCut (nodes : List Node) (i need m : ℕ) : Type 0 where
  pub first : 0 < m
  pub last : m ≤ length nodes
  pub left : 32 + sum (take m (sizes_with nodes i need)) ≤ PAGE_BYTES
  pub right : 32 + sum (drop m (sizes_with nodes i need)) ≤ PAGE_BYTES

-- On either side of the cut stands a node other than the new one, so that no part is empty before that one is put in.
pub record PartsNodes (nodes : List Node) (i m : ℕ) : Type 0 where
  pub first : 0 < m
  pub first_other : i < m → 1 < m
  pub last : m ≤ length nodes
  pub last_other : m ≤ i → m < length nodes

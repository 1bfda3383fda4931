-- The least of some bookmarks.
use Rattle.std.specs.Prelude.{ℕ, ◌==◌, Bool, ◌&&◌, is_none, List, filter, map, Option, Some, None}
use Rattle.std.specs.Ordering.{nat_cmp}
use Rattle.std.specs.Cmp.Lexicographic.{slice_cmp}
use Rattle.std.specs.FinMap.Entries.{by_order}
use Rattle.btree_inplace.specs.Order.{get_in}
use Rattle.page_image.specs.Page.{Node}
use Rattle.version_store.specs.HeldChanges.{HeldChange}

-- the lesser of a bookmark and another one, if there is one
abbrev pub lesser : List ℕ → Option (List ℕ) → List ℕ
lesser bookmark None = bookmark
lesser bookmark (Some other) = by_order (slice_cmp nat_cmp bookmark other) bookmark other other

-- whether a held change is one of the table, of a record that has no node
abbrev pub is_missing : ℕ → List Node → HeldChange → Bool
is_missing table nodes h = (h.table == table) && is_none (get_in nodes h.bookmark)

-- the bookmarks of these changes
abbrev pub missing : ℕ → List Node → List HeldChange → List (List ℕ)
missing table nodes held = map (λ (h : HeldChange). h.bookmark) (filter (is_missing table nodes) held)

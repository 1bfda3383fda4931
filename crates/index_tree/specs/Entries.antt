-- The entries of an index as nodes, and the plain list of them.
use Rattle.std.specs.Prelude.{◌≡◌, ℕ, ◌≤◌, ◌<◌, Bool, true, false, List, [], ◌++◌, length, take, drop, replicate, if◌then◌else◌, All, AllPairs}
use Rattle.std.specs.Ordering.{nat_cmp, is_ge, is_lt}
use Rattle.std.specs.Cmp.Lexicographic.{slice_cmp}
use Rattle.byteorder.specs.Endian.{little_bytes, little_number}
use Rattle.page_image.specs.Page.{Node}
use Rattle.cursor_nav.specs.Places.{Pair, pair_lt}
use Rattle.laws_versions.specs.KeptEntries.{has_entry}
use Rattle.index_derive.specs.Entries.{insert_entry}
use Rattle.index_tree.specs.declared.parts.TheConstants.{MAX_BEHIND_BYTES, MAX_PART_BYTES}

-- The key of a node is an entry's key with its bookmark behind it, and the data tells how long the entry's key is, in two bytes, the lowest first.
abbrev pub node_of_entry : Pair → Node
node_of_entry entry = record { key = entry.0 ++ entry.1; extent = 2; «data» = little_bytes 2 (length entry.0) }

abbrev pub entry_of_node : Node → Pair
entry_of_node n = (take (little_number 2 n.data) n.key, drop (little_number 2 n.data) n.key)

-- A key and a bookmark have at most MAX_PART_BYTES each, numbers below 256.
pub record IsShort (entry : Pair) : Type 0 where
  pub key : length entry.0 ≤ MAX_PART_BYTES
  pub bookmark : length entry.1 ≤ MAX_PART_BYTES
  pub bytes : All (λ byte. byte < 256) entry.1

-- Two keys are equal, or neither of them begins the other.
pub record IsApart (key other : List ℕ) : Type 0 where
  pub begins_not : (rest : List ℕ) → other ≡ key ++ rest → rest ≡ []
  pub begun_not : (rest : List ℕ) → key ≡ other ++ rest → rest ≡ []

abbrev pub IsApartFromAll : List ℕ → List Pair → Type 0
IsApartFromAll key entries = All (λ entry. IsApart key entry.0) entries

abbrev pub AreApart : List Pair → Type 0
AreApart entries = AllPairs (λ one other. IsApart one.0 other.0) entries

-- the entries with one more in its place, where it is not there
abbrev pub insert_entry_if_absent : Pair → List Pair → List Pair
insert_entry_if_absent entry entries = if has_entry entry.0 entry.1 entries then entries else insert_entry entry entries

-- ---- look-ups

-- a bookmark above those of all entries with a key, or below them
abbrev pub gap_bookmark : Bool → List ℕ
gap_bookmark true = replicate MAX_BEHIND_BYTES 255
gap_bookmark false = []

-- The nodes with keys below this one are those of the entries below the pair.
abbrev pub CutsAt : List ℕ → Pair → List Pair → Type 0
CutsAt node_key pair entries = All (λ entry. is_lt (slice_cmp nat_cmp (entry.0 ++ entry.1) node_key) ≡ pair_lt entry pair) entries

-- whether an entry's node is not below a key
abbrev pub is_at_or_after : List ℕ → Pair → Bool
is_at_or_after key entry = is_ge (slice_cmp nat_cmp (entry.0 ++ entry.1) key)

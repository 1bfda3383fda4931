-- An image as plain data, and what can be wrong with one.
use Rattle.std.specs.Prelude.{ℕ, List, [], ◌∷◌, Option, Some, None, option_map}
use Rattle.std.specs.Option.{option_or}
use Rattle.index_derive.specs.Entries.{sorted_keys}
use Rattle.page_space.specs.Frames.{Frames}

-- The number of log entries, the pages by number, the page number of the catalog's root, and the bytes of the live part.
pub record ImageContents : Type 0 where
  pub number : ℕ
  pub pages : Frames
  pub catalog_root : ℕ
  pub live : List ℕ

-- What is wrong: a page that is in use and in no tree, or in two; a page at which a tree is none; the catalog; a row or its node; the
-- live part; an entry of an index that is stored and not wanted, or wanted and not stored; a key of a unique index that two records
-- have; and a long value that is not whole, or whose count is another. Tables and indexes are told by their names.
pub data Finding : Type 0 where
  Pages : (page : ℕ) → Finding
  Tree : (root page : ℕ) → Finding
  Catalog : Finding
  Row : (table bookmark : List ℕ) → Finding
  Live : Finding
  Index : (table index key : List ℕ) → (have want : ℕ) → Finding
  Unique : (table index key : List ℕ) → Finding
  Long : (entry place have want : ℕ) → Finding

-- the first of some findings
abbrev pub first_of : List (Option Finding) → Option Finding
first_of [] = None
first_of (found ∷ others) = option_or found (first_of others)

-- ---- the least of some byte strings

abbrev pub first_key : List (List ℕ) → Option (List ℕ)
first_key [] = None
first_key (key ∷ keys) = Some key

abbrev pub least_key : List (List ℕ) → Option (List ℕ)
least_key keys = first_key (sorted_keys keys)

-- the finding at the least of some byte strings
abbrev pub at_least_key : (List ℕ → Finding) → List (List ℕ) → Option Finding
at_least_key found keys = option_map found (least_key keys)

-- What the look-ups of a sorted list of nodes answer.
use Rattle.std.specs.Prelude.{◌≡◌, ℕ, Bool, true, false, Option, List, find, reverse}
use Rattle.std.specs.Option.{option_map}
use Rattle.std.specs.Ordering.{nat_cmp, is_eq, is_lt, is_le, is_gt, is_ge}
use Rattle.std.specs.Cmp.Lexicographic.{slice_cmp}
use Rattle.page_image.specs.Page.{Node, IsBelow}

abbrev pub has_key : List ℕ → Node → Bool
has_key key n = is_eq (slice_cmp nat_cmp n.key key)

abbrev pub is_from : List ℕ → Node → Bool
is_from key n = is_ge (slice_cmp nat_cmp n.key key)

abbrev pub is_upto : List ℕ → Node → Bool
is_upto key n = is_le (slice_cmp nat_cmp n.key key)

abbrev pub is_above : List ℕ → Node → Bool
is_above key n = is_gt (slice_cmp nat_cmp n.key key)

abbrev pub is_under : List ℕ → Node → Bool
is_under key n = is_lt (slice_cmp nat_cmp n.key key)

-- a test that every node above a key passes, and none below it
pub record PassesAbove (test : Node → Bool) (key : List ℕ) : Type 0 where
  pub below : (n : Node) → IsBelow n.key key → test n ≡ false
  pub above : (n : Node) → IsBelow key n.key → test n ≡ true

-- a test that every node below a key passes, and none above it
pub record PassesBelow (test : Node → Bool) (key : List ℕ) : Type 0 where
  pub below : (n : Node) → IsBelow n.key key → test n ≡ true
  pub above : (n : Node) → IsBelow key n.key → test n ≡ false

-- the key and the data of a node
abbrev pub key_and_data : Node → List ℕ × List ℕ
key_and_data n = (n.key, n.data)

-- the data of the node with a key
abbrev pub get_in : List Node → List ℕ → Option (List ℕ)
get_in nodes key = option_map (λ (n : Node). n.data) (find (has_key key) nodes)

-- how many bytes are kept for the data of the node with a key
abbrev pub extent_in : List Node → List ℕ → Option ℕ
extent_in nodes key = option_map (λ (n : Node). n.extent) (find (has_key key) nodes)

-- the first node whose key is not below a key
abbrev pub at_or_after_in : List Node → List ℕ → Option (List ℕ × List ℕ)
at_or_after_in nodes key = option_map key_and_data (find (is_from key) nodes)

-- the last node whose key is not above a key
abbrev pub at_or_before_in : List Node → List ℕ → Option (List ℕ × List ℕ)
at_or_before_in nodes key = option_map key_and_data (find (is_upto key) (reverse nodes))

-- the first node whose key is above a key
abbrev pub after_in : List Node → List ℕ → Option (List ℕ × List ℕ)
after_in nodes key = option_map key_and_data (find (is_above key) nodes)

-- the last node whose key is below a key
abbrev pub before_in : List Node → List ℕ → Option (List ℕ × List ℕ)
before_in nodes key = option_map key_and_data (find (is_under key) (reverse nodes))

-- the first node
abbrev pub first_in : List Node → Option (List ℕ × List ℕ)
first_in nodes = option_map key_and_data (find (λ _. true) nodes)

-- the last node
abbrev pub last_in : List Node → Option (List ℕ × List ℕ)
last_in nodes = option_map key_and_data (find (λ _. true) (reverse nodes))

-- The nodes that bytes are read as have bytes.
use Rattle.std.proofs.Common.{ℕ, zero, suc, ◌+◌, List, take, drop, arith, inl, inr}
use Rattle.std.specs.List.{AllByRecursion}
use Rattle.std.proofs.lemmas.Bool.{cases_lt}
use Rattle.std.proofs.lemmas.List.{length-take, get_or-drop, get_or-take, get_or_past}
use Rattle.byteorder.specs.Endian.{little_number}
use Rattle.page_image.specs.Page.{AreBytes, Node}
use Rattle.page_image.specs.Reading.{contents_of, front_node, front_size, nodes_in}

AreBytes-drop : (n : ℕ) (bytes : List ℕ) → AreBytes bytes → AreBytes (drop n bytes)
AreBytes-drop n bytes h i = rw get_or-drop (h (n + i))

AreBytes-take : (n : ℕ) (bytes : List ℕ) → AreBytes bytes → AreBytes (take n bytes)
AreBytes-take n bytes h i =
    elim (cases_lt i n) [
      | inl lt ↦ rw (get_or-take n bytes i 0 lt) (h i)
      | inr le ↦ rw (get_or_past (take n bytes) i 0 (omega (arith, length-take n bytes))) (omega arith)
    ]

keys_in : (count : ℕ) (bytes : List ℕ) → AreBytes bytes → AllByRecursion (λ (n : Node). AreBytes n.key) (nodes_in count bytes)
unfolding nodes_in front_node
keys_in zero bytes h = tt
keys_in (suc count) bytes h = (
  AreBytes-take (little_number 2 bytes) (drop 6 bytes) (AreBytes-drop 6 bytes h),
  keys_in count (drop (front_size bytes) bytes) (AreBytes-drop (front_size bytes) bytes h),
)

values_in : (count : ℕ) (bytes : List ℕ) → AreBytes bytes → AllByRecursion (λ (n : Node). AreBytes n.data) (nodes_in count bytes)
unfolding nodes_in front_node
values_in zero bytes h = tt
values_in (suc count) bytes h = (
  AreBytes-take (little_number 2 (drop 2 bytes)) (drop (6 + little_number 2 bytes) bytes) (AreBytes-drop (6 + little_number 2 bytes) bytes h),
  values_in count (drop (front_size bytes) bytes) (AreBytes-drop (front_size bytes) bytes h),
)

-- the keys and the data of what bytes are read as
pub keys_of : (bytes : List ℕ) → AreBytes bytes → AllByRecursion (λ (n : Node). AreBytes n.key) (contents_of bytes).nodes
unfolding contents_of
keys_of bytes h = keys_in (little_number 2 (drop 14 bytes)) (drop 32 bytes) (AreBytes-drop 32 bytes h)

pub values_of : (bytes : List ℕ) → AreBytes bytes → AllByRecursion (λ (n : Node). AreBytes n.data) (contents_of bytes).nodes
unfolding contents_of
values_of bytes h = values_in (little_number 2 (drop 14 bytes)) (drop 32 bytes) (AreBytes-drop 32 bytes h)

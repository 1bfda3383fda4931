-- Long values as a map with counts, and the nodes that the map has in its tree.
use Rattle.std.specs.Prelude.{◌≡◌, ℕ, zero, suc, ◌+◌, ◌*◌, ◌/◌, ◌≤◌, ◌<◌, ◌==◌, ◌-◌, true, not, Option, None, List, [], ◌∷◌, ◌++◌, length, take, drop, find, if◌then◌else◌, unwrap_or, All}
use Rattle.std.specs.Option.{option_map}
use Rattle.std.specs.Ordering.{nat_cmp, eq_by_cmp}
use Rattle.std.specs.Cmp.Lexicographic.{slice_cmp}
use Rattle.std.specs.FinMap.Entries as entries
use Rattle.std.specs.declared.cmp.Ordering.{Ordering}
use Rattle.byteorder.specs.Endian.{big_bytes, little_bytes}
use Rattle.page_image.specs.Page.{Node}
use Rattle.btree_inplace.specs.Changes.{inserted, without_key}
use Rattle.btree_inplace.specs.Order.{has_key}
use Rattle.long_value.specs.declared.chunks.TheConstants.{CHUNK_BYTES, MAX_REFERENCES, MAX_VALUE_BYTES, MIN_VALUE_BYTES}

-- A long value has a count of references and its bytes.
pub record LongValue : Type 0 where
  pub count : ℕ
  pub bytes : List ℕ

abbrev pub order : List ℕ → List ℕ → Ordering
order = slice_cmp nat_cmp

-- A map has each value under its identifier: twelve bytes, those of the entry and of the place, the highest first. They rise.
abbrev pub Values : Type 0
Values = List (List ℕ × LongValue)

abbrev pub value_of : List ℕ → Values → Option LongValue
value_of id values = entries.find order id values

abbrev pub put_value : List ℕ → LongValue → Values → Values
put_value id value values = entries.put order id value values

abbrev pub without_value : List ℕ → Values → Values
without_value id values = entries.where_key order (λ k. not (eq_by_cmp order id k)) values

-- the map with one reference less to a value, which is gone with its last one
abbrev pub released : List ℕ → LongValue → Values → Values
released id value values =
    if value.count == 1 then without_value id values else put_value id (record value { count = value.count - 1 }) values

-- the map with one reference more to a value that is there
abbrev pub with_reference : List ℕ → Values → Values
with_reference id values = unwrap_or (option_map (λ (value : LongValue). put_value id (record value { count = suc value.count }) values) (value_of id values)) values

-- the map with one reference less to a value that is there
abbrev pub without_reference : List ℕ → Values → Values
without_reference id values = unwrap_or (option_map (λ (value : LongValue). released id value values) (value_of id values)) values

-- A value has MIN_VALUE_BYTES to MAX_VALUE_BYTES and 1 to MAX_REFERENCES references.
pub record IsLong (row : List ℕ × LongValue) : Type 0 where
  pub id : length row.0 ≡ 12
  pub long : MIN_VALUE_BYTES ≤ length row.1.bytes
  pub short : length row.1.bytes ≤ MAX_VALUE_BYTES
  pub counted : 1 ≤ row.1.count
  pub few : row.1.count ≤ MAX_REFERENCES

pub record AreLong (values : Values) : Type 0 where
  pub in_order : entries.is_sorted order values ≡ true
  pub whole : All IsLong values

-- ---- nodes

-- the key of a chunk of a value
abbrev pub chunk_key : List ℕ → ℕ → List ℕ
chunk_key id chunk = id ++ big_bytes 4 chunk

-- how many chunks so many bytes make
abbrev pub chunk_count : ℕ → ℕ
chunk_count size = (size + (CHUNK_BYTES - 1)) / CHUNK_BYTES

-- the bytes of a chunk, counted from 0: 1,024, fewer in the last one
abbrev pub chunk_of : List ℕ → ℕ → List ℕ
chunk_of bytes k = take CHUNK_BYTES (drop (CHUNK_BYTES * k) bytes)

-- A chunk of bytes is a node; the head, before the first one, tells the count and the length, the lowest byte first.
abbrev pub chunk_node : List ℕ → List ℕ → ℕ → Node
chunk_node id bytes k = record { key = chunk_key id (suc k); extent = length (chunk_of bytes k); «data» = chunk_of bytes k }

abbrev pub head_data : LongValue → List ℕ
head_data value = little_bytes 4 value.count ++ little_bytes 4 (length value.bytes)

abbrev pub head_node : List ℕ → LongValue → Node
head_node id value = record { key = chunk_key id 0; extent = 8; «data» = head_data value }

-- the nodes with those of the first chunks of a value, each in its place
abbrev pub with_chunks : List ℕ → List ℕ → ℕ → List Node → List Node
with_chunks id bytes zero nodes = nodes
with_chunks id bytes (suc k) nodes = inserted (with_chunks id bytes k nodes) (chunk_node id bytes k)

-- the nodes with those of one more value
abbrev pub with_value : List ℕ → LongValue → List Node → List Node
with_value id value nodes =
    inserted (with_chunks id value.bytes (chunk_count (length value.bytes)) nodes) (head_node id value)

-- the nodes of a map of values
abbrev pub nodes_of_values : Values → List Node
nodes_of_values [] = []
nodes_of_values (row ∷ values) = with_value row.0 row.1 (nodes_of_values values)

-- the nodes without those of the first chunks of a value
abbrev pub without_chunks : List ℕ → ℕ → List Node → List Node
without_chunks id zero nodes = nodes
without_chunks id (suc k) nodes = without_key (without_chunks id k nodes) (chunk_key id (suc k))

-- No node is of the value.
abbrev pub LacksValue : List ℕ → List Node → Type 0
LacksValue id nodes = (k : ℕ) → k < 4294967296 → find (has_key (chunk_key id k)) nodes ≡ None

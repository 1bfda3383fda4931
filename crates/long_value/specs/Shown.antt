-- The long values that nodes show.
use Rattle.std.specs.Prelude.{ℕ, zero, suc, Bool, List, [], ◌∷◌, ◌++◌, take, drop, if◌then◌else◌, unwrap_or}
use Rattle.std.specs.Ordering.{eq_by_cmp}
use Rattle.byteorder.specs.Endian.{big_bytes, little_number}
use Rattle.page_image.specs.Page.{Node}
use Rattle.page_space.specs.Frames.{Frames}
use Rattle.btree_inplace.specs.Order.{get_in}
use Rattle.btree_inplace.specs.Trees.{nodes_of}
use Rattle.long_value.specs.Values.{LongValue, Values, chunk_count, chunk_key, order, put_value}
use Rattle.long_value.specs.declared.values.LongValues.{LongValues}

-- the identifier that begins the key of a node
abbrev pub id_of : Node → List ℕ
id_of n = take 12 n.key

-- whether a node is the head of a value: its chunk is 0
abbrev pub is_head : Node → Bool
is_head n = eq_by_cmp order (drop 12 n.key) (big_bytes 4 0)

-- the bytes of the first chunks of a value
abbrev pub bytes_in : List ℕ → ℕ → List Node → List ℕ
bytes_in id zero nodes = []
bytes_in id (suc k) nodes = bytes_in id k nodes ++ unwrap_or (get_in nodes (chunk_key id (suc k))) []

-- the value of a head among nodes
abbrev pub value_at : List Node → Node → LongValue
value_at nodes head = record { count = little_number 4 head.data; bytes = bytes_in (id_of head) (chunk_count (little_number 4 (drop 4 head.data))) nodes }

-- the values of those heads that stand in a list
abbrev pub values_of_heads : List Node → List Node → Values
values_of_heads nodes [] = []
values_of_heads nodes (n ∷ rest) = if is_head n then put_value (id_of n) (value_at nodes n) (values_of_heads nodes rest) else values_of_heads nodes rest

-- the values whose heads and chunks are among nodes
abbrev pub shown_values : List Node → Values
shown_values nodes = values_of_heads nodes nodes

-- the values that the tree of a store shows
abbrev pub values_in : Frames → LongValues → Values
values_in frames store = shown_values (nodes_of frames store.tree)

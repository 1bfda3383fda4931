-- Long values of which the first bytes can be read.
use Rattle.std.specs.Prelude.{◌≡◌, List, ℕ, take, Some, IfSome}
use Rattle.btree_inplace.specs.Order.{get_in}
use Rattle.long_value.specs.Shown.{shown_values}
use Rattle.long_value.specs.Values.{LongValue, chunk_key, value_of}
use Rattle.long_value.specs.declared.chunks.TheConstants.{CHUNK_BYTES}
use Rattle.page_image.specs.Page.{Node}

-- The first bytes of a value are the data of its first chunk.
abbrev pub HasFirstPart : List Node → List ℕ → LongValue → Type 0
HasFirstPart nodes id value = get_in nodes (chunk_key id 1) ≡ Some (take CHUNK_BYTES value.bytes)

-- So it is of each value that the nodes show, whatever its count is.
abbrev pub HaveFirstParts : List Node → Type 0
HaveFirstParts nodes = (id : List ℕ) → IfSome (value_of id (shown_values nodes)) (HasFirstPart nodes id)

-- A pass over the nodes of long values, by rising key, that finds the first value that is not whole.
use Rattle.std.specs.Prelude.{ℕ, suc, ◌==◌, ◌-◌, ◌+◌, ◌≤◌, Bool, ◌&&◌, nat_le, List, ◌++◌, fold, length, min, drop, Option, Some, None, bytes_eq, if◌then◌else◌, ⊤}
use Rattle.byteorder.specs.Endian.{little_bytes, little_number}
use Rattle.image_findings.specs.CatalogFindings.{is_same_node}
use Rattle.image_findings.specs.ValueFindings.{entry_in, has_long_length}
use Rattle.image_contents.specs.declared.values.whole.Progress.{Progress}
use Rattle.image_contents.specs.declared.values.whole.Progress.TheVariants as progress
use Rattle.long_value.specs.Shown.{id_of}
use Rattle.long_value.specs.Values.{chunk_key}
use Rattle.long_value.specs.declared.chunks.TheConstants.{CHUNK_BYTES}
use Rattle.page_image.specs.Page.{Node}

-- each value so far is whole; the last one lacks its chunks from one on, of so many bytes; or a value is not whole
pub data Pass : Type 0 where
  whole : Pass
  lacks : (id : List ℕ) (chunk left : ℕ) → Pass
  broken : (id : List ℕ) → Pass

abbrev pub pass_of : Progress → Pass
pass_of progress.Whole = whole
pass_of (progress.Lacks id chunk left) = lacks id.now chunk left
pass_of (progress.Broken id) = broken id.now

-- ---- heads

-- the length that a head tells
abbrev pub size_in : Node → ℕ
size_in n = little_number 4 (drop 4 n.data)

-- a head with the count and the length that a node tells
abbrev pub told_head : Node → Node
told_head n = record { key = chunk_key (id_of n) 0; extent = 8; «data» = little_bytes 4 (little_number 4 n.data) ++ little_bytes 4 (size_in n) }

-- whether a node is the head of a value of an entry that was made
abbrev pub is_sound_head : ℕ → Node → Bool
is_sound_head number n = (nat_le 1 (entry_in (id_of n)) && nat_le (entry_in (id_of n)) number) && (has_long_length n && is_same_node (told_head n) n)

-- ---- chunks

-- whether a node is a chunk of a value that lacks so many bytes from it on
abbrev pub is_chunk : List ℕ → ℕ → ℕ → Node → Bool
is_chunk id chunk left n = bytes_eq n.key (chunk_key id chunk) && ((n.extent == length n.data) && (length n.data == min CHUNK_BYTES left))

abbrev pub behind_chunk : List ℕ → ℕ → ℕ → Pass
behind_chunk id chunk left = if nat_le left CHUNK_BYTES then whole else lacks id (suc chunk) (left - CHUNK_BYTES)

-- ---- the pass

abbrev pub passed : ℕ → Pass → Node → Pass
passed number whole n = if is_sound_head number n then lacks (id_of n) 1 (size_in n) else broken (id_of n)
passed number (lacks id chunk left) n = if is_chunk id chunk left n then behind_chunk id chunk left else broken id
passed number (broken id) n = broken id

abbrev pub all_passed : ℕ → Pass → List Node → Pass
all_passed number pass nodes = fold (passed number) pass nodes

-- the value that the pass found, or that it ends in
abbrev pub found_by : Pass → Option (List ℕ)
found_by whole = None
found_by (lacks id chunk left) = Some id
found_by (broken id) = Some id

-- the chunks and bytes that are lacked are those of a value
abbrev pub IsWithin : Pass → Type 0
IsWithin whole = ⊤
IsWithin (lacks id chunk left) = chunk + left ≤ 1048577
IsWithin (broken id) = ⊤

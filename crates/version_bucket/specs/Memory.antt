-- What a bucket owns, and what a `&` to it reaches.
use Rattle.std.specs.Prelude.{ℕ, ◌+◌, ◌-◌, List, length}
use base.Fraction.{full_share}
use base.Fml.{Lft, Fml, ffalse, fsep, froom}
use mir.Syntax.{Ty, ty_array, ty_int, w8}
use denote.Builtin.{u8}
use denote.Index.{row}
use denote.RawPtr.{Ptr, block_ptr, null_ptr}
use denote.Sharing.{said}
use denote.Slice.{elements_shared}
use Rattle.std.specs.declared.alloc.Global.{Global}
use Rattle.std.specs.contracts.impls.GlobalAllocator.TheImpl.{ghosts}

-- every handle of the heap is this one
abbrev pub handle : Global
handle = record { memory = record { seal = tt } }

-- the right to free the block at the pointer
abbrev pub may_free : Ty → Ptr → Fml
may_free = ghosts.dealloc_token handle

-- n bytes
abbrev pub bytes_type : ℕ → Ty
bytes_type n = ty_array (ty_int w8) n

-- the bytes that were written, room for the rest, and the right to give the block back
abbrev pub bucket_owns : Ptr → List ℕ → Fml
bucket_owns (block_ptr b o) bytes = fsep (row u8 full_share bytes b o) (fsep (froom (bytes_type (65536 - length bytes)) b (o + length bytes)) (may_free (bytes_type 65536) (block_ptr b o)))
bucket_owns null_ptr bytes = ffalse

abbrev pub bucket_lends : Ptr → List ℕ → Lft → Fml
bucket_lends (block_ptr b o) bytes = elements_shared u8 bytes b o
bucket_lends null_ptr bytes = said ffalse

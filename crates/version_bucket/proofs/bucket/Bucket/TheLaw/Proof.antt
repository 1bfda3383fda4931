-- A `&` to a bucket reaches the bytes that were written. Assumes `Logic`.
use Prim.Native.Nat.{ℕ, ◌+◌, ◌-◌}
use lib.ListN.{length}
use mathlib.Core.List.{List, [], ◌∷◌}
use seplogic.Ra.Ura.{Ura}
use base.Fraction.{full_share}
use base.Fml.{Lft, ftrue, ffalse, fsep, froom}
use mir.Syntax.{w8}
use types.Logic.{Logic}
use denote.Builtin.{u8}
use denote.Index.{row}
use denote.Memory.{part_at, shared_of}
use denote.Plain.{uint_row_laws}
use denote.RawPtr.{Ptr, block_ptr, null_ptr}
use denote.Sharing.{ShrLaws, said}
use denote.SharingLaws.{said_shr_laws}
use denote.Shares.{Shares}
use denote.Slice.{elements_shared, elements_shr_laws}
use denote.Param.Shared.{copy_shared}
use denote.Struct.Field.{RawPtr-field, u8-field}
use denote.Struct.Laws.{RawPtr-copy, u8-copy}
use denote.Struct.Lending.{Lends, Lends-both, Lends-nothing, Lends-first, Lends-false, of_Lends}
use Rattle.version_bucket.specs.Memory.{bytes_type, may_free, bucket_owns, bucket_lends}
use Rattle.version_bucket.specs.contracts.bucket.Bucket as C
use Rattle.version_bucket.proofs.bucket.Bucket.TheLaw.Statement.{statement}

lends_laws : (p : Ptr) (bytes : List ℕ) → ShrLaws (bucket_lends p bytes)
lends_laws (block_ptr b o) bytes = elements_shr_laws u8 (uint_row_laws w8) bytes b o
lends_laws null_ptr bytes = said_shr_laws ffalse tt

module _ {M : Type 1} {𝓤 : Ura M} (𝓛 : Logic 𝓤) (l : Lft) (s : Shares 𝓛 u8 l) where
  Lends-bytes : (bytes : List ℕ) (b o : ℕ) → Lends 𝓛 (row u8 full_share bytes b o) (elements_shared u8 bytes b o) l
  Lends-bytes [] b o = Lends-nothing 𝓛 ftrue l
  Lends-bytes (x ∷ xs) b o =
      Lends-both 𝓛 (part_at u8 full_share x b o) (row u8 full_share xs b (o + 1)) (shared_of u8 x b o) (elements_shared u8 xs b (o + 1)) l (λ κ ts. s x κ ts b o) (Lends-bytes xs b (o + 1))

  Lends-bucket : (p : Ptr) (bytes : List ℕ) → Lends 𝓛 (bucket_owns p bytes) (bucket_lends p bytes) l
  Lends-bucket (block_ptr b o) bytes =
      Lends-first 𝓛 (row u8 full_share bytes b o) (fsep (froom (bytes_type (65536 - length bytes)) b (o + length bytes)) (may_free (bytes_type 65536) (block_ptr b o))) (elements_shared u8 bytes b o) l (Lends-bytes bytes b o)
  Lends-bucket null_ptr bytes = Lends-false 𝓛 (said ffalse) l

pub shares : statement
shares =
    of_Lends C.struct C.the_codes C.the_heap C.the_lent (λ d p. lends_laws d.start d.bytes) (copy_shared RawPtr-field RawPtr-copy, tt)
    (λ M 𝓤 𝓛 d p. Lends-bucket 𝓛 (C.the_row).lives ((copy_shared u8-field u8-copy).shares M 𝓤 𝓛) d.start d.bytes)

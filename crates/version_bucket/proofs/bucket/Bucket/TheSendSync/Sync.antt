-- A `&` to a bucket reaches plain bytes.
use Rattle.std.proofs.Common.{ℕ, ◌+◌, List, [], ◌∷◌}
use denote.Builtin.{u8}
use denote.Param.Send.{IsSync, Common, struct_sync, sendable}
use denote.RawPtr.{Ptr, block_ptr, null_ptr}
use denote.Slice.{elements_shared}
use denote.Struct.Owning.{shape, to}
use Rattle.version_bucket.specs.Memory.{bucket_lends}
use Rattle.version_bucket.specs.contracts.bucket.Bucket.{the_row, the_type}

plain : IsSync u8
plain = search sendable

bytes_common : (bytes : List ℕ) (b o : ℕ) → Common (elements_shared u8 bytes b o)
bytes_common [] b o κ = tt
bytes_common (x ∷ xs) b o κ = (plain.shared x b o κ, bytes_common xs b (o + 1) κ)

bucket_common : (p : Ptr) (bytes : List ℕ) → Common (bucket_lends p bytes)
bucket_common (block_ptr b o) bytes κ = bytes_common bytes b o κ
bucket_common null_ptr bytes κ = tt

pub sync : IsSync the_row
sync = record { shared = λ d b o κ. ((struct_sync (shape the_type) (search sendable, tt)).shared (to the_type d) b o κ, bucket_common d.start d.bytes κ) }

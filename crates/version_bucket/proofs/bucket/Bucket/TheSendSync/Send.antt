-- A bucket's bytes are plain, and the heap frees its block on any thread.
use Rattle.std.proofs.Common.{ℕ, ◌+◌, List, [], ◌∷◌}
use base.Fraction.{full_share}
use base.Shift.{Keyless}
use denote.Builtin.{u8}
use denote.Index.{row}
use denote.Param.Send.{IsSend, part_keyless, owning_send, sendable}
use denote.RawPtr.{Ptr, block_ptr, null_ptr}
use Rattle.std.proofs.Crossing as crossing
use Rattle.version_bucket.specs.Memory.{handle, bytes_type, bucket_owns}
use Rattle.version_bucket.specs.contracts.bucket.Bucket.{the_row, the_type}

bytes_keyless : (bytes : List ℕ) (b o : ℕ) → Keyless (row u8 full_share bytes b o)
bytes_keyless [] b o = tt
bytes_keyless (x ∷ xs) b o = (part_keyless u8 (search sendable) full_share x b o, bytes_keyless xs b (o + 1))

bucket_keyless : (p : Ptr) (bytes : List ℕ) → Keyless (bucket_owns p bytes)
bucket_keyless (block_ptr b o) bytes = (bytes_keyless bytes b o, (tt, crossing.frees.frees handle (bytes_type 65536) (block_ptr b o)))
bucket_keyless null_ptr bytes = tt

pub send : IsSend the_row
send = owning_send the_type (search sendable, tt) (λ d. bucket_keyless d.start d.bytes) (λ k x w. tt)

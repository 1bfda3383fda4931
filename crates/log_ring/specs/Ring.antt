-- What a ring in memory knows of the log.
use Rattle.std.specs.Prelude.{◌≡◌, ◌<◌, ℕ, List, Result, Ok, Err}
use Rattle.jet_volume.specs.declared.files.LogStart.{LogStart}
use Rattle.jet_volume.specs.Image.{Image}
use Rattle.log_ring.specs.declared.ring.LogRing.{LogRing}
use Rattle.log_ring.specs.declared.fault.RingFault.{RingFault}
use Rattle.log_ring.specs.declared.fault.RingFault.TheVariants.{NoRoom, VolumeFault}
use Rattle.log_ring.specs.declared.fault.ScanFault.{ScanFault}
use Rattle.log_ring.specs.declared.fault.ScanFault.TheVariants.{OutOfMemory}
use Rattle.log_ring.specs.declared.fault.ScanFault.TheVariants as scan
use Rattle.log_ring.specs.Ready.{IsReady}
use Rattle.log_ring.specs.Writes.{LogIs}

-- the end of a ring: where the next block goes, if it fits there
abbrev pub ring_end : LogRing → LogStart
ring_end ring = ring.end

-- the generation of the standing checkpoint
abbrev pub ring_standing : LogRing → ℕ
ring_standing ring = ring.standing

-- A crash leaves of the log just what a read gives. It can be appended to at the ring's end, and from that place of the
-- standing checkpoint's generation on it gives this stream.
pub record IsRingOf {V : Type 0} (seen : V → Image) (moment : V → ℕ) (left_at : V → ℕ → Image → Type 0) (volume : V) (ring : LogRing) (from : LogStart) (stream : List ℕ) : Type 0 where
  pub log : List ℕ
  pub is : LogIs seen moment left_at volume log
  pub ready : IsReady log from stream (ring_end ring)
  pub standing : ring_standing ring ≡ from.generation

-- a fault of the volume comes only where its count of faults rose; every other answer leaves the count
abbrev pub CountsRingFault : {T : Type 0} → Result T RingFault → ℕ → ℕ → Type 0
CountsRingFault (Ok value) before now = now ≡ before
CountsRingFault (Err NoRoom) before now = now ≡ before
CountsRingFault (Err VolumeFault) before now = before < now

-- the same of a scan
abbrev pub CountsScanFault : {T : Type 0} → Result T ScanFault → ℕ → ℕ → Type 0
CountsScanFault (Ok value) before now = now ≡ before
CountsScanFault (Err OutOfMemory) before now = now ≡ before
CountsScanFault (Err scan.VolumeFault) before now = before < now

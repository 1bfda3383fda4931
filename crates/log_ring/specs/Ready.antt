-- When a log can be appended to.
use Rattle.std.specs.Prelude.{◌≡◌, ℕ, ◌+◌, ◌<◌, true, List}
use Rattle.jet_volume.specs.declared.files.LogStart.{LogStart}
use Rattle.log_ring.specs.Blocks.{Scans, address}
use Rattle.log_ring.specs.Gates.{is_barred, IsClosed}

-- The log scans from that place to the end, the generation after the end's is barred, and the gate at the end is closed,
-- unless the end is the beginning of a generation.
pub record IsReady (log : List ℕ) (from : LogStart) (stream : List ℕ) (end : LogStart) : Type 0 where
  pub scans : Scans log from stream end
  pub barred : is_barred (end.generation + 1) log ≡ true
  pub closed : 0 < end.offset → IsClosed (address end) log

-- Calls that change nothing leave what a crash may leave as it was.
use Rattle.std.proofs.Common.{ℕ}
use Rattle.jet_volume.specs.Image.{Image}
use Rattle.jet_volume.specs.Crash.{CrashLeaves, Elapses, LeavesOnly}
use Rattle.jet_volume.specs.Moments.{started, goes_on, goes_on_by, leaves_weaker, leaves_now}

module _ {V : Type 0} (moment : V → ℕ) (left_at : V → ℕ → Image → Type 0) where
  -- no call
  pub quiet_none : (volume : V) → LeavesOnly moment left_at volume volume (left_at volume (moment volume))
  quiet_none volume = started moment left_at volume (left_at volume (moment volume)) (λ image left. left)

  -- one call
  pub quiet_call : (old new : V) → Elapses moment left_at old new → CrashLeaves moment left_at new (left_at old (moment old)) → LeavesOnly moment left_at old new (left_at old (moment old))
  quiet_call old new time crash = goes_on moment left_at old old new (left_at old (moment old)) (quiet_none old) time crash

  -- one after the other
  pub quiet_more : (old mid new : V) → LeavesOnly moment left_at old mid (left_at old (moment old)) → LeavesOnly moment left_at mid new (left_at mid (moment mid)) → LeavesOnly moment left_at old new (left_at old (moment old))
  quiet_more old mid new one two =
      goes_on_by moment left_at old mid new (left_at old (moment old)) one
      (leaves_weaker moment left_at mid new (left_at mid (moment mid)) (left_at old (moment old)) (λ image left. leaves_now moment left_at old mid (left_at old (moment old)) one image left) two)

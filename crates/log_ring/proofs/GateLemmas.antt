-- Logs with a generation barred or a gate closed.
use Rattle.std.proofs.Common.{◌≡◌, ℕ, Bool, true, false, List, [], ◌∷◌, if◌then◌else◌, take, drop, ap}
use Rattle.jet_volume.specs.Crash.{written}
use Rattle.log_ring.specs.Blocks.{slot_start}
use Rattle.log_ring.specs.Gates.{is_barred, barred, needs_zero, closed}

pub barred_already : (generation : ℕ) (log : List ℕ) → is_barred generation log ≡ true → barred generation log ≡ log
barred_already generation log test = ap (λ (b : Bool). if b then log else written (slot_start generation) (0 ∷ []) log) test

pub barred_anew : (generation : ℕ) (log : List ℕ) → is_barred generation log ≡ false → barred generation log ≡ written (slot_start generation) (0 ∷ []) log
barred_anew generation log test = ap (λ (b : Bool). if b then log else written (slot_start generation) (0 ∷ []) log) test

pub closed_anew : (counts : Bool) (at : ℕ) (log : List ℕ) → needs_zero counts (take 1 (drop at log)) ≡ true → closed counts at log ≡ written at (0 ∷ []) log
closed_anew counts at log test = ap (λ (b : Bool). if b then written at (0 ∷ []) log else log) test

pub closed_already : (counts : Bool) (at : ℕ) (log : List ℕ) → needs_zero counts (take 1 (drop at log)) ≡ false → closed counts at log ≡ log
closed_already counts at log test = ap (λ (b : Bool). if b then written at (0 ∷ []) log else log) test

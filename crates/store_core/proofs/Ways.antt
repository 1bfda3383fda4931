-- The calls of a store one after the other, at each moment.
use Rattle.std.proofs.Common.{◌≡◌, inl, inr, ⊎_elim, ℕ, ◌+◌, List, [], ◌++◌, Option, Some, refl, ap}
use Rattle.jet_volume.specs.declared.files.LogStart.{LogStart}
use Rattle.jet_volume.specs.Image.{Image as Files}
use Rattle.jet_volume.specs.Crash.{LeavesOnly}
use Rattle.jet_volume.specs.Moments.{goes_on_by, leaves_weaker}
use Rattle.checkpoint.specs.declared.image.Image.{Image}
use Rattle.store_core.specs.Stands.{Checkpoint, Stands, StandsBeforeOrAfter, StandsOldOrNew}
use Rattle.store_core.specs.Store.{checkpoint_of}
use Rattle.store_core.specs.Runs.{StandsOnTheWay, IsNext}

-- the image with any log start at a position
pub some_next : (image : Image) (number position : ℕ) → (next : Checkpoint) × IsNext image number position next
some_next image number position =
    let start : LogStart = record { generation = 0; offset = 0; position = position } in
    (checkpoint_of (number + 1) start image, record { start = start; position_is = refl; is = refl })

-- the image with the end of the log
pub next_of : (image : Image) (number position old_number : ℕ) (end : LogStart) → number ≡ old_number → end.position ≡ position → IsNext image old_number position (checkpoint_of (number + 1) end image)
next_of image number position old_number end same at = record { start = end; position_is = at; is = ap (λ (n : ℕ). checkpoint_of (n + 1) end image) same }

module _ {V : Type 0} (moment : V → ℕ) (left_at : V → ℕ → Files → Type 0) (checkpoint : Option Checkpoint) (stream first : List ℕ) (next : Checkpoint) (second : List ℕ) where
  abbrev OnTheWay : Files → Type 0
  OnTheWay = StandsOnTheWay checkpoint stream first next second

  pub way_sealed : (v0 v1 : V) → LeavesOnly moment left_at v0 v1 (Stands checkpoint stream) → LeavesOnly moment left_at v0 v1 OnTheWay
  way_sealed v0 v1 seals = leaves_weaker moment left_at v0 v1 (Stands checkpoint stream) OnTheWay (λ files stands. inl (inl stands)) seals

  pub way_flushed : (v0 v1 v2 : V) → LeavesOnly moment left_at v0 v1 OnTheWay → LeavesOnly moment left_at v1 v2 (StandsBeforeOrAfter checkpoint stream first) → LeavesOnly moment left_at v0 v2 OnTheWay
  way_flushed v0 v1 v2 so_far flushes =
      goes_on_by moment left_at v0 v1 v2 OnTheWay so_far (leaves_weaker moment left_at v1 v2 (StandsBeforeOrAfter checkpoint stream first) OnTheWay (λ files stands. inl stands) flushes)

  pub way_written : (v0 v1 v2 : V) → LeavesOnly moment left_at v0 v1 OnTheWay → LeavesOnly moment left_at v1 v2 (StandsOldOrNew checkpoint (stream ++ first) next) → LeavesOnly moment left_at v0 v2 OnTheWay
  way_written v0 v1 v2 so_far writes =
      goes_on_by moment left_at v0 v1 v2 OnTheWay so_far
      (leaves_weaker moment left_at v1 v2 (StandsOldOrNew checkpoint (stream ++ first) next) OnTheWay
      (λ files stands. ⊎_elim (λ (old : Stands checkpoint (stream ++ first) files). inl (inr old)) (λ (new : Stands (Some next) [] files). inr (inl new)) stands) writes)

  pub way_ended : (v0 v1 v2 : V) → LeavesOnly moment left_at v0 v1 OnTheWay → LeavesOnly moment left_at v1 v2 (StandsBeforeOrAfter (Some next) [] second) → LeavesOnly moment left_at v0 v2 OnTheWay
  way_ended v0 v1 v2 so_far flushes =
      goes_on_by moment left_at v0 v1 v2 OnTheWay so_far (leaves_weaker moment left_at v1 v2 (StandsBeforeOrAfter (Some next) [] second) OnTheWay (λ files stands. inr stands) flushes)

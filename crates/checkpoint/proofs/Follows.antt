-- How the steps of a run of volume calls compose.
use Rattle.std.proofs.Common.{ℕ}
use Rattle.jet_volume.specs.Image.{Image}
use Rattle.jet_volume.specs.Crash.{CrashLeaves, CrashFollows, Elapses}
use Rattle.jet_volume.specs.Moments.{started, goes_on, goes_on_by, leaves_weaker, leaves_now}
use Rattle.checkpoint.specs.Steps.{EachFollows}

module _ {V : Type 0} (moment : V → ℕ) (left_at : V → ℕ → Image → Type 0) where
  -- before the first call
  pub follows_none : (volume : V) (step : Image → Image → Type 0) → ((image : Image) → step image image) → EachFollows moment left_at step volume volume
  follows_none volume step same =
      started moment left_at volume (λ image. (before : Image) × left_at volume (moment volume) before × step before image) (λ image left. (image, left, same image))

  -- one call more that changes something
  pub follows_call : (old mid new : V) (step next : Image → Image → Type 0) → EachFollows moment left_at step old mid → Elapses moment left_at mid new
      → CrashFollows moment left_at next mid new → ((a b c : Image) → step a b → next b c → step a c) → EachFollows moment left_at step old new
  follows_call old mid new step next so_far time crash then =
      goes_on moment left_at old mid new (λ image. (before : Image) × left_at old (moment old) before × step before image) so_far time
      (λ image left.
      let from = crash image left in
      let was = leaves_now moment left_at old mid (λ i. (before : Image) × left_at old (moment old) before × step before i) so_far from.0 from.1 in
      (was.0, was.1, then was.0 from.0 image was.2 from.2))

  -- one call more that changes nothing
  pub follows_quiet : (old mid new : V) (step : Image → Image → Type 0) → EachFollows moment left_at step old mid → Elapses moment left_at mid new
      → CrashLeaves moment left_at new (left_at mid (moment mid)) → EachFollows moment left_at step old new
  follows_quiet old mid new step so_far time crash =
      goes_on moment left_at old mid new (λ image. (before : Image) × left_at old (moment old) before × step before image) so_far time
      (λ image left. leaves_now moment left_at old mid (λ i. (before : Image) × left_at old (moment old) before × step before i) so_far image (crash image left))

  -- a function more, with a step of its own, of which it is known what it may start from
  pub follows_more : (old mid new : V) (step next : Image → Image → Type 0) → EachFollows moment left_at step old mid → EachFollows moment left_at next mid new
      → ((a b c : Image) → left_at old (moment old) a → left_at mid (moment mid) b → step a b → next b c → step a c) → EachFollows moment left_at step old new
  follows_more old mid new step next so_far more then =
      let P : Image → Type 0 = λ image. (before : Image) × left_at old (moment old) before × step before image in
      goes_on_by moment left_at old mid new P so_far
      (leaves_weaker moment left_at mid new (λ image. (before : Image) × left_at mid (moment mid) before × next before image) P
      (λ image from.
      let was = leaves_now moment left_at old mid P so_far from.0 from.1 in
      (was.0, was.1, then was.0 from.0 image was.1 from.1 was.2 from.2)) more)

  -- a step that is one of another kind, too
  pub follows_weaker : (old new : V) (step next : Image → Image → Type 0) → EachFollows moment left_at step old new
      → ((a b : Image) → left_at old (moment old) a → step a b → next a b) → EachFollows moment left_at next old new
  follows_weaker old new step next so_far weaker =
      leaves_weaker moment left_at old new (λ image. (before : Image) × left_at old (moment old) before × step before image)
      (λ image. (before : Image) × left_at old (moment old) before × next before image)
      (λ image from. (from.0, from.1, weaker from.0 image from.1 from.2)) so_far

  -- a crash now follows as well
  pub follows_now : (old new : V) (step : Image → Image → Type 0) → EachFollows moment left_at step old new → (image : Image) → left_at new (moment new) image
      → (before : Image) × left_at old (moment old) before × step before image
  follows_now old new step so_far image left = leaves_now moment left_at old new (λ i. (before : Image) × left_at old (moment old) before × step before i) so_far image left

  -- one step and another, which together are a third
  pub follows_into : (old mid new : V) (step next both : Image → Image → Type 0) → EachFollows moment left_at step old mid → EachFollows moment left_at next mid new
      → ((a b : Image) → left_at old (moment old) a → step a b → both a b) → ((a b c : Image) → left_at old (moment old) a → left_at mid (moment mid) b → step a b → next b c → both a c)
      → EachFollows moment left_at both old new
  follows_into old mid new step next both so_far more now then =
      let P : Image → Type 0 = λ image. (before : Image) × left_at old (moment old) before × both before image in
      goes_on_by moment left_at old mid new P (follows_weaker old mid step both so_far now)
      (leaves_weaker moment left_at mid new (λ image. (before : Image) × left_at mid (moment mid) before × next before image) P
      (λ image from.
      let was = follows_now old mid step so_far from.0 from.1 in
      (was.0, was.1, then was.0 from.0 image was.1 from.1 was.2 from.2)) more)

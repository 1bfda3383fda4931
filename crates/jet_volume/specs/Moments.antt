-- How crash clauses compose over a run of calls, for every volume.
use Rattle.std.specs.Prelude.{◌⊎◌, ◌<◌, ◌≤◌, ℕ}
use Rattle.std.proofs.Common.{inl, inr, ⊎_elim, subst, arith}
use Rattle.std.proofs.Math.Nat.{le_antisymm}
use Rattle.std.proofs.lemmas.Bool.{cases_lt}
use Rattle.jet_volume.specs.Image.{Image}
use Rattle.jet_volume.specs.Crash.{CrashLeaves, LeftBetween, LeftSince, Elapses, LeavesOnly}

module _ {V : Type 0} (moment : V → ℕ) (left_at : V → ℕ → Image → Type 0) where
  -- this moment is one of those since an earlier one
  pub counts_now : (volume : V) (t : ℕ) (image : Image) → t ≤ moment volume → left_at volume (moment volume) image → LeftSince moment left_at volume t image
  counts_now volume t image le left = record { at = moment volume; since = le; by_then = omega arith; left = left }

  -- since this moment there is no other
  pub only_now : (volume : V) (image : Image) → LeftSince moment left_at volume (moment volume) image → left_at volume (moment volume) image
  only_now volume image now = subst (λ k. left_at volume k image) (le_antisymm now.by_then now.since) now.left

  -- an image of a moment since t is one of a moment from t to u, or one of a moment since u
  pub splits : (volume : V) (t u : ℕ) (image : Image) → t ≤ u → LeftSince moment left_at volume t image
      → LeftBetween moment left_at volume t u image ⊎ LeftSince moment left_at volume u image
  splits volume t u image le since = ⊎_elim
      (λ (lt : since.at < u). inl (record { at = since.at; since = since.since; by_then = omega (arith, lt); left = since.left }))
      (λ (ge : u ≤ since.at). inr (record { at = since.at; since = ge; by_then = since.by_then; left = since.left }))
      (cases_lt since.at u)

  -- before the first call
  pub started : (volume : V) (P : Image → Type 0) → CrashLeaves moment left_at volume P → LeavesOnly moment left_at volume volume P
  started volume P here = record {
    later = omega arith;
    each = λ image left. here image (only_now volume image left);
    before = λ k image lt left. left;
  }

  -- one call of the volume more, after which a crash leaves what has P
  pub goes_on : (old mid new : V) (P : Image → Type 0) → LeavesOnly moment left_at old mid P → Elapses moment left_at mid new
      → CrashLeaves moment left_at new P → LeavesOnly moment left_at old new P
  goes_on old mid new P so_far time here = record {
    later = omega (arith, so_far.later, time.later);
    each = λ image left. ⊎_elim
        (λ (lt : left.at < moment mid). so_far.each image (record { at = left.at; since = left.since; by_then = omega (arith, lt); left = time.no_more left.at image lt left.left }))
        (λ (ge : moment mid ≤ left.at). ⊎_elim (λ was. so_far.each image (counts_now mid (moment old) image so_far.later was)) (here image)
        (time.inside left.at image ge left.by_then left.left))
        (cases_lt left.at (moment mid));
    before = λ k image lt left. so_far.before k image lt (time.no_more k image (omega (arith, lt, so_far.later)) left);
  }

  -- a function of the volume more, with a clause of its own
  pub goes_on_by : (old mid new : V) (P : Image → Type 0) → LeavesOnly moment left_at old mid P → LeavesOnly moment left_at mid new P → LeavesOnly moment left_at old new P
  goes_on_by old mid new P so_far next = record {
    later = omega (arith, so_far.later, next.later);
    each = λ image left. ⊎_elim
        (λ (lt : left.at < moment mid). so_far.each image (record { at = left.at; since = left.since; by_then = omega (arith, lt); left = next.before left.at image lt left.left }))
        (λ (ge : moment mid ≤ left.at). next.each image (record { at = left.at; since = ge; by_then = left.by_then; left = left.left }))
        (cases_lt left.at (moment mid));
    before = λ k image lt left. so_far.before k image lt (next.before k image (omega (arith, lt, so_far.later)) left);
  }

  -- what has P has Q
  pub leaves_weaker : (old new : V) (P Q : Image → Type 0) → ((image : Image) → P image → Q image) → LeavesOnly moment left_at old new P → LeavesOnly moment left_at old new Q
  leaves_weaker old new P Q weaker leaves = record { later = leaves.later; each = λ image left. weaker image (leaves.each image left); before = leaves.before }

  -- a crash now is one of those since the old volume
  pub leaves_now : (old new : V) (P : Image → Type 0) → LeavesOnly moment left_at old new P → CrashLeaves moment left_at new P
  leaves_now old new P leaves image left = leaves.each image (counts_now new (moment old) image leaves.later left)

  -- later calls change no image of the moments before
  pub between_stays : (old new : V) (t u : ℕ) (image : Image) → Elapses moment left_at old new → u < moment old
      → LeftBetween moment left_at new t u image → LeftBetween moment left_at old t u image
  between_stays old new t u image time lt left =
      record { at = left.at; since = left.since; by_then = left.by_then; left = time.no_more left.at image (omega (arith, lt, left.by_then)) left.left }

  -- and lose none of them
  pub between_kept : (old new : V) (t u : ℕ) (image : Image) → Elapses moment left_at old new → u ≤ moment old
      → LeftBetween moment left_at old t u image → LeftBetween moment left_at new t u image
  between_kept old new t u image time le left =
      record { at = left.at; since = left.since; by_then = left.by_then; left = time.no_fewer left.at image (omega (arith, le, left.by_then)) left.left }

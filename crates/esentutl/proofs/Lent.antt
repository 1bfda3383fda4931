-- A volume that was lent: what is told of the one that borrowed it holds of the volume.
use Rattle.std.proofs.Common.{◌≡◌, ap, subst, ℕ, List}
use Rattle.std.specs.Borrow.{MutBor}
use Rattle.database_state.specs.State.{DatabaseState}
use Rattle.jet_volume.specs.Image.{Image as Files}
use Rattle.jet_volume.specs.Crash.{LeavesOnly}
use Rattle.recovered_states.specs.Recovers.{Recovers}
use Rattle.esentutl.specs.declared.words.RunOptions.{RunOptions}
use Rattle.esentutl.specs.TopCall.{Outside, Ending, EndsBy}
use Rattle.esentutl.specs.Volumes.{volume_side}
use Rattle.esentutl.proofs.Weaker.{Tells, weaker}

module _ (tells : Type 0) {V : Type 0} (seen : V → Files) (moment : V → ℕ) (left_at : V → ℕ → Files → Type 0) where
  leaves_lent : (lent back : MutBor V) (Has : Files → Type 0) → LeavesOnly (λ (v : MutBor V). moment v.now) (λ (v : MutBor V) (k : ℕ) (image : Files). left_at v.now k image) lent back Has
      → LeavesOnly moment left_at lent.now back.now Has
  leaves_lent lent back Has leaves = record {
    later = leaves.later;
    each = λ image left. leaves.each image (record { at = left.at; since = left.since; by_then = left.by_then; left = left.left });
    before = leaves.before;
  }

  tells_lent : (lent back : MutBor V)
      → Tells (volume_side tells (λ (v : MutBor V). seen v.now) (λ (v : MutBor V). moment v.now) (λ (v : MutBor V) (k : ℕ) (image : Files). left_at v.now k image) lent back) (volume_side tells seen moment left_at lent.now back.now)
  tells_lent lent back = record {
    recovers = λ state known. known;
    stands = λ checkpoint stream known. known;
    refuses = λ why known. known;
    accepts = λ known. known;
    since = λ Has known tell settled. leaves_lent lent back Has (known tell settled);
    now = λ Has known tell settled. known tell settled;
    checkpoints = λ count known tell settled. known tell settled;
    is_unwritten = λ known. record { read = known.read; any_moment = leaves_lent lent back (left_at lent.now (moment lent.now)) known.any_moment };
    is_unused = λ same. ap (λ (v : MutBor V). v.now) same;
    stays = λ known state recovers tell settled. leaves_lent lent back (λ files. Recovers files state) (known state recovers tell settled);
  }

  pub ends_lent : (options : RunOptions) (o : V → Outside) (lent back : MutBor V) (new : V) (opening : DatabaseState) (text : List ℕ) (ending : Ending) → back.now ≡ new
      → EndsBy options (o back.now) (volume_side tells (λ (v : MutBor V). seen v.now) (λ (v : MutBor V). moment v.now) (λ (v : MutBor V) (k : ℕ) (image : Files). left_at v.now k image) lent back) opening text ending
      → EndsBy options (o new) (volume_side tells seen moment left_at lent.now new) opening text ending
  ends_lent options o lent back new opening text ending same ends =
      subst (λ (v : V). EndsBy options (o v) (volume_side tells seen moment left_at lent.now v) opening text ending) same
      (weaker options (o back.now) _ (volume_side tells seen moment left_at lent.now back.now) opening text ending (tells_lent lent back) ends)

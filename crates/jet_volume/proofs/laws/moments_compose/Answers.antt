use Rattle.jet_volume.specs.Moments.{counts_now, only_now, splits, between_stays, between_kept}
use Rattle.jet_volume.proofs.laws.moments_compose.Goals as goal

pub returns : goal.returns
returns g c = record {
  this_moment_counts = counts_now g.V.Volume.moment g.V.Volume.left_at;
  no_other_since = only_now g.V.Volume.moment g.V.Volume.left_at;
  splits = splits g.V.Volume.moment g.V.Volume.left_at;
  stays = between_stays g.V.Volume.moment g.V.Volume.left_at;
  kept = between_kept g.V.Volume.moment g.V.Volume.left_at;
}

use Rattle.store_core.proofs.Crashes.{opened_stands, writable_opened}
use Rattle.store_core.proofs.laws.opened_stores_stand.Goals as goal

pub returns : goal.returns
returns g c = record {
  stands = opened_stands g.V.Volume.seen g.V.Volume.moment g.V.Volume.left_at;
  opened = writable_opened g.V.Volume.seen g.V.Volume.moment g.V.Volume.left_at;
}

use Rattle.std.proofs.Common.{[], refl}
use Rattle.store_core.specs.Stands.{first_start}
use Rattle.store_core.proofs.examples.a_new_volume.Goals as goal

pub returns : goal.returns
returns c = record {
  slots = [];
  shows = record { no_gate = refl; no_log = refl };
  gives = (first_start, record { blocks = []; leads = refl; ends = refl; stream_is = refl });
}

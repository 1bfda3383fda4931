use Rattle.std.proofs.Common.{◌≡◌, ℕ, ◌+◌, true, None, List, [], refl, arith}
use Rattle.jet_volume.specs.declared.files.LogStart.{LogStart}
use Rattle.log_ring.specs.Blocks.{next_generation, open_payload, Scans}
use Rattle.log_ring.specs.Gates.{is_barred}
use Rattle.log_ring.proofs.Paths.{next_none, none_here}
use Rattle.log_ring.proofs.Barring.{barred_none}
use Rattle.log_ring.proofs.laws.ready_from_the_end.Goals as goal

-- behind a place without a block, before a generation that is barred, a scan gives nothing
gives_none : (log : List ℕ) (end : LogStart) → open_payload log end ≡ None → is_barred (end.generation + 1) log ≡ true → Scans log end [] end
gives_none log end none barred = record {
  blocks = [];
  leads = refl;
  ends = next_none end.generation log end none (λ less. barred_none (end.generation + 1) log (next_generation end) refl refl barred);
  stream_is = refl;
}

abbrev start : LogStart
start = record { generation = 1; offset = 0; position = 0 }

pub returns : goal.returns
returns c = record {
  end = λ log from stream end ready. record {
    scans = gives_none log end (none_here from.generation log end ready.scans.ends) ready.barred;
    barred = ready.barred;
    closed = ready.closed;
  };
  empty = record {
    scans = gives_none [] start refl refl;
    barred = refl;
    closed = λ some. absurd (omega (arith, some));
  };
}

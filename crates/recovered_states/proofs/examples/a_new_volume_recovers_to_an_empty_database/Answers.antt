use Rattle.std.proofs.Common.{[], None, refl}
use Rattle.database_state.specs.State.{empty_state}
use Rattle.log_grammar.proofs.Streams.{nothing_is_cut}
use Rattle.store_core.specs.Stands.{first_start}
use Rattle.recovered_states.proofs.examples.a_new_volume_recovers_to_an_empty_database.Goals as goal

pub returns : goal.returns
returns c = record {
  checkpoint = None;
  stream = [];
  stands = record {
    slots = [];
    shows = record { no_gate = refl; no_log = refl };
    gives = (first_start, record { blocks = []; leads = refl; ends = refl; stream_is = refl });
  };
  from = record {
    shown = empty_state;
    shows = refl;
    entries = [];
    rest = [];
    reads = refl;
    cut = nothing_is_cut;
    come = record { lawful = tt; spelled = refl };
    is = refl;
  };
}

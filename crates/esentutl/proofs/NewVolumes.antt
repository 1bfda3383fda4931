-- A volume without a byte: it is not refused, and recovers to the empty state.
use Rattle.std.proofs.Common.{◌≡◌, refl, subst, ℕ, List, [], Option, None, true}
use Rattle.database_state.specs.State.{DatabaseState, empty_state}
use Rattle.jet_volume.specs.Image.{Image as Files, no_bytes}
use Rattle.log_grammar.proofs.Streams.{nothing_is_cut}
use Rattle.store_core.specs.Stands.{Checkpoint, Stands, first_start}
use Rattle.store_core.specs.Store.{may_be_opened}
use Rattle.recovered_states.specs.Recovers.{Recovers, RecoversFrom}
use Rattle.soft_recovery.specs.declared.refusals.RecoverCause.{RecoverCause}
use Rattle.soft_recovery.specs.Refusals.{Refuses}

nothing_stands : Stands None [] no_bytes
nothing_stands = record {
  slots = [];
  shows = record { no_gate = refl; no_log = refl };
  gives = (first_start, record { blocks = []; leads = refl; ends = refl; stream_is = refl });
}

nothing_recovers : RecoversFrom None [] empty_state
nothing_recovers = record {
  shown = empty_state;
  shows = refl;
  entries = [];
  rest = [];
  reads = refl;
  cut = nothing_is_cut;
  come = record { lawful = tt; spelled = refl };
  is = refl;
}

new_files_recover : Recovers no_bytes empty_state
new_files_recover = record { checkpoint = None; stream = []; stands = nothing_stands; from = nothing_recovers }

-- files recover to one state
pub only_empty : ((files : Files) (one other : DatabaseState) → Recovers files one → Recovers files other → one ≡ other) → (files : Files) → files ≡ no_bytes → (state : DatabaseState) → Recovers files state → state ≡ empty_state
only_empty once files new state recovers = once no_bytes state empty_state (subst (λ (f : Files). Recovers f state) new recovers) new_files_recover

-- files that a state is recovered from, within its bounds, are refused for no cause
pub never_refused : ((files : Files) (checkpoint : Option Checkpoint) (stream : List ℕ) (state : DatabaseState) → Stands checkpoint stream files → may_be_opened checkpoint ≡ true → RecoversFrom checkpoint stream state
    → (why : RecoverCause) → Refuses files why → ⊥) → (files : Files) → files ≡ no_bytes → (why : RecoverCause) → Refuses files why → ⊥
never_refused law files new why refused = law no_bytes None [] empty_state nothing_stands refl nothing_recovers why (subst (λ (f : Files). Refuses f why) new refused)

-- nothing stands on it
pub only_new : ((files : Files) (one other : Option Checkpoint) (stream bytes : List ℕ) → Stands one stream files → Stands other bytes files → (other ≡ one) × (bytes ≡ stream)) → (files : Files) → files ≡ no_bytes
    → (checkpoint : Option Checkpoint) (stream : List ℕ) → Stands checkpoint stream files → (checkpoint ≡ None) × (stream ≡ [])
only_new once files new checkpoint stream stands = once no_bytes None checkpoint [] stream nothing_stands (subst (λ (f : Files). Stands checkpoint stream f) new stands)

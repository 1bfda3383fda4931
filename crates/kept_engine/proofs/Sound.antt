-- The states of a log stay within the limits of images.
use Rattle.std.proofs.Common.{◌≡◌, ◌≤◌, ◌^◌, ℕ, true, ◌&&◌, List, [], ◌∷◌, length, arith}
use Rattle.std.specs.Prelude.{nat_le, nat_lt}
use Rattle.std.proofs.lemmas.Bool.{and_parts}
use Rattle.std.proofs.lemmas.Bool.Decides.{nat_tests}
use Rattle.index_derive.specs.declared.log.Entry.{Entry}
use Rattle.database_state.specs.Lawful.{is_lawful}
use Rattle.database_state.specs.State.{DatabaseState}
use Rattle.database_state.specs.Step.{state_after, state_after_all}
use Rattle.laws_engine.specs.LawfulSteps.{AreLawful}
use Rattle.laws_images.specs.SoundStates.{IsLabel, IsSoundState}
use Rattle.log_grammar.specs.EntryBytes.{entry_rest, has_spelling, kind_fits}
use Rattle.log_grammar.specs.EntryStreams.{stream_fits}
use Rattle.loggable_steps.specs.Replays.{closed}

above : (n : ℕ) → nat_le 1 n ≡ true → 1 ≤ n
above n h = grind (arith, nat_tests)

below : (n : ℕ) → nat_le n 99 ≡ true → n ≤ 99
below n h = grind (arith, nat_tests)

-- an entry with a spelling is of a session with a label
label_of : (made : Entry) → has_spelling made ≡ true → IsLabel made.session.0
unfolding has_spelling
label_of made h =
    let n = made.session.0 in
    let label = (and_parts (nat_le 1 n && nat_le n 99) (kind_fits made.kind && nat_lt (length (entry_rest made)) (2 ^ 32)) h).0 in
    (above n (and_parts (nat_le 1 n) (nat_le n 99) label).0, below n (and_parts (nat_le 1 n) (nat_le n 99) label).1)

abbrev pub KeepsSound : Type 0
KeepsSound = (state : DatabaseState) (made : Entry) → IsSoundState state → IsLabel made.session.0 → is_lawful state made ≡ true → IsSoundState (state_after state made)

pub sound_after : KeepsSound → (state : DatabaseState) (entries : List Entry) → AreLawful state entries → stream_fits entries ≡ true → IsSoundState state → IsSoundState (state_after_all state entries)
sound_after keeps state [] lawful fits sound = sound
sound_after keeps state (made ∷ entries) lawful fits sound =
    let both = and_parts (has_spelling made) (stream_fits entries) fits in
    sound_after keeps (state_after state made) entries lawful.1 both.1 (keeps state made sound (label_of made both.0) lawful.0)

-- so does what is left once all sessions are given up
pub sound_closed : (state : DatabaseState) → IsSoundState state → IsSoundState (closed state)
sound_closed state sound = record {
  sessions = record { labels = tt; most = omega arith; each = tt; levels = tt; entries = tt };
  catalog = record {
    indexes = record { order = record { ids = sound.catalog.indexes.order.ids; given = sound.catalog.indexes.order.given; rows = sound.catalog.indexes.order.rows }; numbers = sound.catalog.indexes.numbers; plain = sound.catalog.indexes.plain };
    most = sound.catalog.most;
    greatest = sound.catalog.greatest;
    names = sound.catalog.names;
    tables = sound.catalog.tables;
  };
}

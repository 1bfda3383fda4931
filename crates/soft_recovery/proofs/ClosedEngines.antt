-- An engine that replayed a log, once its sessions are given up.
use Rattle.std.proofs.Common.{◌≡◌, ℕ, ◌+◌, ◌^◌, ◌≤◌, true, ◌&&◌, List, [], ◌∷◌, map, Option, sym, refl, ap, subst, ◌∙◌, arith}
use Rattle.std.specs.Prelude.{nat_le}
use Rattle.std.specs.List.{AllByRecursion}
use Rattle.std.proofs.lemmas.Bool.{and_from}
use Rattle.std.proofs.lemmas.Bool.Decides.{nat_tests}
use Rattle.index_derive.specs.declared.log.Entry.{Entry}
use Rattle.database_state.specs.State.{DatabaseState, LiveSession}
use Rattle.database_state.specs.Step.{state_after_all}
use Rattle.database_state.specs.Table.{Table}
use Rattle.engine_core.specs.Closing.{HaveLabels}
use Rattle.laws_engine.proofs.EngineLemmas.AfterEntries.{entries_hold}
use Rattle.laws_engine.specs.EngineState.{EngineState, HasRoomForEnds, engine_of}
use Rattle.laws_engine.specs.EngineSteps.{engine_after_all}
use Rattle.laws_engine.specs.EntryTypes.{AreOfTheirTypes}
use Rattle.laws_engine.specs.HoldsState.{HoldsState}
use Rattle.laws_engine.specs.LawfulSteps.{AreLawful}
use Rattle.laws_images.specs.SoundStates.{IsSoundSession, IsSoundState}
use Rattle.log_grammar.specs.EntryStreams.{stream_fits}
use Rattle.loggable_steps.specs.Loggable.{is_label}
use Rattle.loggable_steps.specs.Replays.{closed, opened_state}
use Rattle.recovered_states.specs.Recovers.{RecoversFrom}
use Rattle.session_local.specs.BuiltTables.{AllMakeBuilt}
use Rattle.soft_recovery.specs.Recovering.{HoldsRecovered, HoldsShown}
use Rattle.soft_recovery.specs.Replaying.{IsNoLog, IsReplayed, MayReplay}
use Rattle.store_core.specs.Stands.{Checkpoint}
use Rattle.version_cleanup.specs.LiveSessions.{LiveState, live_state}

-- ---- labels

from_one : (n : ℕ) → 1 ≤ n → nat_le 1 n ≡ true
from_one n h = grind (arith, nat_tests)

up_to_last : (n : ℕ) → n ≤ 99 → nat_le n 99 ≡ true
up_to_last n h = grind (arith, nat_tests)

labels_of : (number : ℕ) (tables : List Table) (sessions : List LiveSession) → AllByRecursion (IsSoundSession number tables) sessions → HaveLabels (map live_state sessions)
labels_of number tables [] all = tt
labels_of number tables (s ∷ sessions) all = (and_from (nat_le 1 s.label) (nat_le s.label 99) (from_one s.label all.0.label.0) (up_to_last s.label all.0.label.1), labels_of number tables sessions all.1)

pub labels_held : (engine : EngineState) (state : DatabaseState) → HoldsState engine state → IsSoundState state → HaveLabels engine.sessions
labels_held engine state holds sound = subst HaveLabels holds.sessions (labels_of state.number state.tables state.sessions sound.sessions.each)

-- ---- limits

-- what is left once all sessions are given up stays within the limits of images
sound_closed : (state : DatabaseState) → IsSoundState state → IsSoundState (closed state)
sound_closed state sound = record {
  sessions = record { labels = tt; most = omega arith; each = tt; levels = tt; entries = tt };
  catalog = record {
    indexes = record { order = record { ids = sound.catalog.indexes.order.ids; given = sound.catalog.indexes.order.given; rows = sound.catalog.indexes.order.rows }; numbers = sound.catalog.indexes.numbers; plain = sound.catalog.indexes.plain };
    most = sound.catalog.most;
    greatest = sound.catalog.greatest;
    names = sound.catalog.names;
    tables = sound.catalog.tables;
  };
}

-- ---- what is recovered

-- what is left of an engine whose sessions are given up
abbrev pub IsLeftOf : EngineState → EngineState → Type 0
IsLeftOf old new = (state : DatabaseState) → HoldsState old state → new ≡ engine_of old.limit old.newest_put (closed state)

abbrev pub HoldsClosed : Type 0
HoldsClosed = (engine : EngineState) (state : DatabaseState) → HoldsState engine state → (limit newest : ℕ) → newest ≤ state.number → HoldsState (engine_of limit newest (closed state)) (closed state)

abbrev pub TellsClosed : Type 0
TellsClosed = (limit newest : ℕ) (state : DatabaseState) → opened_state (engine_of limit newest state) ≡ closed state

pub recovered : HoldsClosed → TellsClosed → (old made new : EngineState) (bytes : List ℕ) (checkpoint : Option Checkpoint)
    → MayReplay old → ((state : DatabaseState) → HoldsState old state → IsReplayed made bytes state) → IsLeftOf made new → HoldsShown checkpoint old → HoldsRecovered checkpoint bytes new
recovered holds tells old made new bytes checkpoint may replayed left of =
    let all = replayed of.shown (of.holds of.shown of.shows) in
    let after = state_after_all of.shown all.entries in
    let other = replayed may.state may.holds in
    let within = state_after_all may.state other.entries in
    let same : closed within ≡ closed after =
    sym (tells made.limit made.newest_put (closed within)) ∙ ap opened_state (sym (left within other.holds) ∙ left after all.holds) ∙ tells made.limit made.newest_put (closed after) in
    record {
      state = closed after;
      from = record { shown = of.shown; shows = of.shows; entries = all.entries; rest = all.rest; reads = all.reads; cut = all.cut; come = all.come; is = refl };
      holds = subst (λ (e : EngineState). HoldsState e (closed after)) (sym (left after all.holds)) (holds made after all.holds made.limit made.newest_put (subst (λ n. made.newest_put ≤ n) (sym all.holds.number) all.holds.newest));
      sound = subst IsSoundState same (sound_closed within (other.sound may.sound));
      tells = ap opened_state (left after all.holds) ∙ tells made.limit made.newest_put (closed after);
    }

pub not_recovered : (old : EngineState) (bytes : List ℕ) (checkpoint : Option Checkpoint) (state : DatabaseState)
    → ((state : DatabaseState) → HoldsState old state → IsNoLog bytes state) → HoldsShown checkpoint old → RecoversFrom checkpoint bytes state → ⊥
not_recovered old bytes checkpoint state none of from = none from.shown (of.holds from.shown from.shows) from.entries from.rest from.reads from.cut from.come

-- ---- the number of the log

abbrev pub KeepsRoom : Type 0
KeepsRoom = (engine : EngineState) (state : DatabaseState) (entries : List Entry) → HoldsState engine state → AreLawful state entries → AllMakeBuilt entries → AreOfTheirTypes entries → HasRoomForEnds engine → HasRoomForEnds (engine_after_all engine entries)

no_ends : (number other most : ℕ) → number ≡ other → other ≤ most → number + 0 ≤ most
no_ends number other most same few = omega arith

pub room_left : KeepsRoom → ((engine : EngineState) → HasRoomForEnds engine → engine.number ≤ 2 ^ 35 + 1) → ((entries : List Entry) → stream_fits entries ≡ true → AllMakeBuilt entries) → ((entries : List Entry) → stream_fits entries ≡ true → AreOfTheirTypes entries)
    → (old made new : EngineState) (bytes : List ℕ) (state : DatabaseState) → HoldsState old state → IsReplayed made bytes state → IsLeftOf made new → HasRoomForEnds old → HasRoomForEnds new
room_left many most built typed old made new bytes state holds all left room =
    let entries = all.entries in
    let after = state_after_all state entries in
    let held = entries_hold old state entries holds all.come.lawful (built entries all.come.spelled) (typed entries all.come.spelled) in
    let kept = many old state entries holds all.come.lawful (built entries all.come.spelled) (typed entries all.come.spelled) room in
    subst HasRoomForEnds (sym (left after all.holds)) (record {
      begun = omega arith;
      room = no_ends after.number (engine_after_all old entries).number (2 ^ 35 + 1) held.number (most (engine_after_all old entries) kept);
    })

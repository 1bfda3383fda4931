-- An engine of a store: what it holds beside the store's trees, in its own state.
use Rattle.std.specs.Prelude.{ℕ, List, All, map, Option}
use Rattle.laws_engine.specs.EngineState.{EngineState, HasRoomForEnds}
use Rattle.laws_engine.specs.HoldsState.{HoldsState}
use Rattle.laws_images.specs.SoundStates.{HasSoundSessions}
use Rattle.live_part.specs.LiveBytes.{LivePart, standing}
use Rattle.live_part.specs.Written.{IsSpelled}
use Rattle.stored_variants.specs.VersionsView.{stored_versions}
use Rattle.table_trees.specs.StoredNodes.{IsShortNode}
use Rattle.table_trees.specs.StoredTables.{table_nodes}
use Rattle.version_cleanup.specs.LiveSessions.{LiveState}
use Rattle.image_findings.specs.Findings.{engine_of_parts, history_of}
use Rattle.image_findings.specs.Images.{Finding, first_of}
use Rattle.image_findings.specs.KeyFindings.{key_finding}
use Rattle.own_images.specs.OwnStores.{IsOwnStore, OwnStore, contents_of}

-- the engine of a store, with a limit of the version store's span and its sessions
abbrev pub engine_of_store : ℕ → List LiveState → OwnStore → EngineState
engine_of_store limit sessions store = record {
  limit = limit;
  number = store.number;
  greatest_table = store.catalog.greatest_table;
  newest_put = store.newest;
  sessions = sessions;
  store = (stored_versions store.newest store.catalog store.trees.tables store.held).store;
}

-- its live part, which has no undone change
abbrev pub live_of_store : List LiveState → OwnStore → LivePart
live_of_store sessions store = record { sessions = sessions; held = standing store.held }

-- The store is an engine's own, whose nodes are short. The engine holds the store's state, whose sessions are within the limits that an
-- image is held to, and its number has room for all that is to end.
pub record IsOwnEngine (sessions : List LiveState) (store : OwnStore) : Type 0 where
  pub kept : IsOwnStore store
  pub short : (table : ℕ) → All IsShortNode (table_nodes store.trees.tables table)
  pub limit : ℕ
  pub holds : HoldsState (engine_of_store limit sessions store) store.state
  pub within : HasSoundSessions store.state
  pub room : HasRoomForEnds (engine_of_store limit sessions store)

-- what is found of its unique keys, of the records before the held changes that stand and from there on
abbrev pub keys_found : List LiveState → OwnStore → Option Finding
keys_found sessions store =
    let live = live_of_store sessions store in first_of (map (key_finding (history_of (engine_of_parts 0 store.number 0 (contents_of store) live)) live.held) (contents_of store))

-- What is asked besides, so that the live part can be written: counts that fit 32 bits, and changes that entries of the log can tell.
abbrev pub HasSpelledLivePart : List LiveState → OwnStore → Type 0
HasSpelledLivePart sessions store = IsSpelled (live_of_store sessions store)

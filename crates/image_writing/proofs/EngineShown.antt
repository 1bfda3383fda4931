-- An image with the pages of an engine's trees and with its live part shows the engine.
use Rattle.std.proofs.Common.{◌≡◌, ℕ, ◌≤◌, true, List, [], ◌∷◌, Some, refl, sym, ap, subst, ◌∙◌}
use Rattle.std.specs.Prelude.{All, map}
use Rattle.cursor_nav.specs.Places.{are_sorted}
use Rattle.database_state.specs.State.{DatabaseState}
use Rattle.database_state.specs.Table.{Table}
use Rattle.engine_parts.specs.Parts.{tables_of}
use Rattle.image_findings.specs.Findings.{IsConsistent, engine_in}
use Rattle.image_findings.specs.Images.{ImageContents}
use Rattle.jet_catalog.specs.Catalog.{CatalogState, catalog_of, without_rows}
use Rattle.laws_engine.specs.EngineState.{EngineState, HasRoomForEnds}
use Rattle.laws_engine.specs.HoldsState.{HoldsState}
use Rattle.laws_images.specs.Settled.{settled, settled_engine}
use Rattle.laws_images.specs.SoundStates.{IsSoundState}
use Rattle.live_part.specs.LiveBytes.{live_bytes, live_fits, standing}
use Rattle.live_part.specs.Written.{IsSpelled}
use Rattle.long_value.specs.Values.{AreLong}
use Rattle.page_space.specs.Frames.{Frames}
use Rattle.stored_variants.specs.StoredVersions.{StoredVersions}
use Rattle.stored_variants.specs.VersionsKept.{IsStore}
use Rattle.stored_variants.specs.VersionsView.{stored_versions, with_newest}
use Rattle.table_trees.specs.StoredNodes.{IsShortNode, bookmark_entries}
use Rattle.table_trees.specs.StoredTables.{StoredTable, index_entries, table_long_values, table_nodes}
use Rattle.table_trees.specs.StoredTrees.{StoredTrees}
use Rattle.table_trees.specs.TreesInSpace.{StandsIn}
use Rattle.version_cleanup.specs.LiveSessions.{LiveState}
use Rattle.version_store.specs.HeldChanges.{HeldChange}
use Rattle.own_images.specs.OwnEngines.{HasSpelledLivePart, IsOwnEngine, engine_of_store, live_of_store}
use Rattle.own_images.specs.OwnStores.{IsOwnStore, OwnStore, image_of}
use Rattle.image_writing.specs.EngineImages.{ShowsEngine}

-- The parts of an engine: they are kept and show it, and their trees are in order.
pub record HasParts (engine : EngineState) (newest : ℕ) (catalog : CatalogState) (trees : StoredTrees) (held : List HeldChange) : Type 0 where
  pub kept : IsStore newest catalog trees held
  pub shown : stored_versions newest catalog trees.tables held ≡ tables_of engine
  pub nodes : (table : ℕ) → are_sorted (bookmark_entries (table_nodes trees.tables table)) ≡ true
  pub short : (table : ℕ) → All IsShortNode (table_nodes trees.tables table)
  pub entries : (table index : ℕ) → are_sorted (index_entries trees.tables table index) ≡ true
  pub long_values : (table : ℕ) → AreLong (table_long_values trees.tables table)

-- what is known of the images of own engines
pub record ImageLaws : Type 0 where
  pub fits : (sessions : List LiveState) (store : OwnStore) → IsOwnEngine sessions store → HasSpelledLivePart sessions store → live_fits (live_of_store sessions store) ≡ true
  pub consistent : (sessions : List LiveState) (store : OwnStore) → IsOwnEngine sessions store → live_fits (live_of_store sessions store) ≡ true → IsConsistent (image_of store (live_bytes (live_of_store sessions store)))
  pub holds : (limit : ℕ) (sessions : List LiveState) (store : OwnStore) → IsOwnEngine sessions store → live_fits (live_of_store sessions store) ≡ true
      → HoldsState (engine_in limit (image_of store (live_bytes (live_of_store sessions store)))) (settled store.state)
  pub engine : (limit : ℕ) (sessions : List LiveState) (store : OwnStore) → IsOwnStore store → live_fits (live_of_store sessions store) ≡ true
      → engine_in limit (image_of store (live_bytes (live_of_store sessions store))) ≡ record (settled_engine (engine_of_store limit sessions store)) { newest_put = store.number }

-- ---- the store of an engine

abbrev store_with : Frames → ℕ → EngineState → ℕ → CatalogState → StoredTrees → List HeldChange → DatabaseState → OwnStore
store_with frames root engine newest catalog trees held state = record { frames = frames; root = root; number = engine.number; newest = newest; catalog = catalog; trees = trees; held = held; state = state }

-- the records are those of the trees alone
without_newest : (trees : List StoredTable) (tables : List Table) → map without_rows (map (with_newest trees) tables) ≡ map without_rows tables
without_newest trees [] = refl
without_newest trees (t ∷ tables) = λ i. without_rows t ∷ without_newest trees tables i

same_catalog : (engine : EngineState) (newest : ℕ) (catalog : CatalogState) (trees : StoredTrees) (held : List HeldChange) (state : DatabaseState) → HasParts engine newest catalog trees held → HoldsState engine state → catalog_of state ≡ catalog
same_catalog engine newest catalog trees held state parts holds = λ i. record { greatest_table = greatest i; tables = tables i }
  where
    greatest : state.greatest_table ≡ catalog.greatest_table
    greatest = holds.greatest ∙ sym (ap (λ (v : StoredVersions). v.greatest_table) parts.shown)

    tables : map without_rows state.tables ≡ catalog.tables
    tables = sym holds.holds.defined ∙ sym (ap (λ (v : StoredVersions). map without_rows v.store.tables) parts.shown) ∙ without_newest trees.tables catalog.tables ∙ parts.kept.kept.plain

same_engine : (frames : Frames) (root : ℕ) (engine : EngineState) (newest : ℕ) (catalog : CatalogState) (trees : StoredTrees) (held : List HeldChange) (state : DatabaseState) → HasParts engine newest catalog trees held
    → engine_of_store engine.limit engine.sessions (store_with frames root engine newest catalog trees held state) ≡ engine
same_engine frames root engine newest catalog trees held state parts =
    ap (λ (v : StoredVersions). record { limit = engine.limit; number = engine.number; greatest_table = v.greatest_table; newest_put = v.newest_put; sessions = engine.sessions; store = v.store }) parts.shown

own_engine : (frames : Frames) (root : ℕ) (engine : EngineState) (newest : ℕ) (catalog : CatalogState) (trees : StoredTrees) (held : List HeldChange) (state : DatabaseState) → HasParts engine newest catalog trees held → StandsIn frames (Some root) trees
    → HoldsState engine state → IsSoundState state → HasRoomForEnds engine → IsOwnEngine engine.sessions (store_with frames root engine newest catalog trees held state)
own_engine frames root engine newest catalog trees held state parts stands holds sound room =
    let same = same_engine frames root engine newest catalog trees held state parts in
    record {
      kept = record {
        trees = stands;
        kept = parts.kept;
        newest = subst (λ (n : ℕ). n ≤ engine.number) (sym (ap (λ (v : StoredVersions). v.newest_put) parts.shown)) holds.newest;
        nodes = parts.nodes;
        entries = parts.entries;
        long_values = parts.long_values;
        catalog = same_catalog engine newest catalog trees held state parts holds;
        sound = sound.catalog;
      };
      short = parts.short;
      limit = engine.limit;
      holds = subst (λ (e : EngineState). HoldsState e state) (sym same) holds;
      within = sound.sessions;
      room = subst HasRoomForEnds (sym same) room;
    }

-- ---- its image

pub shown : ImageLaws → (frames : Frames) (root : ℕ) (live : List ℕ) (engine : EngineState) (newest : ℕ) (catalog : CatalogState) (trees : StoredTrees) (held : List HeldChange) → HasParts engine newest catalog trees held → StandsIn frames (Some root) trees
    → IsSpelled (record { sessions = engine.sessions; held = standing held }) → live ≡ live_bytes (record { sessions = engine.sessions; held = standing held })
    → (state : DatabaseState) → HoldsState engine state → IsSoundState state → HasRoomForEnds engine
    → ShowsEngine engine state (record { number = engine.number; pages = frames; catalog_root = root; live = live })
shown laws frames root live engine newest catalog trees held parts stands spelled written state holds sound room =
    let sessions = engine.sessions in
    let store = store_with frames root engine newest catalog trees held state in
    let own = own_engine frames root engine newest catalog trees held state parts stands holds sound room in
    let fits = laws.fits sessions store own spelled in
    record {
      consistent = subst (λ (l : List ℕ). IsConsistent (image_of store l)) (sym written) (laws.consistent sessions store own fits);
      shows = ap (λ (l : List ℕ). engine_in engine.limit (image_of store l)) written
          ∙ laws.engine engine.limit sessions store own.kept fits
          ∙ ap (λ (e : EngineState). record (settled_engine e) { newest_put = engine.number }) (same_engine frames root engine newest catalog trees held state parts);
      holds = λ limit. subst (λ (l : List ℕ). HoldsState (engine_in limit (image_of store l)) (settled state)) (sym written) (laws.holds limit sessions store own fits);
    }

-- The engine that an own image makes is the one that wrote it, without its undone changes.
use Rattle.std.proofs.Common.{◌≡◌, ℕ, Bool, true, false, not, List, [], ◌∷◌, Option, refl, ap, ◌∙◌}
use Rattle.std.specs.Prelude.{filter, map, unwrap_or, if◌then◌else◌}
use Rattle.std.specs.List.{AllByRecursion}
use Rattle.database_state.specs.State.{is_undone}
use Rattle.laws_engine.specs.VersionedTables.{VersionedTables}
use Rattle.laws_images.specs.Settled.{settled_engine, settled_store, stands}
use Rattle.live_part.specs.LiveBytes.{LivePart, live_bytes, live_fits, standing, without_undone}
use Rattle.page_image.specs.Page.{Node}
use Rattle.stored_variants.specs.RecordRows.{TableValues, held_record, held_record_in, rows_of_nodes}
use Rattle.stored_variants.specs.VersionsView.{with_newest}
use Rattle.table_trees.specs.StoredTables.{StoredTable, table_long_values}
use Rattle.version_cleanup.specs.LiveSessions.{LiveState}
use Rattle.version_store.specs.HeldChanges.{HeldChange}
use Rattle.image_findings.specs.CatalogFindings.{CatalogTold, catalog_told}
use Rattle.image_findings.specs.Findings.{engine_in, engine_of_parts, live_of, tables_shown, told_in, values_by_table}
use Rattle.image_findings.specs.TableContents.{TableContents, contents_below, newest_table}
use Rattle.own_images.proofs.Contents.{own_contents}
use Rattle.own_images.proofs.EngineFindings.{AgainLaw, live_again}
use Rattle.own_images.proofs.Missing.{tables_shown as shown_tables}
use Rattle.own_images.proofs.OwnForest.{catalog_nodes_are}
use Rattle.own_images.proofs.ReadBack.{told_again_of}
use Rattle.own_images.proofs.ValuesShown.{own_values}
use Rattle.own_images.proofs.Walked.{WalkLaws}
use Rattle.own_images.specs.OwnContents.{HasOwnContents}
use Rattle.own_images.specs.OwnEngines.{engine_of_store, live_of_store}
use Rattle.own_images.specs.OwnStores.{IsOwnStore, OwnStore, contents_of, image_of, told_of}

-- ---- tables

newest_is : (trees : List StoredTable) (t : TableContents) → HasOwnContents trees t → newest_table t ≡ with_newest trees t.table
newest_is trees t contents = λ i. record t.table { rows = rows_of_nodes (contents.long_values i) (contents.nodes i) }

all_newest : (trees : List StoredTable) (list : List TableContents) → AllByRecursion (HasOwnContents trees) list → map newest_table list ≡ map (with_newest trees) (map (λ (t : TableContents). t.table) list)
all_newest trees [] all = refl
all_newest trees (t ∷ list) all = λ i. newest_is trees t all.0 i ∷ all_newest trees list all.1 i

-- ---- held changes

held_are : (shown longs : TableValues) → ((id : ℕ) → shown id ≡ longs id) → (held : List HeldChange) → map (held_record_in shown) (standing held) ≡ filter stands (map (held_record_in longs) held)
held_are shown longs same [] = refl
held_are shown longs same (h ∷ held) = by (is_undone h.status) (held_are shown longs same held)
  where
    by : (b : Bool) → map (held_record_in shown) (standing held) ≡ filter stands (map (held_record_in longs) held)
        → map (held_record_in shown) (if not b then h ∷ standing held else standing held) ≡ (if not b then held_record_in longs h ∷ filter stands (map (held_record_in longs) held) else filter stands (map (held_record_in longs) held))
    by true rest = rest
    by false rest = λ i. held_record (same h.table i) h ∷ rest i

-- ---- the store and the engine

pub own_settled : WalkLaws → (limit : ℕ) (sessions : List LiveState) (store : OwnStore) → IsOwnStore store → tables_shown (contents_of store) (standing store.held) ≡ settled_store (engine_of_store limit sessions store).store
own_settled walks limit sessions store own =
    let trees = store.trees.tables in
    let tables : map newest_table (contents_of store) ≡ map (with_newest trees) store.catalog.tables = all_newest trees (contents_of store) (own_contents walks store own) ∙ ap (map (with_newest trees)) (shown_tables store own) in
    let held = held_are (values_by_table (contents_of store)) (table_long_values trees) (own_values walks store own) store.held in
    λ i. record { tables = tables i; held = held i }

told_is : WalkLaws → (store : OwnStore) (live : List ℕ) → IsOwnStore store → told_in (image_of store live) ≡ told_of store
told_is walks store live own =
    ap (λ (nodes : List Node). unwrap_or (catalog_told nodes) (record { greatest = 0; tables = [] })) (catalog_nodes_are walks store own) ∙ ap (λ (o : Option CatalogTold). unwrap_or o (record { greatest = 0; tables = [] })) (told_again_of store own)

pub own_engine : WalkLaws → AgainLaw → (limit : ℕ) (sessions : List LiveState) (store : OwnStore) → IsOwnStore store → live_fits (live_of_store sessions store) ≡ true
    → engine_in limit (image_of store (live_bytes (live_of_store sessions store))) ≡ record (settled_engine (engine_of_store limit sessions store)) { newest_put = store.number }
own_engine walks again limit sessions store own fits =
    let live = live_of_store sessions store in
    let told = told_is walks store (live_bytes live) own in
    let shown : live_of (image_of store (live_bytes live)) ≡ live = ap (λ (o : Option LivePart). without_undone (unwrap_or o (record { sessions = []; held = [] }))) (again live fits) ∙ live_again sessions store in
    (λ i. engine_of_parts limit store.number (told i).greatest (map (contents_below store.frames) (told i).tables) (shown i))
    ∙ ap (λ (s : VersionedTables). record { limit = limit; number = store.number; greatest_table = store.catalog.greatest_table; newest_put = store.number; sessions = sessions; store = s }) (own_settled walks limit sessions store own)

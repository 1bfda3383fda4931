-- The first finding of an image. An image is consistent where there is none.
use Rattle.std.specs.Prelude.{◌≡◌, ℕ, Bool, List, [], ◌∷◌, map, flat_map, Option, Some, None, unwrap_or, if◌then◌else◌}
use Rattle.std.specs.Option.{option_or}
use Rattle.database_state.specs.State.{DatabaseState, transaction_of}
use Rattle.laws_engine.specs.EngineState.{EngineState}
use Rattle.laws_engine.specs.VersionedTables.{VersionedTables}
use Rattle.laws_images.specs.ShowableEngines.{state_of}
use Rattle.laws_images.specs.ShownStates.{past_of, tables_before}
use Rattle.live_part.specs.LiveBytes.{LivePart, standing, without_undone}
use Rattle.live_part.specs.LiveReading.{whole_in}
use Rattle.long_value.specs.Values.{Values}
use Rattle.stored_variants.specs.RecordRows.{held_record_in}
use Rattle.version_store.specs.HeldChanges.{HeldChange}
use Rattle.image_findings.specs.CatalogFindings.{CatalogTold, catalog_told, is_sound_catalog, roots_of, table_of}
use Rattle.image_findings.specs.CountFindings.{count_finding}
use Rattle.image_findings.specs.EntryFindings.{entry_finding}
use Rattle.image_findings.specs.Images.{Finding, ImageContents, first_of}
use Rattle.image_findings.specs.Images.Finding.{Live, Catalog}
use Rattle.image_findings.specs.KeyFindings.{HeldHistory, key_finding}
use Rattle.image_findings.specs.LiveFindings.{is_sound_live}
use Rattle.image_findings.specs.RowFindings.{row_finding}
use Rattle.image_findings.specs.TableContents.{TableContents, contents_below, contents_with_id, long_values, newest_table}
use Rattle.image_findings.specs.TreeFindings.{marks_after, no_marks, nodes_below, trees_finding, unowned_from}
use Rattle.image_findings.specs.ValueFindings.{value_finding}

-- ---- the engine and the state that an image shows

-- the long values of each table
abbrev pub values_by_table : List TableContents → ℕ → Values
values_by_table tables id = elim (contents_with_id tables id) [ Some t ↦ long_values t | None ↦ [] ]

abbrev pub tables_shown : List TableContents → List HeldChange → VersionedTables
tables_shown tables held = record { tables = map newest_table tables; held = map (held_record_in (values_by_table tables)) held }

abbrev pub engine_of_parts : ℕ → ℕ → ℕ → List TableContents → LivePart → EngineState
engine_of_parts limit number greatest tables live = record { limit = limit; number = number; greatest_table = greatest; newest_put = number; sessions = live.sessions; store = tables_shown tables live.held }

abbrev pub told_in : ImageContents → CatalogTold
told_in image = unwrap_or (catalog_told (nodes_below image.pages image.catalog_root)) (record { greatest = 0; tables = [] })

abbrev pub contents_in : ImageContents → List TableContents
contents_in image = map (contents_below image.pages) (told_in image).tables

-- the live part, with its undone changes and without them
abbrev pub whole_of : ImageContents → LivePart
whole_of image = unwrap_or (whole_in image.live) (record { sessions = []; held = [] })

abbrev pub live_of : ImageContents → LivePart
live_of image = without_undone (whole_of image)

-- The engine that is made of a consistent image, with a limit of the version store's span, and the database state that it shows. Changes
-- that are undone are left out.
abbrev pub engine_in : ℕ → ImageContents → EngineState
engine_in limit image = engine_of_parts limit image.number (told_in image).greatest (contents_in image) (live_of image)

abbrev pub state_in : ImageContents → DatabaseState
state_in image = state_of (engine_in 0 image)

-- ---- what stands on the live part

abbrev pub history_of : EngineState → HeldHistory
history_of engine = record {
  first = tables_before engine.store.held engine.store.tables;
  past = past_of engine.store.held engine.store.tables;
  transactions = transaction_of (state_of engine);
}

-- rows, entries, keys and counts, one after the other
abbrev pub records_finding : ℕ → List TableContents → LivePart → Option Finding
records_finding number tables live =
    option_or (first_of (map (row_finding number live.held) tables))
    (option_or (first_of (map (entry_finding live.held) tables))
    (option_or (first_of (map (key_finding (history_of (engine_of_parts 0 number 0 tables live)) live.held) tables))
    (first_of (map (count_finding live.held) tables))))

abbrev pub live_finding : ℕ → List TableContents → Option LivePart → Option Finding
live_finding number tables None = Some Live
live_finding number tables (Some whole) =
    option_or (if is_sound_live number tables whole then None else Some Live) (records_finding number tables (without_undone whole))

-- the held changes that are not undone, none where the live part has not its form
abbrev pub held_in : Option LivePart → List HeldChange
held_in None = []
held_in (Some whole) = standing whole.held

-- ---- the whole

-- the roots of the trees of all tables
abbrev pub roots_told : CatalogTold → List ℕ
roots_told told = flat_map roots_of told.tables

-- the marks once the tree of the catalog is walked
abbrev pub catalog_marks : ImageContents → List Bool
catalog_marks image = marks_after image.pages (image.catalog_root ∷ []) (no_marks image.pages)

abbrev pub tables_finding : ImageContents → CatalogTold → Option Finding
tables_finding image told =
    let tables = map (contents_below image.pages) told.tables in
    option_or (if is_sound_catalog told.greatest (map table_of told.tables) then None else Some Catalog)
    (option_or (trees_finding image.pages (roots_told told) (catalog_marks image))
    (option_or (unowned_from 0 image.pages (marks_after image.pages (roots_told told) (catalog_marks image)))
    (option_or (first_of (map (value_finding image.number (held_in (whole_in image.live))) tables))
    (live_finding image.number tables (whole_in image.live)))))

abbrev pub catalog_finding : ImageContents → Option CatalogTold → Option Finding
catalog_finding image None = Some Catalog
catalog_finding image (Some told) = tables_finding image told

-- The tree of the catalog; the catalog; the other trees; pages that no tree has; long values that are not whole; the live part; rows;
-- entries; unique keys; counts. Each check stands on those before it, and an opening goes in this order.
unfoldable pub finding : ImageContents → Option Finding
finding image =
    option_or (trees_finding image.pages (image.catalog_root ∷ []) (no_marks image.pages))
    (catalog_finding image (catalog_told (nodes_below image.pages image.catalog_root)))

abbrev pub IsConsistent : ImageContents → Type 0
IsConsistent image = finding image ≡ None

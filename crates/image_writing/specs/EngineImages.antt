-- The image of an engine, against what the engine holds.
use Rattle.std.specs.Prelude.{◌≡◌, ℕ, []}
use Rattle.catalog_grammar.specs.Catalogs.{catalog_nodes}
use Rattle.checkpoint.specs.declared.image.Image.{Image}
use Rattle.database_state.specs.State.{DatabaseState}
use Rattle.image_findings.specs.Findings.{IsConsistent, engine_in}
use Rattle.image_findings.specs.Images.{ImageContents}
use Rattle.laws_engine.specs.EngineState.{EngineState}
use Rattle.laws_engine.specs.HoldsState.{HoldsState}
use Rattle.laws_images.specs.Settled.{settled, settled_engine}
use Rattle.table_trees.specs.StoredTrees.{StoredTrees}

-- what an image says, beside the slots of its pages
abbrev pub contents_of : Image → ImageContents
contents_of image = record { number = image.number; pages = image.pages.items; catalog_root = image.catalog_root; live = image.live.items }

-- The image is consistent, and shows the engine without its undone changes; its newest put may be the last entry. So the engine that is
-- made of it, with whatever limit, holds the state without its undone changes.
pub record ShowsEngine (engine : EngineState) (state : DatabaseState) (image : ImageContents) : Type 0 where
  pub consistent : IsConsistent image
  pub shows : engine_in engine.limit image ≡ record (settled_engine engine) { newest_put = engine.number }
  pub holds : (limit : ℕ) → HoldsState (engine_in limit image) (settled state)

-- ---- trees

-- where the catalog has the nodes of an empty database, there is no table
abbrev pub HasNoTables : StoredTrees → Type 0
HasNoTables trees = trees.catalog.nodes ≡ catalog_nodes 0 [] → trees.tables ≡ []

-- the trees of an empty database
abbrev pub first_trees : StoredTrees
first_trees = record { tables = []; catalog = record { nodes = catalog_nodes 0 []; roots = [] } }

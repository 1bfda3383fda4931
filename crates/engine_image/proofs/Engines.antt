-- The engine that is made of a consistent image, part by part.
use Rattle.std.proofs.Common.{◌≡◌, ℕ, true, List, [], ◌++◌, Option, Some, None, sym, ap, subst, ◌∙◌}
use Rattle.std.specs.Prelude.{map, Result, Ok, Err, IfErr, IfOk, OnOk}
use Rattle.std.specs.List.{AllByRecursion, flat_map}
use Rattle.catalog_grammar.specs.CatalogSteps.{has_nodes, nodes_of_catalog}
use Rattle.catalog_record.specs.CatalogTrees.{CatalogBecomes, own_pages}
use Rattle.catalog_record.specs.declared.tree.CatalogTree.{CatalogTree}
use Rattle.checkpoint.specs.declared.image.Image.{Image}
use Rattle.column_set.specs.NumberReading.{IsBytes}
use Rattle.database_state.specs.Table.{Table}
use Rattle.image_findings.specs.CatalogFindings.{table_of}
use Rattle.image_findings.specs.Findings.{IsConsistent, contents_in, engine_in, finding, live_of, tables_shown, told_in}
use Rattle.image_findings.specs.ImageBytes.{IsOfBytes}
use Rattle.image_findings.specs.Images.{ImageContents}
use Rattle.image_findings.specs.NoFindings.{HasNoFinding}
use Rattle.image_findings.specs.TableContents.{TableContents}
use Rattle.image_findings.specs.TreeFindings.{nodes_below}
use Rattle.image_findings.specs.ValueFindings.{broken_values, found_value, missing_values, value_finding}
use Rattle.image_opening.specs.OpenedCatalogs.{IsOpened, catalog_of_told, roots_of_told, stored_roots}
use Rattle.image_opening.specs.OpenedTrees.{AreTreesBelow, EachWith, HasContents, StayOpened, opened_pages}
use Rattle.image_opening.specs.declared.opened.OpenedTable.{OpenedTable}
use Rattle.own_images.specs.StoredContents.{HasStoredTrees, HaveTreeNodes, stored_of}
use Rattle.jet_catalog.specs.Catalog.{CatalogState}
use Rattle.laws_engine.specs.EngineState.{EngineState}
use Rattle.laws_engine.specs.HoldsState.{HoldsState}
use Rattle.laws_images.specs.ShowableEngines.{state_of}
use Rattle.live_part.specs.LiveBytes.{LivePart}
use Rattle.live_part.specs.LiveReading.{whole_in}
use Rattle.live_part.specs.declared.reading.LoadedPart.{LoadedPart}
use Rattle.page_space.specs.Frames.{Frames}
use Rattle.stored_variants.specs.CountedValues.{AreCounted, HasNoValueBehind}
use Rattle.stored_variants.specs.StoredVersions.{StoredVersions}
use Rattle.stored_variants.specs.VersionsKept.{AreKept, IsStore}
use Rattle.stored_variants.specs.VersionsView.{stored_versions}
use Rattle.table_trees.specs.Pages.{IsForest}
use Rattle.table_trees.specs.ShownCatalogs.{ShowsCatalog}
use Rattle.table_trees.specs.StoredTables.{StoredTable}
use Rattle.table_trees.specs.StoredTrees.{StoredCatalog, StoredRoots, roots_by_number}
use Rattle.table_trees.specs.TreesView.{AreTables, stored_catalog, stored_tables}
use Rattle.table_trees.specs.declared.table.Table.{Table as Trees}
use Rattle.version_store.specs.HeldChanges.{HeldChange}
use Rattle.engine_image.proofs.BuiltForests.{AreKnown, are_tables, shows, stored_all}
use Rattle.engine_image.proofs.BuiltTables.{ValueLaws}
use Rattle.engine_image.proofs.ByteNodes.{RiseLaw, have_tree_nodes, of_bytes}
use Rattle.engine_image.proofs.Forests.{told_same}
use Rattle.engine_image.proofs.InTurn.{their_trees}
use Rattle.engine_image.proofs.NoFindings.{left_empty, no_keys}
use Rattle.engine_image.proofs.RisingTables.{IsTold, all_both, is_told, tables_rise}
use Rattle.engine_image.proofs.RuleNumbers.{parts_rise}
use Rattle.engine_image.specs.FoundFaults.{Refuses}
use Rattle.engine_image.specs.MadeEngines.{CanBeMade, HasItsParts, HaveByteNodes, IsMadeForest, IsOpenedOfBytes, IsSoundTable, MakesEngine, MayBeMade}
use Rattle.engine_image.specs.MadeTables.{AreMadeTables, HaveTheirTrees}
use Rattle.engine_image.specs.OpenedImages.{IsOpenedForest, IsOpenedImage, IsReadLive, contents_of}
use Rattle.engine_image.specs.declared.contents.ReadLive.{ReadLive}
use Rattle.engine_image.specs.declared.fault.ImageFault.{ImageFault}
use Rattle.engine_image.specs.declared.forest.OpenedForest.{OpenedForest}
use Rattle.engine_image.specs.declared.making.MadeForest.{MadeForest}
use Rattle.engine_image.specs.declared.opening.OpenedImage.{OpenedImage}

-- ---- what the nodes of the catalog tell

told_of : (image : ImageContents) (forest : OpenedForest) → IsOpenedForest image forest → IsTold (told_in image)
told_of image forest is =
    let read = is.catalog.is_read in
    is_told (nodes_below image.pages image.catalog_root) (told_in image) (read.telling ∙ ap Some (sym (told_same image read.told read.telling)))

catalog_is : (image : ImageContents) (forest : OpenedForest) → IsOpenedForest image forest → forest.catalog.catalog ≡ catalog_of_told (told_in image)
catalog_is image forest is = let read = is.catalog.is_read in read.catalog_is ∙ ap catalog_of_told (sym (told_same image read.told read.telling))

roots_are : (image : ImageContents) (forest : OpenedForest) → IsOpenedForest image forest → forest.catalog.roots.items ≡ map stored_roots (told_in image).tables
roots_are image forest is = let read = is.catalog.is_read in read.roots_are ∙ ap roots_of_told (sym (told_same image read.told read.telling))

tables_are : (image : ImageContents) (forest : OpenedForest) → IsOpenedForest image forest → forest.catalog.catalog.tables ≡ map table_of (told_in image).tables
tables_are image forest is = ap (λ (c : CatalogState). c.tables) (catalog_is image forest is)

-- ---- the trees of its tables

pub forest_trees : (image : ImageContents) (frames : Frames) (forest : OpenedForest) (tables : List Table) → MayBeMade image frames forest → tables ≡ forest.catalog.catalog.tables → HaveTheirTrees tables forest.trees.items
forest_trees image frames forest tables may e =
    subst (λ (l : List Table). HaveTheirTrees l forest.trees.items) (sym (e ∙ tables_are image forest may.forest_is))
    (their_trees image.pages image.pages (told_in image).tables forest.trees.items (parts_rise (told_in image) (told_of image forest may.forest_is)) may.forest_is.trees.contents)

pub forest_opened : (image : ImageContents) (frames : Frames) (forest : OpenedForest) → MayBeMade image frames forest → (root : ℕ) × IsOpened frames root forest.catalog.tree forest.catalog.catalog forest.catalog.roots.items
forest_opened image frames forest may =
    (image.catalog_root, subst (λ (f : Frames). IsOpened f image.catalog_root forest.catalog.tree forest.catalog.catalog forest.catalog.roots.items) (sym may.pages) may.forest_is.catalog)

-- The nodes of the catalog were written as they are kept.
pub record IsWritten (old new : Frames) (was is : CatalogTree) (catalog : CatalogState) (roots : List StoredRoots) : Type 0 where
  pub nodes : CatalogBecomes old was new is (nodes_of_catalog (roots_by_number roots) catalog)
  pub writable : has_nodes (roots_by_number roots) catalog ≡ true
  pub tables : (opened : List OpenedTable) (shown : List TableContents) → IsForest old (own_pages old was ++ flat_map (opened_pages old) opened) → EachWith (HasContents old) opened shown → StayOpened old new is opened shown

stay : (image : ImageContents) (old new : Frames) (forest : OpenedForest) (is : CatalogTree) → MayBeMade image old forest → IsWritten old new forest.catalog.tree is forest.catalog.catalog forest.catalog.roots.items
    → StayOpened old new is forest.trees.items (contents_in image)
stay image old new forest is may written =
    written.tables forest.trees.items (contents_in image) (subst (λ (f : Frames). IsForest f (own_pages f forest.catalog.tree ++ flat_map (opened_pages f) forest.trees.items)) (sym may.pages) may.forest_is.pages)
    (subst (λ (f : Frames). EachWith (HasContents f) forest.trees.items (contents_in image)) (sym may.pages) may.forest_is.trees.contents)

known : (image : ImageContents) (old new : Frames) (forest : OpenedForest) (is : CatalogTree) (made : List Trees) → MayBeMade image old forest → IsWritten old new forest.catalog.tree is forest.catalog.catalog forest.catalog.roots.items
    → AreMadeTables forest.trees.items made forest.catalog.catalog.tables → AreKnown image.pages new image.number (told_in image).tables forest.trees.items made
known image old new forest is made may written tables = record {
  rise = parts_rise (told_in image) (told_of image forest may.forest_is);
  contents = (stay image old new forest is may written).contents;
  below = subst (λ (l : List StoredRoots). EachWith (AreTreesBelow image.pages) l forest.trees.items) (roots_are image forest may.forest_is) may.forest_is.below;
  are_made = subst (λ (l : List Table). AreMadeTables forest.trees.items made l) (tables_are image forest may.forest_is) tables;
  sound = may.tables;
}

pub forest_tables : ValueLaws → (image : ImageContents) (old new : Frames) (forest : OpenedForest) (is : CatalogTree) (made : List Trees) → MayBeMade image old forest → IsWritten old new forest.catalog.tree is forest.catalog.catalog forest.catalog.roots.items
    → AreMadeTables forest.trees.items made forest.catalog.catalog.tables → AreTables new (record { tree = Some is }) made
forest_tables laws image old new forest is made may written tables =
    are_tables laws image.pages new image.number (told_in image).tables forest.trees.items made is (known image old new forest is made may written tables)
    (tables_rise image.pages (told_in image) (told_of image forest may.forest_is)) (stay image old new forest is may written).forest
    (nodes_of_catalog (roots_by_number forest.catalog.roots.items) forest.catalog.catalog, old, forest.catalog.tree, written.nodes)

pub forest_made : (image : ImageContents) (old new : Frames) (forest : OpenedForest) (is : CatalogTree) (tables : List Trees) (made : MadeForest) → MayBeMade image old forest → IsWritten old new forest.catalog.tree is forest.catalog.catalog forest.catalog.roots.items
    → AreMadeTables forest.trees.items tables forest.catalog.catalog.tables → made.catalog ≡ forest.catalog.catalog → made.trees.tables ≡ stored_tables new tables → made.trees.catalog ≡ stored_catalog new (record { tree = Some is }) tables → IsMadeForest image made
forest_made image old new forest is tables made may written are catalog stored nodes =
    let k = known image old new forest is tables may written are in
    let roots = roots_are image forest may.forest_is in
    let all = subst (λ (l : List StoredRoots). IsWritten old new forest.catalog.tree is forest.catalog.catalog l) roots written in
    let shown : ShowsCatalog (stored_catalog new (record { tree = Some is }) tables) forest.catalog.catalog =
    shows image.pages new image.number (told_in image).tables forest.trees.items tables is forest.catalog.catalog k (old, forest.catalog.tree, all.nodes) all.writable in
    record {
      catalog = catalog ∙ catalog_is image forest may.forest_is;
      tables = stored ∙ stored_all image.pages new image.number (told_in image).tables forest.trees.items tables k;
      shows = subst (λ (c : CatalogState). ShowsCatalog made.trees.catalog c) (sym catalog) (subst (λ (s : StoredCatalog). ShowsCatalog s forest.catalog.catalog) (sym nodes) shown);
    }

-- ---- the store and the engine

pub record StoreLaws : Type 0 where
  pub kept : (image : ImageContents) → IsOfBytes image → IsConsistent image → AreKept (map table_of (told_in image).tables) (map stored_of (contents_in image)) (live_of image).held
  pub counts : (image : ImageContents) → IsOfBytes image → IsConsistent image → AreCounted (map stored_of (contents_in image)) (live_of image).held
  pub entries : (image : ImageContents) → IsConsistent image → HasNoValueBehind image.number (map stored_of (contents_in image))

pub store_of : StoreLaws → (image : ImageContents) (number : ℕ) (made : MadeForest) (live : LoadedPart) → HasItsParts image number made live → IsStore number made.catalog made.trees live.versions
store_of laws image number made live has =
    let tables : made.catalog.tables ≡ map table_of (told_in image).tables = ap (λ (c : CatalogState). c.tables) has.forest.catalog in
    record {
      kept = subst (λ (h : List HeldChange). AreKept made.catalog.tables made.trees.tables h) (sym has.versions)
          (subst (λ (s : List StoredTable). AreKept made.catalog.tables s (live_of image).held) (sym has.forest.tables)
          (subst (λ (t : List Table). AreKept t (map stored_of (contents_in image)) (live_of image).held) (sym tables) (laws.kept image has.bytes has.consistent)));
      shows = has.forest.shows;
      counts = subst (λ (h : List HeldChange). AreCounted made.trees.tables h) (sym has.versions) (subst (λ (s : List StoredTable). AreCounted s (live_of image).held) (sym has.forest.tables) (laws.counts image has.bytes has.consistent));
      entries = subst (λ (n : ℕ). HasNoValueBehind n made.trees.tables) (sym has.number_is) (subst (λ (s : List StoredTable). HasNoValueBehind image.number s) (sym has.forest.tables) (laws.entries image has.consistent));
    }

abbrev pub ShowLaw : Type 0
ShowLaw = (image : ImageContents) → IsConsistent image → (stored_versions image.number (record { greatest_table = (told_in image).greatest; tables = map table_of (told_in image).tables }) (map stored_of (contents_in image)) (live_of image).held).store ≡ tables_shown (contents_in image) (live_of image).held

-- the engine of these parts
abbrev pub engine_with : ℕ → ℕ → LoadedPart → StoredVersions → EngineState
engine_with limit number live tables = record { limit = limit; number = number; greatest_table = tables.greatest_table; newest_put = tables.newest_put; sessions = live.sessions; store = tables.store }

pub engine_is : ShowLaw → (image : ImageContents) (limit number : ℕ) (made : MadeForest) (live : LoadedPart) (tables : StoredVersions) → HasItsParts image number made live → tables ≡ stored_versions number made.catalog made.trees.tables live.versions
    → engine_with limit number live tables ≡ engine_in limit image
engine_is law image limit number made live tables has e =
    let shown : StoredVersions = stored_versions image.number (catalog_of_told (told_in image)) (map stored_of (contents_in image)) (live_of image).held in
    let same : tables ≡ shown = e ∙ (λ k. stored_versions (has.number_is k) (has.forest.catalog k) (has.forest.tables k) (has.versions k)) in
    let store = ap (λ (t : StoredVersions). t.store) same ∙ law image has.consistent in
    λ k. record { limit = limit; number = has.number_is k; greatest_table = (same k).greatest_table; newest_put = (same k).newest_put; sessions = has.sessions k; store = store k }

-- ---- what a consistent image has

abbrev pub TreesLaw : Type 0
TreesLaw = (image : ImageContents) → IsOfBytes image → AllByRecursion HaveTreeNodes (contents_in image) → IsConsistent image → AllByRecursion HasStoredTrees (contents_in image)

abbrev pub ChecksLaw : Type 0
ChecksLaw = (image : ImageContents) → IsConsistent image → HasNoFinding image

whole_values : (number : ℕ) (held : List HeldChange) (t : TableContents) → value_finding number held t ≡ None → broken_values number t ≡ []
whole_values number held t e = left_empty (broken_values number t) (missing_values held t) (no_keys (found_value held t 0) (broken_values number t ++ missing_values held t) e)

pub may_be_made : RiseLaw → TreesLaw → ChecksLaw → (image : ImageContents) (opened : OpenedImage) → CanBeMade image opened → MayBeMade image opened.space opened.forest
may_be_made rise trees checks image opened can =
    let is = can.of_bytes.is_opened in
    let bytes = of_bytes image can.of_bytes.nodes can.of_bytes.live in
    record {
      pages = is.pages;
      forest_is = is.forest;
      tables = all_both HasStoredTrees (λ (t : TableContents). value_finding image.number (live_of image).held t ≡ None) (IsSoundTable image.number)
          (λ t stored none. record { stored = stored; whole = whole_values image.number (live_of image).held t none }) (contents_in image)
          (trees image bytes (have_tree_nodes rise image opened.forest.trees.items can.of_bytes.nodes is.forest.trees.contents) can.consistent) (checks image can.consistent).values;
    }

live_is : (image : ImageContents) (live : ReadLive) → HasNoFinding image → IsReadLive (whole_in image.live) live → (live.part.sessions ≡ (live_of image).sessions) × (live.part.versions ≡ (live_of image).held)
live_is image live none is =
    let read = subst (λ (o : Option LivePart). IsReadLive o live) none.whole is in
    (sym read.1.sessions, sym read.1.versions)

pub has_parts : ChecksLaw → (image : ImageContents) (opened : OpenedImage) (made : MadeForest) → CanBeMade image opened → IsMadeForest image made → HasItsParts image opened.number made opened.live.part
has_parts checks image opened made can forest =
    let live = live_is image opened.live (checks image can.consistent) can.of_bytes.is_opened.live in
    record { number_is = can.of_bytes.is_opened.number; forest = forest; sessions = live.0; versions = live.1; bytes = of_bytes image can.of_bytes.nodes can.of_bytes.live; consistent = can.consistent }

pub opened_of : (image : Image) (opened : OpenedImage) (pages : Frames) (live : List ℕ) → IsOpenedImage (contents_of image) opened → HaveByteNodes pages → pages ≡ image.pages.items → IsBytes live → live ≡ image.live.items → IsOpenedOfBytes (contents_of image) opened
opened_of image opened pages live is nodes same bytes are = record { is_opened = is; nodes = subst (λ (f : Frames). HaveByteNodes f) same nodes; live = subst (λ (l : List ℕ). IsBytes l) are bytes }

-- ---- what is told of the image

pub makes_engine : (limit : ℕ) (image : ImageContents) (r : Result EngineState ImageFault) → MakesEngine limit image r → IfOk r (λ engine. engine ≡ engine_in limit image)
makes_engine limit image (Ok engine) h = h.engine_is
makes_engine limit image (Err why) h = tt

pub makes_holding : ((limit : ℕ) (image : ImageContents) → IsOfBytes image → IsConsistent image → HoldsState (engine_in limit image) (state_of (engine_in limit image))) → (limit : ℕ) (image : ImageContents) (r : Result EngineState ImageFault) → IsOfBytes image → MakesEngine limit image r
    → IfOk r (λ engine. HoldsState engine (state_of engine))
makes_holding law limit image (Ok engine) bytes h = subst (λ (e : EngineState). HoldsState e (state_of e)) (sym h.engine_is) (law limit image bytes h.consistent)
makes_holding law limit image (Err why) bytes h = tt

pub makes_consistent : (limit : ℕ) (image : ImageContents) (r : Result EngineState ImageFault) → MakesEngine limit image r → OnOk r (IsConsistent image)
makes_consistent limit image (Ok engine) h = h.consistent
makes_consistent limit image (Err why) h = tt

pub makes_bytes : (image : ImageContents) (r : Result EngineState ImageFault) → IsOfBytes image → OnOk r (IsOfBytes image)
makes_bytes image (Ok engine) bytes = bytes
makes_bytes image (Err why) bytes = tt

pub makes_fault : (limit : ℕ) (image : ImageContents) (r : Result EngineState ImageFault) → MakesEngine limit image r → IfErr r (Refuses (finding image))
makes_fault limit image (Ok engine) h = tt
makes_fault limit image (Err why) h = h

-- The catalog and the trees of an image, opened one after the other.
use Rattle.std.proofs.Common.{◌≡◌, ℕ, Bool, true, false, length, replicate, List, [], ◌∷◌, Option, Some, None, refl, sym, ap, subst, ◌∙◌}
use Rattle.std.specs.Prelude.{map, unwrap_or}
use Rattle.std.specs.Option.{option_or}
use Rattle.catalog_record.specs.CatalogTrees.{own_pages}
use Rattle.image_findings.specs.CatalogFindings.{CatalogTold, catalog_told, table_of}
use Rattle.image_findings.specs.Findings.{catalog_marks, finding, held_in, live_finding, roots_told, told_in}
use Rattle.image_findings.specs.Images.{Finding, ImageContents, first_of}
use Rattle.image_findings.specs.TableContents.{contents_below}
use Rattle.image_findings.specs.TreeFindings.{marks_after, nodes_below, no_marks, pages_below, trees_finding, unowned_from}
use Rattle.image_findings.specs.ValueFindings.{value_finding}
use Rattle.image_opening.specs.OpenedCatalogs.{IsOpened, is_sound, opening_finding, roots_of_told}
use Rattle.image_opening.specs.OpenedTrees.{AreOpened, AreTreesBelow, EachWith, HasContents}
use Rattle.image_opening.specs.WalkedTrees.{AreMarked, forest_finding}
use Rattle.image_opening.specs.declared.opened.OpenedCatalog.{OpenedCatalog}
use Rattle.image_opening.specs.declared.opened.OpenedTable.{OpenedTable}
use Rattle.jet_catalog.specs.Catalog.{CatalogState}
use Rattle.live_part.specs.LiveReading.{whole_in}
use Rattle.page_space.specs.Frames.{Frames}
use Rattle.tree_check.specs.Marks.{with_marks}
use Rattle.engine_image.specs.Checks.{checks_finding}
use Rattle.engine_image.specs.FoundFaults.{Refuses}
use Rattle.engine_image.specs.OpenedImages.{AreParts, IsOpenedForest, IsOpenedImage, IsReadLive}
use Rattle.engine_image.specs.declared.fault.ImageFault.{ImageFault}
use Rattle.engine_image.specs.declared.forest.OpenedForest.{OpenedForest}
use Rattle.engine_image.specs.declared.opening.OpenedImage.{OpenedImage}
use Rattle.engine_image.specs.declared.parts.ImageParts.{ImageParts}
use Rattle.engine_image.proofs.FirstOf.{refuses_found, then_none}

abbrev pub CatalogLaw : Type 0
CatalogLaw = (image : ImageContents) (found : Finding) → opening_finding image.pages (no_marks image.pages) image.catalog_root ≡ Some found → finding image ≡ Some found

abbrev pub TreesLaw : Type 0
TreesLaw = (image : ImageContents) (told : CatalogTold) (found : Finding) → opening_finding image.pages (no_marks image.pages) image.catalog_root ≡ None → catalog_told (nodes_below image.pages image.catalog_root) ≡ Some told
    → forest_finding image.pages (catalog_marks image) (roots_told told) ≡ Some found → finding image ≡ Some found

abbrev pub RestLaw : Type 0
RestLaw = (image : ImageContents) (told : CatalogTold) → opening_finding image.pages (no_marks image.pages) image.catalog_root ≡ None → catalog_told (nodes_below image.pages image.catalog_root) ≡ Some told
    → forest_finding image.pages (catalog_marks image) (roots_told told) ≡ None
    → finding image ≡ option_or (first_of (map (value_finding image.number (held_in (whole_in image.live))) (map (contents_below image.pages) told.tables))) (live_finding image.number (map (contents_below image.pages) told.tables) (whole_in image.live))

-- ---- what the walks tell

-- there is a mark for each page, and none is set
pub unmarked_each : (frames : Frames) → replicate (length frames) false ≡ no_marks frames
unmarked_each [] = refl
unmarked_each (x ∷ frames) = ap (λ (l : List Bool). false ∷ l) (unmarked_each frames)

-- the catalog is opened over marks that were none
pub record CatalogWalked (frames : Frames) (root : ℕ) (old mid : List Bool) (c : OpenedCatalog) : Type 0 where
  pub start : old ≡ no_marks frames
  pub opened : IsOpened frames root c.tree c.catalog c.roots.items
  pub none : opening_finding frames old root ≡ None
  pub marks : mid ≡ with_marks (pages_below frames root) old
  pub marked : old ≡ no_marks frames → AreMarked frames (own_pages frames c.tree) mid

pub told_same : (image : ImageContents) (told : CatalogTold) → catalog_told (nodes_below image.pages image.catalog_root) ≡ Some told → told_in image ≡ told
told_same image told e = ap (λ (o : Option CatalogTold). unwrap_or o (record { greatest = 0; tables = [] })) e

pub marks_are : (image : ImageContents) (old mid : List Bool) (c : OpenedCatalog) → CatalogWalked image.pages image.catalog_root old mid c → mid ≡ catalog_marks image
marks_are image old mid c h = h.marks ∙ ap (with_marks (pages_below image.pages image.catalog_root)) h.start

none_is : (image : ImageContents) (old mid : List Bool) (c : OpenedCatalog) → CatalogWalked image.pages image.catalog_root old mid c → opening_finding image.pages (no_marks image.pages) image.catalog_root ≡ None
none_is image old mid c h = subst (λ (marks : List Bool). opening_finding image.pages marks image.catalog_root ≡ None) h.start h.none

own_forest : (image : ImageContents) (old mid new : List Bool) (f : OpenedForest) → CatalogWalked image.pages image.catalog_root old mid f.catalog
    → ((told : CatalogTold) → f.catalog.roots.items ≡ roots_of_told told → AreOpened image.pages mid new told f.trees.items) → EachWith (AreTreesBelow image.pages) f.catalog.roots.items f.trees.items → IsOpenedForest image f
own_forest image old mid new f h trees below =
    let told = h.opened.is_read.told in
    let same : told_in image ≡ told = told_same image told h.opened.is_read.telling in
    let opened : AreOpened image.pages mid new told f.trees.items = trees told h.opened.is_read.roots_are in
    record {
      catalog = h.opened;
      none = none_is image old mid f.catalog h;
      marks = new;
      trees = subst (λ (t : CatalogTold). AreOpened image.pages (catalog_marks image) new t f.trees.items) (sym same) (subst (λ (marks : List Bool). AreOpened image.pages marks new told f.trees.items) (marks_are image old mid f.catalog h) opened);
      below = below;
      pages = opened.forest (own_pages image.pages f.catalog.tree) (h.marked h.start);
    }

pub forest_opened : (image : ImageContents) (frames : Frames) (root : ℕ) (old mid new : List Bool) (f : OpenedForest) → image.pages ≡ frames → image.catalog_root ≡ root → CatalogWalked frames root old mid f.catalog
    → ((told : CatalogTold) → f.catalog.roots.items ≡ roots_of_told told → AreOpened frames mid new told f.trees.items) → EachWith (AreTreesBelow frames) f.catalog.roots.items f.trees.items → IsOpenedForest image f
forest_opened image frames root old mid new f pages roots h trees below =
    own_forest image old mid new f
    (subst (λ (r : ℕ). CatalogWalked image.pages r old mid f.catalog) (sym roots) (subst (λ (l : Frames). CatalogWalked l root old mid f.catalog) (sym pages) h))
    (λ told e. subst (λ (l : Frames). AreOpened l mid new told f.trees.items) (sym pages) (trees told e))
    (subst (λ (l : Frames). EachWith (AreTreesBelow l) f.catalog.roots.items f.trees.items) (sym pages) below)

pub catalog_refuses : CatalogLaw → (image : ImageContents) (frames : Frames) (root : ℕ) (old : List Bool) (why : ImageFault) → image.pages ≡ frames → image.catalog_root ≡ root → old ≡ no_marks frames → Refuses (opening_finding frames old root) why → Refuses (finding image) why
catalog_refuses law image frames root old why pages roots start h =
    refuses_found (opening_finding image.pages (no_marks image.pages) image.catalog_root) (finding image) why (law image)
    (subst (λ (r : ℕ). Refuses (opening_finding image.pages (no_marks image.pages) r) why) (sym roots)
    (subst (λ (l : Frames). Refuses (opening_finding l (no_marks l) root) why) (sym pages) (subst (λ (marks : List Bool). Refuses (opening_finding frames marks root) why) start h)))

own_trees_refuse : TreesLaw → (image : ImageContents) (old mid : List Bool) (c : OpenedCatalog) (why : ImageFault) → CatalogWalked image.pages image.catalog_root old mid c
    → ((told : CatalogTold) → c.roots.items ≡ roots_of_told told → Refuses (forest_finding image.pages mid (roots_told told)) why) → Refuses (finding image) why
own_trees_refuse law image old mid c why h fault =
    let read = h.opened.is_read in
    refuses_found (forest_finding image.pages (catalog_marks image) (roots_told read.told)) (finding image) why (λ found e. law image read.told found (none_is image old mid c h) read.telling e)
    (subst (λ (marks : List Bool). Refuses (forest_finding image.pages marks (roots_told read.told)) why) (marks_are image old mid c h) (fault read.told read.roots_are))

pub trees_refuse : TreesLaw → (image : ImageContents) (frames : Frames) (root : ℕ) (old mid : List Bool) (c : OpenedCatalog) (why : ImageFault) → image.pages ≡ frames → image.catalog_root ≡ root → CatalogWalked frames root old mid c
    → ((told : CatalogTold) → c.roots.items ≡ roots_of_told told → Refuses (forest_finding frames mid (roots_told told)) why) → Refuses (finding image) why
trees_refuse law image frames root old mid c why pages roots h fault =
    own_trees_refuse law image old mid c why
    (subst (λ (r : ℕ). CatalogWalked image.pages r old mid c) (sym roots) (subst (λ (l : Frames). CatalogWalked l root old mid c) (sym pages) h))
    (λ told e. subst (λ (l : Frames). Refuses (forest_finding l mid (roots_told told)) why) (sym pages) (fault told e))

-- ---- the parts of an opened image

pub parts_are : (image : ImageContents) (opened : OpenedImage) (parts : ImageParts) → IsOpenedImage image opened → parts.space.now ≡ opened.space → parts.catalog.now ≡ opened.forest.catalog.catalog → parts.trees.now ≡ opened.forest.trees.items
    → parts.live.now ≡ opened.live → parts.number ≡ opened.number → AreParts image parts
parts_are image opened parts is space catalog trees live number =
    let read = is.forest.catalog.is_read in
    let same : told_in image ≡ read.told = told_same image read.told read.telling in
    record {
      number = number ∙ is.number;
      live = subst (λ l. IsReadLive (whole_in image.live) l) (sym live) is.live;
      telling = read.telling ∙ ap Some (sym same);
      sound = subst (λ (t : CatalogTold). is_sound t ≡ true) (sym same) read.sound;
      tables = ap (λ (c : CatalogState). c.tables) (catalog ∙ read.catalog_is) ∙ ap (λ (t : CatalogTold). map table_of t.tables) (sym same);
      contents = subst (λ (l : Frames). EachWith (HasContents l) parts.trees.now (map (contents_below image.pages) (told_in image).tables)) (sym (space ∙ is.pages))
          (subst (λ (l : List OpenedTable). EachWith (HasContents image.pages) l (map (contents_below image.pages) (told_in image).tables)) (sym trees) is.forest.trees.contents);
    }

-- ---- what the checks find is what is found of the image

pub rest_is : RestLaw → (image : ImageContents) (opened : OpenedImage) → IsOpenedImage image opened → finding image ≡ checks_finding image
rest_is law image opened is =
    let read = is.forest.catalog.is_read in
    let same : told_in image ≡ read.told = told_same image read.told read.telling in
    law image (told_in image) is.forest.none (read.telling ∙ ap Some (sym same))
    (then_none (trees_finding image.pages (roots_told (told_in image)) (catalog_marks image)) (unowned_from 0 image.pages (marks_after image.pages (roots_told (told_in image)) (catalog_marks image))) is.forest.trees.none
    (subst (λ (marks : List Bool). unowned_from 0 image.pages marks ≡ None) is.forest.trees.marks is.forest.trees.owned))

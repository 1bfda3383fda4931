-- The table at a place of an opened image, against what the image has of it.
use Rattle.std.proofs.Common.{◌≡◌, ◌<◌, ℕ, zero, suc, true, List, [], ◌∷◌, length, get_or, Option, Some, None, refl, sym, ap, subst, ◌∙◌, arith}
use Rattle.std.specs.Prelude.{map, slice_get}
use Rattle.std.specs.List.{AllByRecursion}
use Rattle.catalog_grammar.specs.Catalogs.{CatalogTable}
use Rattle.common_lemmas.proofs.Lists.{all_map}
use Rattle.common_lemmas.proofs.Options.{none_some, same_some}
use Rattle.database_state.specs.Table.{Table, schema_of}
use Rattle.image_contents.specs.LegalRules.{HasLegalRules}
use Rattle.image_contents.specs.declared.entries.variants.TableVariants.{TableVariants}
use Rattle.image_findings.specs.CatalogFindings.{CatalogTold, catalog_told, is_sound_catalog, table_of}
use Rattle.image_findings.specs.Findings.{contents_in, held_in, told_in}
use Rattle.image_findings.specs.Images.{ImageContents}
use Rattle.image_findings.specs.OwnRules.{IsOwnRule}
use Rattle.image_findings.specs.TableContents.{TableContents, contents_below, contents_with_id}
use Rattle.image_findings.specs.TreeFindings.{nodes_below}
use Rattle.image_opening.specs.OpenedTrees.{EachWith, HasContents}
use Rattle.live_part.specs.LiveBytes.{LivePart}
use Rattle.live_part.specs.LiveReading.{whole_in}
use Rattle.page_image.specs.Page.{Node}
use Rattle.page_space.specs.Frames.{Frames}
use Rattle.engine_image.proofs.RisingTables.{found_by_number}
use Rattle.engine_image.specs.OpenedImages.{AreParts, IsReadLive, ShownAt}
use Rattle.engine_image.specs.declared.contents.ReadLive.{ReadLive}
use Rattle.engine_image.specs.declared.parts.ImageParts.{ImageParts}

abbrev pub LegalLaw : Type 0
LegalLaw = (nodes : List Node) (told : CatalogTold) → catalog_told nodes ≡ Some told → is_sound_catalog told.greatest (map table_of told.tables) ≡ true → AllByRecursion (λ (x : CatalogTable). HasLegalRules (schema_of (table_of x))) told.tables

abbrev pub OwnRulesLaw : Type 0
OwnRulesLaw = (frames : Frames) (nodes : List Node) (told : CatalogTold) → catalog_told nodes ≡ Some told → is_sound_catalog told.greatest (map table_of told.tables) ≡ true → AllByRecursion (λ (t : TableContents). AllByRecursion (IsOwnRule t.table) t.indexes) (map (contents_below frames) told.tables)

-- ---- at a place

pub all_at : {X : Type 0} (P : X → Type 0) (xs : List X) (place : ℕ) (x : X) → AllByRecursion P xs → slice_get xs place ≡ Some x → P x
all_at P [] place x all at = none_some x at
all_at P (y ∷ ys) zero x all at = subst P (same_some y x at) all.0
all_at P (y ∷ ys) (suc place) x all at = all_at P ys place x all.1 at

pub same_length : {X Y : Type 0} (R : X → Y → Type 0) (xs : List X) (ys : List Y) → EachWith R xs ys → length xs ≡ length ys
same_length R [] [] h = refl
same_length R [] (y ∷ ys) h = absurd h
same_length R (x ∷ xs) [] h = absurd h
same_length R (x ∷ xs) (y ∷ ys) h = ap suc (same_length R xs ys h.1)

record At {X Y : Type 0} (R : X → Y → Type 0) (x : X) (ys : List Y) (place : ℕ) : Type 0 where
  y : Y
  at : slice_get ys place ≡ Some y
  is : R x y

each_at : {X Y : Type 0} (R : X → Y → Type 0) (xs : List X) (ys : List Y) (place : ℕ) (x : X) → EachWith R xs ys → place < length xs → x ≡ get_or xs place x → At R x ys place
each_at R [] ys place x h lt e = absurd (omega (arith, lt))
each_at R (z ∷ xs) [] place x h lt e = absurd h
each_at R (z ∷ xs) (y ∷ ys) zero x h lt e = record { y = y; at = refl; is = subst (λ k. R k y) (sym e) h.0 }
each_at R (z ∷ xs) (y ∷ ys) (suc place) x h lt e = let rest = each_at R xs ys place x h.1 (omega (arith, lt)) e in record { y = rest.y; at = rest.at; is = rest.is }

mapped_at : {X Y : Type 0} (f : X → Y) (xs : List X) (place : ℕ) (x : X) (d : Y) → slice_get xs place ≡ Some x → d ≡ get_or (map f xs) place d → d ≡ f x
mapped_at f [] place x d at e = none_some x at
mapped_at f (y ∷ ys) zero x d at e = e ∙ ap f (same_some y x at)
mapped_at f (y ∷ ys) (suc place) x d at e = mapped_at f ys place x d at e

pub mapped_length : {X Y : Type 0} (f : X → Y) (xs : List X) → length (map f xs) ≡ length xs
mapped_length f [] = refl
mapped_length f (x ∷ xs) = ap suc (mapped_length f xs)

-- the catalog has a table at each place where there are trees
pub as_many : (image : ImageContents) (parts : ImageParts) (place : ℕ) → AreParts image parts → place < length parts.trees.now → place < length parts.catalog.now.tables
as_many image parts place is lt =
    let tables = (told_in image).tables in
    let trees : length parts.trees.now ≡ length tables = same_length (HasContents parts.space.now) parts.trees.now (map (contents_below image.pages) tables) is.contents ∙ mapped_length (contents_below image.pages) tables in
    let told : length parts.catalog.now.tables ≡ length tables = ap length is.tables ∙ mapped_length table_of tables in
    omega (arith, lt, trees, told)

-- ---- tables by their numbers

pub tables_are : (frames : Frames) (xs : List CatalogTable) → map table_of xs ≡ map (λ (t : TableContents). t.table) (map (contents_below frames) xs)
tables_are frames [] = refl
tables_are frames (x ∷ xs) = ap (λ l. table_of x ∷ l) (tables_are frames xs)

pub legal_in : LegalLaw → (frames : Frames) (nodes : List Node) (told : CatalogTold) → catalog_told nodes ≡ Some told → is_sound_catalog told.greatest (map table_of told.tables) ≡ true
    → AllByRecursion (λ (t : TableContents). HasLegalRules (schema_of t.table)) (map (contents_below frames) told.tables)
legal_in law frames nodes told e sound = all_map (λ (t : TableContents). HasLegalRules (schema_of t.table)) (contents_below frames) told.tables (law nodes told e sound)

-- ---- the live part

pub held_is : (o : Option LivePart) (live : ReadLive) → IsReadLive o live → live.part.versions ≡ held_in o
held_is None live h = h.1
held_is (Some whole) live h = sym h.1.versions

-- ---- the table

pub shown_at : LegalLaw → OwnRulesLaw → (image : ImageContents) (parts : ImageParts) (place : ℕ) (v : TableVariants) → AreParts image parts → place < length parts.trees.now → v.space.now ≡ parts.space.now
    → v.table.now ≡ get_or parts.catalog.now.tables place v.table.now → v.opened.now ≡ get_or parts.trees.now place v.opened.now → v.versions.now ≡ parts.live.now.part.versions → ShownAt image place v
shown_at law own image parts place v is lt space table opened versions =
    let tables = contents_in image in
    let nodes = nodes_below image.pages image.catalog_root in
    let told = told_in image in
    let here = each_at (HasContents parts.space.now) parts.trees.now tables place v.opened.now is.contents lt opened in
    record {
      t = here.y;
      at = here.at;
      shown = record {
        contents = subst (λ (f : Frames). HasContents f v.opened.now here.y) (sym space) here.is;
        table = mapped_at (λ (t : TableContents). t.table) tables place here.y v.table.now here.at
            (table ∙ ap (λ (l : List Table). get_or l place v.table.now) (is.tables ∙ tables_are image.pages told.tables));
        rules = all_at (λ (t : TableContents). AllByRecursion (IsOwnRule t.table) t.indexes) tables place here.y (own image.pages nodes told is.telling is.sound) here.at;
      };
      rules = all_at (λ (t : TableContents). HasLegalRules (schema_of t.table)) tables place here.y (legal_in law image.pages nodes told is.telling is.sound) here.at;
      found = all_at (λ (t : TableContents). contents_with_id tables t.table.id ≡ Some t) tables place here.y (found_by_number image.pages nodes told is.telling) here.at;
      versions = versions ∙ held_is (whole_in image.live) parts.live.now is.live;
    }

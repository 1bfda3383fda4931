-- What is opened where nothing is found of a catalog.
use Rattle.std.proofs.Common.{◌≡◌, ℕ, ◌+◌, ◌≤◌, Bool, true, List, [], ◌∷◌, map, sym, ap, subst, ◌∙◌, arith}
use Rattle.std.specs.Prelude.{◌<◌, ◌&&◌, is_some, nat_le, nat_lt}
use Rattle.std.specs.List.{list_all}
use Rattle.std.proofs.lemmas.Bool.{and_from}
use Rattle.std.proofs.lemmas.Bool.Decides.{nat_tests}
use Rattle.common_lemmas.proofs.Booleans.{and_left, and_right}
use Rattle.page_space.specs.Frames.{Frames, page_at}
use Rattle.catalog_grammar.specs.Catalogs.{CatalogTable, rise_above}
use Rattle.catalog_record.specs.declared.tree.CatalogTree.{CatalogTree}
use Rattle.catalog_record.specs.CatalogTrees.{own_pages}
use Rattle.database_state.specs.Table.{Table}
use Rattle.jet_catalog.specs.Catalog.{ids_rise}
use Rattle.tree_check.specs.Marks.{copies, times_marked}
use Rattle.image_findings.specs.CatalogFindings.{CatalogTold, are_given, have_own_names, is_sound_catalog, is_sound_table, table_of}
use Rattle.image_findings.specs.TreeFindings.{no_marks, pages_below}
use Rattle.image_opening.specs.OpenedCatalogs.{is_sound}
use Rattle.image_opening.specs.WalkedTrees.{AreMarked, IsTreeBelow}
use Rattle.image_opening.proofs.TakenPages.{tree_taken}

-- ---- the numbers of the tables

abbrev numbers_of : List CatalogTable → List ℕ
numbers_of tables = map (λ (x : CatalogTable). x.table.id.0) tables

abbrev are_upto : ℕ → List Table → Bool
are_upto high tables = list_all (λ (t : Table). nat_le t.id high) tables

le_of : (m n : ℕ) → nat_le m n ≡ true → m ≤ n
le_of m n e = grind (arith, nat_tests, e)

is_le : (m n : ℕ) → m ≤ n → nat_le m n ≡ true
is_le m n le = grind (arith, nat_tests, le)

ids_from : (low high : ℕ) (tables : List CatalogTable) → low ≤ high → rise_above low (numbers_of tables) ≡ true → are_upto high (map table_of tables) ≡ true → ids_rise low high (map table_of tables) ≡ true
ids_from low high [] le rise all = is_le low high le
ids_from low high (x ∷ tables) le rise all =
    let id = x.table.id.0 in
    and_from (nat_lt low id) (ids_rise id high (map table_of tables)) (and_left (nat_lt low id) (rise_above id (numbers_of tables)) rise)
    (ids_from id high tables (le_of id high (and_left (nat_le id high) (are_upto high (map table_of tables)) all)) (and_right (nat_lt low id) (rise_above id (numbers_of tables)) rise)
    (and_right (nat_le id high) (are_upto high (map table_of tables)) all))

numbered : (told : CatalogTold) → rise_above 0 (numbers_of told.tables) ≡ true → is_sound told ≡ true → ids_rise 0 told.greatest (map table_of told.tables) ≡ true
numbered told rise sound = ids_from 0 told.greatest told.tables (omega arith) rise (bounded told.greatest (map table_of told.tables) sound)
  where
    bounded : (greatest : ℕ) (tables : List Table) → is_sound_catalog greatest tables ≡ true → are_upto greatest tables ≡ true
    bounded greatest tables h = and_left (are_given greatest tables) (list_all is_sound_table tables) (and_right (have_own_names tables) (are_given greatest tables && list_all is_sound_table tables) h)

pub numbered_tables : (told : CatalogTold) (greatest : ℕ) (tables : List Table) → rise_above 0 (numbers_of told.tables) ≡ true → is_sound told ≡ true → told.greatest ≡ greatest → tables ≡ map table_of told.tables → ids_rise 0 greatest tables ≡ true
numbered_tables told greatest tables rise sound same are = ap (ids_rise 0 greatest) are ∙ ap (λ (n : ℕ). ids_rise 0 n (map table_of told.tables)) (sym same) ∙ numbered told rise sound

-- ---- what is opened

pub marked_alone : (frames : Frames) (root : ℕ) (tree read : CatalogTree) (old new : List Bool) → IsTreeBelow frames root read.tree → tree ≡ read → ((p : ℕ) → copies p (pages_below frames root) + times_marked old p ≡ times_marked new p) → old ≡ no_marks frames → AreMarked frames (own_pages frames tree) new
marked_alone frames root tree read old new below same own fresh =
    let is : own_pages frames tree ≡ pages_below frames root = ap (own_pages frames) same ∙ below.pages in
    record {
      own = λ p. ap (λ (l : List ℕ). copies p l + times_marked (no_marks frames) p) is ∙ ap (λ (m : List Bool). copies p (pages_below frames root) + times_marked m p) (sym fresh) ∙ own p;
      taken = subst (λ (t : CatalogTree). (p : ℕ) → 0 < copies p (own_pages frames t) → is_some (page_at frames p) ≡ true) (sym same) (tree_taken read.tree.depth frames read.tree.root below.is_tree.shape);
    }

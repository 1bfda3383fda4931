-- The trees of a space stand in a copy of its pages.
use Rattle.std.proofs.Common.{◌≡◌, ℕ, List, [], ◌∷◌, Option, Some, None, Result, Ok, Err, refl, sym, ap, subst, ◌∙◌, length, arith}
use Rattle.std.specs.Prelude.{IfOk, map}
use Rattle.catalog_grammar.specs.CatalogSteps.{Roots, nodes_of_catalog}
use Rattle.catalog_grammar.specs.Catalogs.{catalog_nodes}
use Rattle.database_state.specs.Table.{Table}
use Rattle.jet_catalog.specs.Catalog.{CatalogState}
use Rattle.page_space.specs.Frames.{Frames}
use Rattle.stored_variants.specs.VersionsKept.{IsStore, needed_trees, tree_numbers}
use Rattle.table_trees.specs.StoredTables.{StoredTable}
use Rattle.table_trees.specs.StoredTrees.{StoredRoots, StoredTrees, roots_by_number}
use Rattle.table_trees.specs.TreesInSpace.{AreRootsOfTables, StandsIn}
use Rattle.version_store.specs.HeldChanges.{HeldChange}
use Rattle.image_writing.specs.EngineImages.{HasNoTables, first_trees}
use Rattle.image_writing.specs.declared.pages.TreePages.{TreePages}

-- ---- of a value

pub if_ok_then : {A B : Type 0} (r : Result A B) (P Q : A → Type 0) → ((x : A) → P x → Q x) → IfOk r P → IfOk r Q
if_ok_then (Ok x) P Q f p = f x p
if_ok_then (Err e) P Q f p = tt

-- ---- a copy

abbrev pub CopyStands : StoredTrees → TreePages → Type 0
CopyStands trees copy = StandsIn copy.pages.items (Some copy.root) trees

-- ---- a catalog without a page

no_roots : (frames : Frames) (roots : List StoredRoots) → AreRootsOfTables frames roots [] → roots ≡ []
no_roots frames [] h = refl
no_roots frames (r ∷ roots) h = absurd h

pub first_stands : (frames : Frames) (at : Option ℕ) (trees : StoredTrees) → HasNoTables trees → StandsIn frames at trees → at ≡ None → (copy : TreePages) → CopyStands first_trees copy → CopyStands trees copy
first_stands frames at trees none stands is copy new = subst (λ (t : StoredTrees). CopyStands t copy) (sym same) new
  where
    here : StandsIn frames None trees
    here = subst (λ (o : Option ℕ). StandsIn frames o trees) is stands

    tables : trees.tables ≡ []
    tables = none here.catalog

    roots : trees.catalog.roots ≡ []
    roots = no_roots frames trees.catalog.roots (subst (λ (l : List StoredTable). AreRootsOfTables frames trees.catalog.roots l) tables here.tables)

    same : trees ≡ first_trees
    same = λ i. record { tables = tables i; catalog = record { nodes = here.catalog i; roots = roots i } }

-- ---- no table

no_numbers : (trees : List StoredTable) → map tree_numbers trees ≡ [] → trees ≡ []
no_numbers [] e = refl
no_numbers (t ∷ trees) e = absurd (omega (arith, ap length e))

more_nodes : (roots : Roots) (greatest : ℕ) (tables : List Table) → nodes_of_catalog roots (record { greatest_table = greatest; tables = tables }) ≡ catalog_nodes 0 [] → tables ≡ []
more_nodes roots greatest [] e = refl
more_nodes roots greatest (t ∷ tables) e = absurd (omega (arith, ap length e))

pub no_tables : (newest : ℕ) (catalog : CatalogState) (trees : StoredTrees) (held : List HeldChange) → IsStore newest catalog trees held → HasNoTables trees
no_tables newest catalog trees held store e =
    let none : catalog.tables ≡ [] = more_nodes (roots_by_number trees.catalog.roots) catalog.greatest_table catalog.tables (sym store.shows.nodes ∙ e) in
    no_numbers trees.tables (store.kept.numbers ∙ ap (map needed_trees) none)

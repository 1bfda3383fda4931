-- Tables that are made one after the other, in the order of the opened ones.
use Rattle.std.proofs.Common.{◌≡◌, ◌<◌, ℕ, zero, suc, List, [], ◌∷◌, ◌++◌, length, get_or, refl, sym, ap, subst, arith}
use Rattle.std.specs.Prelude.{map}
use Rattle.std.specs.List.{AllByRecursion}
use Rattle.catalog_grammar.specs.Catalogs.{CatalogTable}
use Rattle.database_state.specs.Table.{Table}
use Rattle.image_findings.specs.CatalogFindings.{table_of}
use Rattle.image_findings.specs.TableContents.{contents_below}
use Rattle.image_opening.specs.OpenedTrees.{EachWith, HasContents}
use Rattle.image_opening.specs.declared.opened.OpenedTable.{OpenedTable}
use Rattle.page_space.specs.Frames.{Frames}
use Rattle.table_trees.specs.declared.table.Table.{Table as Trees}
use Rattle.engine_image.proofs.RuleNumbers.{RisesInside, its_trees}
use Rattle.engine_image.specs.MadeTables.{AreMadeTables, HasItsTrees, HaveTheirTrees, IsMadeTable}

-- as many are made as were opened
pub made_length : (opened : List OpenedTable) (made : List Trees) (tables : List Table) → AreMadeTables opened made tables → length made ≡ length opened
made_length [] [] tables h = refl
made_length [] (m ∷ made) tables h = absurd h
made_length (o ∷ opened) [] tables h = absurd h
made_length (o ∷ opened) (m ∷ made) [] h = absurd h
made_length (o ∷ opened) (m ∷ made) (table ∷ tables) h = ap suc (made_length opened made tables h.1)

pub made_next : (opened : List OpenedTable) (made : List Trees) (tables : List Table) (o : OpenedTable) (m : Trees) (table : Table) → AreMadeTables opened made tables → length opened < length tables → table ≡ get_or tables (length opened) table → IsMadeTable table o m
    → AreMadeTables (opened ++ o ∷ []) (made ++ m ∷ []) tables
made_next [] [] [] o m table h lt at is = absurd (omega (arith, lt))
made_next [] [] (t ∷ tables) o m table h lt at is = (subst (λ (u : Table). IsMadeTable u o m) at is, tt)
made_next [] (n ∷ made) tables o m table h lt at is = absurd h
made_next (p ∷ opened) [] tables o m table h lt at is = absurd h
made_next (p ∷ opened) (n ∷ made) [] o m table h lt at is = absurd h
made_next (p ∷ opened) (n ∷ made) (t ∷ tables) o m table h lt at is = (h.0, made_next opened made tables o m table h.1 (omega (arith, lt)) at is)

pub trees_at : (tables : List Table) (opened : List OpenedTable) (place : ℕ) (table : Table) (o : OpenedTable) → HaveTheirTrees tables opened → place < length opened → o ≡ get_or opened place o → table ≡ get_or tables place table → HasItsTrees table o
trees_at tables [] place table o h lt e f = absurd (omega (arith, lt))
trees_at [] (p ∷ opened) place table o h lt e f = absurd h
trees_at (t ∷ tables) (p ∷ opened) zero table o h lt e f = subst (λ (u : Table). HasItsTrees u o) (sym f) (subst (λ (q : OpenedTable). HasItsTrees t q) (sym e) h.0)
trees_at (t ∷ tables) (p ∷ opened) (suc place) table o h lt e f = trees_at tables opened place table o h.1 (omega (arith, lt)) e f

-- each table that nodes tell has its trees
pub their_trees : (frames new : Frames) (xs : List CatalogTable) (opened : List OpenedTable) → AllByRecursion RisesInside xs → EachWith (HasContents new) opened (map (contents_below frames) xs) → HaveTheirTrees (map table_of xs) opened
their_trees frames new [] [] rise h = tt
their_trees frames new [] (o ∷ opened) rise h = absurd h
their_trees frames new (x ∷ xs) [] rise h = absurd h
their_trees frames new (x ∷ xs) (o ∷ opened) rise h = (its_trees frames new x o rise.0 h.0, their_trees frames new xs opened rise.1 h.1)

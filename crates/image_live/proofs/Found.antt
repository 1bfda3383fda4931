-- A table of the catalog and its trees are found where the image has the table.
use Rattle.std.proofs.Common.{◌≡◌, ℕ, Bool, true, false, List, [], ◌∷◌, Option, Some, None, map, refl, sym, ap, subst, ◌∙◌}
use Rattle.std.specs.Prelude.{◌==◌, ◌&&◌, find, is_some, ⊤, if◌then◌else◌}
use Rattle.std.specs.List.{AllByRecursion, list_all}
use Rattle.std.proofs.lemmas.List.Folds.{list_all-map}
use Rattle.database_state.specs.Table.{Table, table_with_id}
use Rattle.image_findings.specs.TableContents.{TableContents, contents_with_id}
use Rattle.image_opening.specs.OpenedTrees.{EachWith, HasContents}
use Rattle.image_opening.specs.declared.opened.OpenedTable.{OpenedTable}
use Rattle.jet_base.specs.declared.ids.TableId.{TableId}
use Rattle.page_space.specs.Frames.{Frames}
use Rattle.image_live.specs.TablesRead.{IsReadable}

abbrev pub defined : List TableContents → List Table
defined tables = map (λ (t : TableContents). t.table) tables

abbrev pub trees_with_id : List OpenedTable → ℕ → Option OpenedTable
trees_with_id trees id = find (λ (x : OpenedTable). x.table.0 == id) trees

pub record IsOf (frames : Frames) (definition : Table) (trees : OpenedTable) (t : TableContents) : Type 0 where
  pub table_is : definition ≡ t.table
  pub contents : HasContents frames trees t
  pub readable : IsReadable t

-- all three are there, or none
abbrev pub AreFound : Frames → Option Table → Option OpenedTable → Option TableContents → Type 0
AreFound frames None None None = ⊤
AreFound frames None None (Some t) = ⊥
AreFound frames None (Some trees) t = ⊥
AreFound frames (Some definition) None t = ⊥
AreFound frames (Some definition) (Some trees) None = ⊥
AreFound frames (Some definition) (Some trees) (Some t) = IsOf frames definition trees t

pub are_found : (frames : Frames) (id : ℕ) (trees : List OpenedTable) (tables : List TableContents) → EachWith (HasContents frames) trees tables → AllByRecursion IsReadable tables → AreFound frames (table_with_id (defined tables) id) (trees_with_id trees id) (contents_with_id tables id)
are_found frames id [] [] each all = tt
are_found frames id [] (t ∷ tables) each all = absurd each
are_found frames id (x ∷ trees) [] each all = absurd each
are_found frames id (x ∷ trees) (t ∷ tables) each all =
    subst (λ (n : ℕ). AreFound frames (table_with_id (defined (t ∷ tables)) id) (if n == id then Some x else trees_with_id trees id) (contents_with_id (t ∷ tables) id)) (sym each.0.number) (by (t.table.id == id) (are_found frames id trees tables each.1 all.1))
  where
    by : (b : Bool) → AreFound frames (table_with_id (defined tables) id) (trees_with_id trees id) (contents_with_id tables id) → AreFound frames (if b then Some t.table else table_with_id (defined tables) id) (if b then Some x else trees_with_id trees id) (if b then Some t else contents_with_id tables id)
    by true rest = record { table_is = refl; contents = each.0; readable = all.0 }
    by false rest = rest

same_find : (id : ℕ) (tables : List TableContents) → is_some (table_with_id (defined tables) id) ≡ is_some (contents_with_id tables id)
same_find id [] = refl
same_find id (t ∷ tables) = by (t.table.id == id) (same_find id tables)
  where
    by : (b : Bool) → is_some (table_with_id (defined tables) id) ≡ is_some (contents_with_id tables id) → is_some (if b then Some t.table else table_with_id (defined tables) id) ≡ is_some (if b then Some t else contents_with_id tables id)
    by true rest = refl
    by false rest = rest

same_all : (tables : List TableContents) (ids : List TableId) → list_all (λ (id : TableId). is_some (table_with_id (defined tables) id.0)) ids ≡ list_all (λ (id : TableId). is_some (contents_with_id tables id.0)) ids
same_all tables [] = refl
same_all tables (id ∷ ids) = ap (λ b. b && list_all (λ (x : TableId). is_some (table_with_id (defined tables) x.0)) ids) (same_find id.0 tables) ∙ ap (λ b. is_some (contents_with_id tables id.0) && b) (same_all tables ids)

-- The tables of these numbers are in the catalog where the image has them.
pub are_there : (catalog : List Table) (tables : List TableContents) (ids : List TableId) (numbers : List ℕ) → catalog ≡ defined tables → map (λ (id : TableId). id.0) ids ≡ numbers
    → list_all (λ (id : TableId). is_some (table_with_id catalog id.0)) ids ≡ list_all (λ id. is_some (contents_with_id tables id)) numbers
are_there catalog tables ids numbers is same =
    ap (λ (l : List Table). list_all (λ (id : TableId). is_some (table_with_id l id.0)) ids) is
    ∙ same_all tables ids
    ∙ sym (list_all-map (λ id. is_some (contents_with_id tables id)) (λ (id : TableId). id.0) ids)
    ∙ ap (list_all (λ id. is_some (contents_with_id tables id))) same

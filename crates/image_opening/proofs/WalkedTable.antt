-- The trees of one table, walked one after another.
use Rattle.std.proofs.Common.{◌≡◌, ℕ, Bool, List, [], ◌∷◌, ◌++◌, map, refl, sym, subst}
use Rattle.jet_base.specs.declared.ids.IndexId.{IndexId}
use Rattle.jet_base.specs.declared.ids.TableId.{TableId}
use Rattle.page_space.specs.Frames.{Frames}
use Rattle.table_trees.specs.StoredTrees.{StoredRoots}
use Rattle.image_findings.specs.TreeFindings.{trees_finding}
use Rattle.image_opening.specs.OpenedCatalogs.{IsFirstFinding, root_kept}
use Rattle.image_opening.specs.OpenedTrees.{AreTreesBelow, EachWith, IsIndexBelow, roots_walked}
use Rattle.image_opening.specs.WalkedTrees.{AreWalked, IsTreeBelow}
use Rattle.image_opening.specs.declared.fault.OpenFault.{OpenFault}
use Rattle.image_opening.specs.declared.opened.OpenedTable.{OpenedTable}
use Rattle.image_opening.proofs.ManyWalks.{both_walked, found_first, found_next, walk_failed}
use Rattle.image_opening.proofs.WalkedLists.{index_roots}

-- the roots of a table by their parts
abbrev pub roots_by_parts : TableId → ℕ → ℕ → List (IndexId × ℕ) → StoredRoots
roots_by_parts table records values indexes = record { number = table.0; records = records; long_values = values; indexes = map root_kept indexes }

pub table_walked : (frames : Frames) (roots : StoredRoots) (table : TableId) (records values : ℕ) (indexes : List (IndexId × ℕ)) (old a b new : List Bool) → roots ≡ roots_by_parts table records values indexes → AreWalked frames (records ∷ []) old a → AreWalked frames (index_roots indexes) a b
    → AreWalked frames (values ∷ []) b new → AreWalked frames (roots_walked roots) old new
table_walked frames roots table records values indexes old a b new e first second third =
    subst (λ (r : StoredRoots). AreWalked frames (roots_walked r) old new) (sym e)
    (both_walked frames (records ∷ []) (index_roots indexes ++ values ∷ []) old a new first (both_walked frames (index_roots indexes) (values ∷ []) a b new second third))

pub records_failed : (frames : Frames) (roots : StoredRoots) (table : TableId) (records values : ℕ) (indexes : List (IndexId × ℕ)) (old : List Bool) (why : OpenFault) → roots ≡ roots_by_parts table records values indexes → IsFirstFinding (trees_finding frames (records ∷ []) old) why
    → IsFirstFinding (trees_finding frames (roots_walked roots) old) why
records_failed frames roots table records values indexes old why e h =
    subst (λ (r : StoredRoots). IsFirstFinding (trees_finding frames (roots_walked r) old) why) (sym e) (found_first frames (records ∷ []) (index_roots indexes ++ values ∷ []) old why h)

pub indexes_failed : (frames : Frames) (roots : StoredRoots) (table : TableId) (records values : ℕ) (indexes : List (IndexId × ℕ)) (old a : List Bool) (why : OpenFault) → roots ≡ roots_by_parts table records values indexes → AreWalked frames (records ∷ []) old a
    → IsFirstFinding (trees_finding frames (index_roots indexes) a) why → IsFirstFinding (trees_finding frames (roots_walked roots) old) why
indexes_failed frames roots table records values indexes old a why e first h =
    subst (λ (r : StoredRoots). IsFirstFinding (trees_finding frames (roots_walked r) old) why) (sym e)
    (walk_failed frames (records ∷ []) (index_roots indexes) (values ∷ []) (records ∷ (index_roots indexes ++ values ∷ [])) old a why refl first h)

pub values_failed : (frames : Frames) (roots : StoredRoots) (table : TableId) (records values : ℕ) (indexes : List (IndexId × ℕ)) (old a b : List Bool) (why : OpenFault) → roots ≡ roots_by_parts table records values indexes → AreWalked frames (records ∷ []) old a
    → AreWalked frames (index_roots indexes) a b → IsFirstFinding (trees_finding frames (values ∷ []) b) why → IsFirstFinding (trees_finding frames (roots_walked roots) old) why
values_failed frames roots table records values indexes old a b why e first second h =
    subst (λ (r : StoredRoots). IsFirstFinding (trees_finding frames (roots_walked r) old) why) (sym e)
    (found_next frames (records ∷ index_roots indexes) (values ∷ []) old b why (both_walked frames (records ∷ []) (index_roots indexes) old a b first second) h)

pub trees_of_table : (frames : Frames) (roots : StoredRoots) (table : TableId) (records values : ℕ) (indexes : List (IndexId × ℕ)) (opened : OpenedTable) → roots ≡ roots_by_parts table records values indexes → opened.table ≡ table → IsTreeBelow frames records opened.nodes
    → EachWith (IsIndexBelow frames) (map root_kept indexes) opened.indexes.items → IsTreeBelow frames values opened.long_values → AreTreesBelow frames roots opened
trees_of_table frames roots table records values indexes opened e number nodes trees longs =
    subst (λ (r : StoredRoots). AreTreesBelow frames r opened) (sym e) (record { number = λ i. (number i).0; nodes = nodes; long_values = longs; indexes = trees })

-- Trees of a list of indexes, or of tables, that a loop walks one after another.
use Rattle.std.proofs.Common.{◌≡◌, ℕ, zero, suc, ◌+◌, ◌<◌, ◌≤◌, Bool, List, [], ◌∷◌, ◌++◌, get_or, length, map, take, refl, sym, ap, subst, ◌∙◌, arith, add-one, append_assoc}
use Rattle.std.specs.Prelude.{drop}
use Rattle.std.specs.List.{flat_map}
use Rattle.std.proofs.lemmas.List.{take_all}
use Rattle.jet_base.specs.declared.ids.IndexId.{IndexId}
use Rattle.page_space.specs.Frames.{Frames}
use Rattle.table_trees.specs.StoredTrees.{StoredRoots}
use Rattle.image_findings.specs.TreeFindings.{trees_finding}
use Rattle.image_opening.specs.OpenedCatalogs.{IsFirstFinding, root_kept}
use Rattle.image_opening.specs.OpenedTrees.{AreTreesBelow, EachWith, IsIndexBelow, roots_walked}
use Rattle.image_opening.specs.WalkedTrees.{AreWalked}
use Rattle.image_opening.specs.declared.fault.OpenFault.{OpenFault}
use Rattle.image_opening.specs.declared.opened.OpenedIndex.{OpenedIndex}
use Rattle.image_opening.specs.declared.opened.OpenedTable.{OpenedTable}
use Rattle.image_opening.proofs.Lists.{flat_next, map_both, take_next}
use Rattle.image_opening.proofs.ManyWalks.{both_walked, none_walked, walk_failed}

-- ---- indexes

abbrev pub index_roots : List (IndexId × ℕ) → List ℕ
index_roots roots = map (λ (x : ℕ × ℕ). x.1) (map root_kept roots)

-- the indexes of these roots are walked
abbrev pub IndexesWalked : Frames → List (IndexId × ℕ) → List OpenedIndex → List Bool → List Bool → Type 0
IndexesWalked frames roots opened old new = EachWith (IsIndexBelow frames) (map root_kept roots) opened × AreWalked frames (index_roots roots) old new

pub no_index : (frames : Frames) (opened : List OpenedIndex) (marks : List Bool) → opened ≡ [] → IndexesWalked frames [] opened marks marks
no_index frames opened marks e = (subst (EachWith (IsIndexBelow frames) []) (sym e) tt, none_walked frames marks)

one_more_root : (xs : List (IndexId × ℕ)) (x : IndexId × ℕ) → index_roots (xs ++ x ∷ []) ≡ index_roots xs ++ x.1 ∷ []
one_more_root xs x = ap (map (λ (y : ℕ × ℕ). y.1)) (map_both root_kept xs (x ∷ [])) ∙ map_both (λ (y : ℕ × ℕ). y.1) (map root_kept xs) (root_kept x ∷ [])

pub next_index : (frames : Frames) (roots : List (IndexId × ℕ)) (i : ℕ) (x : IndexId × ℕ) (opened more : List OpenedIndex) (old mid new : List Bool) → i < length roots → x ≡ get_or roots i x → IndexesWalked frames (take i roots) opened old mid
    → ((before : List (ℕ × ℕ)) → EachWith (IsIndexBelow frames) before opened → EachWith (IsIndexBelow frames) (before ++ root_kept x ∷ []) more) → AreWalked frames (x.1 ∷ []) mid new → IndexesWalked frames (take (i + 1) roots) more old new
next_index frames roots i x opened more old mid new lt is before put walked =
    let all : take (i + 1) roots ≡ take i roots ++ x ∷ [] = ap (λ (n : ℕ). take n roots) (add-one i) ∙ take_next roots i x lt is in
    subst (λ (l : List (IndexId × ℕ)). IndexesWalked frames l more old new) (sym all) (
      subst (λ (l : List (ℕ × ℕ)). EachWith (IsIndexBelow frames) l more) (sym (map_both root_kept (take i roots) (x ∷ []))) (put (map root_kept (take i roots)) before.0),
      subst (λ (l : List ℕ). AreWalked frames l old new) (sym (one_more_root (take i roots) x)) (both_walked frames (index_roots (take i roots)) (x.1 ∷ []) old mid new before.1 walked),
    )

index_parted : (roots : List (IndexId × ℕ)) (i : ℕ) (x : IndexId × ℕ) → i < length roots → x ≡ get_or roots i x → index_roots roots ≡ index_roots (take i roots) ++ ((x.1 ∷ []) ++ index_roots (drop (suc i) roots))
index_parted [] i x lt is = absurd (omega (arith, lt))
index_parted (y ∷ roots) zero x lt is = ap (λ (z : IndexId × ℕ). z.1 ∷ index_roots roots) (sym is)
index_parted (y ∷ roots) (suc i) x lt is = ap (λ (l : List ℕ). y.1 ∷ l) (index_parted roots i x (omega (arith, lt)) is)

pub index_failed : (frames : Frames) (roots : List (IndexId × ℕ)) (i : ℕ) (x : IndexId × ℕ) (opened : List OpenedIndex) (old mid : List Bool) (why : OpenFault) → i < length roots → x ≡ get_or roots i x → IndexesWalked frames (take i roots) opened old mid
    → IsFirstFinding (trees_finding frames (x.1 ∷ []) mid) why → IsFirstFinding (trees_finding frames (index_roots roots) old) why
index_failed frames roots i x opened old mid why lt is before h =
    walk_failed frames (index_roots (take i roots)) (x.1 ∷ []) (index_roots (drop (suc i) roots)) (index_roots roots) old mid why (index_parted roots i x lt is) before.1 h

pub all_indexes : (frames : Frames) (roots : List (IndexId × ℕ)) (i : ℕ) (opened : List OpenedIndex) (old new : List Bool) → length roots ≤ i → IndexesWalked frames (take i roots) opened old new → IndexesWalked frames roots opened old new
all_indexes frames roots i opened old new end h = subst (λ (l : List (IndexId × ℕ)). IndexesWalked frames l opened old new) (take_all i roots (omega (arith, end))) h

-- ---- tables

abbrev pub TablesWalked : Frames → List StoredRoots → List OpenedTable → List Bool → List Bool → Type 0
TablesWalked frames roots opened old new = EachWith (AreTreesBelow frames) roots opened × AreWalked frames (flat_map roots_walked roots) old new

pub no_table : (frames : Frames) (opened : List OpenedTable) (marks : List Bool) → opened ≡ [] → TablesWalked frames [] opened marks marks
no_table frames opened marks e = (subst (EachWith (AreTreesBelow frames) []) (sym e) tt, none_walked frames marks)

pub next_table : (frames : Frames) (roots : List StoredRoots) (i : ℕ) (x : StoredRoots) (opened more : List OpenedTable) (old mid new : List Bool) → i < length roots → x ≡ get_or roots i x → TablesWalked frames (take i roots) opened old mid
    → ((before : List StoredRoots) → EachWith (AreTreesBelow frames) before opened → EachWith (AreTreesBelow frames) (before ++ x ∷ []) more) → AreWalked frames (roots_walked x) mid new → TablesWalked frames (take (i + 1) roots) more old new
next_table frames roots i x opened more old mid new lt is before put walked = (
  subst (λ (l : List StoredRoots). EachWith (AreTreesBelow frames) l more) (sym (ap (λ (n : ℕ). take n roots) (add-one i) ∙ take_next roots i x lt is)) (put (take i roots) before.0),
  subst (λ (l : List ℕ). AreWalked frames l old new) (sym (ap (λ (n : ℕ). flat_map roots_walked (take n roots)) (add-one i) ∙ flat_next roots_walked roots i x lt is))
      (both_walked frames (flat_map roots_walked (take i roots)) (roots_walked x) old mid new before.1 walked),
)

table_parted : (roots : List StoredRoots) (i : ℕ) (x : StoredRoots) → i < length roots → x ≡ get_or roots i x → flat_map roots_walked roots ≡ flat_map roots_walked (take i roots) ++ (roots_walked x ++ flat_map roots_walked (drop (suc i) roots))
table_parted [] i x lt is = absurd (omega (arith, lt))
table_parted (y ∷ roots) zero x lt is = ap (λ (z : StoredRoots). roots_walked z ++ flat_map roots_walked roots) (sym is)
table_parted (y ∷ roots) (suc i) x lt is =
    ap (λ (l : List ℕ). roots_walked y ++ l) (table_parted roots i x (omega (arith, lt)) is)
    ∙ sym (append_assoc (roots_walked y) (flat_map roots_walked (take i roots)) (roots_walked x ++ flat_map roots_walked (drop (suc i) roots)))

pub table_failed : (frames : Frames) (roots : List StoredRoots) (i : ℕ) (x : StoredRoots) (opened : List OpenedTable) (old mid : List Bool) (why : OpenFault) → i < length roots → x ≡ get_or roots i x → TablesWalked frames (take i roots) opened old mid
    → IsFirstFinding (trees_finding frames (roots_walked x) mid) why → IsFirstFinding (trees_finding frames (flat_map roots_walked roots) old) why
table_failed frames roots i x opened old mid why lt is before h =
    walk_failed frames (flat_map roots_walked (take i roots)) (roots_walked x) (flat_map roots_walked (drop (suc i) roots)) (flat_map roots_walked roots) old mid why (table_parted roots i x lt is) before.1 h

pub all_tables : (frames : Frames) (roots : List StoredRoots) (i : ℕ) (opened : List OpenedTable) (old new : List Bool) → length roots ≤ i → TablesWalked frames (take i roots) opened old new → TablesWalked frames roots opened old new
all_tables frames roots i opened old new end h = subst (λ (l : List StoredRoots). TablesWalked frames l opened old new) (take_all i roots (omega (arith, end))) h

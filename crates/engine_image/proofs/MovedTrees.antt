-- The trees that go, rule by rule, from the opened indexes of a table to the made ones.
use Rattle.std.proofs.Common.{◌≡◌, ◌+◌, ℕ, Bool, true, false, List, [], ◌∷◌, ◌++◌, length, cond, Option, Some, None, refl, sym, ap, subst, ◌∙◌, arith}
use Rattle.std.specs.Prelude.{◌==◌, filter, find, not}
use Rattle.std.specs.List.{AllByRecursion, flat_map}
use Rattle.std.proofs.lemmas.Bool.{eqb-true}
use Rattle.std.proofs.lemmas.List.Concat.{flat_map-cons}
use Rattle.std.proofs.lemmas.List.Sums.{sum_by-append}
use Rattle.btree_inplace.specs.Trees.{pages_of}
use Rattle.btree_inplace.specs.declared.Tree.{Tree}
use Rattle.common_lemmas.proofs.Found.{found_passes}
use Rattle.common_lemmas.proofs.Lists.{all_filter}
use Rattle.common_lemmas.proofs.Options.{none_some}
use Rattle.database_state.specs.Table.{primary_first}
use Rattle.image_opening.specs.OpenedTrees.{EachWith, index_pages as opened_index_pages}
use Rattle.image_opening.specs.declared.opened.OpenedIndex.{OpenedIndex}
use Rattle.index_derive.specs.declared.rules.IndexRule.{IndexRule}
use Rattle.laws_versions.specs.History.{EachTwo}
use Rattle.page_space.specs.Frames.{Frames}
use Rattle.table_trees.specs.Pages.{copies}
use Rattle.table_trees.specs.TableParts.{index_pages}
use Rattle.table_trees.specs.declared.table.TableIndex.{TableIndex}
use Rattle.engine_image.proofs.TablesShown.{same_length}
use Rattle.engine_image.specs.MadeTables.{AreMadeIndexes, Differ, HaveTrees, IsMadeIndex, IsTaken, MoveTrees, MovesTree, PutsIndex, TakesUnless, has_number}

abbrev pub secondary : IndexRule → Bool
secondary rule = not rule.flags.primary

-- ---- what is left is found as before

kept_found : (other : ℕ) (front back : List OpenedIndex) (x : OpenedIndex) → has_number other x ≡ false → find (has_number other) (front ++ x ∷ back) ≡ find (has_number other) (front ++ back)
kept_found other [] back x none = ap (λ (b : Bool). cond b (Some x) (find (has_number other) back)) none
kept_found other (y ∷ front) back x none = ap (λ (o : Option OpenedIndex). cond (has_number other y) (Some y) o) (kept_found other front back x none)

pub stays_found : (index other : ℕ) (old new : List OpenedIndex) (tree : Tree) → IsTaken index old tree new → (index == other) ≡ false → find (has_number other) old ≡ find (has_number other) new
stays_found index other old new tree t differ =
    let number : t.x.index.0 ≡ index = eqb-true t.x.index.0 index (found_passes (has_number index) old t.x t.found) in
    ap (find (has_number other)) t.old_is ∙ kept_found other t.front t.back t.x (ap (λ (n : ℕ). n == other) number ∙ differ) ∙ ap (find (has_number other)) (sym t.new_is)

each_lifted : (old new : List OpenedIndex) (rules : List IndexRule) (made : List TableIndex) → AllByRecursion (λ (rule : IndexRule). find (has_number rule.id.0) old ≡ find (has_number rule.id.0) new) rules → EachWith (IsMadeIndex new) rules made → EachWith (IsMadeIndex old) rules made
each_lifted old new [] [] same each = tt
each_lifted old new [] (i ∷ made) same each = absurd each
each_lifted old new (rule ∷ rules) [] same each = absurd each
each_lifted old new (rule ∷ rules) (i ∷ made) same each = (record { x = each.0.x; found = same.0 ∙ each.0.found; index_is = each.0.index_is; tree_is = each.0.tree_is }, each_lifted old new rules made same.1 each.1)

-- ---- pages

pub pages_more : {X : Type 0} (pages : X → List ℕ) (p : ℕ) (x : X) (xs : List X) → copies p (flat_map pages (x ∷ xs)) ≡ copies p (pages x) + copies p (flat_map pages xs)
pages_more pages p x xs = ap (copies p) (flat_map-cons pages x xs) ∙ sum_by-append (λ (q : ℕ). cond (q == p) 1 0) (pages x) (flat_map pages xs)

pages_joined : {X : Type 0} (pages : X → List ℕ) (p : ℕ) (xs ys : List X) → copies p (flat_map pages (xs ++ ys)) ≡ copies p (flat_map pages xs) + copies p (flat_map pages ys)
pages_joined pages p [] ys = omega arith
pages_joined pages p (x ∷ xs) ys =
    let a : copies p (flat_map pages (x ∷ (xs ++ ys))) ≡ copies p (pages x) + copies p (flat_map pages (xs ++ ys)) = pages_more pages p x (xs ++ ys) in
    let b : copies p (flat_map pages (x ∷ xs)) ≡ copies p (pages x) + copies p (flat_map pages xs) = pages_more pages p x xs in
    let c : copies p (flat_map pages (xs ++ ys)) ≡ copies p (flat_map pages xs) + copies p (flat_map pages ys) = pages_joined pages p xs ys in
    omega (arith, a, b, c)

joined_length : {X : Type 0} (xs ys : List X) → length (xs ++ ys) ≡ length xs + length ys
joined_length [] ys = omega arith
joined_length (x ∷ xs) ys = let rest = joined_length xs ys in omega (arith, rest)

appended : {X : Type 0} (xs ys zs : List X) → (xs ++ ys) ++ zs ≡ xs ++ (ys ++ zs)
appended [] ys zs = refl
appended {X} (x ∷ xs) ys zs = ap (λ (l : List X). x ∷ l) (appended xs ys zs)

no_more : {X : Type 0} (xs : List X) → xs ≡ xs ++ []
no_more [] = refl
no_more {X} (x ∷ xs) = ap (λ (l : List X). x ∷ l) (no_more xs)

-- ---- rule by rule

pub record AreMoved (rules : List IndexRule) (opened : List OpenedIndex) (made : List TableIndex) (left : List OpenedIndex) (more : List TableIndex) : Type 0 where
  pub new : List TableIndex
  pub is : more ≡ made ++ new
  pub each : EachWith (IsMadeIndex opened) (filter secondary rules) new
  pub pages : (frames : Frames) (p : ℕ) → copies p (flat_map (index_pages frames) new) + copies p (flat_map (opened_index_pages frames) left) ≡ copies p (flat_map (opened_index_pages frames) opened)
  pub many : length new + length left ≡ length opened

skipped : (rule : IndexRule) (rules : List IndexRule) (opened left : List OpenedIndex) (made more : List TableIndex) → rule.flags.primary ≡ true → AreMoved rules opened made left more → AreMoved (rule ∷ rules) opened made left more
skipped rule rules opened left made more primary m = record {
  new = m.new;
  is = m.is;
  each = subst (λ (b : Bool). EachWith (IsMadeIndex opened) (cond (not b) (rule ∷ filter secondary rules) (filter secondary rules)) m.new) (sym primary) m.each;
  pages = m.pages;
  many = m.many;
}

moved_one : (rule : IndexRule) (rules : List IndexRule) (opened o left : List OpenedIndex) (made more : List TableIndex) (tree : Tree) (i : TableIndex) → rule.flags.primary ≡ false → IsTaken rule.id.0 opened tree o → i.index ≡ rule.id → i.tree.tree ≡ tree
    → AllByRecursion (Differ rule) rules → AreMoved rules o (made ++ i ∷ []) left more → AreMoved (rule ∷ rules) opened made left more
moved_one rule rules opened o left made more tree i primary t index_is tree_is differ m =
    let first : IsMadeIndex opened rule i = record { x = t.x; found = t.found; index_is = index_is; tree_is = tree_is ∙ sym t.tree_is } in
    let others : AllByRecursion (λ (other : IndexRule). find (has_number other.id.0) opened ≡ find (has_number other.id.0) o) rules = all_stay rule.id.0 rules differ t in
    let each : EachWith (IsMadeIndex opened) (filter secondary rules) m.new = each_lifted opened o (filter secondary rules) m.new (all_filter (λ (other : IndexRule). find (has_number other.id.0) opened ≡ find (has_number other.id.0) o) secondary rules others) m.each in
    record {
      new = i ∷ m.new;
      is = m.is ∙ appended made (i ∷ []) m.new;
      each = subst (λ (b : Bool). EachWith (IsMadeIndex opened) (cond (not b) (rule ∷ filter secondary rules) (filter secondary rules)) (i ∷ m.new)) (sym primary) (first, each);
      pages = λ frames p.
          let a : copies p (flat_map (index_pages frames) (i ∷ m.new)) ≡ copies p (index_pages frames i) + copies p (flat_map (index_pages frames) m.new) = pages_more (index_pages frames) p i m.new in
          let b : copies p (flat_map (index_pages frames) m.new) + copies p (flat_map (opened_index_pages frames) left) ≡ copies p (flat_map (opened_index_pages frames) o) = m.pages frames p in
          let c : copies p (flat_map (opened_index_pages frames) o) ≡ copies p (flat_map (opened_index_pages frames) t.front) + copies p (flat_map (opened_index_pages frames) t.back) =
          ap (λ (l : List OpenedIndex). copies p (flat_map (opened_index_pages frames) l)) t.new_is ∙ pages_joined (opened_index_pages frames) p t.front t.back in
          let d : copies p (flat_map (opened_index_pages frames) opened) ≡ copies p (flat_map (opened_index_pages frames) t.front) + copies p (flat_map (opened_index_pages frames) (t.x ∷ t.back)) =
          ap (λ (l : List OpenedIndex). copies p (flat_map (opened_index_pages frames) l)) t.old_is ∙ pages_joined (opened_index_pages frames) p t.front (t.x ∷ t.back) in
          let e : copies p (flat_map (opened_index_pages frames) (t.x ∷ t.back)) ≡ copies p (opened_index_pages frames t.x) + copies p (flat_map (opened_index_pages frames) t.back) = pages_more (opened_index_pages frames) p t.x t.back in
          let f : copies p (index_pages frames i) ≡ copies p (opened_index_pages frames t.x) = ap (λ (u : Tree). copies p (pages_of frames u)) (tree_is ∙ sym t.tree_is) in
          omega (arith, a, b, c, d, e, f);
      many =
          let a : length opened ≡ length t.front + length (t.x ∷ t.back) = ap length t.old_is ∙ joined_length t.front (t.x ∷ t.back) in
          let b : length o ≡ length t.front + length t.back = ap length t.new_is ∙ joined_length t.front t.back in
          let c = m.many in
          omega (arith, a, b, c);
    }
  where
    all_stay : (index : ℕ) (others : List IndexRule) → AllByRecursion (λ (other : IndexRule). (index == other.id.0) ≡ false) others → IsTaken index opened tree o → AllByRecursion (λ (other : IndexRule). find (has_number other.id.0) opened ≡ find (has_number other.id.0) o) others
    all_stay index [] d taken = tt
    all_stay index (other ∷ others) d taken = (stays_found index other.id.0 opened o tree taken d.0, all_stay index others d.1 taken)

have_left : (index : ℕ) (opened o : List OpenedIndex) (tree : Tree) (others : List IndexRule) → IsTaken index opened tree o → AllByRecursion (λ (other : IndexRule). (index == other.id.0) ≡ false) others → HaveTrees opened others → HaveTrees o others
have_left index opened o tree [] t d h = tt
have_left index opened o tree (other ∷ others) t d h = (λ e. let x = h.0 e in (x.0, sym (stays_found index other.id.0 opened o tree t d.0) ∙ x.1), have_left index opened o tree others t d.1 h.1)

moved_first : (rule : IndexRule) (rules : List IndexRule) (opened o left : List OpenedIndex) (made m more : List TableIndex) → (HaveTrees o rules → AreMoved rules o m left more) → AllByRecursion (Differ rule) rules → HaveTrees opened (rule ∷ rules) → MovesTree rule opened made o m
    → AreMoved (rule ∷ rules) opened made left more
moved_first rule rules opened o left made m more rest d h moves = by rule.flags.primary refl moves.tree moves.takes moves.puts
  where
    by : (b : Bool) → rule.flags.primary ≡ b → (t : Option Tree) → TakesUnless b rule.id.0 opened t o → PutsIndex rule.id t made m → AreMoved (rule ∷ rules) opened made left more
    by true e t takes puts =
        let same : m ≡ made = subst (λ (u : Option Tree). PutsIndex rule.id u made m) takes.0 puts in
        skipped rule rules opened left made more e
        (subst (λ (l : List TableIndex). AreMoved rules opened l left more) same (subst (λ (l : List OpenedIndex). AreMoved rules l m left more) takes.1 (rest (subst (λ (l : List OpenedIndex). HaveTrees l rules) (sym takes.1) h.1))))
    by false e None takes puts = let x = h.0 e in none_some x.0 (sym takes.0 ∙ x.1)
    by false e (Some tree) takes puts =
        moved_one rule rules opened o left made more tree puts.0 e takes puts.1 puts.2 d (subst (λ (l : List TableIndex). AreMoved rules o l left more) puts.3 (rest (have_left rule.id.0 opened o tree rules takes d h.1)))

none_before : (m n : ℕ) → m ≡ n → 0 + m ≡ n
none_before m n h = omega (arith, h)

moved : (rules : List IndexRule) (opened left : List OpenedIndex) (made more : List TableIndex) → EachTwo Differ rules → HaveTrees opened rules → MoveTrees rules opened made left more → AreMoved rules opened made left more
moved [] opened left made more d h m = record {
  new = [];
  is = m.1 ∙ no_more made;
  each = tt;
  pages = λ frames p. none_before (copies p (flat_map (opened_index_pages frames) left)) (copies p (flat_map (opened_index_pages frames) opened)) (ap (λ (l : List OpenedIndex). copies p (flat_map (opened_index_pages frames) l)) m.0);
  many = none_before (length left) (length opened) (ap length m.0);
}
moved (rule ∷ rules) opened left made more d h m = moved_first rule rules opened m.0 left made m.1 more (λ have. moved rules m.0 left m.1 more d.1 have m.3) d.0 h m.2

closed : (left : List OpenedIndex) → length left ≡ 0 → left ≡ []
closed [] e = refl
closed (x ∷ left) e = absurd (omega (arith, e))

-- where each rule has its tree and there is no other, all trees are in the made indexes
pub made_are : (rules : List IndexRule) (opened left : List OpenedIndex) (made : List TableIndex) → EachTwo Differ rules → HaveTrees opened rules → length (filter secondary rules) ≡ length opened → MoveTrees rules opened [] left made → AreMadeIndexes (filter secondary rules) opened made
made_are rules opened left made d h count moves =
    let m = moved rules opened left [] made d h moves in
    let same : made ≡ m.new = m.is in
    let each = same_length (IsMadeIndex opened) (filter secondary rules) m.new m.each in
    let many = m.many in
    let none : length left ≡ 0 = omega (arith, many, count, each) in
    record {
      each = subst (λ (l : List TableIndex). EachWith (IsMadeIndex opened) (filter secondary rules) l) (sym same) m.each;
      pages = λ frames p.
          let all : copies p (flat_map (index_pages frames) m.new) + copies p (flat_map (opened_index_pages frames) left) ≡ copies p (flat_map (opened_index_pages frames) opened) = m.pages frames p in
          let gone : copies p (flat_map (opened_index_pages frames) left) ≡ 0 = ap (λ (l : List OpenedIndex). copies p (flat_map (opened_index_pages frames) l)) (closed left none) in
          let these : copies p (flat_map (index_pages frames) made) ≡ copies p (flat_map (index_pages frames) m.new) = ap (λ (l : List TableIndex). copies p (flat_map (index_pages frames) l)) same in
          omega (arith, all, gone, these);
    }

-- ---- the primary index stands first, and has no tree

front_gone : (rules behind : List IndexRule) → filter secondary (filter (λ (r : IndexRule). r.flags.primary) rules ++ behind) ≡ filter secondary behind
front_gone [] behind = refl
front_gone (rule ∷ rules) behind = by rule.flags.primary refl (front_gone rules behind)
  where
    by : (b : Bool) → rule.flags.primary ≡ b → filter secondary (filter (λ (r : IndexRule). r.flags.primary) rules ++ behind) ≡ filter secondary behind
        → filter secondary (cond b (rule ∷ filter (λ (r : IndexRule). r.flags.primary) rules) (filter (λ (r : IndexRule). r.flags.primary) rules) ++ behind) ≡ filter secondary behind
    by true e rest =
        let others = filter secondary (filter (λ (r : IndexRule). r.flags.primary) rules ++ behind) in
        ap (λ (b : Bool). cond (not b) (rule ∷ others) others) e ∙ rest
    by false e rest = rest

twice : (rules : List IndexRule) → filter secondary (filter secondary rules) ≡ filter secondary rules
twice [] = refl
twice (rule ∷ rules) = by rule.flags.primary refl (twice rules)
  where
    by : (b : Bool) → rule.flags.primary ≡ b → filter secondary (filter secondary rules) ≡ filter secondary rules → filter secondary (cond (not b) (rule ∷ filter secondary rules) (filter secondary rules)) ≡ cond (not b) (rule ∷ filter secondary rules) (filter secondary rules)
    by true e rest = rest
    by false e rest =
        let others = filter secondary (filter secondary rules) in
        ap (λ (b : Bool). cond (not b) (rule ∷ others) others) e ∙ ap (λ (l : List IndexRule). rule ∷ l) rest

pub secondary_same : (rules : List IndexRule) → filter secondary (primary_first rules) ≡ filter secondary rules
secondary_same rules = front_gone rules (filter secondary rules) ∙ twice rules

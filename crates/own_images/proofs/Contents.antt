-- What an image shows of the tables of a store.
use Rattle.std.proofs.Common.{◌≡◌, ℕ, ◌<◌, Bool, true, false, not, cond, List, [], ◌∷◌, Option, Some, refl, sym, ap, subst, ◌∙◌, arith}
use Rattle.std.specs.Prelude.{◌==◌, filter, find, map, unwrap_or, if◌then◌else◌}
use Rattle.std.specs.List.{AllByRecursion}
use Rattle.std.specs.Option.{option_map}
use Rattle.catalog_grammar.specs.CatalogSteps.{Roots, rooted, rooted_tables}
use Rattle.catalog_grammar.specs.Catalogs.{TableRoots, by_number, catalog_table}
use Rattle.common_lemmas.proofs.Booleans.{by_test, impossible}
use Rattle.common_lemmas.proofs.Lists.{all_weaker}
use Rattle.common_lemmas.proofs.Numbers.{self_equal}
use Rattle.cursor_nav.specs.Places.{Pair}
use Rattle.database_state.specs.Table.{Table}
use Rattle.index_derive.specs.declared.rules.IndexRule.{IndexRule}
use Rattle.index_tree.specs.Entries.{entry_of_node, node_of_entry}
use Rattle.long_value.specs.Shown.{shown_values}
use Rattle.long_value.specs.Values.{nodes_of_values}
use Rattle.page_image.specs.Page.{Node}
use Rattle.page_space.specs.Frames.{Frames}
use Rattle.table_trees.specs.StoredTables.{StoredIndex, StoredTable, is_index, is_table, part_of}
use Rattle.table_trees.specs.StoredTrees.{StoredRoots, root_behind, roots_by_number, told_roots}
use Rattle.table_trees.specs.TreesInSpace.{AreRootsOfIndexes}
use Rattle.tree_check.specs.Marks.{copies}
use Rattle.image_findings.specs.TableContents.{contents_below, long_values}
use Rattle.image_findings.specs.TreeFindings.{nodes_below}
use Rattle.own_images.proofs.Making.{all_numbered}
use Rattle.own_images.proofs.MarkCounts.{copies-cons, copies-other, copies-same}
use Rattle.own_images.proofs.OwnForest.{found_here, nodes_at, tables_together}
use Rattle.own_images.proofs.RootSums.{number_of_rule, rooted_secondary}
use Rattle.own_images.proofs.Together.{AreFoundHere, AreTogether, IsOne}
use Rattle.own_images.proofs.Walked.{WalkLaws}
use Rattle.own_images.specs.OwnContents.{AreNodesOf, HasOwnContents}
use Rattle.own_images.specs.OwnStores.{IsOwnStore, OwnStore, contents_of}

-- ---- indexes

abbrev entries_behind : ℕ → List StoredIndex → List Pair
entries_behind number indexes = part_of (is_index number) (λ (x : StoredIndex). x.1) indexes

abbrev numbers_of : List (ℕ × ℕ) → List ℕ
numbers_of roots = map (λ (x : ℕ × ℕ). x.0) roots

abbrev root_in : Bool → ℕ × ℕ → List (ℕ × ℕ) → ℕ → ℕ
root_in b x roots n = unwrap_or (option_map (λ (y : ℕ × ℕ). y.1) (cond b (Some x) (find (λ (y : ℕ × ℕ). y.0 == n) roots))) 0

abbrev entries_in : Bool → StoredIndex → List StoredIndex → ℕ → List Pair
entries_in b x indexes n = unwrap_or (option_map (λ (y : StoredIndex). y.1) (cond b (Some x) (find (is_index n) indexes))) []

different : (m n : ℕ) → (m == n) ≡ false → m ≡ n → false ≡ true
different m n e at = sym e ∙ ap (λ (k : ℕ). k == n) at ∙ self_equal n

abbrev head_of : List ℕ → ℕ
head_of [] = 0
head_of (k ∷ ks) = k

abbrev tail_of : List ℕ → List ℕ
tail_of [] = []
tail_of (k ∷ ks) = ks

abbrev HasEntries : Frames → ℕ → List Pair → Type 0
HasEntries frames root entries = AreNodesOf (nodes_below frames root) entries

-- below the root with a number stand the nodes of the entries with it
entries_below : WalkLaws → (frames : Frames) (roots : List (ℕ × ℕ)) (indexes : List StoredIndex) → AreRootsOfIndexes frames roots indexes → numbers_of roots ≡ map (λ (x : StoredIndex). x.0) indexes → (n : ℕ) → 0 < copies n (numbers_of roots) → HasEntries frames (root_behind n roots) (entries_behind n indexes)
entries_below laws frames [] [] h same n some = absurd (omega (arith, some))
entries_below laws frames [] (y ∷ indexes) h same n some = absurd h
entries_below laws frames (x ∷ roots) [] h same n some = absurd h
entries_below laws frames (x ∷ roots) (y ∷ indexes) h same n some =
    by_test (x.0 == n)
    (λ at.
    subst (λ (b : Bool). HasEntries frames (root_in b x roots n) (entries_in (y.0 == n) y indexes n)) (sym at)
    (subst (λ (b : Bool). HasEntries frames x.1 (entries_in b y indexes n)) (sym (ap (λ (k : ℕ). k == n) (sym first) ∙ at))
    (let nodes = nodes_at laws frames x.1 (map node_of_entry y.1) h.0.0 in (nodes, ap (map entry_of_node) nodes ∙ h.0.1))))
    (λ apart.
    subst (λ (b : Bool). HasEntries frames (root_in b x roots n) (entries_in (y.0 == n) y indexes n)) (sym apart)
    (subst (λ (b : Bool). HasEntries frames (root_behind n roots) (entries_in b y indexes n)) (sym (ap (λ (k : ℕ). k == n) (sym first) ∙ apart))
    (entries_below laws frames roots indexes h.1 (ap tail_of same) n (omega (arith, some, copies-cons n x.0 (numbers_of roots), copies-other n x.0 (λ at. impossible (different x.0 n apart at)))))))
  where
    first : x.0 ≡ y.0
    first = ap head_of same

abbrev is_secondary : IndexRule → Bool
is_secondary rule = not rule.flags.primary

abbrev IsAmong : List IndexRule → IndexRule → Type 0
IsAmong rules rule = rule.flags.primary ≡ false → 0 < copies rule.id.0 (map number_of_rule (filter is_secondary rules))

more_among : (other : IndexRule) (rules : List IndexRule) (rule : IndexRule) → IsAmong rules rule → IsAmong (other ∷ rules) rule
more_among other rules rule h e = at other.flags.primary (h e)
  where
    at : (b : Bool) → 0 < copies rule.id.0 (map number_of_rule (filter is_secondary rules)) → 0 < copies rule.id.0 (map number_of_rule (if not b then other ∷ filter is_secondary rules else filter is_secondary rules))
    at true some = some
    at false some = omega (arith, some, copies-cons rule.id.0 other.id.0 (map number_of_rule (filter is_secondary rules)))

itself_among : (rule : IndexRule) (rules : List IndexRule) → IsAmong (rule ∷ rules) rule
itself_among rule rules e = subst (λ (b : Bool). 0 < copies rule.id.0 (map number_of_rule (if not b then rule ∷ filter is_secondary rules else filter is_secondary rules))) (sym e)
    (omega (arith, copies-cons rule.id.0 rule.id.0 (map number_of_rule (filter is_secondary rules)), copies-same rule.id.0 rule.id.0 refl))

each_among : (rules : List IndexRule) → AllByRecursion (IsAmong rules) rules
each_among [] = tt
each_among (rule ∷ rules) = (itself_among rule rules, all_weaker (IsAmong rules) (IsAmong (rule ∷ rules)) (more_among rule rules) rules (each_among rules))

-- ---- a table

abbrev HasNodes : Frames → StoredRoots → StoredTable → IndexRule → Type 0
HasNodes frames r s rule = rule.flags.primary ≡ false → HasEntries frames (root_behind rule.id.0 r.indexes) (entries_behind rule.id.0 s.indexes)

have_nodes : WalkLaws → (frames : Frames) (t : Table) (r : StoredRoots) (s : StoredTable) → IsOne frames t r s → AllByRecursion (HasNodes frames r s) (by_number t.indexes)
have_nodes laws frames t r s one =
    all_numbered (HasNodes frames r s) t.indexes
    (all_weaker (IsAmong t.indexes) (HasNodes frames r s)
    (λ rule among e. entries_below laws frames r.indexes s.indexes one.trees.indexes (one.roots ∙ sym one.indexes) rule.id.0 (subst (λ (l : List ℕ). 0 < copies rule.id.0 l) (sym one.roots) (among e)))
    t.indexes (each_among t.indexes))

abbrev Shows : StoredTable → IndexRule × List Node → Type 0
Shows s index = AreNodesOf index.1 (entries_behind index.0.id.0 s.indexes)

abbrev pub shown : Frames → ℕ × IndexRule → IndexRule × List Node
shown frames index = (index.1, nodes_below frames index.0)

shown_indexes : (frames : Frames) (r : StoredRoots) (s : StoredTable) (rules : List IndexRule) → AllByRecursion (HasNodes frames r s) rules → AllByRecursion (Shows s) (map (shown frames) (rooted_secondary r.indexes rules))
shown_indexes frames r s [] h = tt
shown_indexes frames r s (rule ∷ rules) h = at rule.flags.primary h.0 (shown_indexes frames r s rules h.1)
  where
    at : (b : Bool) → (b ≡ false → HasEntries frames (root_behind rule.id.0 r.indexes) (entries_behind rule.id.0 s.indexes)) → AllByRecursion (Shows s) (map (shown frames) (rooted_secondary r.indexes rules))
        → AllByRecursion (Shows s) (map (shown frames) (if not b then (root_behind rule.id.0 r.indexes, rule) ∷ rooted_secondary r.indexes rules else rooted_secondary r.indexes rules))
    at true one rest = rest
    at false one rest = (one refl, rest)

table_contents : WalkLaws → (frames : Frames) (trees : List StoredTable) (t : Table) (r : StoredRoots) (s : StoredTable) → IsOne frames t r s → find (is_table t.id) trees ≡ Some s
    → HasOwnContents trees (contents_below frames (catalog_table (t, told_roots r)))
table_contents laws frames trees t r s one found =
    let found_sym = sym found in
    record {
      nodes = nodes_at laws frames r.records s.nodes one.trees.nodes ∙ ap (λ (o : Option StoredTable). unwrap_or (option_map (λ (x : StoredTable). x.nodes) o) []) found_sym;
      value_nodes = nodes_at laws frames r.long_values (nodes_of_values s.long_values) one.trees.long_values.0
          ∙ ap (λ (o : Option StoredTable). nodes_of_values (unwrap_or (option_map (λ (x : StoredTable). x.long_values) o) [])) found_sym;
      long_values = values_at ∙ ap (λ (o : Option StoredTable). unwrap_or (option_map (λ (x : StoredTable). x.long_values) o) []) found_sym;
      indexes = subst (λ (l : List StoredIndex). AllByRecursion (λ (index : IndexRule × List Node). AreNodesOf index.1 (entries_behind index.0.id.0 l)) (contents_below frames (catalog_table (t, told_roots r))).indexes)
          (ap (λ (o : Option StoredTable). unwrap_or (option_map (λ (x : StoredTable). x.indexes) o) []) found_sym)
          (shown_indexes frames r s (by_number t.indexes) (have_nodes laws frames t r s one));
    }
  where
    values_at : shown_values (nodes_below frames r.long_values) ≡ s.long_values
    values_at = ap shown_values (nodes_at laws frames r.long_values (nodes_of_values s.long_values) one.trees.long_values.0) ∙ one.trees.long_values.1

-- ---- all tables

each_table : WalkLaws → (frames : Frames) (all_roots : List StoredRoots) (all_trees : List StoredTable) (ts : List Table) (rs : List StoredRoots) (ss : List StoredTable)
    → AreTogether frames ts rs ss → AreFoundHere all_roots all_trees ts rs ss
    → AllByRecursion (HasOwnContents all_trees) (map (contents_below frames) (rooted_tables (roots_by_number all_roots) ts))
each_table laws frames all_roots all_trees [] [] [] h found = tt
each_table laws frames all_roots all_trees (t ∷ ts) (r ∷ rs) (s ∷ ss) h found = (
  subst (λ (x : TableRoots). HasOwnContents all_trees (contents_below frames (catalog_table (t, x)))) (sym found.0.roots) (table_contents laws frames all_trees t r s h.0 found.0.trees),
  each_table laws frames all_roots all_trees ts rs ss h.1 found.1,
)
each_table laws frames all_roots all_trees [] [] (s ∷ ss) h found = absurd h
each_table laws frames all_roots all_trees [] (r ∷ rs) ss h found = absurd h
each_table laws frames all_roots all_trees (t ∷ ts) [] ss h found = absurd h
each_table laws frames all_roots all_trees (t ∷ ts) (r ∷ rs) [] h found = absurd h

pub own_contents : WalkLaws → (store : OwnStore) → IsOwnStore store → AllByRecursion (HasOwnContents store.trees.tables) (contents_of store)
own_contents laws store own =
    each_table laws store.frames store.trees.catalog.roots store.trees.tables store.catalog.tables store.trees.catalog.roots store.trees.tables (tables_together store own) (found_here store own)

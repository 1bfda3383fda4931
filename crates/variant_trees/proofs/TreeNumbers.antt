-- The numbers of the trees after a change of one table's indexes.
use Rattle.std.proofs.Common.{◌≡◌, ◌≤◌, ℕ, Bool, true, false, cond, List, [], ◌∷◌, Some, find, map, option_map, refl, sym, ap, ◌∙◌, arith}
use Rattle.std.specs.Prelude.{◌==◌, nat_lt, unwrap_or}
use Rattle.std.proofs.lemmas.Bool.Decides.{nat_tests}
use Rattle.common_lemmas.proofs.Booleans.{and_left, and_right, impossible}
use Rattle.database_state.specs.Table.{Table, with_table}
use Rattle.jet_catalog.specs.Catalog.{ids_rise}
use Rattle.table_trees.specs.StoredTables.{StoredIndex, StoredTable, is_table, put_indexes, table_indexes, with_indexes}
use Rattle.stored_variants.specs.VersionsKept.{needed_trees, tree_numbers}
use Rattle.stored_variants.proofs.Tables.{others}

abbrev pub first_or_none : List (ℕ × List ℕ) → ℕ × List ℕ
first_or_none [] = (0, [])
first_or_none (x ∷ xs) = x

abbrev pub is_empty : List (ℕ × List ℕ) → Bool
is_empty [] = true
is_empty (x ∷ xs) = false

abbrev pub index_numbers : List StoredIndex → List ℕ
index_numbers indexes = map (λ index. index.0) indexes

-- tables with greater numbers are not changed
above : (d : ℕ) (indexes : List StoredIndex) (change : Table → Table) (low high : ℕ) (tables : List Table) (trees : List StoredTable) → d ≤ low → ids_rise low high tables ≡ true → map tree_numbers trees ≡ map needed_trees tables
    → map tree_numbers (with_indexes d indexes trees) ≡ map needed_trees (with_table d change tables)
above d indexes change low high [] [] le rise same = refl
above d indexes change low high [] (x ∷ trees) le rise same = impossible (ap is_empty same)
above d indexes change low high (t ∷ tables) [] le rise same = impossible (sym (ap is_empty same))
above d indexes change low high (t ∷ tables) (x ∷ trees) le rise same =
    λ i. head i ∷ above d indexes change t.id high tables trees (more low t.id (and_left (nat_lt low t.id) _ rise) le) (and_right (nat_lt low t.id) _ rise) (ap others same) i
  where
    more : (low n : ℕ) → nat_lt low n ≡ true → d ≤ low → d ≤ n
    more low n lt le = grind (arith, nat_tests)

    apart : (low n : ℕ) → nat_lt low n ≡ true → d ≤ low → (n == d) ≡ false
    apart low n lt le = grind (arith, nat_tests)

    miss : (t.id == d) ≡ false
    miss = apart low t.id (and_left (nat_lt low t.id) _ rise) le

    head : tree_numbers (cond (is_table d x) (put_indexes indexes x) x) ≡ needed_trees (cond (t.id == d) (change t) t)
    head =
        ap (λ b. tree_numbers (cond b (put_indexes indexes x) x)) (ap (λ (p : ℕ × List ℕ). p.0 == d) (ap first_or_none same) ∙ miss)
        ∙ ap first_or_none same
        ∙ sym (ap (λ b. needed_trees (cond b (change t) t)) miss)

-- Where a change of a table and one of its trees do the same to their numbers, the trees are again those that are needed.
pub changed_numbers : (d : ℕ) (numbers : List ℕ → List ℕ) (change : Table → Table) → ((t : Table) → needed_trees (change t) ≡ (t.id, numbers (needed_trees t).1)) → (indexes : List StoredIndex → List StoredIndex)
    → ((xs : List StoredIndex) → index_numbers (indexes xs) ≡ numbers (index_numbers xs)) → (low high : ℕ) (tables : List Table) (trees : List StoredTable) → ids_rise low high tables ≡ true → map tree_numbers trees ≡ map needed_trees tables
    → map tree_numbers (with_indexes d (indexes (table_indexes trees d)) trees) ≡ map needed_trees (with_table d change tables)
changed_numbers d numbers change needs indexes makes low high [] [] rise same = refl
changed_numbers d numbers change needs indexes makes low high [] (x ∷ trees) rise same = impossible (ap is_empty same)
changed_numbers d numbers change needs indexes makes low high (t ∷ tables) [] rise same = impossible (sym (ap is_empty same))
changed_numbers d numbers change needs indexes makes low high (t ∷ tables) (x ∷ trees) rise same =
    by (is_table d x) refl (changed_numbers d numbers change needs indexes makes t.id high tables trees (and_right (nat_lt low t.id) _ rise) (ap others same))
  where
    number : x.number ≡ t.id
    number = ap (λ (p : ℕ × List ℕ). p.0) (ap first_or_none same)

    listed : index_numbers x.indexes ≡ (needed_trees t).1
    listed = ap (λ (p : ℕ × List ℕ). p.1) (ap first_or_none same)

    found_is : (b : Bool) → is_table d x ≡ b → table_indexes (x ∷ trees) d ≡ cond b x.indexes (table_indexes trees d)
    found_is b e = ap (λ c. unwrap_or (option_map (λ (y : StoredTable). y.indexes) (cond c (Some x) (find (is_table d) trees))) []) e ∙ split b
      where
        split : (c : Bool) → unwrap_or (option_map (λ (y : StoredTable). y.indexes) (cond c (Some x) (find (is_table d) trees))) [] ≡ cond c x.indexes (table_indexes trees d)
        split true = refl
        split false = refl

    by : (b : Bool) → is_table d x ≡ b
        → map tree_numbers (with_indexes d (indexes (table_indexes trees d)) trees) ≡ map needed_trees (with_table d change tables)
        → map tree_numbers (with_indexes d (indexes (table_indexes (x ∷ trees) d)) (x ∷ trees)) ≡ map needed_trees (with_table d change (t ∷ tables))
    by true e rest =
        let here : (t.id == d) ≡ true = ap (λ n. n == d) (sym number) ∙ e in
        let least : d ≤ t.id = reach t.id here in
        ap (λ (l : List StoredIndex). map tree_numbers (with_indexes d (indexes l) (x ∷ trees))) (found_is true e)
        ∙ (λ i. (ap (λ b. tree_numbers (cond b (put_indexes (indexes x.indexes) x) x)) e
        ∙ (λ j. (number j, (makes x.indexes ∙ ap numbers listed) j)) ∙ sym (needs t) ∙ sym (ap (λ b. needed_trees (cond b (change t) t)) here)) i
        ∷ above d (indexes x.indexes) change t.id high tables trees least (and_right (nat_lt low t.id) _ rise) (ap others same) i)
      where
        reach : (n : ℕ) → (n == d) ≡ true → d ≤ n
        reach n e = grind (arith, nat_tests)
    by false e rest =
        let miss : (t.id == d) ≡ false = ap (λ n. n == d) (sym number) ∙ e in
        ap (λ (l : List StoredIndex). map tree_numbers (with_indexes d (indexes l) (x ∷ trees))) (found_is false e)
        ∙ (λ i. (ap (λ b. tree_numbers (cond b (put_indexes (indexes (table_indexes trees d)) x) x)) e
        ∙ ap first_or_none same ∙ sym (ap (λ b. needed_trees (cond b (change t) t)) miss)) i
        ∷ rest i)

-- ---- the trees as they were

above_same : (d : ℕ) (indexes : List StoredIndex) (low high : ℕ) (tables : List Table) (trees : List StoredTable) → d ≤ low → ids_rise low high tables ≡ true → map tree_numbers trees ≡ map needed_trees tables → with_indexes d indexes trees ≡ trees
above_same d indexes low high tables [] le rise same = refl
above_same d indexes low high [] (x ∷ trees) le rise same = impossible (ap is_empty same)
above_same d indexes low high (t ∷ tables) (x ∷ trees) le rise same =
    λ i. ap (λ b. cond b (put_indexes indexes x) x) (ap (λ (p : ℕ × List ℕ). p.0 == d) (ap first_or_none same) ∙ apart low t.id (and_left (nat_lt low t.id) _ rise) le) i
    ∷ above_same d indexes t.id high tables trees (more low t.id (and_left (nat_lt low t.id) _ rise) le) (and_right (nat_lt low t.id) _ rise) (ap others same) i
  where
    more : (low n : ℕ) → nat_lt low n ≡ true → d ≤ low → d ≤ n
    more low n lt le = grind (arith, nat_tests)

    apart : (low n : ℕ) → nat_lt low n ≡ true → d ≤ low → (n == d) ≡ false
    apart low n lt le = grind (arith, nat_tests)

-- a table that is given the indexes that it has
pub same_indexes : (d low high : ℕ) (tables : List Table) (trees : List StoredTable) → ids_rise low high tables ≡ true → map tree_numbers trees ≡ map needed_trees tables → with_indexes d (table_indexes trees d) trees ≡ trees
same_indexes d low high tables [] rise same = refl
same_indexes d low high [] (x ∷ trees) rise same = impossible (ap is_empty same)
same_indexes d low high (t ∷ tables) (x ∷ trees) rise same = by (is_table d x) refl (same_indexes d t.id high tables trees (and_right (nat_lt low t.id) _ rise) (ap others same))
  where
    number : x.number ≡ t.id
    number = ap (λ (p : ℕ × List ℕ). p.0) (ap first_or_none same)

    reach : (n : ℕ) → (n == d) ≡ true → d ≤ n
    reach n e = grind (arith, nat_tests)

    found : (b : Bool) → List StoredIndex
    found b = unwrap_or (option_map (λ (y : StoredTable). y.indexes) (cond b (Some x) (find (is_table d) trees))) []

    by : (b : Bool) → is_table d x ≡ b → with_indexes d (table_indexes trees d) trees ≡ trees → cond (is_table d x) (put_indexes (found (is_table d x)) x) x ∷ with_indexes d (found (is_table d x)) trees ≡ x ∷ trees
    by true e rest =
        ap (λ b. cond b (put_indexes (found b) x) x ∷ with_indexes d (found b) trees) e
        ∙ ap (λ (xs : List StoredTable). x ∷ xs) (above_same d x.indexes t.id high tables trees (reach t.id (ap (λ n. n == d) (sym number) ∙ e)) (and_right (nat_lt low t.id) _ rise) (ap others same))
    by false e rest = ap (λ b. cond b (put_indexes (found b) x) x ∷ with_indexes d (found b) trees) e ∙ ap (λ (xs : List StoredTable). x ∷ xs) rest

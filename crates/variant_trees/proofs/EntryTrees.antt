-- Trees of which an index loses an entry.
use Rattle.std.proofs.Common.{◌≡◌, ◌≢◌, ℕ, Bool, true, false, not, ◌&&◌, ◌||◌, cond, List, [], ◌∷◌, Option, Some, None, find, map, option_map, refl, sym, ap, ◌∙◌}
use Rattle.std.specs.Prelude.{◌==◌, bytes_eq, unwrap_or}
use Rattle.std.specs.List.{list_any}
use Rattle.std.proofs.lemmas.Bool.{eqb-true}
use Rattle.common_lemmas.proofs.Booleans.{and_left, and_right, impossible}
use Rattle.common_lemmas.proofs.Numbers.{same_bytes, self_equal}
use Rattle.cursor_nav.specs.Places.{Pair}
use Rattle.laws_versions.specs.KeptEntries.{has_entry, without_entry}
use Rattle.table_trees.specs.StoredTables.{StoredIndex, StoredTable, changed_where, has_index, has_table, index_entries, is_index, is_table, part_of, put_entries, put_indexes, table_indexes, table_long_values, table_nodes, with_entries, with_indexes}
use Rattle.variant_trees.specs.GoneKeys.{ChangesEntries, index_numbers, table_numbers}

-- laws of tables and indexes
pub record IndexLaws : Type 0 where
  pub named : (tables : List StoredTable) (table : ℕ) (indexes : List StoredIndex) → has_table tables table ≡ true → table_indexes (with_indexes table indexes tables) table ≡ indexes
  pub others : (tables : List StoredTable) (table other : ℕ) (indexes : List StoredIndex) → other ≢ table → table_indexes (with_indexes table indexes tables) other ≡ table_indexes tables other
  pub nodes : (tables : List StoredTable) (table other : ℕ) (indexes : List StoredIndex) → table_nodes (with_indexes table indexes tables) other ≡ table_nodes tables other
  pub values : (tables : List StoredTable) (table other : ℕ) (indexes : List StoredIndex) → table_long_values (with_indexes table indexes tables) other ≡ table_long_values tables other

pub record EntryLaws : Type 0 where
  pub named : (tables : List StoredTable) (table index : ℕ) (entries : List Pair) → has_index tables table index ≡ true → index_entries (with_entries table index entries tables) table index ≡ entries
  pub others : (tables : List StoredTable) (table index other : ℕ) (entries : List Pair) → other ≢ index → index_entries (with_entries table index entries tables) table other ≡ index_entries tables table other

-- ---- an entry that is there is one of an index that is there

none_found : {X : Type 0} (test : X → Bool) (xs : List X) → list_any test xs ≡ false → find test xs ≡ None
none_found test [] e = refl
none_found test (x ∷ xs) e = by (test x) e (none_found test xs)
  where
    by : (b : Bool) → (b || list_any test xs) ≡ false → (list_any test xs ≡ false → find test xs ≡ None) → cond b (Some x) (find test xs) ≡ None
    by true e rest = impossible (sym e)
    by false e rest = rest e

pub no_part : {X Y : Type 0} (test : X → Bool) (part : X → List Y) (xs : List X) → list_any test xs ≡ false → part_of test part xs ≡ []
no_part {X} {Y} test part xs e = ap (λ (o : Option X). unwrap_or (option_map part o) []) (none_found test xs e)

pub there_or : (b : Bool) → (b ≡ false → false ≡ true) → b ≡ true
there_or true h = refl
there_or false h = impossible (h refl)

pub index_there : (trees : List StoredTable) (table index : ℕ) (key own : List ℕ) → has_entry key own (index_entries trees table index) ≡ true → has_index trees table index ≡ true
index_there trees table index key own there =
    there_or (has_index trees table index)
    (λ none. sym (ap (has_entry key own) (no_part (is_index index) (λ x. x.1) (table_indexes trees table) none)) ∙ there)

pub table_there : (trees : List StoredTable) (table index : ℕ) → has_index trees table index ≡ true → has_table trees table ≡ true
table_there trees table index there =
    there_or (has_table trees table)
    (λ none. sym (ap (list_any (is_index index)) (no_part (is_table table) (λ x. x.indexes) trees none)) ∙ there)

-- ---- what stays

same_table_numbers : (table : ℕ) (indexes : List StoredIndex) (trees : List StoredTable) → table_numbers (with_indexes table indexes trees) ≡ table_numbers trees
same_table_numbers table indexes [] = refl
same_table_numbers table indexes (x ∷ trees) = λ i. same (is_table table x) i ∷ same_table_numbers table indexes trees i
  where
    same : (b : Bool) → (cond b (put_indexes indexes x) x).number ≡ x.number
    same true = refl
    same false = refl

same_index_numbers : (index : ℕ) (entries : List Pair) (indexes : List StoredIndex) → map (λ (x : StoredIndex). x.0) (changed_where (is_index index) (put_entries entries) indexes) ≡ map (λ (x : StoredIndex). x.0) indexes
same_index_numbers index entries [] = refl
same_index_numbers index entries (x ∷ indexes) = λ i. same (is_index index x) i ∷ same_index_numbers index entries indexes i
  where
    same : (b : Bool) → (cond b (put_entries entries x) x).0 ≡ x.0
    same true = refl
    same false = refl

pub other_number : (a b : ℕ) → (a == b) ≡ false → a ≢ b
other_number a b e same = absurd (no (sym e ∙ ap (λ n. a == n) (sym same) ∙ self_equal a))
  where
    no : false ≡ true → ⊥
    no h = cc

pub entries_changed : IndexLaws → (trees : List StoredTable) (table index : ℕ) (entries : List Pair) → has_index trees table index ≡ true → ChangesEntries table trees (with_entries table index entries trees)
entries_changed laws trees table index entries there = record {
  numbers = same_table_numbers table changed trees;
  indexes = λ other. by other (other == table) refl;
  nodes = λ other. laws.nodes trees table other changed;
  values = λ other. laws.values trees table other changed;
  entries = λ other n apart. ap (λ (indexes : List StoredIndex). part_of (is_index n) (λ x. x.1) indexes) (laws.others trees table other changed apart);
}
  where
    changed : List StoredIndex
    changed = changed_where (is_index index) (put_entries entries) (table_indexes trees table)

    by : (other : ℕ) (b : Bool) → (other == table) ≡ b → index_numbers (with_entries table index entries trees) other ≡ index_numbers trees other
    by other true e =
        ap (index_numbers (with_entries table index entries trees)) (eqb-true other table e)
        ∙ ap (map (λ (x : StoredIndex). x.0)) (laws.named trees table changed (table_there trees table index there))
        ∙ same_index_numbers index entries (table_indexes trees table)
        ∙ sym (ap (index_numbers trees) (eqb-true other table e))
    by other false e = ap (map (λ (x : StoredIndex). x.0)) (laws.others trees table other changed (other_number other table e))

pub entries_stay : (table : ℕ) (trees : List StoredTable) → ChangesEntries table trees trees
entries_stay table trees = record {
  numbers = refl;
  indexes = λ other. refl;
  nodes = λ other. refl;
  values = λ other. refl;
  entries = λ other n apart. refl;
}

pub entries_then : (table : ℕ) (a b c : List StoredTable) → ChangesEntries table a b → ChangesEntries table b c → ChangesEntries table a c
entries_then table a b c one two = record {
  numbers = two.numbers ∙ one.numbers;
  indexes = λ other. two.indexes other ∙ one.indexes other;
  nodes = λ other. two.nodes other ∙ one.nodes other;
  values = λ other. two.values other ∙ one.values other;
  entries = λ other n apart. two.entries other n apart ∙ one.entries other n apart;
}

-- ---- an entry that is taken out

taken : (q p rest d : Bool) → (q ≡ true → d ≡ p) → ((not p && q) || (rest && not d)) ≡ ((q || rest) && not d)
taken true true rest d same = (λ i. rest && not (same refl i)) ∙ no rest ∙ sym (ap not (same refl))
  where
    no : (b : Bool) → (b && false) ≡ false
    no true = refl
    no false = refl
taken true false rest d same = sym (ap not (same refl))
taken false true rest d same = refl
taken false false rest d same = refl

pub entry_taken : (key bookmark : List ℕ) (entries : List Pair) (k own : List ℕ) → has_entry k own (without_entry key bookmark entries) ≡ (has_entry k own entries && not (bytes_eq own bookmark && bytes_eq k key))
entry_taken key bookmark [] k own = refl
entry_taken key bookmark (e ∷ entries) k own =
    step (bytes_eq e.0 key && bytes_eq e.1 bookmark) ∙ ap (λ b. (not (bytes_eq e.0 key && bytes_eq e.1 bookmark) && hit) || b) (entry_taken key bookmark entries k own)
    ∙ taken hit (bytes_eq e.0 key && bytes_eq e.1 bookmark) (has_entry k own entries) (bytes_eq own bookmark && bytes_eq k key) same
  where
    hit : Bool
    hit = bytes_eq e.0 k && bytes_eq e.1 own

    step : (p : Bool) → has_entry k own (cond (not p) (e ∷ without_entry key bookmark entries) (without_entry key bookmark entries)) ≡ ((not p && hit) || has_entry k own (without_entry key bookmark entries))
    step true = refl
    step false = refl

    turned : (a b : Bool) → (a && b) ≡ (b && a)
    turned true true = refl
    turned true false = refl
    turned false true = refl
    turned false false = refl

    same : hit ≡ true → (bytes_eq own bookmark && bytes_eq k key) ≡ (bytes_eq e.0 key && bytes_eq e.1 bookmark)
    same h =
        turned (bytes_eq own bookmark) (bytes_eq k key)
        ∙ (λ i. bytes_eq (sym (same_bytes e.0 k (and_left (bytes_eq e.0 k) _ h)) i) key && bytes_eq (sym (same_bytes e.1 own (and_right (bytes_eq e.0 k) _ h)) i) bookmark)

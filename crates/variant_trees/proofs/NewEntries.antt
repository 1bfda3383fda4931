-- Entries that one index is given, while all others stay.
use Rattle.std.proofs.Common.{◌≡◌, ℕ, zero, suc, ◌+◌, ◌<◌, Bool, true, false, not, ◌&&◌, ◌||◌, inl, inr, cond, List, [], ◌∷◌, length, slice_index_or, refl, sym, ap, subst, take, ◌∙◌, arith}
use Rattle.std.specs.Prelude.{bytes_eq}
use Rattle.std.specs.List.{AllByRecursion, list_any}
use Rattle.std.specs.List.Sorted.{IsStrictlySortedBy}
use Rattle.std.specs.declared.cmp.Ordering.TheVariants.{Less}
use Rattle.std.specs.Ordering.{nat_cmp}
use Rattle.std.specs.Cmp.Lexicographic.{slice_cmp}
use Rattle.std.proofs.lemmas.List.Folds.{list_any_more}
use Rattle.std.proofs.lemmas.Bool.{false_from_ne_true}
use Rattle.common_lemmas.proofs.Orders.{less-irreflexive}
use Rattle.common_lemmas.proofs.Booleans.{and_right}
use Rattle.common_lemmas.proofs.Numbers.{bytes_turned, same_bytes}
use Rattle.cursor_nav.specs.Places.{Pair}
use Rattle.laws_versions.specs.KeptEntries.{has_entry}
use Rattle.index_derive.specs.Entries.{insert_entry}
use Rattle.index_tree.specs.Entries.{IsApart, IsApartFromAll}
use Rattle.table_trees.specs.StoredTables.{StoredIndex, StoredTable, changed_where, has_index, index_entries, is_index, is_table, put_entries, put_indexes, table_indexes, with_entries, with_indexes, without_where}
use Rattle.variant_trees.specs.NewEntries.{IsAmong, OnlyEntries}
use Rattle.variant_trees.proofs.EntryTrees.{EntryLaws, IndexLaws, entries_changed, entries_stay, entries_then, table_there}
use Rattle.variant_trees.proofs.KeysPut.{all_entries, found_inserted, in_front, index_stays, key_at}

-- ---- the entries of one index alone

pub changed_twice : {X : Type 0} (p : X → Bool) (f g : X → X) → ((x : X) → p (f x) ≡ p x) → ((x : X) → g (f x) ≡ g x) → (xs : List X) → changed_where p g (changed_where p f xs) ≡ changed_where p g xs
changed_twice p f g keeps same [] = refl
changed_twice p f g keeps same (x ∷ xs) = λ i. by (p x) refl i ∷ changed_twice p f g keeps same xs i
  where
    by : (b : Bool) → p x ≡ b → cond (p (cond b (f x) x)) (g (cond b (f x) x)) (cond b (f x) x) ≡ cond b (g x) x
    by true e = ap (λ c. cond c (g (f x)) (f x)) (keeps x ∙ e) ∙ same x
    by false e = ap (λ c. cond c (g x) x) e

rest_of : (index : ℕ) (entries : List Pair) (indexes : List StoredIndex) → without_where (is_index index) (changed_where (is_index index) (put_entries entries) indexes) ≡ without_where (is_index index) indexes
rest_of index entries [] = refl
rest_of index entries (x ∷ indexes) = by (is_index index x) refl (rest_of index entries indexes)
  where
    others : List StoredIndex
    others = changed_where (is_index index) (put_entries entries) indexes

    by : (b : Bool) → is_index index x ≡ b → without_where (is_index index) others ≡ without_where (is_index index) indexes
        → without_where (is_index index) (cond b (put_entries entries x) x ∷ others) ≡ cond (not b) (x ∷ without_where (is_index index) indexes) (without_where (is_index index) indexes)
    by true e rest = ap (λ c. cond (not c) (put_entries entries x ∷ without_where (is_index index) others) (without_where (is_index index) others)) e ∙ rest
    by false e rest = ap (λ c. cond (not c) (x ∷ without_where (is_index index) others) (without_where (is_index index) others)) e ∙ ap (λ (xs : List StoredIndex). x ∷ xs) rest

pub only_put : IndexLaws → (trees : List StoredTable) (table index : ℕ) (entries : List Pair) → has_index trees table index ≡ true → OnlyEntries table index trees (with_entries table index entries trees)
only_put laws trees table index entries there = record {
  changes = entries_changed laws trees table index entries there;
  rest =
      ap (λ (l : List StoredIndex). with_indexes table (without_where (is_index index) l) (with_entries table index entries trees)) (laws.named trees table changed (table_there trees table index there))
      ∙ ap (λ (l : List StoredIndex). with_indexes table l (with_entries table index entries trees)) (rest_of index entries (table_indexes trees table))
      ∙ changed_twice (is_table table) (put_indexes changed) (put_indexes (without_where (is_index index) (table_indexes trees table))) (λ x. refl) (λ x. refl) trees;
}
  where
    changed : List StoredIndex
    changed = changed_where (is_index index) (put_entries entries) (table_indexes trees table)

pub only_stays : (table index : ℕ) (trees : List StoredTable) → OnlyEntries table index trees trees
only_stays table index trees = record { changes = entries_stay table trees; rest = refl }

pub only_then : (table index : ℕ) (a b c : List StoredTable) → OnlyEntries table index a b → OnlyEntries table index b c → OnlyEntries table index a c
only_then table index a b c one two = record {
  changes = entries_then table a b c one.changes two.changes;
  rest = two.rest ∙ one.rest;
}

pub still_there : (table index : ℕ) (was is : List StoredTable) → OnlyEntries table index was is → has_index was table index ≡ true → has_index is table index ≡ true
still_there table index was is only there = index_stays table index was is (only.changes.indexes table) ∙ there

-- ---- the keys of one record

-- the trees after the entries of the first keys
pub record HasSome (table index : ℕ) (keys : List (List ℕ)) (bookmark : List ℕ) (n : ℕ) (was is : List StoredTable) : Type 0 where
  pub only : OnlyEntries table index was is
  pub entries : (key own : List ℕ) → has_entry key own (index_entries is table index) ≡ (has_entry key own (index_entries was table index) || (bytes_eq own bookmark && list_any (bytes_eq key) (take n keys)))

pub has_none : (table index : ℕ) (keys : List (List ℕ)) (bookmark : List ℕ) (trees : List StoredTable) → HasSome table index keys bookmark 0 trees trees
has_none table index keys bookmark trees = record {
  only = only_stays table index trees;
  entries = λ key own. nothing (has_entry key own (index_entries trees table index)) (bytes_eq own bookmark);
}
  where
    nothing : (a b : Bool) → a ≡ (a || (b && false))
    nothing true b = refl
    nothing false true = refl
    nothing false false = refl

reordered : (a b h l : Bool) → ((a && b) || (h || (b && l))) ≡ (h || (b && (l || a)))
reordered true true true l = refl
reordered true true false true = refl
reordered true true false false = refl
reordered true false true l = refl
reordered true false false l = refl
reordered false true true l = refl
reordered false true false true = refl
reordered false true false false = refl
reordered false false true l = refl
reordered false false false l = refl

pub some_more : IndexLaws → EntryLaws → (table index : ℕ) (keys : List (List ℕ)) (bookmark key : List ℕ) (n : ℕ) (was is then : List StoredTable) → n < length keys → key ≡ slice_index_or keys n key → has_index was table index ≡ true
    → then ≡ with_entries table index (insert_entry (key, bookmark) (index_entries is table index)) is → HasSome table index keys bookmark n was is → HasSome table index keys bookmark (n + 1) was then
some_more laws entry_laws table index keys bookmark key n was is then low key_is there made h = record {
  only = only_then table index was is then h.only (subst (λ (t : List StoredTable). OnlyEntries table index is t) (sym made) (only_put laws is table index (insert_entry (key, bookmark) (index_entries is table index)) is_there));
  entries = λ own_key own.
      ap (has_entry own_key own) (ap (λ (t : List StoredTable). index_entries t table index) made ∙ entry_laws.named is table index (insert_entry (key, bookmark) (index_entries is table index)) is_there)
      ∙ found_inserted (key, bookmark) own_key own (index_entries is table index)
      ∙ (λ i. (bytes_turned key own_key i && bytes_turned bookmark own i) || h.entries own_key own i)
      ∙ reordered (bytes_eq own_key key) (bytes_eq own bookmark) (has_entry own_key own (index_entries was table index)) (list_any (bytes_eq own_key) (take n keys))
      ∙ ap (λ b. has_entry own_key own (index_entries was table index) || (bytes_eq own bookmark && b))
      (ap (λ (k : List ℕ). list_any (bytes_eq own_key) (take n keys) || bytes_eq own_key k) key_is ∙ sym (list_any_more (bytes_eq own_key) keys n key low));
}
  where
    is_there : has_index is table index ≡ true
    is_there = still_there table index was is h.only there

-- ---- what an entry that is put is asked for

below_none : (n : ℕ) → n < 0 → ⊥
below_none n low = omega (arith, low)

fewer : (n m : ℕ) → suc n < suc m → n < m
fewer n m low = omega (arith, low)

not_among : (keys : List (List ℕ)) → IsStrictlySortedBy (slice_cmp nat_cmp) keys → (n : ℕ) (d : List ℕ) → n < length keys → list_any (bytes_eq (slice_index_or keys n d)) (take n keys) ≡ false
unfolding IsStrictlySortedBy
not_among [] sorted n d low = absurd (below_none n low)
not_among (key ∷ keys) sorted zero d low = refl
not_among (key ∷ keys) sorted (suc n) d low =
    λ i. below n keys sorted.0 (fewer n (length keys) low) i || not_among keys sorted.1 n d (fewer n (length keys) low) i
  where
    apart : (other : List ℕ) → slice_cmp nat_cmp key other ≡ Less → bytes_eq other key ≡ false
    apart other less = false_from_ne_true (bytes_eq other key) (λ e. less-irreflexive key (subst (λ (k : List ℕ). slice_cmp nat_cmp key k ≡ Less) (same_bytes other key e) less))

    below : (n : ℕ) (ks : List (List ℕ)) → AllByRecursion (λ k. slice_cmp nat_cmp key k ≡ Less) ks → n < length ks → bytes_eq (slice_index_or ks n d) key ≡ false
    below n [] all low = absurd (below_none n low)
    below zero (k ∷ ks) all low = apart k all.0
    below (suc n) (k ∷ ks) all low = below n ks all.1 (fewer n (length ks) low)

pub is_absent : (table index : ℕ) (keys : List (List ℕ)) (bookmark key : List ℕ) (n : ℕ) (was is : List StoredTable) → n < length keys → key ≡ slice_index_or keys n key → IsStrictlySortedBy (slice_cmp nat_cmp) keys
    → ((own : List ℕ) → has_entry own bookmark (index_entries was table index) ≡ false) → HasSome table index keys bookmark n was is → has_entry key bookmark (index_entries is table index) ≡ false
is_absent table index keys bookmark key n was is low key_is sorted fresh h =
    h.entries key bookmark
    ∙ (λ i. fresh key i || (bytes_eq bookmark bookmark && (ap (λ (k : List ℕ). list_any (bytes_eq k) (take n keys)) key_is ∙ not_among keys sorted n key low) i))
    ∙ none (bytes_eq bookmark bookmark)
  where
    none : (b : Bool) → (b && false) ≡ false
    none true = refl
    none false = refl

pub is_apart : (table index : ℕ) (keys : List (List ℕ)) (bookmark key : List ℕ) (n : ℕ) (was is : List StoredTable) → n < length keys → key ≡ slice_index_or keys n key
    → ((one other : List ℕ) → IsAmong keys (index_entries was table index) one → IsAmong keys (index_entries was table index) other → IsApart one other) → HasSome table index keys bookmark n was is → IsApartFromAll key (index_entries is table index)
is_apart table index keys bookmark key n was is low key_is apart h =
    all_entries (λ e. IsApart key e.0) (index_entries is table index)
    (λ e there. apart key e.0 (inl (key_at keys n key low key_is)) (by e (has_entry e.0 e.1 (index_entries was table index)) refl (sym (h.entries e.0 e.1) ∙ there)))
  where
    by : (e : Pair) (b : Bool) → has_entry e.0 e.1 (index_entries was table index) ≡ b → (b || (bytes_eq e.1 bookmark && list_any (bytes_eq e.0) (take n keys))) ≡ true → IsAmong keys (index_entries was table index) e.0
    by e true old is = inr (e.1, old)
    by e false old is = inl (in_front (bytes_eq e.0) keys n (and_right (bytes_eq e.1 bookmark) _ is))

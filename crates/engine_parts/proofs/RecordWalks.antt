-- The records of a table, gone over one after the other in the order of their bookmarks.
use Rattle.std.proofs.Common.{◌≡◌, ℕ, suc, ◌+◌, ◌<◌, Bool, true, false, cond, List, [], ◌∷◌, ◌++◌, Option, Some, None, option_map, refl, sym, ap, subst, ◌∙◌, arith, append_assoc, bytes_eq}
use Rattle.std.specs.Prelude.{◌==◌, find, is_some, unwrap_or}
use Rattle.std.specs.List.{list_all}
use Rattle.std.specs.Cmp.Lexicographic.{texts_ties}
use Rattle.std.proofs.lemmas.Bool.Decides.{nat_tests}
use Rattle.std.proofs.lemmas.Bool.{false_from_ne_true}
use Rattle.common_lemmas.proofs.Booleans.{and_left, and_right, impossible}
use Rattle.common_lemmas.proofs.Numbers.{equal_bytes, same_bytes}
use Rattle.column_set.specs.RecordValues.{RecordFields}
use Rattle.index_derive.specs.declared.entries.Place.TheVariants.{Before, On}
use Rattle.index_derive.specs.declared.rules.IndexRule.{IndexRule}
use Rattle.index_derive.specs.Entries.{own_order}
use Rattle.cursor_nav.specs.Places.{Pair, are_sorted, entry_after, pair_lt}
use Rattle.database_state.specs.Table.{Rows, Table, entries_of_rule, index_entries, record_in, row_at, rows_of, schema_of, table_with_id}
use Rattle.index_derive.specs.Schemas.{rule_with_id}
use Rattle.stored_variants.specs.StoredVersions.{entries_in}
use Rattle.table_versions.specs.Shown.{FindsShown}
use Rattle.laws_engine.proofs.TableLemmas.Order.{not_back, not_itself}
use Rattle.laws_engine.proofs.TableLemmas.SeenTables.{seen_at_id}
use Rattle.version_store.specs.declared.calls.Reader.{Reader}
use Rattle.laws_engine.specs.HeldRecords.{seen_record}
use Rattle.laws_engine.specs.VersionedTables.{VersionedTables, seen_table}
use Rattle.engine_parts.specs.CreatingIndexes.{rows_shown}

-- ---- the order of the records

-- no rule has a number above all of theirs
total : List IndexRule → ℕ
total [] = 0
total (rule ∷ rules) = rule.id.0 + total rules

unused : (rules : List IndexRule) (n : ℕ) → total rules < n → find (λ (r : IndexRule). r.id.0 == n) rules ≡ None
unfolding total
unused [] n h = refl
unused (rule ∷ rules) n h =
    ap (λ b. cond b (Some rule) (find (λ (r : IndexRule). r.id.0 == n) rules)) (apart rule.id.0 (total rules) n h) ∙ unused rules n (omega (arith, h))
  where
    apart : (m t n : ℕ) → m + t < n → (m == n) ≡ false
    apart m t n h = grind (arith, nat_tests)

pub rows_in_order : (found : Option Table) → ((index : ℕ) → are_sorted (entries_in index found) ≡ true) → are_sorted (own_order (rows_of found)) ≡ true
unfolding index_entries
rows_in_order None sorted = refl
rows_in_order (Some t) sorted =
    let n = suc (total (schema_of t).indexes) in
    let none : rule_with_id (schema_of t) n ≡ None = unused (schema_of t).indexes n (omega arith) in
    subst (λ (o : Option IndexRule). are_sorted (entries_of_rule (schema_of t) t.rows o) ≡ true) none (sorted n)

-- ---- the walk

-- the first of the records, as the entry that a walk finds
abbrev pub first_pair : Rows → Option Pair
first_pair [] = None
first_pair (row ∷ rows) = Some (row.0, row.0)

-- The walk has come to the record after these.
pub record IsWalk (rows : Rows) (found : Option Pair) (done rest : Rows) : Type 0 where
  pub split : rows ≡ done ++ rest
  pub at : found ≡ first_pair rest

pub walk_begins : (rows : Rows) (found : Option Pair) → found ≡ entry_after Before (own_order rows) → IsWalk rows found [] rows
walk_begins rows found is = record { split = refl; at = is ∙ first rows }
  where
    first : (rows : Rows) → entry_after Before (own_order rows) ≡ first_pair rows
    first [] = refl
    first (row ∷ rows) = refl

all_at : (p : Pair → Bool) (front : Rows) (row : List ℕ × RecordFields) (rest : Rows) → list_all p (own_order (front ++ row ∷ rest)) ≡ true → p (row.0, row.0) ≡ true
all_at p [] row rest h = and_left (p (row.0, row.0)) _ h
all_at p (x ∷ front) row rest h = all_at p front row rest (and_right (p (x.0, x.0)) _ h)

-- the entry after that of a record is that of the next one
next_is : (front : Rows) (row : List ℕ × RecordFields) (rest : Rows) → are_sorted (own_order (front ++ row ∷ rest)) ≡ true → entry_after (On row.0 row.0) (own_order (front ++ row ∷ rest)) ≡ first_pair rest
next_is [] row rest h =
    ap (λ b. cond b (Some (row.0, row.0)) (find (pair_lt (row.0, row.0)) (own_order rest))) (not_itself (row.0, row.0))
    ∙ first rest (and_left (list_all (pair_lt (row.0, row.0)) (own_order rest)) _ h)
  where
    first : (rest : Rows) → list_all (pair_lt (row.0, row.0)) (own_order rest) ≡ true → find (pair_lt (row.0, row.0)) (own_order rest) ≡ first_pair rest
    first [] h = refl
    first (r ∷ rest) h = ap (λ b. cond b (Some (r.0, r.0)) (find (pair_lt (row.0, row.0)) (own_order rest))) (and_left (pair_lt (row.0, row.0) (r.0, r.0)) _ h)
next_is (x ∷ front) row rest h =
    ap (λ b. cond b (Some (x.0, x.0)) (find (pair_lt (row.0, row.0)) (own_order (front ++ row ∷ rest))))
    (not_back (x.0, x.0) (row.0, row.0) (all_at (pair_lt (x.0, x.0)) front row rest (and_left (list_all (pair_lt (x.0, x.0)) (own_order (front ++ row ∷ rest))) _ h)))
    ∙ next_is front row rest (and_right (list_all (pair_lt (x.0, x.0)) (own_order (front ++ row ∷ rest))) _ h)

-- The record at which a walk stands, and those after it.
pub record StandsAt (rows done : Rows) (entry : Pair) : Type 0 where
  pub row : List ℕ × RecordFields
  pub rest : Rows
  pub split : rows ≡ done ++ row ∷ rest
  pub is : entry ≡ (row.0, row.0)

pub stands : (rows : Rows) (entry : Pair) (done rest : Rows) → IsWalk rows (Some entry) done rest → StandsAt rows done entry
stands rows entry done [] walk = none walk.at
  where
    none : {X : Type 0} → Some entry ≡ None → X
    none {X} e = cc
stands rows entry done (row ∷ rest) walk = record { row = row; rest = rest; split = walk.split; is = ap (λ (o : Option Pair). unwrap_or o entry) walk.at }

pub walk_goes_on : (rows done : Rows) (entry : Pair) (next : Option Pair) → are_sorted (own_order rows) ≡ true → (at : StandsAt rows done entry) → next ≡ entry_after (On entry.0 entry.1) (own_order rows) → IsWalk rows next (done ++ at.row ∷ []) at.rest
walk_goes_on rows done entry next sorted at is = record {
  split = at.split ∙ sym (append_assoc done (at.row ∷ []) at.rest);
  at = is ∙ ap (λ (e : Pair). entry_after (On e.0 e.1) (own_order rows)) at.is
      ∙ ap (λ (r : Rows). entry_after (On at.row.0 at.row.0) (own_order r)) at.split
      ∙ next_is done at.row at.rest (subst (λ (r : Rows). are_sorted (own_order r) ≡ true) at.split sorted);
}

pub walk_ends : (rows done rest : Rows) → IsWalk rows None done rest → done ≡ rows
walk_ends rows done [] walk = sym (walk.split ∙ all done)
  where
    all : (xs : Rows) → xs ++ [] ≡ xs
    all [] = refl
    all (x ∷ xs) = ap (λ r. x ∷ r) (all xs)
walk_ends rows done (row ∷ rest) walk = some (row.0, row.0) walk.at
  where
    some : {X : Type 0} (entry : Pair) → None ≡ Some entry → X
    some {X} entry e = cc

-- ---- the record at which it stands

found_at : (front : Rows) (row : List ℕ × RecordFields) (rest : Rows) → are_sorted (own_order (front ++ row ∷ rest)) ≡ true → row_at (front ++ row ∷ rest) row.0 ≡ Some row.1
found_at [] row rest h = ap (λ b. cond b (Some row.1) (row_at rest row.0)) (sym (texts_ties row.0 row.0) ∙ itself row.0)
  where
    itself : (k : List ℕ) → bytes_eq k k ≡ true
    itself k = equal_bytes k k refl
found_at (x ∷ front) row rest h =
    ap (λ b. cond b (Some x.1) (row_at (front ++ row ∷ rest) row.0)) (sym (texts_ties row.0 x.0) ∙ false_from_ne_true (bytes_eq row.0 x.0) (λ e. apart (same_bytes row.0 x.0 e)))
    ∙ found_at front row rest (and_right (list_all (pair_lt (x.0, x.0)) (own_order (front ++ row ∷ rest))) _ h)
  where
    below : pair_lt (x.0, x.0) (row.0, row.0) ≡ true
    below = all_at (pair_lt (x.0, x.0)) front row rest (and_left (list_all (pair_lt (x.0, x.0)) (own_order (front ++ row ∷ rest))) _ h)

    apart : row.0 ≡ x.0 → ⊥
    apart e = impossible (sym (not_itself (x.0, x.0)) ∙ ap (λ (k : List ℕ). pair_lt (x.0, x.0) (k, k)) (sym e) ∙ below)

some_table : (reader : Reader) (store : VersionedTables) (table : ℕ) (done : Rows) (row : List ℕ × RecordFields) (rest : Rows) → rows_shown reader store table ≡ done ++ row ∷ rest → is_some (table_with_id store.tables table) ≡ true
some_table reader store table done row rest e = by (table_with_id store.tables table) (sym (ap rows_of (seen_at_id reader store.held store.tables table)) ∙ e)
  where
    no_rows : (done : Rows) → [] ≡ done ++ row ∷ rest → ⊥
    no_rows [] e = cc
    no_rows (x ∷ done) e = cc

    by : (o : Option Table) → rows_of (option_map (seen_table reader store.held) o) ≡ done ++ row ∷ rest → is_some o ≡ true
    by None e = absurd (no_rows done e)
    by (Some t) e = refl

pub stands_at_record : FindsShown → (reader : Reader) (store : VersionedTables) (table : ℕ) (done : Rows) (entry : Pair) → are_sorted (own_order (rows_shown reader store table)) ≡ true → (at : StandsAt (rows_shown reader store table) done entry)
    → seen_record table entry.1 reader (record_in store.tables table entry.1) store.held ≡ Some at.row.1
stands_at_record finds reader store table done entry sorted at =
    sym (finds reader store table entry.1 (some_table reader store table done at.row at.rest at.split))
    ∙ ap (λ (e : Pair). row_at (rows_shown reader store table) e.1) at.is
    ∙ ap (λ (r : Rows). row_at r at.row.0) at.split
    ∙ found_at done at.row at.rest (subst (λ (r : Rows). are_sorted (own_order r) ≡ true) at.split sorted)

-- The counts of the long values of a store.
use Rattle.std.proofs.Common.{◌≡◌, ◌≤◌, ℕ, zero, ◌+◌, Bool, true, false, not, cond, T, List, [], ◌∷◌, Option, Some, None, refl, sym, ap, subst, ◌∙◌, arith}
use Rattle.std.specs.Prelude.{◌==◌, ◌||◌, filter, find, map, option_map, sum_by, unwrap_or, if◌then◌else◌}
use Rattle.std.specs.Cmp.Lexicographic.{slice_cmp}
use Rattle.std.specs.FinMap.Entries.{below_all, is_sorted}
use Rattle.std.specs.List.{AllByRecursion}
use Rattle.std.specs.Ordering.{eq_by_cmp, is_eq, is_lt, nat_cmp}
use Rattle.std.specs.declared.cmp.Ordering.TheVariants.{Less}
use Rattle.std.proofs.lemmas.Bool.Decides.{nat_tests}
use Rattle.std.proofs.lemmas.List.Elements.{recursion_from_All}
use Rattle.std.proofs.lemmas.List.Sums.{sum_by-cons}
use Rattle.std.proofs.lemmas.Cmp.{nat_list_cmp_total}
use Rattle.std.specs.Cmp.{tied_itself}
use Rattle.column_set.specs.Rows.{RowFields}
use Rattle.common_lemmas.proofs.Booleans.{and_left, and_right, by_test}
use Rattle.common_lemmas.proofs.Finding.{find_none}
use Rattle.common_lemmas.proofs.Lists.{all_weaker}
use Rattle.common_lemmas.proofs.Numbers.{self_equal}
use Rattle.common_lemmas.proofs.Orders.{is_less, less-irreflexive}
use Rattle.database_state.specs.State.{is_undone}
use Rattle.live_part.specs.LiveBytes.{standing}
use Rattle.long_rows.specs.ReferenceCounts.{HasCounts, NewestRows, count_of, reference_count, references_before}
use Rattle.long_rows.specs.RowReferences.{references}
use Rattle.long_value.specs.ChangedValues.{same_key}
use Rattle.long_value.specs.Values.{AreLong, IsLong, LongValue, Values, order, value_of}
use Rattle.stored_variants.specs.CountedValues.{newest_rows, row_before, rows_before}
use Rattle.table_trees.specs.StoredTables.{StoredTable, table_long_values, table_nodes}
use Rattle.version_store.specs.HeldChanges.{HeldChange}
use Rattle.image_findings.specs.CountFindings.{count_finding, is_miscounted}
use Rattle.image_findings.specs.Images.{Finding}
use Rattle.image_findings.specs.TableContents.{TableContents, long_values, wanted_count}
use Rattle.image_findings.specs.ValueFindings.{found_value}
use Rattle.own_images.proofs.Contents.{own_contents}
use Rattle.own_images.proofs.Differing.{all_both}
use Rattle.own_images.proofs.Walked.{WalkLaws}
use Rattle.own_images.specs.OwnContents.{HasOwnContents}
use Rattle.own_images.specs.OwnStores.{IsOwnStore, OwnStore, contents_of}

-- ---- values by their identifiers

pub itself : (id : List ℕ) → eq_by_cmp order id id ≡ true
itself id = ap is_eq (tied_itself nat_list_cmp_total id)

above : (low id : List ℕ) → is_lt (order low id) ≡ true → eq_by_cmp order id low ≡ false
above low id lower =
    by_test (eq_by_cmp order id low)
    (λ tied. absurd (less-irreflexive low (subst (λ (k : List ℕ). slice_cmp nat_cmp low k ≡ Less) (same_key id low tied) (is_less (order low id) lower))))
    (λ apart. apart)

pub all_above : (low : List ℕ) (values : Values) → below_all order low values ≡ true → AllByRecursion (λ (row : List ℕ × LongValue). is_lt (order low row.0) ≡ true) values
all_above low [] h = tt
all_above low (row ∷ values) h = (and_left (is_lt (order low row.0)) (below_all order low values) h, all_above low values (and_right (is_lt (order low row.0)) (below_all order low values) h))

pub each_value : (values : Values) → is_sorted order values ≡ true → AllByRecursion (λ (row : List ℕ × LongValue). value_of row.0 values ≡ Some row.1) values
each_value [] h = tt
each_value (row ∷ values) h = (
  ap (λ (b : Bool). cond b (Some row.1) (value_of row.0 values)) (itself row.0),
  all_both (λ (other : List ℕ × LongValue). is_lt (order row.0 other.0) ≡ true) (λ (other : List ℕ × LongValue). value_of other.0 values ≡ Some other.1) (λ (other : List ℕ × LongValue). value_of other.0 (row ∷ values) ≡ Some other.1)
      (λ other lower found. ap (λ (b : Bool). cond b (Some row.1) (value_of other.0 values)) (above row.0 other.0 lower) ∙ found)
      values (all_above row.0 values (and_left (below_all order row.0 values) (is_sorted order values) h)) (each_value values (and_right (below_all order row.0 values) (is_sorted order values) h)),
)

-- ---- changes that are undone count nothing

abbrev pub before_of : List ℕ → ℕ → List HeldChange → ℕ
before_of id table held = sum_by (references_before id) (rows_before table held)

abbrev of_table : ℕ → List HeldChange → List HeldChange
of_table table held = filter (λ (h : HeldChange). h.table == table) held

pub first_before : (id : List ℕ) (table : ℕ) (h : HeldChange) (held : List HeldChange) → before_of id table (h ∷ held) ≡ (if h.table == table then references_before id (row_before h) else 0) + before_of id table held
first_before id table h held = at (h.table == table)
  where
    at : (b : Bool) → sum_by (references_before id) (map row_before (if b then h ∷ of_table table held else of_table table held)) ≡ (if b then references_before id (row_before h) else 0) + sum_by (references_before id) (map row_before (of_table table held))
    at true = sum_by-cons (references_before id) (row_before h) (map row_before (of_table table held))
    at false = omega arith

counts_nothing : (id : List ℕ) (table : ℕ) (h : HeldChange) → is_undone h.status ≡ true → (if h.table == table then references_before id (row_before h) else 0) ≡ 0
counts_nothing id table h e = at (h.table == table) (ap (λ (b : Bool). if b then 0 else references id (row_before h).row) e)
  where
    at : (b : Bool) → references_before id (row_before h) ≡ 0 → (if b then references_before id (row_before h) else 0) ≡ 0
    at true none = none
    at false none = refl

same_before : (id : List ℕ) (table : ℕ) (held : List HeldChange) → before_of id table (standing held) ≡ before_of id table held
same_before id table [] = refl
same_before id table (h ∷ held) =
    by_test (is_undone h.status)
    (λ gone.
    let left : standing (h ∷ held) ≡ standing held = ap (λ (b : Bool). if not b then h ∷ standing held else standing held) gone in
    omega (arith, ap (before_of id table) left, same_before id table held, first_before id table h held, counts_nothing id table h gone))
    (λ stands.
    let left : standing (h ∷ held) ≡ h ∷ standing held = ap (λ (b : Bool). if not b then h ∷ standing held else standing held) stands in
    omega (arith, ap (before_of id table) left, same_before id table held, first_before id table h held, first_before id table h (standing held)))

-- ---- no value is miscounted

not_zero : (n : ℕ) → 1 ≤ n → (n == 0) ≡ false
not_zero n h = grind (arith, nat_tests, h)

rightly_counted : (n m : ℕ) → 1 ≤ n → n ≡ m → ((n == 0) || not (n == m)) ≡ false
rightly_counted n m some same = ap (λ (b : Bool). b || not (n == m)) (not_zero n some) ∙ ap not (ap (λ (k : ℕ). n == k) (sym same) ∙ self_equal n)

pub record IsCounted (trees : List StoredTable) (held : List HeldChange) (t : TableContents) (row : List ℕ × LongValue) : Type 0 where
  pub some : 1 ≤ row.1.count
  pub count : row.1.count ≡ wanted_count (standing held) t row.0

pub counted : (trees : List StoredTable) (held : List HeldChange) (t : TableContents) → HasOwnContents trees t → AreLong (table_long_values trees t.table.id) → HasCounts (table_long_values trees t.table.id) (newest_rows (table_nodes trees t.table.id)) (rows_before t.table.id held)
    → AllByRecursion (IsCounted trees held t) (table_long_values trees t.table.id)
counted trees held t own long counts =
    let values = table_long_values trees t.table.id in
    all_both IsLong (λ (row : List ℕ × LongValue). value_of row.0 values ≡ Some row.1) (IsCounted trees held t)
    (λ row is_long found.
    let known : count_of row.0 values ≡ row.1.count = ap (λ (o : Option LongValue). unwrap_or (option_map (λ (value : LongValue). value.count) o) 0) found in
    let nodes : newest_rows t.nodes ≡ newest_rows (table_nodes trees t.table.id) = ap newest_rows own.nodes in
    record {
      some = is_long.counted;
      count = sym known ∙ counts row.0
          ∙ ap (λ (n : ℕ). sum_by (λ (x : List ℕ × RowFields). references row.0 (Some x.1)) (newest_rows (table_nodes trees t.table.id)) + n) (sym (same_before row.0 t.table.id held))
          ∙ ap (λ (rows : NewestRows). reference_count row.0 rows (rows_before t.table.id (standing held))) (sym nodes);
    })
    values (recursion_from_All IsLong values long.whole) (each_value values long.in_order)

pub none_miscounted : (trees : List StoredTable) (held : List HeldChange) (t : TableContents) → HasOwnContents trees t → AreLong (table_long_values trees t.table.id) → HasCounts (table_long_values trees t.table.id) (newest_rows (table_nodes trees t.table.id)) (rows_before t.table.id held)
    → count_finding (standing held) t ≡ None
none_miscounted trees held t own long counts =
    ap (option_map (λ (value : List ℕ × LongValue). found_value (standing held) t value.1.count value.0))
    (ap (find (is_miscounted (standing held) t)) own.long_values
    ∙ find_none (is_miscounted (standing held) t) (table_long_values trees t.table.id)
    (all_weaker (IsCounted trees held t) (λ (row : List ℕ × LongValue). is_miscounted (standing held) t row ≡ false) (λ row c. rightly_counted row.1.count (wanted_count (standing held) t row.0) c.some c.count) (table_long_values trees t.table.id) (counted trees held t own long counts)))

pub own_counts : WalkLaws → (store : OwnStore) → IsOwnStore store → AllByRecursion (λ t. count_finding (standing store.held) t ≡ None) (contents_of store)
own_counts laws store own =
    all_weaker (HasOwnContents store.trees.tables) (λ t. count_finding (standing store.held) t ≡ None) (λ t h. none_miscounted store.trees.tables store.held t h (own.long_values t.table.id) (own.kept.counts t.table.id)) (contents_of store) (own_contents laws store own)

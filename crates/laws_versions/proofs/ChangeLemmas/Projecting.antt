-- What changes of tables do to single records.
use Rattle.std.proofs.Common.{◌≡◌, ℕ, Bool, true, false, not, ◌&&◌, cond, List, [], ◌∷◌, Option, Some, None, refl, sym, ap, ◌∙◌, arith}
use Rattle.std.specs.Prelude.{◌==◌, ℤ, if◌then◌else◌, is_some, option_map, bytes_eq, fold}
use Rattle.std.specs.List.{AllByRecursion}
use Rattle.std.proofs.lemmas.Bool.Decides.{nat_tests}
use Rattle.std.specs.Ordering.{nat_cmp}
use Rattle.std.specs.Cmp.Lexicographic.{slice_cmp, texts_ties, nat_list_cmp_total}
use Rattle.std.specs.FinMap.Entries.{find-put, find-where_key}
use Rattle.std.proofs.lemmas.Map.Lookups.{exact_bytes}
use Rattle.std.proofs.lemmas.Bool.{eqb-true}
use Rattle.common_lemmas.proofs.Numbers.{bytes_turned, same_bytes}
use Rattle.column_set.specs.declared.changes.Change.{Change}
use Rattle.column_set.specs.declared.changes.Change.TheVariants.{Put, Drop, Hold, Add}
use Rattle.column_set.specs.RecordValues.{RecordFields}
use Rattle.database_state.specs.Table.{Table, Rows, row_at, with_row, without_row, rows_of, table_with_id}
use Rattle.database_state.specs.Changes.{rows_with_sum, rows_after, tables_after, tables_after_all, with_sum}
use Rattle.column_set.specs.ChangedRecords.{changed_table, changed_bookmark}
use Rattle.laws_versions.specs.Records.{IsThere, records_of, record_after, is_change_of, records_after}

-- ---- rows

row_at-put : (rows : Rows) (bookmark other : List ℕ) (values : RecordFields) → row_at (with_row rows bookmark values) other ≡ cond (bytes_eq bookmark other) (Some values) (row_at rows other)
row_at-put rows bookmark other values =
    find-put (slice_cmp nat_cmp) nat_list_cmp_total other bookmark values rows
    ∙ ap (λ b. cond b (Some values) (row_at rows other)) (sym (texts_ties other bookmark) ∙ bytes_turned other bookmark)

row_at-drop : (rows : Rows) (bookmark other : List ℕ) → row_at (without_row rows bookmark) other ≡ cond (bytes_eq bookmark other) None (row_at rows other)
row_at-drop rows bookmark other =
    find-where_key (slice_cmp nat_cmp) (λ key. not (bytes_eq key bookmark)) other (λ x e. ap (λ (k : List ℕ). not (bytes_eq k bookmark)) (sym (exact_bytes other x e))) rows
    ∙ flipped (bytes_eq other bookmark) (row_at rows other) ∙ ap (λ b. cond b None (row_at rows other)) (bytes_turned other bookmark)
  where
    flipped : (b : Bool) (x : Option RecordFields) → cond (not b) x None ≡ cond b None x
    flipped true x = refl
    flipped false x = refl

either : {X : Type 0} (b : Bool) (x : X) → x ≡ cond b x x
either true x = refl
either false x = refl

row_at-sum : (rows : Rows) (bookmark other : List ℕ) (column : ℕ) (amount : ℤ) (found : Option RecordFields) → row_at rows bookmark ≡ found
    → row_at (rows_with_sum rows bookmark found column amount) other ≡ cond (bytes_eq bookmark other) (option_map (λ values. with_sum values column amount) (row_at rows other)) (row_at rows other)
row_at-sum rows bookmark other column amount None e =
    elim (bytes_eq bookmark other) as (λ b. bytes_eq bookmark other ≡ b → row_at rows other ≡ cond b (option_map (λ values. with_sum values column amount) (row_at rows other)) (row_at rows other)) [
      | true ↦ λ h. let none = ap (λ (k : List ℕ). row_at rows k) (sym (same_bytes bookmark other h)) ∙ e in none ∙ sym (ap (option_map (λ values. with_sum values column amount)) none)
      | false ↦ λ h. refl
    ] refl
row_at-sum rows bookmark other column amount (Some values) e =
    row_at-put rows bookmark other (with_sum values column amount)
    ∙ elim (bytes_eq bookmark other) as (λ b. bytes_eq bookmark other ≡ b → cond b (Some (with_sum values column amount)) (row_at rows other) ≡ cond b (option_map (λ values. with_sum values column amount) (row_at rows other)) (row_at rows other)) [
      | true ↦ λ h. sym (ap (option_map (λ values. with_sum values column amount)) (ap (λ (k : List ℕ). row_at rows k) (sym (same_bytes bookmark other h)) ∙ e))
      | false ↦ λ h. refl
    ] refl

row_at-after : (rows : Rows) (change : Change) (other : List ℕ) → row_at (rows_after rows change) other ≡ cond (bytes_eq (changed_bookmark change) other) (record_after change (row_at rows other)) (row_at rows other)
row_at-after rows (Put table bookmark copied values) other = row_at-put rows bookmark other values
row_at-after rows (Drop table bookmark) other = row_at-drop rows bookmark other
row_at-after rows (Hold table bookmark) other = either (bytes_eq bookmark other) (row_at rows other)
row_at-after rows (Add table bookmark column amount) other = row_at-sum rows bookmark other column.0 amount (row_at rows bookmark) refl

-- ---- tables

abbrev pub table_after : Change → Table → Table
table_after change t = if t.id == changed_table change then record t { rows = rows_after t.rows change } else t

either_id : (id : ℕ) (rows : Rows) (t : Table) (b : Bool) → (cond b (record t { rows = rows }) t).id ≡ t.id
either_id id rows t true = refl
either_id id rows t false = refl

table_with_id-after : (tables : List Table) (change : Change) (id : ℕ) → table_with_id (tables_after tables change) id ≡ option_map (table_after change) (table_with_id tables id)
table_with_id-after [] change id = refl
table_with_id-after (t ∷ tables) change id =
    rw (either_id id (rows_after t.rows change) t (t.id == changed_table change))
    (elim (t.id == id) as (λ b. cond b (Some (table_after change t)) (table_with_id (tables_after tables change) id) ≡ option_map (table_after change) (cond b (Some t) (table_with_id tables id))) [
      | true ↦ refl
      | false ↦ table_with_id-after tables change id
    ])

pub found_id : (id : ℕ) (tables : List Table) (t : Table) → table_with_id tables id ≡ Some t → t.id ≡ id
found_id id [] t h = cc
found_id id (first ∷ tables) t h =
    elim (first.id == id) as (λ b. (first.id == id) ≡ b → cond b (Some first) (table_with_id tables id) ≡ Some t → t.id ≡ id) [
      | true ↦ λ e g. let same : first ≡ t = cc in ap (λ (t : Table). t.id) (sym same) ∙ eqb-true first.id id e
      | false ↦ λ e g. found_id id tables t g
    ] refl h

found : (change : Change) (id : ℕ) (other : List ℕ) (t : Option Table) → ((u : Table) → t ≡ Some u → u.id ≡ id) → (is_some t ≡ false → (changed_table change == id) ≡ false)
    → row_at (rows_of (option_map (table_after change) t)) other
    ≡ cond (is_change_of id other change) (record_after change (row_at (rows_of t) other)) (row_at (rows_of t) other)
found change id other None is there = sym (ap (λ b. cond (b && bytes_eq (changed_bookmark change) other) (record_after change None) None) (there refl))
found change id other (Some t) is there =
    let same : (t.id == changed_table change) ≡ (changed_table change == id) = ap (λ n. n == changed_table change) (is t refl) ∙ swapped_numbers id (changed_table change) in
    ap (λ b. row_at (rows_of (Some (cond b (record t { rows = rows_after t.rows change }) t))) other) same
    ∙ elim (changed_table change == id) as (λ b. row_at (rows_of (Some (cond b (record t { rows = rows_after t.rows change }) t))) other
    ≡ cond (b && bytes_eq (changed_bookmark change) other) (record_after change (row_at t.rows other)) (row_at t.rows other)) [
      | true ↦ row_at-after t.rows change other
      | false ↦ refl
    ]
  where
    swapped_numbers : (a b : ℕ) → (a == b) ≡ (b == a)
    swapped_numbers a b = grind (arith, nat_tests)

pub projected : (tables : List Table) (change : Change) → IsThere tables change → records_of (tables_after tables change) ≡ records_after (records_of tables) change
projected tables change there = λ i id other. at id other i
  where
    missing : (id : ℕ) → is_some (table_with_id tables id) ≡ false → (changed_table change == id) ≡ false
    missing id none =
        elim (changed_table change == id) as (λ b. (changed_table change == id) ≡ b → b ≡ false) [
          | true ↦ λ e. sym there ∙ ap (λ n. is_some (table_with_id tables n)) (eqb-true (changed_table change) id e) ∙ none
          | false ↦ λ e. refl
        ] refl

    at : (id : ℕ) (other : List ℕ) → records_of (tables_after tables change) id other ≡ records_after (records_of tables) change id other
    at id other =
        ap (λ t. row_at (rows_of t) other) (table_with_id-after tables change id)
        ∙ found change id other (table_with_id tables id) (found_id id tables) (missing id)

pub stays : (tables : List Table) (change : Change) (id : ℕ) → is_some (table_with_id (tables_after tables change) id) ≡ is_some (table_with_id tables id)
stays tables change id = ap is_some (table_with_id-after tables change id) ∙ is_some_map (table_with_id tables id)
  where
    is_some_map : (t : Option Table) → is_some (option_map (table_after change) t) ≡ is_some t
    is_some_map None = refl
    is_some_map (Some t) = refl

there_after : (tables : List Table) (change : Change) (changes : List Change) → AllByRecursion (IsThere tables) changes → AllByRecursion (IsThere (tables_after tables change)) changes
there_after tables change [] h = tt
there_after tables change (next ∷ changes) h = (stays tables change (changed_table next) ∙ h.0, there_after tables change changes h.1)

pub all_projected : (tables : List Table) (changes : List Change) → AllByRecursion (IsThere tables) changes → records_of (tables_after_all tables changes) ≡ fold records_after (records_of tables) changes
all_projected tables [] h = refl
all_projected tables (change ∷ changes) h =
    all_projected (tables_after tables change) changes (there_after tables change changes h.1)
    ∙ ap (λ r. fold records_after r changes) (projected tables change h.0)

-- The rows of a table before all held changes: they rise, and who has a key among them.
use Rattle.std.proofs.Common.{◌≡◌, ℕ, suc, Bool, true, false, ◌&&◌, cond, List, [], ◌∷◌, Option, Some, None, refl, sym, ap, subst, ◌∙◌, arith}
use Rattle.std.specs.Prelude.{◌==◌, length, map, filter, nat_le, bytes_eq, T}
use Rattle.std.specs.List.{list_all}
use Rattle.std.specs.Cmp.Lexicographic.{slice_cmp, nat_list_cmp_total, texts_ties}
use Rattle.std.specs.FinMap.Entries.{below_all, is_sorted, is_sorted-put}
use Rattle.std.specs.Ordering.{eq_by_cmp, is_lt, nat_cmp}
use Rattle.std.specs.declared.cmp.Ordering.TheVariants.{Less}
use Rattle.std.proofs.lemmas.Bool.Decides.{nat_tests}
use Rattle.column_set.specs.ChangedRecords.{changed_table}
use Rattle.column_set.specs.RecordValues.{RecordFields}
use Rattle.column_set.specs.declared.changes.Change.{Change}
use Rattle.column_set.specs.declared.changes.Change.TheVariants.{Put, Drop, Hold, Add}
use Rattle.common_lemmas.proofs.Booleans.{T_first, T_second, and_left, and_right, by_test, impossible}
use Rattle.common_lemmas.proofs.Numbers.{equal_bytes, same_bytes}
use Rattle.common_lemmas.proofs.Orders.{is_less, less-irreflexive}
use Rattle.database_state.specs.Changes.{rows_after, rows_with_sum, tables_after}
use Rattle.database_state.specs.Conflicts.{yields_key}
use Rattle.database_state.specs.Table.{Rows, Table, row_at, rows_of, table_with_id}
use Rattle.image_findings.specs.KeyFindings.{holders}
use Rattle.index_derive.specs.declared.rules.IndexRule.{IndexRule}
use Rattle.index_derive.specs.declared.rules.Schema.{Schema}
use Rattle.laws_engine.proofs.TableLemmas.Rising.{with_rises}
use Rattle.laws_engine.specs.HeldRecords.{HeldRecord, inverse}
use Rattle.laws_engine.specs.Holding.{RowsRise}
use Rattle.laws_images.specs.ShownStates.{tables_before}

-- ---- they rise

after_rises : (rows : Rows) (change : Change) → RowsRise rows → RowsRise (rows_after rows change)
after_rises rows (Put table bookmark copied values) h = with_rises rows bookmark (Some values) h
after_rises rows (Drop table bookmark) h = with_rises rows bookmark None h
after_rises rows (Hold table bookmark) h = h
after_rises rows (Add table bookmark column amount) h = by (row_at rows bookmark)
  where
    by : (found : Option RecordFields) → RowsRise (rows_with_sum rows bookmark found column.0 amount)
    by None = h
    by (Some values) = is_sorted-put (slice_cmp nat_cmp) nat_list_cmp_total bookmark _ rows h

one_rises : (tables : List Table) (change : Change) (id : ℕ) → RowsRise (rows_of (table_with_id tables id)) → RowsRise (rows_of (table_with_id (tables_after tables change) id))
one_rises [] change id h = h
one_rises (t ∷ tables) change id h = by (t.id == changed_table change) (one_rises tables change id)
  where
    later : Table
    later = record t { rows = rows_after t.rows change }

    changed : (b : Bool) → RowsRise (rows_of (cond b (Some t) (table_with_id tables id))) → (RowsRise (rows_of (table_with_id tables id)) → RowsRise (rows_of (table_with_id (tables_after tables change) id))) → RowsRise (rows_of (cond b (Some later) (table_with_id (tables_after tables change) id)))
    changed true g rest = after_rises t.rows change g
    changed false g rest = rest g

    kept : (b : Bool) → RowsRise (rows_of (cond b (Some t) (table_with_id tables id))) → (RowsRise (rows_of (table_with_id tables id)) → RowsRise (rows_of (table_with_id (tables_after tables change) id))) → RowsRise (rows_of (cond b (Some t) (table_with_id (tables_after tables change) id)))
    kept true g rest = g
    kept false g rest = rest g

    by : (a : Bool) → (RowsRise (rows_of (table_with_id tables id)) → RowsRise (rows_of (table_with_id (tables_after tables change) id)))
        → RowsRise (rows_of (cond ((cond a (record t { rows = rows_after t.rows change }) t).id == id) (Some (cond a (record t { rows = rows_after t.rows change }) t)) (table_with_id (tables_after tables change) id)))
    by true rest = changed (t.id == id) h rest
    by false rest = kept (t.id == id) h rest

pub first_rise : (held : List HeldRecord) (tables : List Table) (id : ℕ) → RowsRise (rows_of (table_with_id tables id)) → RowsRise (rows_of (table_with_id (tables_before held tables) id))
first_rise [] tables id h = h
first_rise (h ∷ held) tables id rise = one_rises (tables_before held tables) (inverse h) id (first_rise held tables id rise)

-- ---- who has a key among them

module _ (rule : IndexRule) (schema : Schema) (key : List ℕ) where
  abbrev has_key : Rows → List ℕ → Bool
  has_key rows b = yields_key rule schema key (row_at rows b)

  none_there : (b k : List ℕ) (rows : Rows) → b ≡ k → T (below_all (slice_cmp nat_cmp) k rows) → row_at rows b ≡ None
  none_there b k [] same low = refl
  none_there b k (row ∷ rows) same low =
      ap (λ x. cond x (Some row.1) (row_at rows b)) other ∙ none_there b k rows same (T_second (is_lt (slice_cmp nat_cmp k row.0)) (below_all (slice_cmp nat_cmp) k rows) low)
    where
      less : slice_cmp nat_cmp k row.0 ≡ Less
      less = is_less (slice_cmp nat_cmp k row.0) (truth (is_lt (slice_cmp nat_cmp k row.0)) (T_first (is_lt (slice_cmp nat_cmp k row.0)) (below_all (slice_cmp nat_cmp) k rows) low))
        where
          truth : (x : Bool) → T x → x ≡ true
          truth true h = refl
          truth false h = absurd h

      other : eq_by_cmp (slice_cmp nat_cmp) b row.0 ≡ false
      other = by_test (eq_by_cmp (slice_cmp nat_cmp) b row.0) (λ e. absurd (less-irreflexive k (subst (λ (x : List ℕ). slice_cmp nat_cmp k x ≡ Less) (sym (same_bytes b row.0 (texts_ties b row.0 ∙ e)) ∙ same) less))) (λ e. e)

  own_row : (row : List ℕ × RecordFields) (rows : Rows) → row_at (row ∷ rows) row.0 ≡ Some row.1
  own_row row rows = ap (λ x. cond x (Some row.1) (row_at rows row.0)) (sym (texts_ties row.0 row.0) ∙ equal_bytes row.0 row.0 refl)

  -- who has it among the rows behind one has it among all
  behind_one : (row : List ℕ × RecordFields) (rows : Rows) → RowsRise (row ∷ rows) → (b : List ℕ) → has_key rows b ≡ true → has_key (row ∷ rows) b ≡ true
  behind_one row rows rise b has =
      by_test (eq_by_cmp (slice_cmp nat_cmp) b row.0)
      (λ e. impossible (sym (ap (yields_key rule schema key) (none_there b row.0 rows (same_bytes b row.0 (texts_ties b row.0 ∙ e)) (T_first (below_all (slice_cmp nat_cmp) row.0 rows) (is_sorted (slice_cmp nat_cmp) rows) rise))) ∙ has))
      (λ e. ap (λ x. yields_key rule schema key (cond x (Some row.1) (row_at rows b))) e ∙ has)

  rest_rise : (row : List ℕ × RecordFields) (rows : Rows) → RowsRise (row ∷ rows) → RowsRise rows
  rest_rise row rows rise = T_second (below_all (slice_cmp nat_cmp) row.0 rows) (is_sorted (slice_cmp nat_cmp) rows) rise

  -- what all holders pass, each that has the key passes, and the other way round
  pub holders_to : (rows : Rows) (p : List ℕ → Bool) → list_all p (holders rule schema key rows) ≡ true → (b : List ℕ) → has_key rows b ≡ true → p b ≡ true
  holders_to [] p all b has = impossible has
  holders_to (row ∷ rows) p all b has = by (yields_key rule schema key (Some row.1)) refl all (eq_by_cmp (slice_cmp nat_cmp) b row.0) refl has (λ one two. holders_to rows p one b two)
    where
      rest : List (List ℕ)
      rest = holders rule schema key rows

      by : (y : Bool) → yields_key rule schema key (Some row.1) ≡ y → list_all p (map (λ (r : List ℕ × RecordFields). r.0) (cond y (row ∷ filter (λ (r : List ℕ × RecordFields). yields_key rule schema key (Some r.1)) rows) (filter (λ (r : List ℕ × RecordFields). yields_key rule schema key (Some r.1)) rows))) ≡ true
          → (x : Bool) → eq_by_cmp (slice_cmp nat_cmp) b row.0 ≡ x → yields_key rule schema key (cond x (Some row.1) (row_at rows b)) ≡ true → (list_all p rest ≡ true → has_key rows b ≡ true → p b ≡ true) → p b ≡ true
      by true y all true e has more = ap p (same_bytes b row.0 (texts_ties b row.0 ∙ e)) ∙ and_left (p row.0) (list_all p rest) all
      by false y all true e has more = impossible (sym y ∙ has)
      by true y all false e has more = more (and_right (p row.0) (list_all p rest) all) has
      by false y all false e has more = more all has

  pub holders_from : (rows : Rows) → RowsRise rows → (p : List ℕ → Bool) → ((b : List ℕ) → has_key rows b ≡ true → p b ≡ true) → list_all p (holders rule schema key rows) ≡ true
  holders_from [] rise p each = refl
  holders_from (row ∷ rows) rise p each = by (yields_key rule schema key (Some row.1)) refl (holders_from rows (rest_rise row rows rise) p (λ b has. each b (behind_one row rows rise b has)))
    where
      rest : List (List ℕ)
      rest = holders rule schema key rows

      by : (y : Bool) → yields_key rule schema key (Some row.1) ≡ y → list_all p rest ≡ true → list_all p (map (λ (r : List ℕ × RecordFields). r.0) (cond y (row ∷ filter (λ (r : List ℕ × RecordFields). yields_key rule schema key (Some r.1)) rows) (filter (λ (r : List ℕ × RecordFields). yields_key rule schema key (Some r.1)) rows))) ≡ true
      by true y more = ap (λ x. x && list_all p rest) (each row.0 (ap (yields_key rule schema key) (own_row row rows) ∙ y)) ∙ more
      by false y more = more

  -- one at most
  none_hold : (rows : Rows) → RowsRise rows → ((b : List ℕ) → has_key rows b ≡ false) → holders rule schema key rows ≡ []
  none_hold [] rise none = refl
  none_hold (row ∷ rows) rise none = by (yields_key rule schema key (Some row.1)) refl (none_hold rows (rest_rise row rows rise) (λ b. by_test (has_key rows b) (λ e. impossible (sym (none b) ∙ behind_one row rows rise b e)) (λ e. e)))
    where
      by : (y : Bool) → yields_key rule schema key (Some row.1) ≡ y → holders rule schema key rows ≡ [] → map (λ (r : List ℕ × RecordFields). r.0) (cond y (row ∷ filter (λ (r : List ℕ × RecordFields). yields_key rule schema key (Some r.1)) rows) (filter (λ (r : List ℕ × RecordFields). yields_key rule schema key (Some r.1)) rows)) ≡ []
      by true y rest = impossible (sym (none row.0) ∙ ap (yields_key rule schema key) (own_row row rows) ∙ y)
      by false y rest = rest

  pub few : (rows : Rows) → RowsRise rows → ((b c : List ℕ) → has_key rows b ≡ true → has_key rows c ≡ true → b ≡ c) → nat_le (length (holders rule schema key rows)) 1 ≡ true
  few [] rise one = refl
  few (row ∷ rows) rise one = by (yields_key rule schema key (Some row.1)) refl (few rows (rest_rise row rows rise) (λ b c has also. one b c (behind_one row rows rise b has) (behind_one row rows rise c also)))
    where
      alone : yields_key rule schema key (Some row.1) ≡ true → (b : List ℕ) → has_key rows b ≡ false
      alone y b =
          by_test (has_key rows b)
          (λ e. impossible (sym (ap (yields_key rule schema key) (none_there b row.0 rows (one b row.0 (behind_one row rows rise b e) (ap (yields_key rule schema key) (own_row row rows) ∙ y)) (T_first (below_all (slice_cmp nat_cmp) row.0 rows) (is_sorted (slice_cmp nat_cmp) rows) rise))) ∙ e))
          (λ e. e)

      by : (y : Bool) → yields_key rule schema key (Some row.1) ≡ y → nat_le (length (holders rule schema key rows)) 1 ≡ true
          → nat_le (length (map (λ (r : List ℕ × RecordFields). r.0) (cond y (row ∷ filter (λ (r : List ℕ × RecordFields). yields_key rule schema key (Some r.1)) rows) (filter (λ (r : List ℕ × RecordFields). yields_key rule schema key (Some r.1)) rows)))) 1 ≡ true
      by true y rest = ap (λ (l : List (List ℕ)). nat_le (length (row.0 ∷ l)) 1) (none_hold rows (rest_rise row rows rise) (alone y))
      by false y rest = rest

  pub one_holder : (rows : Rows) → nat_le (length (holders rule schema key rows)) 1 ≡ true → (b c : List ℕ) → has_key rows b ≡ true → has_key rows c ≡ true → b ≡ c
  one_holder rows short b c has also = by (holders rule schema key rows) short (λ p all. holders_to rows p all b has) (λ p all. holders_to rows p all c also)
    where
      many : (n : ℕ) → nat_le (suc (suc n)) 1 ≡ false
      many n = grind (arith, nat_tests)

      by : (list : List (List ℕ)) → nat_le (length list) 1 ≡ true → ((p : List ℕ → Bool) → list_all p list ≡ true → p b ≡ true) → ((p : List ℕ → Bool) → list_all p list ≡ true → p c ≡ true) → b ≡ c
      by [] s one two = impossible (one (λ x. false) refl)
      by (x ∷ []) s one two = sym (same_bytes x b (one (bytes_eq x) (ap (λ y. y && true) (equal_bytes x x refl)))) ∙ same_bytes x c (two (bytes_eq x) (ap (λ y. y && true) (equal_bytes x x refl)))
      by (x ∷ y ∷ list) s one two = impossible (sym (many (length list)) ∙ s)

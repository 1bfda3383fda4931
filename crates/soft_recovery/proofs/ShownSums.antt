-- The sums of the row that a session is shown, and those of its view.
use Rattle.std.proofs.Common.{◌≡◌, ℕ, zero, suc, ◌+◌, ◌%◌, ◌^◌, ◌<◌, ◌≤◌, Bool, true, false, not, ◌&&◌, ◌||◌, cond, List, [], ◌∷◌, length, map, take, get_or, Option, Some, None, option_map, refl, sym, ap, subst, ◌∙◌, arith}
use Rattle.std.specs.Prelude.{ℤ, ◌==◌, is_some, bytes_eq, IfSome, MatchOption}
use Rattle.std.specs.Int.{w32, cast_unsigned, from_le_bytes, to_le_bytes}
use Rattle.std.specs.List.{AllByRecursion, list_all, list_any}
use Rattle.std.proofs.lemmas.Bool.{and_from}
use Rattle.std.proofs.lemmas.Int.{of_z-to_z}
use Rattle.std.proofs.lemmas.List.{take_all}
use Rattle.std.proofs.lemmas.List.Folds.{list_all_at, list_all_more}
use Rattle.std.proofs.Math.Nat.{mod-eq_of_lt}
use Rattle.common_lemmas.proofs.Booleans.{and_left, and_right, impossible}
use Rattle.common_lemmas.proofs.Found.{all_found}
use Rattle.common_lemmas.proofs.Lists.{all_weaker}
use Rattle.common_lemmas.proofs.Numbers.{self_equal, unequal_turned}
use Rattle.column_set.specs.declared.columns.Column.{Column}
use Rattle.column_set.specs.RecordValues.{RecordFields, column_of_id}
use Rattle.index_derive.specs.declared.rules.Schema.{Schema}
use Rattle.index_derive.specs.Entries.{is_escrow_column}
use Rattle.database_state.specs.Changes.{escrow_bytes, with_sum}
use Rattle.database_state.specs.Lawful.{keeps_escrow}
use Rattle.database_state.specs.State.{DatabaseState, PastChange, transaction_of}
use Rattle.database_state.specs.Table.{Table, record_in, row_at, schema_of, table_with_id}
use Rattle.database_state.specs.View.{view}
use Rattle.session_local.specs.SessionSide.{are_distinct}
use Rattle.session_local.specs.WellFormed.{number_of_column}
use Rattle.laws_engine.specs.ColumnNumbers.{are_in_range, has_own_numbers, have_own_numbers, is_given_number}
use Rattle.laws_versions.specs.Records.{Records, records_of}
use Rattle.laws_versions.specs.History.{IsHistory}
use Rattle.laws_versions.specs.EscrowNumbers.{holds_number}
use Rattle.laws_versions.specs.EscrowSums.{escrow_value, with_sums}
use Rattle.laws_versions.specs.RecordNumbers.{HasEscrowNumbers, HoldsNumbers}
use Rattle.laws_versions.proofs.HistoryLemmas.Lists.{all_both}
use Rattle.laws_versions.proofs.SumLemmas.StoredSums.{value_without}
use Rattle.laws_versions.proofs.SumLemmas.VeryRecords.{number_below, number_read, one_value, sum_holds}
use Rattle.version_store.specs.declared.calls.Reader.{Reader}
use Rattle.version_cleanup.specs.Cleaning.{reader_in}
use Rattle.laws_engine.specs.EngineState.{EngineState}
use Rattle.laws_engine.specs.HeldSums.{unseen_sums}
use Rattle.laws_engine.specs.Holding.{Holds, begin_of}
use Rattle.laws_engine.specs.HoldsState.{HoldsState}
use Rattle.laws_engine.specs.VersionedTables.{VersionedTables, seen_tables}
use Rattle.laws_engine.specs.ViewedRecords.{without_sums}
use Rattle.laws_engine.proofs.EngineLemmas.RecordsAndConflicts.{begin_told}
use Rattle.table_versions.specs.Shown.{FindsShown}
use Rattle.engine_parts.specs.Reading.{record_for, shown_for}
use Rattle.record_decisions.specs.Updating.{IsSchemaOf}
use Rattle.soft_recovery.specs.LawfulEntries.{HoldsSome, IsTold, rows_in}
use Rattle.soft_recovery.specs.ShownSums.{HoldsSums, ShowsSums, keeps_column, keeps_shown, shown_sum}
use Rattle.soft_recovery.proofs.HeldTables.{HasIt, committed_table, from_some, is_there}

-- ---- columns by number

apart_from : (number : ℕ) (columns : List Column) → not (list_any (λ other. other == number) (map number_of_column columns)) ≡ true → AllByRecursion (λ c. (c.id.0 == number) ≡ false) columns
apart_from number [] h = tt
apart_from number (c ∷ columns) h =
    elim (c.id.0 == number) as (λ b. (c.id.0 == number) ≡ b → not (b || list_any (λ other. other == number) (map number_of_column columns)) ≡ true → ((c.id.0 == number) ≡ false) × AllByRecursion (λ c. (c.id.0 == number) ≡ false) columns) [
      | true ↦ λ e g. impossible g
      | false ↦ λ e g. (e, apart_from number columns g)
    ] refl h

-- where no two columns have one number each is found by its own
found_by_number : (columns : List Column) → are_distinct (map number_of_column columns) ≡ true → AllByRecursion (λ c. column_of_id columns c.id.0 ≡ Some c) columns
found_by_number [] h = tt
found_by_number (c ∷ columns) h = (
  ap (λ b. cond b (Some c) (column_of_id columns c.id.0)) (self_equal c.id.0),
  all_both (λ d. column_of_id columns d.id.0 ≡ Some d) (λ d. (d.id.0 == c.id.0) ≡ false) (λ d. column_of_id (c ∷ columns) d.id.0 ≡ Some d)
      (λ d found apart. ap (λ b. cond b (Some c) (column_of_id columns d.id.0)) (unequal_turned d.id.0 c.id.0 apart) ∙ found) columns
      (found_by_number columns (and_right (not (list_any (λ other. other == c.id.0) (map number_of_column columns))) _ h))
      (apart_from c.id.0 columns (and_left _ (are_distinct (map number_of_column columns)) h)),
)

escrow_by_number : (schema : Schema) → are_distinct (map number_of_column schema.columns) ≡ true → AllByRecursion (λ c. c.escrow ≡ true → is_escrow_column schema c.id.0 ≡ true) schema.columns
escrow_by_number schema h =
    all_weaker (λ c. column_of_id schema.columns c.id.0 ≡ Some c) (λ c. c.escrow ≡ true → is_escrow_column schema c.id.0 ≡ true)
    (λ c found sum. ap (λ (o : Option Column). elim o [ Some column ↦ column.escrow | None ↦ false ]) found ∙ sum) schema.columns (found_by_number schema.columns h)

numbers_apart : (tables : List Table) (id : ℕ) (table : Table) → have_own_numbers tables ≡ true → table_with_id tables id ≡ Some table → are_distinct (map number_of_column table.columns) ≡ true
numbers_apart tables id table own found =
    and_right (are_in_range table.greatest && list_all (is_given_number table.greatest) table.columns) (are_distinct (map number_of_column table.columns))
    (all_found has_own_numbers (λ t. t.id == id) tables table own found)

-- ---- the number in an escrow column

-- its bytes are those of the number
number_bytes : (values : RecordFields) (column : ℕ) → holds_number values column ≡ true → to_le_bytes w32 (cast_unsigned w32 (escrow_value values column)) ≡ escrow_bytes values column
number_bytes values column h =
    let one = one_value values column h in
    let bytes = escrow_bytes values column in
    ap (to_le_bytes w32) (of_z-to_z w32 (from_le_bytes w32 bytes % 2 ^ 32) (small (from_le_bytes w32 bytes)) ∙ mod-eq_of_lt (number_below bytes one.1))
    ∙ number_read bytes one.1
  where
    small : (n : ℕ) → n % 4294967296 < 4294967296
    small n = omega arith

sums_hold : (sums : List (ℕ × ℤ)) (values : RecordFields) (column : ℕ) → holds_number values column ≡ true → holds_number (with_sums values sums) column ≡ true
sums_hold [] values column h = h
sums_hold (sum ∷ sums) values column h = sums_hold sums (with_sum values sum.0 sum.1) column (sum_holds values sum.0 column sum.1 h)

-- ---- all columns

tests_alike : {X : Type 0} (p q : X → Bool) (xs : List X) → AllByRecursion (λ x. p x ≡ q x) xs → list_all p xs ≡ list_all q xs
tests_alike p q [] same = refl
tests_alike p q (x ∷ xs) same = λ i. same.0 i && tests_alike p q xs same.1 i

where_escrow : (b x y : Bool) → (b ≡ true → x ≡ y) → (not b || x) ≡ (not b || y)
where_escrow true x y same = same refl
where_escrow false x y same = refl

-- ---- the laws that it rests on

abbrev ViewsRecords : Type 0
ViewsRecords =
    (engine : EngineState) (state : DatabaseState) → HoldsState engine state → (session table : ℕ) (bookmark : List ℕ) → record_for engine session table bookmark ≡ record_in (view state session) table bookmark

abbrev ShowsRecords : Type 0
ShowsRecords =
    (engine : EngineState) (state : DatabaseState) → HoldsState engine state → (session table : ℕ) (bookmark : List ℕ) → is_some (shown_for engine session table bookmark) ≡ is_some (record_in (view state session) table bookmark)

abbrev AddsSums : Type 0
AddsSums =
    (base : Records) (dropped kept : List PastChange) (store : VersionedTables) (state : DatabaseState) → Holds base dropped kept store state
    → (reader : Reader) → reader.begin ≡ begin_of (transaction_of state reader.session.0) → (table : ℕ) (bookmark : List ℕ)
    → record_in (seen_tables reader store) table bookmark ≡ option_map (λ values. with_sums values (unseen_sums table bookmark reader store.held)) (record_in (view state reader.session.0) table bookmark)

abbrev SeesNumbers : Type 0
SeesNumbers =
    (base : Records) (dropped kept : List PastChange) (state : DatabaseState) → IsHistory base dropped kept state → HasEscrowNumbers base kept state → (session id : ℕ)
    → IfSome (table_with_id state.tables id) (λ table. (bookmark : List ℕ) → IfSome (records_of (view state session) id bookmark) (HoldsNumbers state.number (schema_of table) bookmark))

pub record SumLaws : Type 0 where
  pub views : ViewsRecords
  pub shows : ShowsRecords
  pub adds : AddsSums
  pub finds : FindsShown
  pub numbers : SeesNumbers

-- ---- what the row tells

abbrev SumsTold : EngineState → DatabaseState → ℕ → ℕ → List ℕ → List Column → RecordFields → Type 0
SumsTold engine state session table bookmark columns row =
    HoldsSums columns row × ((values : RecordFields) → keeps_shown engine session table bookmark row columns values ≡ keeps_escrow columns (row_at (rows_in state session table) bookmark) values)

row_told : SumLaws → (engine : EngineState) (state : DatabaseState) (h : HoldsState engine state) (session table : ℕ) (bookmark : List ℕ) (row : RecordFields) → is_some (table_with_id engine.store.tables table) ≡ true → (u : Table) → table_with_id state.tables table ≡ Some u
    → shown_for engine session table bookmark ≡ Some row → SumsTold engine state session table bookmark u.columns row
row_told laws engine state h session table bookmark row there u found shown = (
  all_weaker Both (λ c. c.escrow ≡ true → holds_number row c.id.0 ≡ true) (λ c both sum. (both sum).0) u.columns each,
  λ values.
      tests_alike (keeps_column engine session table bookmark row values) (λ c. not c.escrow || bytes_eq (escrow_bytes values c.id.0) (escrow_bytes seen c.id.0)) u.columns
      (all_weaker Both (λ c. keeps_column engine session table bookmark row values c ≡ (not c.escrow || bytes_eq (escrow_bytes values c.id.0) (escrow_bytes seen c.id.0)))
      (λ c both. where_escrow c.escrow _ _ (λ sum. ap (bytes_eq (escrow_bytes values c.id.0)) (both sum).1)) u.columns each)
      ∙ ap (λ (o : Option RecordFields). keeps_escrow u.columns o values) (sym view_has),
)
  where
    reader : Reader
    reader = reader_in session engine.sessions

    sums : List (ℕ × ℤ)
    sums = unseen_sums table bookmark (reader_in session engine.sessions) engine.store.held

    seen : RecordFields
    seen = without_sums row (unseen_sums table bookmark (reader_in session engine.sessions) engine.store.held)

    view_has : record_in (view state session) table bookmark ≡ Some seen
    view_has = sym (laws.views engine state h session table bookmark) ∙ ap (option_map (λ (values : RecordFields). without_sums values sums)) shown

    row_is : row ≡ with_sums seen sums
    row_is = from_some row (with_sums seen sums)
        (sym shown
        ∙ sym (laws.finds (reader_in session engine.sessions) engine.store table bookmark there)
        ∙ laws.adds h.base h.dropped h.kept engine.store state h.holds (reader_in session engine.sessions) (begin_told engine state h session) table bookmark
        ∙ ap (option_map (λ (values : RecordFields). with_sums values sums)) view_has)

    holds : HoldsNumbers state.number (schema_of u) bookmark seen
    holds = subst (λ (o : Option RecordFields). IfSome o (HoldsNumbers state.number (schema_of u) bookmark)) view_has
        (subst (λ (o : Option Table). IfSome o (λ t. (bookmark : List ℕ) → IfSome (records_of (view state session) table bookmark) (HoldsNumbers state.number (schema_of t) bookmark))) found
        (laws.numbers h.base h.dropped h.kept state h.reached.history h.reached.numbers session table) bookmark)

    Both : Column → Type 0
    Both c = c.escrow ≡ true → (holds_number row c.id.0 ≡ true) × (shown_sum engine session table bookmark row c.id.0 ≡ escrow_bytes seen c.id.0)

    each : AllByRecursion Both u.columns
    each = all_weaker (λ c. c.escrow ≡ true → is_escrow_column (schema_of u) c.id.0 ≡ true) Both
        (λ c own sum. (
          ap (λ (r : RecordFields). holds_number r c.id.0) row_is ∙ sums_hold sums seen c.id.0 (holds.1 c.id.0 (own sum)),
          ap (λ (r : RecordFields). shown_sum engine session table bookmark r c.id.0) row_is
              ∙ ap (λ (n : ℤ). to_le_bytes w32 (cast_unsigned w32 n)) (sym (value_without seen c.id.0 sums)) ∙ number_bytes seen c.id.0 (holds.1 c.id.0 (own sum)),
        )) u.columns (escrow_by_number (schema_of u) (numbers_apart state.tables table u h.reached.columns found))

none_of : {X : Type 0} (o : Option X) → is_some o ≡ false → o ≡ None
none_of None e = refl
none_of (Some x) e = impossible (sym e)

pub sums_told : SumLaws → ShowsSums
sums_told laws engine state h session table schema named bookmark = by (shown_for engine session table bookmark) refl
  where
    it : HasIt (table_with_id state.tables table) schema
    it = committed_table engine state h table schema named

    by : (o : Option RecordFields) → shown_for engine session table bookmark ≡ o
        → MatchOption o (row_at (rows_in state session table) bookmark ≡ None) (λ row. SumsTold engine state session table bookmark schema.columns row)
    by None e = none_of (record_in (view state session) table bookmark) (sym (laws.shows engine state h session table bookmark) ∙ ap (λ (o : Option RecordFields). is_some o) e)
    by (Some row) e =
        subst (λ (s : Schema). SumsTold engine state session table bookmark s.columns row) (sym it.2)
        (row_told laws engine state h session table bookmark row (is_there (table_with_id engine.store.tables table) schema named) it.0 it.1 e)

-- ---- what is told of the sums that are put

pub row_sums : ShowsSums → (engine : EngineState) → HoldsSome engine → (session table : ℕ) (schema : Schema) → IsSchemaOf engine table schema → (bookmark : List ℕ) (row : RecordFields) → Some row ≡ shown_for engine session table bookmark → HoldsSums schema.columns row
row_sums shows engine held session table schema named bookmark row shown = (at_row engine held.state session table schema bookmark row shown (shows engine held.state held.holds session table schema named bookmark)).0
  where
    at_row : (engine : EngineState) (state : DatabaseState) (session table : ℕ) (schema : Schema) (bookmark : List ℕ) (row : RecordFields) → Some row ≡ shown_for engine session table bookmark
        → MatchOption (shown_for engine session table bookmark) (row_at (rows_in state session table) bookmark ≡ None) (λ row. SumsTold engine state session table bookmark schema.columns row) → SumsTold engine state session table bookmark schema.columns row
    at_row engine state session table schema bookmark row shown told =
        subst (λ (o : Option RecordFields). MatchOption o (row_at (rows_in state session table) bookmark ≡ None) (λ row. SumsTold engine state session table bookmark schema.columns row)) (sym shown) told

pub kept_in_row : ShowsSums → (engine : EngineState) (session table : ℕ) (schema : Schema) → IsSchemaOf engine table schema → (bookmark : List ℕ) (row values : RecordFields) (may : Bool) → Some row ≡ shown_for engine session table bookmark
    → may ≡ keeps_shown engine session table bookmark row schema.columns values → IsTold engine (λ state. keeps_escrow schema.columns (row_at (rows_in state session table) bookmark) values) may
kept_in_row shows engine session table schema named bookmark row values may shown is = λ state h. is ∙
    (subst (λ (o : Option RecordFields). MatchOption o (row_at (rows_in state session table) bookmark ≡ None) (λ row. SumsTold engine state session table bookmark schema.columns row)) (sym shown)
    (shows engine state h session table schema named bookmark)).1 values

pub kept_at_zero : ShowsSums → (engine : EngineState) (session table : ℕ) (schema : Schema) → IsSchemaOf engine table schema → (bookmark : List ℕ) (values : RecordFields) (may : Bool) → None ≡ shown_for engine session table bookmark
    → may ≡ keeps_escrow schema.columns None values → IsTold engine (λ state. keeps_escrow schema.columns (row_at (rows_in state session table) bookmark) values) may
kept_at_zero shows engine session table schema named bookmark values may shown is = λ state h. is ∙ ap (λ (o : Option RecordFields). keeps_escrow schema.columns o values)
    (sym (subst (λ (o : Option RecordFields). MatchOption o (row_at (rows_in state session table) bookmark ≡ None) (λ row. SumsTold engine state session table bookmark schema.columns row)) (sym shown)
    (shows engine state h session table schema named bookmark)))

-- ---- column by column

pub each_at : {X : Type 0} (P : X → Type 0) (xs : List X) (i : ℕ) (x : X) → AllByRecursion P xs → i < length xs → x ≡ get_or xs i x → P x
each_at P [] i x all low is = absurd (omega (arith, low))
each_at P (first ∷ xs) zero x all low is = subst P (sym is) all.0
each_at P (first ∷ xs) (suc i) x all low is = each_at P xs i x all.1 (omega (arith, low)) is

pub passed_more : {X : Type 0} (p : X → Bool) (xs : List X) (i : ℕ) (x : X) → i < length xs → x ≡ get_or xs i x → list_all p (take i xs) ≡ true → p x ≡ true → list_all p (take (i + 1) xs) ≡ true
passed_more p xs i x low is before here = list_all_more p xs i x low ∙ and_from _ _ before (ap p (sym is) ∙ here)

pub failed_at : {X : Type 0} (p : X → Bool) (xs all : List X) (i : ℕ) (x : X) → xs ≡ all → i < length xs → x ≡ get_or xs i x → p x ≡ false → false ≡ list_all p all
failed_at p xs all i x same low is fails = sym (list_all_at p xs i x low (ap p (sym is) ∙ fails)) ∙ ap (list_all p) same

pub passed_all : {X : Type 0} (p : X → Bool) (xs all : List X) (i : ℕ) → xs ≡ all → length xs ≤ i → list_all p (take i xs) ≡ true → true ≡ list_all p all
passed_all p xs all i same past before = sym before ∙ ap (list_all p) (take_all i xs past ∙ same)

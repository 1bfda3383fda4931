-- A lawful schema step can be made by the tables with versions.
use Rattle.std.proofs.Common.{◌≡◌, ℕ, ◌+◌, ◌<◌, Bool, true, false, not, ◌&&◌, ◌||◌, cond, List, [], ◌∷◌, length, Option, Some, None, suc, refl, sym, ap, subst, ◌∙◌, arith}
use Rattle.std.specs.Prelude.{◌==◌, find, is_none, is_some, nat_le, nat_lt, unwrap_or, IfSome, IsSomeAnd}
use Rattle.std.specs.List.{AllByRecursion, list_any}
use Rattle.std.proofs.lemmas.Bool.Decides.{nat_tests}
use Rattle.std.proofs.lemmas.Bool.{eqb-true, leb-true, not-false}
use Rattle.jet_base.specs.declared.ids.ColumnId.{ColumnId}
use Rattle.jet_base.specs.declared.ids.TableId.{TableId}
use Rattle.column_set.specs.declared.columns.Column.{Column}
use Rattle.index_derive.specs.declared.log.EntryKind.TheVariants as entry
use Rattle.index_derive.specs.declared.rules.IndexRule.{IndexRule}
use Rattle.index_derive.specs.declared.schema_calls.SchemaStep.{SchemaStep}
use Rattle.index_derive.specs.declared.schema_calls.SchemaStep.TheVariants as step
use Rattle.index_derive.specs.Entries.{column_is_used}
use Rattle.database_state.specs.Table.{Table, primary_first, table_with_id}
use Rattle.database_state.specs.State.{DatabaseState}
use Rattle.database_state.specs.SchemaChanges.{greatest_order, has_column, least_free_id, new_table, next_column_id, next_index_id, rule_columns, step_refusals}
use Rattle.database_state.specs.Lawful.{is_name}
use Rattle.database_state.specs.Step.{entry_by}
use Rattle.laws_versions.proofs.ChangeLemmas.Tests.{and_second}
use Rattle.laws_versions.proofs.KeyLemmas.FreeKeys.{in_any_order}
use Rattle.laws_versions.proofs.KeyLemmas.IndexNumbers.{all_primary_first, none_of}
use Rattle.laws_versions.proofs.KeyLemmas.SchemaKeys.{IsNewIndex, at_found, new_index}
use Rattle.common_lemmas.proofs.Found.{found_passes, of_found}
use Rattle.common_lemmas.proofs.Booleans.{and_left, and_right, impossible}
use Rattle.session_local.specs.BuiltTables.{is_unnumbered_column, makes_built}
use Rattle.laws_engine.proofs.EngineLemmas.BuiltColumns.{kept_is_sum}
use Rattle.engine_parts.specs.Parts.{tables_of}
use Rattle.laws_engine.specs.EngineState.{EngineState}
use Rattle.laws_engine.proofs.EngineLemmas.RecordsAndConflicts.{tables_settled}
use Rattle.laws_engine.specs.HeldRecords.{HeldRecord}
use Rattle.stored_variants.specs.SchemaSteps.{CanMake, IsColumnFor, IsIndexFor, TakesColumn}
use Rattle.stored_variants.specs.StoredVersions.{StoredVersions}
use Rattle.stored_variants.specs.VersionsKept.{only_secondary, secondary_rule}
use Rattle.log_grammar.specs.EntryBytes.{column_fits, index_fits, schema_fits}
use Rattle.loggable_steps.specs.Loggable.{schema_fits_types}
use Rattle.loggable_steps.proofs.ChangeBytes.{IsAsked, columns_of}
use Rattle.loggable_steps.proofs.SchemaBytes.{schema_spelled, table_there}
use Rattle.laws_versions.proofs.KeyLemmas.BookmarkKeys.{HasOneEntry}
use Rattle.engine_core.proofs.NewColumns.{column_is_new, next_is_some}
use Rattle.engine_core.specs.Steps.{MayCome}
use Rattle.engine_core.proofs.Settled.{IsLawfulStep, lawful_step, none_open}

-- ---- lists

any_none : {X : Type 0} (p : X → Bool) (xs : List X) → AllByRecursion (λ x. p x ≡ false) xs → list_any p xs ≡ false
any_none p [] h = refl
any_none p (x ∷ xs) h = ap (λ b. b || list_any p xs) h.0 ∙ any_none p xs h.1

none_found : {X : Type 0} (p : X → Bool) (xs : List X) → find p xs ≡ None → AllByRecursion (λ x. p x ≡ false) xs
none_found p [] e = tt
none_found {X = X} p (x ∷ xs) e = elim (p x) as (λ b. cond b (Some x) (find p xs) ≡ None → (b ≡ false) × AllByRecursion (λ x. p x ≡ false) xs) [
  | true ↦ λ f. impossible (ap (λ (o : Option X). is_none o) f)
  | false ↦ λ f. (refl, none_found p xs f)
] e

no_records : {X : Type 0} (xs : List X) → nat_lt 0 (length xs) ≡ false → xs ≡ []
no_records [] h = refl
no_records (x ∷ xs) h = impossible (sym h ∙ some (length xs))
  where
    some : (n : ℕ) → nat_lt 0 (suc n) ≡ true
    some n = grind (arith, nat_tests)

-- ---- the table of a step

some_or : {X : Type 0} (o : Option X) (P : X → Type 0) → is_some o ≡ true → ((x : X) → o ≡ Some x → P x) → IsSomeAnd o P
some_or None P there f = impossible there
some_or (Some x) P there f = f x refl

-- ---- each step

above : (a b : ℕ) → (a == (b + 1)) ≡ true → b < a
above a b e = grind (arith, nat_tests)

-- an escrow column comes to a table without records
takes_column : (o : Option Table) (column : Column) → is_unnumbered_column column ≡ true → ((t : Table) → o ≡ Some t → (column.escrow && nat_lt 0 (length t.rows)) ≡ false) → IfSome o (TakesColumn column)
takes_column None column built empty = tt
takes_column (Some t) column built empty = λ kept. no_records t.rows (and_second column.escrow (nat_lt 0 (length t.rows)) (kept_is_sum column built kept) (empty t refl))

-- no index has the column, in whichever order they are asked
column_unused : (column : ColumnId) (rules : List IndexRule) → column_is_used column (primary_first rules) ≡ false → column_is_used column rules ≡ false
column_unused column rules e =
    let used : IndexRule → Bool = λ rule. list_any (λ id. id == column.0) (rule_columns rule) in
    any_none used rules (in_any_order (λ rule. used rule ≡ false) rules (none_of used (primary_first rules) e))

-- an index that is there and is not the primary one has entries of its own
other_index : (t : Table) (index : ℕ) → not (list_any (λ made. made.id.0 == index) t.indexes) ≡ false → list_any (λ made. (made.id.0 == index) && made.flags.primary) t.indexes ≡ false → is_some (secondary_rule t index) ≡ true
other_index t index there other = by (find (λ r. r.id.0 == index) (primary_first t.indexes)) refl
  where
    denied : (b : Bool) → b ≡ false → not b ≡ false → false ≡ true
    denied b e f = sym f ∙ ap not e

    by : (o : Option IndexRule) → find (λ r. r.id.0 == index) (primary_first t.indexes) ≡ o → is_some (only_secondary o) ≡ true
    by None e = impossible (denied (list_any (λ r. r.id.0 == index) t.indexes) (any_none (λ r. r.id.0 == index) t.indexes (in_any_order (λ r. (r.id.0 == index) ≡ false) t.indexes (none_found (λ r. r.id.0 == index) (primary_first t.indexes) e))) there)
    by (Some r) e =
        let own : (r.id.0 == index) ≡ true = found_passes (λ r. r.id.0 == index) (primary_first t.indexes) r e in
        let plain : r.flags.primary ≡ false = and_second (r.id.0 == index) r.flags.primary own (of_found (λ r. ((r.id.0 == index) && r.flags.primary) ≡ false) (λ r. r.id.0 == index) (primary_first t.indexes) r e (all_primary_first (λ r. ((r.id.0 == index) && r.flags.primary) ≡ false) t.indexes (none_of (λ r. (r.id.0 == index) && r.flags.primary) t.indexes other))) in
        ap (λ (b : Bool). is_some (cond b None (Some r))) plain

-- ---- a column comes

column_for : (state : DatabaseState) → IsAsked state → (session : ℕ) (table : TableId) (column : Column) → IsLawfulStep state session (step.AddColumn table column) → column_fits column ≡ true → (t : Table) → table_with_id state.tables table.0 ≡ Some t → IsColumnFor column t
column_for state asked session table column is fits t found =
    let refused = at_found state session (step.AddColumn table column) t is.free found in
    let are = columns_of asked.base asked.dropped asked.kept state asked.reached table.0 t found in
    record {
      new = column_is_new t column are.range are.given number (not-false _ refused.1.1.1.1.0);
      positive = subst (λ (n : ℕ). 0 < n) (sym number) (next_is_some t.greatest column.kind column.tagged);
      fits = fits;
    }
  where
    numbers : Table → Bool
    numbers t = (column.id.0 == next_column_id t.greatest column.kind column.tagged) && is_name column.name

    number : column.id.0 ≡ next_column_id t.greatest column.kind column.tagged
    number = eqb-true column.id.0 (next_column_id t.greatest column.kind column.tagged) (and_left _ _ (subst (λ (o : Option Table). numbers (unwrap_or o (new_table 0 [])) ≡ true) found is.numbers))

-- ---- an index comes

free_from : (indexes rest : List IndexRule) (id : ℕ) → 0 < id → 0 < least_free_id indexes rest id
free_from indexes [] id h = h
free_from indexes (made ∷ rest) id h = free_from indexes rest (cond (list_any (λ m. m.id.0 == id) indexes) (id + 1) id) (by (list_any (λ m. m.id.0 == id) indexes))
  where
    by : (b : Bool) → 0 < cond b (id + 1) id
    by true = omega arith
    by false = h

abbrev AreUnrefused : DatabaseState → Table → SchemaStep → Type 0
AreUnrefused state t made = AllByRecursion (λ refusal. refusal.0 ≡ false) (step_refusals state t made)

index_for : (state : DatabaseState) (id : TableId) (rule : IndexRule) (t : Table) → AreUnrefused state t (step.CreateIndex id rule) → rule.id.0 ≡ next_index_id t.indexes → nat_le rule.key_most 255 ≡ true → index_fits rule ≡ true → IsIndexFor rule t
index_for state id rule t refused number short fits =
    let new : IsNewIndex t rule = new_index state id rule t refused number in
    record {
      number = any_none (λ made. made.id.0 == rule.id.0) t.indexes new.number;
      positive = subst (λ (n : ℕ). 0 < n) (sym number) (free_from t.indexes t.indexes 1 (omega arith));
      fits = fits;
      primary = λ primary. record {
        first = and_second rule.flags.primary (list_any (λ made. made.flags.primary) t.indexes) primary refused.1.1.0;
        empty = no_records t.rows (new.no_records primary);
      };
      legal = new.legal;
      columns = new.columns;
      short = leb-true rule.key_most 255 short;
      not_null = refused.1.1.1.1.1.1.1.0;
      not_cut = refused.1.1.1.1.1.1.1.1.0;
    }

-- ---- all steps

-- the store of the committed tables, given the number of the newest put
abbrev committed_store : DatabaseState → ℕ → List HeldRecord → StoredVersions
committed_store state newest held = record { greatest_table = state.greatest_table; newest_put = newest; store = record { tables = state.tables; held = held } }

can_make : (state : DatabaseState) → IsAsked state → (session : ℕ) (made : SchemaStep) → IsLawfulStep state session made → makes_built (entry.Schema made) ≡ true → schema_fits made ≡ true → (newest : ℕ) (held : List HeldRecord) → CanMake made (committed_store state newest held)
can_make state asked session (step.CreateTable table name) is built fits newest held =
    (above table.0 state.greatest_table (and_left (table.0 == (state.greatest_table + 1)) (is_name name) is.numbers), and_right (table.0 == (state.greatest_table + 1)) (is_name name) is.numbers)
can_make state asked session (step.DeleteTable table) is built fits newest held = table_there state session (step.DeleteTable table) is.free refl
can_make state asked session (step.AddColumn table column) is built fits newest held = (
  takes_column (table_with_id state.tables table.0) column built (λ t found. (at_found state session (step.AddColumn table column) t is.free found).1.1.1.0),
  some_or (table_with_id state.tables table.0) (IsColumnFor column) (table_there state session (step.AddColumn table column) is.free refl) (column_for state asked session table column is (and_right _ (column_fits column) fits)),
)
can_make state asked session (step.DeleteColumn table column) is built fits newest held = (
  some_or (table_with_id state.tables table.0) (λ t. column_is_used column t.indexes ≡ false) (table_there state session (step.DeleteColumn table column) is.free refl)
      (λ t found. column_unused column t.indexes (at_found state session (step.DeleteColumn table column) t is.free found).1.0),
  some_or (table_with_id state.tables table.0) (λ t. has_column t column.0 ≡ true) (table_there state session (step.DeleteColumn table column) is.free refl)
      (λ t found. not-false (has_column t column.0) (at_found state session (step.DeleteColumn table column) t is.free found).0),
)
can_make state asked session (step.CreateIndex table rule) is built fits newest held =
    some_or (table_with_id state.tables table.0) (IsIndexFor rule) (table_there state session (step.CreateIndex table rule) is.free refl)
    (λ t found. index_for state table rule t (at_found state session (step.CreateIndex table rule) t is.free found) (number t found) built (and_right _ (index_fits rule) fits))
  where
    has_numbers : Table → Bool
    has_numbers t = (rule.id.0 == next_index_id t.indexes) && (rule.order == (greatest_order t.indexes + 1)) && is_name rule.name

    number : (t : Table) → table_with_id state.tables table.0 ≡ Some t → rule.id.0 ≡ next_index_id t.indexes
    number t found = eqb-true rule.id.0 (next_index_id t.indexes) (and_left _ _ (and_left _ _ (subst (λ (o : Option Table). has_numbers (unwrap_or o (new_table 0 [])) ≡ true) found is.numbers)))
can_make state asked session (step.DeleteIndex table index) is built fits newest held =
    some_or (table_with_id state.tables table.0) (λ t. is_some (secondary_rule t index.0) ≡ true) (table_there state session (step.DeleteIndex table index) is.free refl)
    (λ t found. let refused = at_found state session (step.DeleteIndex table index) t is.free found in other_index t index.0 refused.0 refused.1.0)

-- no transaction is open, so that the engine's tables are the committed ones
pub lawful_can_make : HasOneEntry → (engine : EngineState) (session : ℕ) (made : SchemaStep) → MayCome engine (entry_by session (entry.Schema made)) → schema_fits_types made ≡ true → CanMake made (tables_of engine)
lawful_can_make one engine session made may sized =
    let is = lawful_step may.state session made may.lawful in
    let asked : IsAsked may.state = record { one = one; base = may.holds.base; dropped = may.holds.dropped; kept = may.holds.kept; reached = may.holds.reached } in
    let fits : schema_fits made ≡ true = (schema_spelled may.state asked session made is.free is.numbers may.built sized).fits in
    let same : engine.store.tables ≡ may.state.tables = tables_settled engine may.state may.holds (none_open engine may.state may.holds session made is) in
    subst (λ (n : ℕ). CanMake made (record { greatest_table = n; newest_put = engine.newest_put; store = engine.store })) may.holds.greatest
    (subst (λ (tables : List Table). CanMake made (record { greatest_table = may.state.greatest_table; newest_put = engine.newest_put; store = record { tables = tables; held = engine.store.held } })) (sym same)
    (can_make may.state asked session made is may.built fits engine.newest_put engine.store.held))

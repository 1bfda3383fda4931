-- The keys of an index that reads no sum, in the records of sums whose sums are forgotten.
use Rattle.std.proofs.Common.{◌≡◌, ℕ, Bool, true, false, ◌&&◌, ◌||◌, cond, List, [], ◌∷◌, Option, Some, None, refl, sym, ap, ◌∙◌}
use Rattle.std.specs.Prelude.{◌==◌, filter, fold, option_map, unwrap_or}
use Rattle.std.specs.List.{AllByRecursion, list_any}
use Rattle.std.proofs.lemmas.Bool.{eqb-true, not-true}
use Rattle.common_lemmas.proofs.Numbers.{unequal_turned}
use Rattle.column_set.specs.declared.columns.Column.{Column}
use Rattle.column_set.specs.RecordValues.{RecordFields, values_of, with_values}
use Rattle.index_derive.specs.declared.rules.IndexRule.{IndexRule}
use Rattle.index_derive.specs.declared.rules.Schema.{Schema}
use Rattle.database_state.specs.Table.{Table, schema_of, table_with_id}
use Rattle.column_set.specs.ChangedRecords.{changed_table}
use Rattle.database_state.specs.SchemaChanges.{rule_columns}
use Rattle.database_state.specs.State.{DatabaseState, PastChange}
use Rattle.database_state.specs.Conflicts.{concurrent_changes, has_key_conflict, yields_key}
use Rattle.database_state.specs.Equivalence.{columns_of, without_sums}
use Rattle.laws_versions.proofs.ChangeLemmas.Tests.{and_second, or_first, or_second}
use Rattle.laws_versions.proofs.KeyLemmas.SchemaKeys.{other_values}
use Rattle.laws_versions.proofs.KeyLemmas.SameColumns.{SameAt, yields_same}
use Rattle.laws_engine.specs.PlainIndexes.{is_sum_number, reads_no_sum}
use Rattle.laws_engine.proofs.EquivalentLemmas.Essential.{any_mapped, kept_of_standing, summed}
use Rattle.laws_engine.proofs.EquivalentLemmas.Reading.{SamePast, concurrent_alike, with_past}

-- ---- the values of columns that are no sums

values_stay : (columns : List Column) (values : RecordFields) (id : ℕ) → is_sum_number columns id ≡ false → values_of (without_sums columns values) id ≡ values_of values id
values_stay [] values id none = refl
values_stay (c ∷ columns) values id none = by (λ v. values_stay columns v id (or_second (c.escrow && (c.id.0 == id)) (is_sum_number columns id) none)) c.escrow refl
  where
    by : ((v : RecordFields) → values_of (without_sums columns v) id ≡ values_of v id) → (b : Bool) → c.escrow ≡ b → values_of (fold (λ left column. with_values left column.id.0 []) values (cond b (c ∷ filter (λ c. c.escrow) columns) (filter (λ c. c.escrow) columns))) id ≡ values_of values id
    by rest true e =
        rest (with_values values c.id.0 [])
        ∙ ap (λ found. unwrap_or found []) (other_values values c.id.0 id (unequal_turned c.id.0 id (and_second c.escrow (c.id.0 == id) e (or_first (c.escrow && (c.id.0 == id)) (is_sum_number columns id) none))))
    by rest false e = rest values

same_columns : (schema : Schema) (columns : List Column) (values : RecordFields) (ids : List ℕ) → list_any (is_sum_number columns) ids ≡ false → AllByRecursion (SameAt schema schema (without_sums columns values) values) ids
same_columns schema columns values [] none = tt
same_columns schema columns values (id ∷ ids) none = (
  (refl, values_stay columns values id (or_first (is_sum_number columns id) (list_any (is_sum_number columns) ids) none)),
  same_columns schema columns values ids (or_second (is_sum_number columns id) (list_any (is_sum_number columns) ids) none),
)

yields_alike : (table : Table) (rule : IndexRule) → reads_no_sum table rule ≡ true → (key : List ℕ) (values : Option RecordFields)
    → yields_key rule (schema_of table) key (option_map (without_sums table.columns) values) ≡ yields_key rule (schema_of table) key values
yields_alike table rule none key None = refl
yields_alike table rule none key (Some values) =
    yields_same rule (schema_of table) (schema_of table) key (without_sums table.columns values) values
    (same_columns (schema_of table) table.columns values (rule_columns rule) (not-true (list_any (is_sum_number table.columns) (rule_columns rule)) none))

-- ---- key conflicts

pub key_conflict_alike : (state : DatabaseState) (past : List PastChange) → SamePast state past → (session id : ℕ) (table : Table) → table_with_id state.tables id ≡ Some table → (rule : IndexRule) → reads_no_sum table rule ≡ true → (key : List ℕ)
    → has_key_conflict state session id (schema_of table) rule key ≡ has_key_conflict (with_past state past) session id (schema_of table) rule key
unfolding has_key_conflict
key_conflict_alike state past e session id table found rule none key =
    any_mapped (λ (b : Bool). b) holds (concurrent_changes state session)
    ∙ ap (list_any (λ (b : Bool). b)) (concurrent_alike state past e session holds (λ x p. kept_of_standing holds (columns_of (table_with_id state.tables (changed_table x.change))) x p (by x (changed_table x.change == id) refl)))
    ∙ sym (any_mapped (λ (b : Bool). b) holds (concurrent_changes (with_past state past) session))
  where
    holds : PastChange → Bool
    holds item = (changed_table item.change == id) && (yields_key rule (schema_of table) key item.before || yields_key rule (schema_of table) key item.after)

    by : (x : PastChange) (b : Bool) → (changed_table x.change == id) ≡ b → holds (summed (columns_of (table_with_id state.tables (changed_table x.change))) x) ≡ holds x
    by x true at =
        let columns : columns_of (table_with_id state.tables (changed_table x.change)) ≡ table.columns = ap (λ n. columns_of (table_with_id state.tables n)) (eqb-true (changed_table x.change) id at) ∙ ap columns_of found in
        ap (λ cs. holds (summed cs x)) columns
        ∙ (λ i. (changed_table x.change == id) && (yields_alike table rule none key x.before i || yields_alike table rule none key x.after i))
    by x false at =
        let cs = columns_of (table_with_id state.tables (changed_table x.change)) in
        ap (λ b. b && (yields_key rule (schema_of table) key (summed cs x).before || yields_key rule (schema_of table) key (summed cs x).after)) at
        ∙ sym (ap (λ b. b && (yields_key rule (schema_of table) key x.before || yields_key rule (schema_of table) key x.after)) at)

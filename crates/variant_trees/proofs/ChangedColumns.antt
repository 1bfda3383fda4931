-- A table whose columns change, but for those that its indexes read.
use Rattle.std.proofs.Common.{◌≡◌, ℕ, true, List, [], ◌∷◌, Option, Some, None, length, refl, sym, ap, ◌∙◌}
use Rattle.std.specs.Prelude.{MatchOption, is_none, is_some}
use Rattle.std.specs.List.{AllByRecursion, list_all}
use Rattle.std.proofs.lemmas.Bool.{and_from}
use Rattle.column_set.specs.declared.columns.Column.{Column}
use Rattle.column_set.specs.RecordValues.{RecordFields, column_of_id, values_of}
use Rattle.database_state.specs.Lawful.{is_indexable}
use Rattle.database_state.specs.Puts.{is_cut_refusal, is_null_refusal}
use Rattle.column_set.specs.Refusals.{Refusals, first_refusal}
use Rattle.database_state.specs.SchemaChanges.{columns_with, has_column, rule_columns, with_column}
use Rattle.database_state.specs.Table.{GreatestColumns, Rows, Table, primary_first, schema_of}
use Rattle.index_derive.specs.Schemas.{primary_rule}
use Rattle.database_state.proofs.Columns.{column_of_id-columns_with}
use Rattle.index_derive.specs.declared.rules.IndexRule.{IndexRule}
use Rattle.index_derive.specs.declared.rules.Schema.{Schema}
use Rattle.index_derive.specs.Entries.{entries, primary_key}
use Rattle.jet_base.specs.declared.replies.Jet.TheVariants as jet
use Rattle.laws_versions.proofs.HistoryLemmas.Lists.{all_both}
use Rattle.laws_versions.proofs.KeyLemmas.IndexNumbers.{all_primary_first}
use Rattle.laws_versions.proofs.KeyLemmas.SameColumns.{entries_same, legal_same, primary_key_same}
use Rattle.laws_versions.proofs.KeyLemmas.SchemaKeys.{each_column, found_has}
use Rattle.stored_variants.specs.VersionsKept.{IsBookmarkOf, IsStoredRule}
use Rattle.common_lemmas.proofs.Found.{of_found}
use Rattle.common_lemmas.proofs.Lists.{all_weaker}
use Rattle.common_lemmas.proofs.Booleans.{and_left, and_right}
use Rattle.stored_variants.proofs.TakenRecords.{refusals_in}

abbrev pub with_columns : List Column → GreatestColumns → Rows → Table → Table
with_columns columns greatest rows t = record t { columns = columns; greatest = greatest; rows = rows }

-- the columns that an index reads are the same
abbrev pub SameColumns : List Column → Table → IndexRule → Type 0
SameColumns columns t rule = AllByRecursion (λ id. column_of_id columns id ≡ column_of_id t.columns id) (rule_columns rule)

-- and so are the values in them
abbrev pub SameFields : List Column → Table → RecordFields → RecordFields → IndexRule → Type 0
SameFields columns t left right rule =
    AllByRecursion (λ id. (column_of_id columns id ≡ column_of_id t.columns id) × (values_of left id ≡ values_of right id)) (rule_columns rule)

-- ---- rules

has_all : (columns : List Column) (greatest : GreatestColumns) (rows : Rows) (t : Table) (ids : List ℕ) → AllByRecursion (λ id. column_of_id columns id ≡ column_of_id t.columns id) ids → list_all (has_column t) ids ≡ true
    → list_all (has_column (with_columns columns greatest rows t)) ids ≡ true
has_all columns greatest rows t [] same h = refl
has_all columns greatest rows t (id ∷ ids) same h =
    and_from (has_column (with_columns columns greatest rows t) id) (list_all (has_column (with_columns columns greatest rows t)) ids)
    (sym (found_has columns id) ∙ ap is_some same.0 ∙ found_has t.columns id ∙ and_left (has_column t id) _ h)
    (has_all columns greatest rows t ids same.1 (and_right (has_column t id) _ h))

pub rules_then : (columns : List Column) (greatest : GreatestColumns) (rows : Rows) (t : Table) → AllByRecursion (IsStoredRule t) t.indexes → AllByRecursion (SameColumns columns t) t.indexes → AllByRecursion (IsStoredRule (with_columns columns greatest rows t)) t.indexes
rules_then columns greatest rows t rules same = all_both (IsStoredRule t) (SameColumns columns t) (IsStoredRule (with_columns columns greatest rows t)) each t.indexes rules same
  where
    each : (rule : IndexRule) → IsStoredRule t rule → SameColumns columns t rule → IsStoredRule (with_columns columns greatest rows t) rule
    each rule is s = record {
      found = is.found;
      primary = is.primary;
      legal = legal_same rule (schema_of (with_columns columns greatest rows t)) (schema_of t) s ∙ is.legal;
      columns = has_all columns greatest rows t (rule_columns rule) s is.columns;
      short = is.short;
    }

-- ---- records

refusals_same : (one other : Schema) (left right : RecordFields) (rules : List IndexRule) → AllByRecursion (λ rule. entries rule one left ≡ entries rule other right) rules → refusals_in one left rules ≡ refusals_in other right rules
refusals_same one other left right [] h = refl
refusals_same one other left right (rule ∷ rules) h =
    λ i. (is_null_refusal (h.0 i), jet.NullKeyDisallowed) ∷ (is_cut_refusal (h.0 i), jet.KeyTruncated) ∷ refusals_same one other left right rules h.1 i

pub indexable_then : (columns : List Column) (greatest : GreatestColumns) (rows : Rows) (t : Table) (left right : RecordFields) → AllByRecursion (SameFields columns t left right) t.indexes
    → is_indexable (schema_of (with_columns columns greatest rows t)) left ≡ is_indexable (schema_of t) right
indexable_then columns greatest rows t left right same =
    ap (λ (found : Refusals). is_none (first_refusal found))
    (refusals_same (schema_of (with_columns columns greatest rows t)) (schema_of t) left right (primary_first t.indexes)
    (all_weaker (SameFields columns t left right) (λ rule. entries rule (schema_of (with_columns columns greatest rows t)) left ≡ entries rule (schema_of t) right)
    (λ rule s. entries_same rule (schema_of (with_columns columns greatest rows t)) (schema_of t) left right s) (primary_first t.indexes)
    (all_primary_first (SameFields columns t left right) t.indexes same)))

pub own_then : (columns : List Column) (greatest : GreatestColumns) (rows : Rows) (t : Table) (left right : RecordFields) → AllByRecursion (SameFields columns t left right) t.indexes → (bookmark : List ℕ)
    → IsBookmarkOf t right bookmark → IsBookmarkOf (with_columns columns greatest rows t) left bookmark
own_then columns greatest rows t left right same bookmark own = by (primary_rule (schema_of t)) refl own
  where
    by : (o : Option IndexRule) → primary_rule (schema_of t) ≡ o → MatchOption o (length bookmark ≡ 8) (λ rule. bookmark ≡ primary_key rule (schema_of t) right)
        → MatchOption o (length bookmark ≡ 8) (λ rule. bookmark ≡ primary_key rule (schema_of (with_columns columns greatest rows t)) left)
    by None e h = h
    by (Some rule) e h =
        h ∙ sym (primary_key_same rule (schema_of (with_columns columns greatest rows t)) (schema_of t) left right
        (of_found (SameFields columns t left right) (λ r. r.flags.primary) (primary_first t.indexes) rule e (all_primary_first (SameFields columns t left right) t.indexes same)))

-- ---- a new column

pub added_columns : (column : Column) (t : Table) → AllByRecursion (IsStoredRule t) t.indexes → AllByRecursion (SameColumns (columns_with column t.columns) t) t.indexes
added_columns column t rules = all_weaker (IsStoredRule t) (SameColumns (columns_with column t.columns) t) each t.indexes rules
  where
    each : (rule : IndexRule) → IsStoredRule t rule → SameColumns (columns_with column t.columns) t rule
    each rule is =
        all_weaker (λ id. (column_of_id (columns_with column t.columns) id ≡ column_of_id t.columns id) × (has_column t id ≡ true → has_column (with_column column t) id ≡ true))
        (λ id. column_of_id (columns_with column t.columns) id ≡ column_of_id t.columns id) (λ id c. c.0) (rule_columns rule)
        (each_column t (with_column column t) (rule_columns rule) is.columns (λ id has. column_of_id-columns_with column id t.columns (found_has t.columns id ∙ has)))

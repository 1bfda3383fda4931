-- Schema steps keep the indexes of all tables sound, and those that are unique so.
use Rattle.std.proofs.Common.{◌≡◌, ℕ, ◌+◌, Bool, true, false, not, ◌&&◌, ◌||◌, cond, List, [], ◌∷◌, ◌++◌, Option, Some, None, refl, sym, ap, subst, ◌∙◌, bytes_eq, suc, arith}
use Rattle.std.specs.Prelude.{◌==◌, filter, flat_map, is_none, is_some, length, map, nat_lt, option_map, unwrap_or, IfSome}
use Rattle.std.specs.List.{AllByRecursion, list_all, list_any}
use Rattle.std.specs.Cmp.{unsigned_Decides, unsigned_ties}
use Rattle.std.specs.Ordering.{nat_cmp, eq_by_cmp}
use Rattle.std.specs.Cmp.Lexicographic.{slice_cmp}
use Rattle.std.proofs.lemmas.Bool.Decides.{nat_tests}
use Rattle.std.proofs.lemmas.List.Folds.{list_any-append}
use Rattle.std.proofs.lemmas.Bool.{eqb-true}
use Rattle.common_lemmas.proofs.Booleans.{and_left, and_right, impossible}
use Rattle.common_lemmas.proofs.Lists.{all_append, all_each, all_weaker}
use Rattle.common_lemmas.proofs.Numbers.{equal_bytes, same_bytes, self_equal}
use Rattle.jet_base.specs.declared.ids.ColumnId.{ColumnId}
use Rattle.jet_base.specs.declared.ids.TableId.{TableId}
use Rattle.jet_base.specs.declared.replies.Jet.TheVariants as jet
use Rattle.column_set.specs.declared.columns.Column.{Column}
use Rattle.column_set.specs.RecordValues.{RecordFields, column_of_id, lookup_by_number, remove_by_number, with_values, tagged_if_long}
use Rattle.index_derive.specs.declared.rules.IndexRule.{IndexRule}
use Rattle.index_derive.specs.declared.rules.Schema.{Schema}
use Rattle.index_derive.specs.declared.schema_calls.SchemaStep.{SchemaStep}
use Rattle.index_derive.specs.declared.schema_calls.SchemaStep.TheVariants as step
use Rattle.index_derive.specs.Entries.{condition_columns, has_double, has_double_key, is_legal, is_unique, key_columns, key_list}
use Rattle.column_set.specs.Refusals.{Refusals, first_refusal}
use Rattle.database_state.specs.Table.{Rows, Table, primary_first, row_at, schema_of, table_with_id, with_table}
use Rattle.index_derive.specs.Schemas.{primary_rule, rule_with_id}
use Rattle.database_state.specs.SchemaChanges.{greatest_order, has_column, is_in_use, makes_table, new_table, next_index_id, rule_columns, schema_refusal, step_refusals, step_table, tables_after_step, with_column, with_index, without_column, without_index}
use Rattle.database_state.specs.State.{DatabaseState, levels}
use Rattle.database_state.specs.Conflicts.{yields_key}
use Rattle.database_state.specs.Lawful.{has_next_numbers, is_name}
use Rattle.database_state.proofs.Columns.{column_of_id-columns_with}
use Rattle.laws_versions.proofs.IndexLemmas.Standing.{same_test}
use Rattle.laws_versions.proofs.ChangeLemmas.Tests.{and_second, contradicted, or_second}
use Rattle.laws_versions.proofs.HistoryLemmas.Lists.{all_both}
use Rattle.laws_versions.specs.UniqueKeys.{HasOwnKey, IsSoundIndex}
use Rattle.laws_versions.proofs.KeyLemmas.FreeKeys.{in_any_order}
use Rattle.laws_versions.proofs.KeyLemmas.IndexNumbers.{found_alone, found_in_filter, found_with, found_without, next_is_free, none_of}
use Rattle.laws_versions.proofs.KeyLemmas.SameColumns.{SameAt, legal_same, yields_same}

-- ---- what holds of a table

-- no two records share a key
abbrev pub AreUniqueRows : IndexRule → Schema → Rows → Type 0
AreUniqueRows rule schema rows = (one other key : List ℕ) → bytes_eq one other ≡ false → yields_key rule schema key (row_at rows one) ≡ true → yields_key rule schema key (row_at rows other) ≡ true → ⊥

-- an index of a table
abbrev pub IsTableIndex : Table → IndexRule → Type 0
IsTableIndex table rule =
    IsSoundIndex table rule × (is_unique rule ≡ true → AreUniqueRows rule (schema_of table) table.rows × (rule.flags.primary ≡ true → (bookmark : List ℕ) → HasOwnKey rule (schema_of table) bookmark (row_at table.rows bookmark)))

abbrev pub AreTableIndexes : Table → Type 0
AreTableIndexes table = AllByRecursion (IsTableIndex table) table.indexes

-- an index that a step leaves, where its columns and its keys stay
kept_index : (one other : Table) (rule : IndexRule) → rule_with_id (schema_of other) rule.id.0 ≡ Some rule → (rule.flags.primary ≡ true → primary_rule (schema_of other) ≡ Some rule)
    → AllByRecursion (λ id. (column_of_id other.columns id ≡ column_of_id one.columns id) × (has_column one id ≡ true → has_column other id ≡ true)) (rule_columns rule)
    → ((key bookmark : List ℕ) → yields_key rule (schema_of other) key (row_at other.rows bookmark) ≡ yields_key rule (schema_of one) key (row_at one.rows bookmark))
    → IsTableIndex one rule → IsTableIndex other rule
kept_index one other rule found primary columns keys h = (
  (
    found,
    has (rule_columns rule) columns h.0.1,
    λ is. (primary is, legal_same rule (schema_of other) (schema_of one) (all_weaker (λ id. (column_of_id other.columns id ≡ column_of_id one.columns id) × (has_column one id ≡ true → has_column other id ≡ true)) (λ id. column_of_id other.columns id ≡ column_of_id one.columns id) (λ id c. c.0) (rule_columns rule) columns) ∙ (h.0.2 is).1),
  ),
  λ is. let unique = h.1 is in (
    (λ a b key apart had also. unique.0 a b key apart (sym (keys key a) ∙ had) (sym (keys key b) ∙ also)),
    λ is_primary bookmark key had. unique.1 is_primary bookmark key (sym (keys key bookmark) ∙ had),
  ),
)
  where
    has : (ids : List ℕ) → AllByRecursion (λ id. (column_of_id other.columns id ≡ column_of_id one.columns id) × (has_column one id ≡ true → has_column other id ≡ true)) ids → list_all (has_column one) ids ≡ true → list_all (has_column other) ids ≡ true
    has [] c h = refl
    has (id ∷ ids) c h = both (has_column other id) (list_all (has_column other) ids) (c.0.1 (and_left (has_column one id) _ h)) (has ids c.1 (and_right (has_column one id) _ h))
      where
        both : (a b : Bool) → a ≡ true → b ≡ true → (a && b) ≡ true
        both true b e f = f
        both false b e f = e

-- ---- columns

pub found_has : (columns : List Column) (id : ℕ) → is_some (column_of_id columns id) ≡ list_any (λ c. c.id.0 == id) columns
found_has [] id = refl
found_has (c ∷ columns) id = elim (c.id.0 == id) as (λ b. is_some (cond b (Some c) (column_of_id columns id)) ≡ (b || list_any (λ c. c.id.0 == id) columns)) [ true ↦ refl | false ↦ found_has columns id ]

-- the same column is there as well
same_has : (one other : Table) (id : ℕ) → column_of_id other.columns id ≡ column_of_id one.columns id → has_column one id ≡ true → has_column other id ≡ true
same_has one other id e h = sym (found_has other.columns id) ∙ ap is_some e ∙ found_has one.columns id ∙ h

pub each_column : (one other : Table) (ids : List ℕ) → list_all (has_column one) ids ≡ true → ((id : ℕ) → has_column one id ≡ true → column_of_id other.columns id ≡ column_of_id one.columns id)
    → AllByRecursion (λ id. (column_of_id other.columns id ≡ column_of_id one.columns id) × (has_column one id ≡ true → has_column other id ≡ true)) ids
each_column one other [] h f = tt
each_column one other (id ∷ ids) h f =
    let e = f id (and_left (has_column one id) _ h) in
    ((e, same_has one other id e), each_column one other ids (and_right (has_column one id) _ h) f)

-- keys of the same records
same_rows : (one other : Schema) (rule : IndexRule) (rows : Rows) → AllByRecursion (λ id. column_of_id one.columns id ≡ column_of_id other.columns id) (rule_columns rule) → (key bookmark : List ℕ)
    → yields_key rule one key (row_at rows bookmark) ≡ yields_key rule other key (row_at rows bookmark)
same_rows one other rule rows same key bookmark = by (row_at rows bookmark)
  where
    by : (found : Option RecordFields) → yields_key rule one key found ≡ yields_key rule other key found
    by None = refl
    by (Some values) = yields_same rule one other key values values (all_weaker (λ id. column_of_id one.columns id ≡ column_of_id other.columns id) (SameAt one other values values) (λ id e. (e, refl)) (rule_columns rule) same)

-- ---- a column comes

added_column : (column : Column) (table : Table) → AreTableIndexes table → AreTableIndexes (with_column column table)
added_column column table h = all_weaker (IsTableIndex table) (IsTableIndex (with_column column table))
    (λ rule is. let columns = each_column table (with_column column table) (rule_columns rule) is.0.1 (λ id has. column_of_id-columns_with column id table.columns (found_has table.columns id ∙ has)) in
    kept_index table (with_column column table) rule is.0.0 (λ primary. (is.0.2 primary).0) columns
    (same_rows (schema_of (with_column column table)) (schema_of table) rule table.rows
    (all_weaker (λ id. (column_of_id (with_column column table).columns id ≡ column_of_id table.columns id) × (has_column table id ≡ true → has_column (with_column column table) id ≡ true)) (λ id. column_of_id (with_column column table).columns id ≡ column_of_id table.columns id) (λ id c. c.0) (rule_columns rule) columns)) is)
    table.indexes h

-- ---- a column goes

pub other_values : (fields : RecordFields) (column id : ℕ) → (id == column) ≡ false → lookup_by_number id (remove_by_number column fields) ≡ lookup_by_number id fields
other_values [] column id apart = refl
other_values (field ∷ fields) column id apart =
    elim (field.0 == column) as (λ b. (field.0 == column) ≡ b → lookup_by_number id (cond (not b) (field ∷ remove_by_number column fields) (remove_by_number column fields)) ≡ cond (eq_by_cmp nat_cmp id field.0) (Some field.1) (lookup_by_number id fields)) [
      | true ↦ λ e. other_values fields column id apart
          ∙ sym (ap (λ b. cond b (Some field.1) (lookup_by_number id fields)) (contradicted (eq_by_cmp nat_cmp id field.0)
          (λ f. sym (ap (λ k. k == column) ((unsigned_Decides id field.0).0 (unsigned_ties id field.0 ∙ f)) ∙ e) ∙ apart)))
      | false ↦ λ e. ap (λ rest. cond (eq_by_cmp nat_cmp id field.0) (Some field.1) rest) (other_values fields column id apart)
    ] refl

pub mapped_row : (f : RecordFields → RecordFields) (rows : Rows) (bookmark : List ℕ) → row_at (map (λ row. (row.0, f row.1)) rows) bookmark ≡ option_map f (row_at rows bookmark)
mapped_row f [] bookmark = refl
mapped_row f (row ∷ rows) bookmark =
    elim (eq_by_cmp (slice_cmp nat_cmp) bookmark row.0) as (λ b. cond b (Some (f row.1)) (row_at (map (λ row. (row.0, f row.1)) rows) bookmark) ≡ option_map f (cond b (Some row.1) (row_at rows bookmark))) [
      | true ↦ refl
      | false ↦ mapped_row f rows bookmark
    ]

pub other_column : (column : ℕ) (table : Table) (id : ℕ) → (id == column) ≡ false → column_of_id (without_column column table).columns id ≡ column_of_id table.columns id
other_column column table id e = found_in_filter (λ c. c.id.0 == id) (λ c. not (c.id.0 == column)) table.columns
    (all_each (λ c. (c.id.0 == id) ≡ true → not (c.id.0 == column) ≡ true) (λ c f. ap (λ k. not (k == column)) (eqb-true c.id.0 id f) ∙ ap not e) table.columns)

removed_column : (column : ℕ) (table : Table) → AllByRecursion (λ rule. AllByRecursion (λ id. (id == column) ≡ false) (rule_columns rule)) table.indexes → AreTableIndexes table → AreTableIndexes (without_column column table)
removed_column column table unused h = all_both (IsTableIndex table) (λ rule. AllByRecursion (λ id. (id == column) ≡ false) (rule_columns rule)) (IsTableIndex (without_column column table))
    (λ rule is apart. kept_index table (without_column column table) rule is.0.0 (λ primary. (is.0.2 primary).0)
    (all_weaker (λ id. (id == column) ≡ false) (λ id. (column_of_id (without_column column table).columns id ≡ column_of_id table.columns id) × (has_column table id ≡ true → has_column (without_column column table) id ≡ true))
    (λ id e. (other_column column table id e, same_has table (without_column column table) id (other_column column table id e))) (rule_columns rule) apart)
    (λ key bookmark. ap (yields_key rule (schema_of (without_column column table)) key) (mapped_row (λ values. with_values values column []) table.rows bookmark) ∙ by rule apart key (row_at table.rows bookmark)) is)
    table.indexes h unused
  where
    by : (rule : IndexRule) → AllByRecursion (λ id. (id == column) ≡ false) (rule_columns rule) → (key : List ℕ) (found : Option RecordFields)
        → yields_key rule (schema_of (without_column column table)) key (option_map (λ values. with_values values column []) found) ≡ yields_key rule (schema_of table) key found
    by rule apart key None = refl
    by rule apart key (Some values) = yields_same rule (schema_of (without_column column table)) (schema_of table) key (remove_by_number column values) values
        (all_weaker (λ id. (id == column) ≡ false) (SameAt (schema_of (without_column column table)) (schema_of table) (remove_by_number column values) values)
        (λ id e. (other_column column table id e, ap (λ (v : Option (List (List ℕ))). unwrap_or v []) (other_values values column id e))) (rule_columns rule) apart)

-- ---- an index comes

-- where no key stands twice no two records share one
own_and_rest : (key : List ℕ) (keys rest : List (List ℕ)) → list_any (bytes_eq key) keys ≡ true → list_any (bytes_eq key) rest ≡ true → has_double (keys ++ rest) ≡ true
own_and_rest key [] rest h g = impossible h
own_and_rest key (k ∷ keys) rest h g =
    elim (bytes_eq key k) as (λ b. bytes_eq key k ≡ b → (b || list_any (bytes_eq key) keys) ≡ true → (list_any (bytes_eq k) (keys ++ rest) || has_double (keys ++ rest)) ≡ true) [
      | true ↦ λ e f. left (list_any (bytes_eq k) (keys ++ rest)) _ (list_any-append (bytes_eq k) keys rest ∙ right (list_any (bytes_eq k) keys) _ (ap (λ (x : List ℕ). list_any (bytes_eq x) rest) (sym (same_bytes key k e)) ∙ g))
      | false ↦ λ e f. right (list_any (bytes_eq k) (keys ++ rest)) _ (own_and_rest key keys rest f g)
    ] refl h
  where
    left : (a b : Bool) → a ≡ true → (a || b) ≡ true
    left true b e = refl
    left false b e = impossible e

    right : (a b : Bool) → b ≡ true → (a || b) ≡ true
    right true b e = refl
    right false b e = e

double_rest : (keys rest : List (List ℕ)) → has_double (keys ++ rest) ≡ false → has_double rest ≡ false
double_rest [] rest h = h
double_rest (k ∷ keys) rest h = double_rest keys rest (or_second (list_any (bytes_eq k) (keys ++ rest)) _ h)

among_rows : (rule : IndexRule) (schema : Schema) (key bookmark : List ℕ) (rows : Rows) → yields_key rule schema key (row_at rows bookmark) ≡ true → list_any (bytes_eq key) (flat_map (λ place. key_list rule schema place.1) rows) ≡ true
among_rows rule schema key bookmark [] h = h
among_rows rule schema key bookmark (row ∷ rows) h =
    list_any-append (bytes_eq key) (key_list rule schema row.1) (flat_map (λ place. key_list rule schema place.1) rows)
    ∙ elim (eq_by_cmp (slice_cmp nat_cmp) bookmark row.0) as (λ b. yields_key rule schema key (cond b (Some row.1) (row_at rows bookmark)) ≡ true → (list_any (bytes_eq key) (key_list rule schema row.1) || list_any (bytes_eq key) (flat_map (λ place. key_list rule schema place.1) rows)) ≡ true) [
      | true ↦ λ g. left (list_any (bytes_eq key) (key_list rule schema row.1)) _ g
      | false ↦ λ g. right (list_any (bytes_eq key) (key_list rule schema row.1)) _ (among_rows rule schema key bookmark rows g)
    ] h
  where
    left : (a b : Bool) → a ≡ true → (a || b) ≡ true
    left true b e = refl
    left false b e = impossible e

    right : (a b : Bool) → b ≡ true → (a || b) ≡ true
    right true b e = refl
    right false b e = e

undoubled : (rule : IndexRule) (schema : Schema) (rows : Rows) → has_double (flat_map (λ place. key_list rule schema place.1) rows) ≡ false → AreUniqueRows rule schema rows
undoubled rule schema [] none one other key apart had also = impossible had
undoubled rule schema (row ∷ rows) none one other key apart had also =
    elim (eq_by_cmp (slice_cmp nat_cmp) one row.0) as (λ b. eq_by_cmp (slice_cmp nat_cmp) one row.0 ≡ b → yields_key rule schema key (cond b (Some row.1) (row_at rows one)) ≡ true → ⊥) [
      | true ↦ λ e g. elim (eq_by_cmp (slice_cmp nat_cmp) other row.0) as (λ b. eq_by_cmp (slice_cmp nat_cmp) other row.0 ≡ b → yields_key rule schema key (cond b (Some row.1) (row_at rows other)) ≡ true → ⊥) [
        | true ↦ λ f k. impossible (sym apart ∙ equal_bytes one other (sym (same_bytes row.0 one (same_test one row.0 ∙ e)) ∙ same_bytes row.0 other (same_test other row.0 ∙ f)))
        | false ↦ λ f k. impossible (sym none ∙ own_and_rest key (key_list rule schema row.1) (flat_map (λ place. key_list rule schema place.1) rows) g (among_rows rule schema key other rows k))
      ] refl also
      | false ↦ λ e g. elim (eq_by_cmp (slice_cmp nat_cmp) other row.0) as (λ b. yields_key rule schema key (cond b (Some row.1) (row_at rows other)) ≡ true → ⊥) [
        | true ↦ λ k. impossible (sym none ∙ own_and_rest key (key_list rule schema row.1) (flat_map (λ place. key_list rule schema place.1) rows) k (among_rows rule schema key one rows g))
        | false ↦ λ k. undoubled rule schema rows (double_rest (key_list rule schema row.1) (flat_map (λ place. key_list rule schema place.1) rows) none) one other key apart g k
      ] also
    ] refl had

pub unique_rows : (rule : IndexRule) (schema : Schema) (rows : Rows) → has_double_key rule schema rows ≡ false → AreUniqueRows rule schema rows
unfolding has_double_key
unique_rows rule schema rows none = undoubled rule schema rows none

pub no_rows : (rows : Rows) → nat_lt 0 (length rows) ≡ false → (bookmark : List ℕ) → row_at rows bookmark ≡ None
no_rows [] h bookmark = refl
no_rows (row ∷ rows) h bookmark = impossible (sym h ∙ some (length rows))
  where
    some : (n : ℕ) → nat_lt 0 (suc n) ≡ true
    some n = grind (arith, nat_tests)

-- what a new index is refused for, and its number
pub record IsNewIndex (table : Table) (made : IndexRule) : Type 0 where
  pub number : AllByRecursion (λ rule. (rule.id.0 == made.id.0) ≡ false) table.indexes
  pub primary : AllByRecursion (λ rule. made.flags.primary ≡ true → rule.flags.primary ≡ false) table.indexes
  pub no_records : made.flags.primary ≡ true → nat_lt 0 (length table.rows) ≡ false
  pub columns : list_all (has_column table) (rule_columns made) ≡ true
  pub legal : is_legal made (schema_of table) ≡ true
  pub unique : is_unique made ≡ true → has_double_key made (schema_of table) table.rows ≡ false

made_index : (made : IndexRule) (table : Table) → IsNewIndex table made → AreTableIndexes table → AreTableIndexes (with_index made table)
made_index made table new h =
    all_append (IsTableIndex (with_index made table)) table.indexes (made ∷ [])
    (all_both (IsTableIndex table) (λ rule. ((rule.id.0 == made.id.0) ≡ false) × (made.flags.primary ≡ true → rule.flags.primary ≡ false)) (IsTableIndex (with_index made table))
    (λ rule is apart. old rule apart.0 (λ primary. contradicted made.flags.primary (λ e. sym primary ∙ apart.1 e)) is) table.indexes h
    (all_both (λ rule. (rule.id.0 == made.id.0) ≡ false) (λ rule. made.flags.primary ≡ true → rule.flags.primary ≡ false) (λ rule. ((rule.id.0 == made.id.0) ≡ false) × (made.flags.primary ≡ true → rule.flags.primary ≡ false))
    (λ rule a b. (a, b)) table.indexes new.number new.primary))
    (is_new, tt)
  where
    same_schema : (rule : IndexRule) → AllByRecursion (λ id. column_of_id table.columns id ≡ column_of_id table.columns id) (rule_columns rule)
    same_schema rule = all_each (λ id. column_of_id table.columns id ≡ column_of_id table.columns id) (λ id. refl) (rule_columns rule)

    old : (rule : IndexRule) → (rule.id.0 == made.id.0) ≡ false → (rule.flags.primary ≡ true → made.flags.primary ≡ false) → IsTableIndex table rule → IsTableIndex (with_index made table) rule
    old rule apart other is = kept_index table (with_index made table) rule
        (found_with (λ r. r.id.0 == rule.id.0) table.indexes made (turned rule.id.0 made.id.0 apart) ∙ is.0.0)
        (λ primary. found_with (λ r. r.flags.primary) table.indexes made (other primary) ∙ (is.0.2 primary).0)
        (all_each (λ id. (column_of_id table.columns id ≡ column_of_id table.columns id) × (has_column table id ≡ true → has_column table id ≡ true)) (λ id. (refl, λ e. e)) (rule_columns rule))
        (same_rows (schema_of (with_index made table)) (schema_of table) rule table.rows (same_schema rule)) is
      where
        turned : (a b : ℕ) → (a == b) ≡ false → (b == a) ≡ false
        turned a b e = grind (arith, nat_tests)

    same : (key bookmark : List ℕ) → yields_key made (schema_of (with_index made table)) key (row_at table.rows bookmark) ≡ yields_key made (schema_of table) key (row_at table.rows bookmark)
    same = same_rows (schema_of (with_index made table)) (schema_of table) made table.rows (same_schema made)

    is_new : IsTableIndex (with_index made table) made
    is_new = (
      (
        found_alone (λ r. r.id.0 == made.id.0) table.indexes made new.number (self_equal made.id.0),
        new.columns,
        λ primary. (
          found_alone (λ r. r.flags.primary) table.indexes made (all_weaker (λ rule. made.flags.primary ≡ true → rule.flags.primary ≡ false) (λ rule. rule.flags.primary ≡ false) (λ rule f. f primary) table.indexes new.primary) primary,
          legal_same made (schema_of (with_index made table)) (schema_of table) (same_schema made) ∙ new.legal,
        ),
      ),
      λ is. (
        (λ one other key apart had also. unique_rows made (schema_of table) table.rows (new.unique is) one other key apart (sym (same key one) ∙ had) (sym (same key other) ∙ also)),
        λ primary bookmark key had. impossible (sym (ap (yields_key made (schema_of (with_index made table)) key) (no_rows table.rows (new.no_records primary) bookmark)) ∙ had),
      ),
    )

-- ---- an index goes

filtered : {X : Type 0} (P R : X → Type 0) (q : X → Bool) → ((x : X) → q x ≡ true → P x → R x) → (xs : List X) → AllByRecursion P xs → AllByRecursion R (filter q xs)
filtered P R q f [] h = tt
filtered P R q f (x ∷ xs) h = elim (q x) as (λ b. q x ≡ b → AllByRecursion R (cond b (x ∷ filter q xs) (filter q xs))) [
  | true ↦ λ e. (f x e h.0, filtered P R q f xs h.1)
  | false ↦ λ e. filtered P R q f xs h.1
] refl

removed_index : (index : ℕ) (table : Table) → AllByRecursion (λ rule. ((rule.id.0 == index) && rule.flags.primary) ≡ false) table.indexes → AreTableIndexes table → AreTableIndexes (without_index index table)
removed_index index table stays h = filtered (IsTableIndex table) (IsTableIndex (without_index index table)) (λ r. not (r.id.0 == index))
    (λ rule left is. kept_index table (without_index index table) rule
    (found_without (λ r. r.id.0 == rule.id.0) (λ r. not (r.id.0 == index)) table.indexes
    (all_each (λ r. (r.id.0 == rule.id.0) ≡ true → not (r.id.0 == index) ≡ true) (λ r e. ap (λ k. not (k == index)) (eqb-true r.id.0 rule.id.0 e) ∙ left) table.indexes) ∙ is.0.0)
    (λ primary. found_without (λ r. r.flags.primary) (λ r. not (r.id.0 == index)) table.indexes
    (all_weaker (λ r. ((r.id.0 == index) && r.flags.primary) ≡ false) (λ r. r.flags.primary ≡ true → not (r.id.0 == index) ≡ true) (λ r none e. ap not (first (r.id.0 == index) r.flags.primary e none)) table.indexes stays) ∙ (is.0.2 primary).0)
    (all_each (λ id. (column_of_id table.columns id ≡ column_of_id table.columns id) × (has_column table id ≡ true → has_column table id ≡ true)) (λ id. (refl, λ e. e)) (rule_columns rule))
    (same_rows (schema_of (without_index index table)) (schema_of table) rule table.rows (all_each (λ id. column_of_id table.columns id ≡ column_of_id table.columns id) (λ id. refl) (rule_columns rule))) is)
    table.indexes h
  where
    first : (a b : Bool) → b ≡ true → (a && b) ≡ false → a ≡ false
    first true b e f = impossible (sym f ∙ e)
    first false b e f = refl

-- ---- tables by their ids

pub other_table : (d : ℕ) (change : Table → Table) → ((t : Table) → (change t).id ≡ t.id) → (tables : List Table) (id : ℕ) → (id == d) ≡ false → table_with_id (with_table d change tables) id ≡ table_with_id tables id
other_table d change keeps [] id apart = refl
other_table d change keeps (t ∷ tables) id apart =
    elim (t.id == d) as (λ b. (t.id == d) ≡ b → cond ((cond b (change t) t).id == id) (Some (cond b (change t) t)) (table_with_id (with_table d change tables) id) ≡ cond (t.id == id) (Some t) (table_with_id tables id)) [
      | true ↦ λ e.
          let miss : (t.id == id) ≡ false = other t.id d id e apart in
          ap (λ k. cond (k == id) (Some (change t)) (table_with_id (with_table d change tables) id)) (keeps t)
          ∙ ap (λ b. cond b (Some (change t)) (table_with_id (with_table d change tables) id)) miss
          ∙ other_table d change keeps tables id apart ∙ sym (ap (λ b. cond b (Some t) (table_with_id tables id)) miss)
      | false ↦ λ e. ap (λ rest. cond (t.id == id) (Some t) rest) (other_table d change keeps tables id apart)
    ] refl
  where
    other : (a d id : ℕ) → (a == d) ≡ true → (id == d) ≡ false → (a == id) ≡ false
    other a d id e f = grind (arith, nat_tests)

pub this_table : (d : ℕ) (change : Table → Table) → ((t : Table) → (change t).id ≡ t.id) → (tables : List Table) → table_with_id (with_table d change tables) d ≡ option_map change (table_with_id tables d)
this_table d change keeps [] = refl
this_table d change keeps (t ∷ tables) =
    elim (t.id == d) as (λ b. (t.id == d) ≡ b → cond ((cond b (change t) t).id == d) (Some (cond b (change t) t)) (table_with_id (with_table d change tables) d) ≡ option_map change (cond b (Some t) (table_with_id tables d))) [
      | true ↦ λ e. ap (λ k. cond (k == d) (Some (change t)) (table_with_id (with_table d change tables) d)) (keeps t) ∙ ap (λ b. cond b (Some (change t)) (table_with_id (with_table d change tables) d)) e
      | false ↦ λ e. ap (λ b. cond b (Some t) (table_with_id (with_table d change tables) d)) e ∙ this_table d change keeps tables
    ] refl

pub at_table : (P : Table → Type 0) (d : ℕ) (change : Table → Table) → ((t : Table) → (change t).id ≡ t.id) → (tables : List Table) → ((t : Table) → table_with_id tables d ≡ Some t → P t → P (change t))
    → ((id : ℕ) → IfSome (table_with_id tables id) P) → (id : ℕ) → IfSome (table_with_id (with_table d change tables) id) P
at_table P d change keeps tables f h id =
    elim (id == d) as (λ b. (id == d) ≡ b → IfSome (table_with_id (with_table d change tables) id) P) [
      | true ↦ λ e. subst (λ (k : ℕ). IfSome (table_with_id (with_table d change tables) k) P) (sym (eqb-true id d e))
          (subst (λ (found : Option Table). IfSome found P) (sym (this_table d change keeps tables)) (by (table_with_id tables d) refl (h d)))
      | false ↦ λ e. subst (λ (found : Option Table). IfSome found P) (sym (other_table d change keeps tables id e)) (h id)
    ] refl
  where
    by : (found : Option Table) → table_with_id tables d ≡ found → IfSome found P → IfSome (option_map change found) P
    by None e p = tt
    by (Some t) e p = f t e p

pub with_last : (P : Table → Type 0) (new : Table) → P new → (tables : List Table) (id : ℕ) → IfSome (table_with_id tables id) P → IfSome (table_with_id (tables ++ new ∷ []) id) P
with_last P new p [] id h = elim (new.id == id) as (λ b. IfSome (cond b (Some new) None) P) [ true ↦ p | false ↦ tt ]
with_last P new p (t ∷ tables) id h = elim (t.id == id) as (λ b. IfSome (cond b (Some t) (table_with_id tables id)) P → IfSome (cond b (Some t) (table_with_id (tables ++ new ∷ []) id)) P) [
  | true ↦ λ g. g
  | false ↦ λ g. with_last P new p tables id g
] h

pub without_table : (P : Table → Type 0) (d : ℕ) (tables : List Table) (id : ℕ) → IfSome (table_with_id tables id) P → IfSome (table_with_id (filter (λ t. not (t.id == d)) tables) id) P
without_table P d tables id h =
    elim (id == d) as (λ b. (id == d) ≡ b → IfSome (table_with_id (filter (λ t. not (t.id == d)) tables) id) P) [
      | true ↦ λ e. subst (λ (found : Option Table). IfSome found P) (sym (gone tables e)) tt
      | false ↦ λ e. subst (λ (found : Option Table). IfSome found P)
          (sym (found_in_filter (λ t. t.id == id) (λ t. not (t.id == d)) tables (all_each (λ t. (t.id == id) ≡ true → not (t.id == d) ≡ true) (λ t f. ap (λ k. not (k == d)) (eqb-true t.id id f) ∙ ap not e) tables))) h
    ] refl
  where
    gone : (ts : List Table) → (id == d) ≡ true → table_with_id (filter (λ t. not (t.id == d)) ts) id ≡ None
    gone [] e = refl
    gone (t ∷ ts) e = elim (t.id == d) as (λ b. (t.id == d) ≡ b → table_with_id (cond (not b) (t ∷ filter (λ t. not (t.id == d)) ts) (filter (λ t. not (t.id == d)) ts)) id ≡ None) [
      | true ↦ λ f. gone ts e
      | false ↦ λ f. ap (λ b. cond b (Some t) (table_with_id (filter (λ t. not (t.id == d)) ts) id)) (other t.id d id f e) ∙ gone ts e
    ] refl
      where
        other : (a d id : ℕ) → (a == d) ≡ false → (id == d) ≡ true → (a == id) ≡ false
        other a d id f e = grind (arith, nat_tests)

-- ---- steps

pub unrefused : (refusals : Refusals) → is_none (first_refusal refusals) ≡ true → AllByRecursion (λ refusal. refusal.0 ≡ false) refusals
unrefused [] h = tt
unrefused (refusal ∷ refusals) h = elim (refusal.0) as (λ b. is_none (cond b (Some refusal.1) (first_refusal refusals)) ≡ true → (b ≡ false) × AllByRecursion (λ refusal. refusal.0 ≡ false) refusals) [
  | true ↦ λ g. impossible g
  | false ↦ λ g. (refl, unrefused refusals g)
] h

of_step : (state : DatabaseState) (label : ℕ) (made : SchemaStep) → is_none (schema_refusal state label made) ≡ true
    → AllByRecursion (λ refusal. refusal.0 ≡ false) (step_refusals state (unwrap_or (step_table state.tables made) (new_table 0 [])) made)
unfolding schema_refusal
of_step state label made h =
    (unrefused
    ((not (levels state label == 0), jet.InTransaction) ∷ (not (makes_table made) && is_none (step_table state.tables made), jet.ObjectNotFound) ∷ (is_in_use state label (step_table state.tables made), jet.TableInUse)
    ∷ step_refusals state (unwrap_or (step_table state.tables made) (new_table 0 [])) made) h).1.1.1

-- of the very table
pub at_found : (state : DatabaseState) (label : ℕ) (made : SchemaStep) (t : Table) → is_none (schema_refusal state label made) ≡ true → step_table state.tables made ≡ Some t → AllByRecursion (λ refusal. refusal.0 ≡ false) (step_refusals state t made)
at_found state label made t h found =
    subst (λ (o : Option Table). AllByRecursion (λ refusal. refusal.0 ≡ false) (step_refusals state (unwrap_or o (new_table 0 [])) made)) found (of_step state label made h)

pub unused_by : (column : ColumnId) (rules : List IndexRule) → list_any (λ rule. list_any (λ id. id == column.0) (key_columns rule ++ condition_columns rule)) (primary_first rules) ≡ false
    → AllByRecursion (λ rule. AllByRecursion (λ id. (id == column.0) ≡ false) (rule_columns rule)) rules
unused_by column rules h =
    in_any_order (λ rule. AllByRecursion (λ id. (id == column.0) ≡ false) (rule_columns rule)) rules
    (all_weaker (λ rule. list_any (λ id. id == column.0) (rule_columns rule) ≡ false) (λ rule. AllByRecursion (λ id. (id == column.0) ≡ false) (rule_columns rule)) (λ rule e. none_of (λ id. id == column.0) (rule_columns rule) e) (primary_first rules)
    (none_of (λ rule. list_any (λ id. id == column.0) (rule_columns rule)) (primary_first rules) h))

all_there : (table : Table) (ids : List ℕ) → list_any (λ id. not (has_column table id)) ids ≡ false → list_all (has_column table) ids ≡ true
all_there table [] h = refl
all_there table (id ∷ ids) h = elim (has_column table id) as (λ b. (not b || list_any (λ id. not (has_column table id)) ids) ≡ false → (b && list_all (has_column table) ids) ≡ true) [
  | true ↦ λ g. all_there table ids g
  | false ↦ λ g. impossible (sym g)
] h

pub new_index : (state : DatabaseState) (id : TableId) (made : IndexRule) (t : Table) → AllByRecursion (λ refusal. refusal.0 ≡ false) (step_refusals state t (step.CreateIndex id made)) → made.id.0 ≡ next_index_id t.indexes → IsNewIndex t made
new_index state id made t refused number = record {
  number = subst (λ (n : ℕ). AllByRecursion (λ rule. (rule.id.0 == n) ≡ false) t.indexes) (sym number) (next_is_free t.indexes);
  primary = by_primary (made.flags.primary) refused.1.1.0;
  no_records = λ primary. and_second made.flags.primary _ primary refused.1.1.1.0;
  columns = all_there t (rule_columns made) refused.1.1.1.1.0;
  legal = yes (is_legal made (schema_of t)) refused.1.1.1.1.1.1.0;
  unique = λ unique. and_second (is_unique made) _ unique refused.1.1.1.1.1.1.1.1.1.0;
}
  where
    by_primary : (b : Bool) → (b && list_any (λ r. r.flags.primary) t.indexes) ≡ false → AllByRecursion (λ rule. b ≡ true → rule.flags.primary ≡ false) t.indexes
    by_primary true e = all_weaker (λ rule. rule.flags.primary ≡ false) (λ rule. true ≡ true → rule.flags.primary ≡ false) (λ rule f g. f) t.indexes (none_of (λ r. r.flags.primary) t.indexes e)
    by_primary false e = all_each (λ rule. false ≡ true → rule.flags.primary ≡ false) (λ rule g. impossible g) t.indexes

    yes : (b : Bool) → not b ≡ false → b ≡ true
    yes true e = refl
    yes false e = sym e

pub step_keeps_indexes : (state : DatabaseState) (label : ℕ) (made : SchemaStep) → is_none (schema_refusal state label made) ≡ true → has_next_numbers state made ≡ true
    → ((id : ℕ) → IfSome (table_with_id state.tables id) AreTableIndexes) → (id : ℕ) → IfSome (table_with_id (tables_after_step state.tables made) id) AreTableIndexes
step_keeps_indexes state label (step.CreateTable table name) e numbers h id = with_last AreTableIndexes (new_table table.0 name) tt state.tables id (h id)
step_keeps_indexes state label (step.DeleteTable table) e numbers h id = without_table AreTableIndexes table.0 state.tables id (h id)
step_keeps_indexes state label (step.AddColumn table column) e numbers h id =
    at_table AreTableIndexes table.0 (with_column (tagged_if_long column)) (λ t. refl) state.tables (λ t found is. added_column (tagged_if_long column) t is) h id
step_keeps_indexes state label (step.DeleteColumn table column) e numbers h id =
    at_table AreTableIndexes table.0 (without_column column.0) (λ t. refl) state.tables
    (λ t found is. removed_column column.0 t (unused_by column t.indexes (at_found state label (step.DeleteColumn table column) t e found).1.0) is) h id
step_keeps_indexes state label (step.CreateIndex table rule) e numbers h id =
    at_table AreTableIndexes table.0 (with_index rule) (λ t. refl) state.tables
    (λ t found is. made_index rule t (new_index state table rule t (at_found state label (step.CreateIndex table rule) t e found)
    (eqb-true rule.id.0 (next_index_id t.indexes) (and_left _ _ (and_left _ _ (subst (λ (o : Option Table). has_numbers (unwrap_or o (new_table 0 [])) ≡ true) found numbers))))) is) h id
  where
    has_numbers : Table → Bool
    has_numbers t = (rule.id.0 == next_index_id t.indexes) && (rule.order == (greatest_order t.indexes + 1)) && is_name rule.name
step_keeps_indexes state label (step.DeleteIndex table index) e numbers h id =
    at_table AreTableIndexes table.0 (without_index index.0) (λ t. refl) state.tables
    (λ t found is. removed_index index.0 t (none_of (λ r. (r.id.0 == index.0) && r.flags.primary) t.indexes (at_found state label (step.DeleteIndex table index) t e found).1.0) is) h id

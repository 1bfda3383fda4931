-- Lawful entries keep the catalog within its limits.
use Rattle.std.proofs.Common.{◌≡◌, ℕ, suc, ◌+◌, ◌-◌, ◌<◌, ◌≤◌, Bool, true, false, not, ◌&&◌, ◌||◌, cond, List, [], ◌∷◌, ◌++◌, length, Option, Some, None, refl, sym, ap, subst, ◌∙◌, bytes_eq, arith}
use Rattle.std.specs.Prelude.{◌==◌, nat_le, nat_lt, map, fold, max, is_none, is_some, unwrap_or, IfSome}
use Rattle.std.specs.List.{AllByRecursion, list_all, list_any}
use Rattle.std.proofs.lemmas.Bool.Decides.{nat_tests}
use Rattle.std.proofs.lemmas.Bool.{and_from, eqb-true}
use Rattle.std.proofs.lemmas.List.{length-map}
use Rattle.common_lemmas.proofs.Booleans.{and_left, and_right, impossible}
use Rattle.common_lemmas.proofs.Lists.{all_append, all_each, all_filter, all_weaker, length-filter}
use Rattle.common_lemmas.proofs.Numbers.{bytes_turned}
use Rattle.jet_base.specs.declared.ids.TableId.{TableId}
use Rattle.jet_base.specs.declared.words.ColType.{ColType}
use Rattle.jet_base.specs.declared.words.ColType.TheVariants as kind
use Rattle.jet_base.specs.declared.replies.Jet.TheVariants as jet
use Rattle.column_set.specs.declared.columns.Column.{Column}
use Rattle.column_set.specs.RecordValues.{column_of_id, tagged_if_long}
use Rattle.index_derive.specs.Entries.{is_legal}
use Rattle.index_derive.specs.declared.log.Entry.{Entry}
use Rattle.index_derive.specs.declared.log.EntryKind.{EntryKind}
use Rattle.index_derive.specs.declared.log.EntryKind.TheVariants as entry
use Rattle.index_derive.specs.declared.rules.IndexRule.{IndexRule}
use Rattle.index_derive.specs.declared.schema_calls.SchemaStep.{SchemaStep}
use Rattle.index_derive.specs.declared.schema_calls.SchemaStep.TheVariants as step
use Rattle.database_state.proofs.Columns.{column_of_id-columns_with, or_again}
use Rattle.database_state.specs.Lawful.{has_next_numbers, has_number, is_lawful, is_lawful_kind, is_live, is_name}
use Rattle.database_state.specs.SchemaChanges.{columns_with, greatest_order, greatest_table_after, has_column, is_in_use, is_long_column, is_type_long, least_free_id, makes_table, new_table, next_column_id, next_index_id, rule_columns, schema_refusal, step_refusals, tables_after_step, with_column, with_index, without_column, without_index}
use Rattle.jet_base.specs.TypeKinds.{is_long_type, is_variable_type}
use Rattle.database_state.specs.State.{DatabaseState, empty_state, levels, undone}
use Rattle.database_state.specs.Step.{applied, is_at_level, state_after, with_changes_at, with_levels, with_transaction}
use Rattle.database_state.specs.Table.{GreatestColumns, Table, schema_of, table_named, table_with_id, with_table}
use Rattle.session_local.specs.SessionSide.{are_distinct}
use Rattle.session_local.specs.WellFormed.{number_of_column}
use Rattle.laws_versions.specs.History.{EachTwo, without_rows}
use Rattle.laws_versions.specs.KeptSteps.{with_next_number}
use Rattle.laws_versions.proofs.ChangeLemmas.Tests.{or_first, or_second}
use Rattle.laws_versions.proofs.HistoryLemmas.Lists.{all_both, each_append, each_map}
use Rattle.laws_versions.proofs.KeyLemmas.IndexNumbers.{none_of}
use Rattle.laws_versions.proofs.KeyLemmas.SameColumns.{legal_same}
use Rattle.laws_versions.proofs.KeyLemmas.SchemaKeys.{IsNewIndex, at_found, at_table, each_column, found_has, new_index, other_column, unrefused, unused_by, with_last, without_table}
use Rattle.laws_engine.specs.ColumnNumbers.{are_in_range, has_own_numbers, have_own_numbers, is_given_number}
use Rattle.laws_engine.proofs.LawfulLemmas.TableTests.{all_found, definitions_stay, is_schema_entry}
use Rattle.laws_engine.specs.PlainColumns.{HasPlainIndexes}
use Rattle.laws_engine.proofs.HeldLemmas.PlainSteps.{stays_plain}
use Rattle.laws_images.specs.SoundStates.{ColumnNamesDiffer, HasSoundCatalog, IndexesDiffer, IsSoundTable, TableNamesDiffer, is_number_of_kind, is_sound_column, is_sound_index}
use Rattle.laws_images.proofs.OpenedLemmas.CarriedTables.{carried, each_carried}
use Rattle.laws_images.proofs.SettledLemmas.SettledHistories.{each_two}

-- ---- tests

denied : (b : Bool) → not b ≡ false → b ≡ true
denied true e = refl
denied false e = sym e

-- ---- indexes of tables with the same columns

index_same : (one other : Table) (rule : IndexRule) → AllByRecursion (λ id. column_of_id other.columns id ≡ column_of_id one.columns id) (rule_columns rule) → is_sound_index one rule ≡ true → is_sound_index other rule ≡ true
index_same one other rule same h =
    let named = is_name rule.name && nat_le 1 rule.id.0 in
    let there = list_all (has_column one) (rule_columns rule) in
    let first : (named && there) ≡ true = and_left (named && there) (is_legal rule (schema_of one)) h in
    and_from (named && list_all (has_column other) (rule_columns rule)) (is_legal rule (schema_of other))
    (and_from named (list_all (has_column other) (rule_columns rule)) (and_left named there first) (has (rule_columns rule) same (and_right named there first)))
    (legal_same rule (schema_of other) (schema_of one) same ∙ and_right (named && there) (is_legal rule (schema_of one)) h)
  where
    has : (ids : List ℕ) → AllByRecursion (λ id. column_of_id other.columns id ≡ column_of_id one.columns id) ids → list_all (has_column one) ids ≡ true → list_all (has_column other) ids ≡ true
    has [] same h = refl
    has (id ∷ ids) same h =
        and_from (has_column other id) (list_all (has_column other) ids)
        (sym (found_has other.columns id) ∙ ap is_some same.0 ∙ found_has one.columns id ∙ and_left (has_column one id) (list_all (has_column one) ids) h)
        (has ids same.1 (and_right (has_column one id) (list_all (has_column one) ids) h))

has_columns : (table : Table) (rule : IndexRule) → is_sound_index table rule ≡ true → list_all (has_column table) (rule_columns rule) ≡ true
has_columns table rule h =
    let named = is_name rule.name && nat_le 1 rule.id.0 in
    and_right named (list_all (has_column table) (rule_columns rule)) (and_left (named && list_all (has_column table) (rule_columns rule)) (is_legal rule (schema_of table)) h)

-- ---- a column comes

all_columns : (P : Column → Type 0) (column : Column) (columns : List Column) → P column → AllByRecursion P columns → AllByRecursion P (columns_with column columns)
all_columns P column [] p h = (p, tt)
all_columns P column (other ∷ columns) p h = elim (list_all (λ c. nat_lt column.id.0 c.id.0) (other ∷ columns)) as (λ b. AllByRecursion P (cond b (column ∷ other ∷ columns) (other ∷ columns_with column columns))) [
  | true ↦ (p, h)
  | false ↦ (h.0, all_columns P column columns p h.1)
]

names_with : (column : Column) (columns : List Column) → AllByRecursion (λ c. bytes_eq c.name column.name ≡ false) columns → EachTwo ColumnNamesDiffer columns → EachTwo ColumnNamesDiffer (columns_with column columns)
names_with column [] apart h = (tt, tt)
names_with column (other ∷ columns) apart h = elim (list_all (λ c. nat_lt column.id.0 c.id.0) (other ∷ columns)) as (λ b. EachTwo ColumnNamesDiffer (cond b (column ∷ other ∷ columns) (other ∷ columns_with column columns))) [
  | true ↦ (all_weaker (λ c. bytes_eq c.name column.name ≡ false) (ColumnNamesDiffer column) (λ c e. bytes_turned column.name c.name ∙ e) (other ∷ columns) apart, h)
  | false ↦ (all_columns (ColumnNamesDiffer other) column columns apart.0 h.0, names_with column columns apart.1 h.1)
]

abbrev next_by : GreatestColumns → Bool → Bool → ℕ
next_by g tagged variable = cond tagged (g.tagged + 1) (cond variable (g.variable + 1) (g.fixed + 1))

abbrev has_by : Bool → Bool → ℕ → Bool
has_by tagged variable n = cond tagged (nat_le n 511) (cond variable (nat_le n 255) (nat_le n 127))

abbrev kind_by : Bool → Bool → ℕ → Bool
kind_by tagged variable n = cond tagged (nat_le 256 n && nat_le n 511) (cond variable (nat_le 128 n && nat_le n 255) (nat_le 1 n && nat_le n 127))

-- the next number of a kind, of numbers that are in their ranges
next_of_kind : (g : GreatestColumns) (tagged variable : Bool) → are_in_range g ≡ true → has_by tagged variable (next_by g tagged variable) ≡ true → kind_by tagged variable (next_by g tagged variable) ≡ true
next_of_kind g true variable range h = and_from (nat_le 256 (g.tagged + 1)) (nat_le (g.tagged + 1) 511) (above g.tagged (and_right _ _ (and_left _ _ range))) h
  where
    above : (n : ℕ) → nat_le 255 n ≡ true → nat_le 256 (n + 1) ≡ true
    above n e = grind (arith, nat_tests)
next_of_kind g false true range h = and_from (nat_le 128 (g.variable + 1)) (nat_le (g.variable + 1) 255) (above g.variable (and_right _ _ (and_left _ _ (and_left _ _ (and_left _ _ range))))) h
  where
    above : (n : ℕ) → nat_le 127 n ≡ true → nat_le 128 (n + 1) ≡ true
    above n e = grind (arith, nat_tests)
next_of_kind g false false range h = and_from (nat_le 1 (g.fixed + 1)) (nat_le (g.fixed + 1) 127) (above g.fixed) h
  where
    above : (n : ℕ) → nat_le 1 (n + 1) ≡ true
    above n = grind (arith, nat_tests)

-- a new column is sound as the table has it
new_column : (t : Table) (column : Column) → is_name column.name ≡ true → are_in_range t.greatest ≡ true → column.id.0 ≡ next_column_id t.greatest column.kind column.tagged
    → (column.multi && not (column.tagged || is_long_column column)) ≡ false → (column.escrow && (not (is_type_long column.kind) || column.tagged || column.multi)) ≡ false
    → has_by (column.tagged || is_long_type column.kind) (is_variable_type column.kind) (next_column_id t.greatest column.kind column.tagged) ≡ true → is_sound_column (tagged_if_long column) ≡ true
new_column t column name range next multi sum has =
    let tagged = column.tagged || is_long_type column.kind in
    let variable = is_variable_type column.kind in
    let number = is_number_of_kind column.kind tagged column.id.0 in
    let marked = tagged || not (is_long_type column.kind) in
    let values = not column.multi || tagged in
    and_from (((is_name column.name && number) && marked) && values) (not column.escrow || (is_type_long column.kind && (not tagged && not column.multi)))
    (and_from ((is_name column.name && number) && marked) values
    (and_from (is_name column.name && number) marked
    (and_from (is_name column.name) number name
    (subst (λ b. kind_by b variable column.id.0 ≡ true) (sym (or_again column.tagged (is_long_type column.kind)))
    (subst (λ n. kind_by tagged variable n ≡ true) (sym next) (next_of_kind t.greatest tagged variable range has))))
    (long_is_tagged column.tagged (is_long_type column.kind)))
    (or_else column.multi tagged multi))
    (of_sum column.escrow column.kind column.tagged column.multi sum)
  where
    long_is_tagged : (tagged long : Bool) → ((tagged || long) || not long) ≡ true
    long_is_tagged true long = refl
    long_is_tagged false true = refl
    long_is_tagged false false = refl

    or_else : (a b : Bool) → (a && not b) ≡ false → (not a || b) ≡ true
    or_else true true e = refl
    or_else true false e = sym e
    or_else false b e = refl

    of_sum : (a : Bool) (type : ColType) (tagged many : Bool) → (a && (not (is_type_long type) || tagged || many)) ≡ false → (not a || (is_type_long type && (not (tagged || is_long_type type) && not many))) ≡ true
    of_sum true kind.Long true many e = sym e
    of_sum true kind.Long false true e = sym e
    of_sum true kind.Long false false e = refl
    of_sum true _ tagged many e = sym e
    of_sum false type tagged many e = refl

with_column_sound : (t : Table) (column : Column) → is_sound_column column ≡ true → list_any (λ c. bytes_eq c.name column.name) t.columns ≡ false → IsSoundTable t → IsSoundTable (with_column column t)
with_column_sound t column sound apart h = record {
  name = h.name;
  columns = all_columns (λ c. is_sound_column c ≡ true) column t.columns sound h.columns;
  column_names = names_with column t.columns (none_of (λ c. bytes_eq c.name column.name) t.columns apart) h.column_names;
  indexes = all_weaker (λ rule. is_sound_index t rule ≡ true) (λ rule. is_sound_index (with_column column t) rule ≡ true)
      (λ rule is. index_same t (with_column column t) rule
      (all_weaker (λ id. (column_of_id (with_column column t).columns id ≡ column_of_id t.columns id) × (has_column t id ≡ true → has_column (with_column column t) id ≡ true)) (λ id. column_of_id (with_column column t).columns id ≡ column_of_id t.columns id) (λ id c. c.0) (rule_columns rule)
      (each_column t (with_column column t) (rule_columns rule) (has_columns t rule is) (λ id has. column_of_id-columns_with column id t.columns (found_has t.columns id ∙ has)))) is) t.indexes h.indexes;
  indexes_differ = h.indexes_differ;
  most = h.most;
  orders = h.orders;
}

-- ---- a column goes

without_column_sound : (t : Table) (column : ℕ) → AllByRecursion (λ rule. AllByRecursion (λ id. (id == column) ≡ false) (rule_columns rule)) t.indexes → IsSoundTable t → IsSoundTable (without_column column t)
without_column_sound t column unused h = record {
  name = h.name;
  columns = all_filter (λ c. is_sound_column c ≡ true) (λ c. not (c.id.0 == column)) t.columns h.columns;
  column_names = each_two ColumnNamesDiffer (λ c. not (c.id.0 == column)) t.columns h.column_names;
  indexes = all_both (λ rule. is_sound_index t rule ≡ true) (λ rule. AllByRecursion (λ id. (id == column) ≡ false) (rule_columns rule)) (λ rule. is_sound_index (without_column column t) rule ≡ true)
      (λ rule is apart. index_same t (without_column column t) rule (all_weaker (λ id. (id == column) ≡ false) (λ id. column_of_id (without_column column t).columns id ≡ column_of_id t.columns id) (λ id e. other_column column t id e) (rule_columns rule) apart) is)
      t.indexes h.indexes unused;
  indexes_differ = h.indexes_differ;
  most = h.most;
  orders = h.orders;
}

-- ---- an index comes

least_free_above : (indexes rest : List IndexRule) (id : ℕ) → 1 ≤ id → 1 ≤ least_free_id indexes rest id
least_free_above indexes [] id le = le
least_free_above indexes (rule ∷ rest) id le = least_free_above indexes rest (cond (list_any (λ m. m.id.0 == id) indexes) (id + 1) id) (either (list_any (λ m. m.id.0 == id) indexes))
  where
    more : (n : ℕ) → 1 ≤ n + 1
    more n = omega arith

    either : (b : Bool) → 1 ≤ cond b (id + 1) id
    either true = more id
    either false = le

orders_from : (rules : List IndexRule) (n : ℕ) → (n ≤ fold (λ greatest made. max greatest made.order) n rules) × AllByRecursion (λ rule. rule.order ≤ fold (λ greatest made. max greatest made.order) n rules) rules
orders_from [] n = (itself n, tt)
  where
    itself : (n : ℕ) → n ≤ n
    itself n = omega arith
orders_from (rule ∷ rules) n =
    let rest = orders_from rules (max n rule.order) in
    (through n (max n rule.order) _ (first n rule.order) rest.0, (through rule.order (max n rule.order) _ (second n rule.order) rest.0, rest.1))
  where
    through : (a b c : ℕ) → a ≤ b → b ≤ c → a ≤ c
    through a b c le more = omega arith

    first : (a b : ℕ) → a ≤ max a b
    first a b = omega arith

    second : (a b : ℕ) → b ≤ max a b
    second a b = omega arith

with_index_sound : (t : Table) (rule : IndexRule) → IsNewIndex t rule → is_name rule.name ≡ true → rule.id.0 ≡ next_index_id t.indexes → rule.order ≡ greatest_order t.indexes + 1
    → list_any (λ made. bytes_eq made.name rule.name) t.indexes ≡ false → (nat_le 64 (length t.indexes) || nat_le 4294967295 (greatest_order t.indexes)) ≡ false → IsSoundTable t → IsSoundTable (with_index rule t)
with_index_sound t rule new name number order apart room h = record {
  name = h.name;
  columns = h.columns;
  column_names = h.column_names;
  indexes = all_append (λ r. is_sound_index (with_index rule t) r ≡ true) t.indexes (rule ∷ [])
      (all_weaker (λ r. is_sound_index t r ≡ true) (λ r. is_sound_index (with_index rule t) r ≡ true) (λ r is. index_same t (with_index rule t) r (same r) is) t.indexes h.indexes)
      (index_same t (with_index rule t) rule (same rule) sound, tt);
  indexes_differ = each_append IndexesDiffer t.indexes rule h.indexes_differ
      (all_both (λ r. bytes_eq r.name rule.name ≡ false) (λ r. ((r.id.0 == rule.id.0) ≡ false) × (rule.flags.primary ≡ true → r.flags.primary ≡ false) × (r.order ≤ greatest_order t.indexes)) (λ r. IndexesDiffer r rule)
      (λ r names rest. record { names = names; numbers = rest.0; orders = below r.order (greatest_order t.indexes) rule.order order rest.2; primary = rest.1 }) t.indexes (none_of (λ made. bytes_eq made.name rule.name) t.indexes apart)
      (all_both (λ r. (r.id.0 == rule.id.0) ≡ false) (λ r. (rule.flags.primary ≡ true → r.flags.primary ≡ false) × (r.order ≤ greatest_order t.indexes)) _ (λ r a b. (a, b.0, b.1)) t.indexes new.number
      (all_both (λ r. rule.flags.primary ≡ true → r.flags.primary ≡ false) (λ r. r.order ≤ greatest_order t.indexes) _ (λ r a b. (a, b)) t.indexes new.primary (orders_from t.indexes 0).1)));
  most = subst (λ n. n ≤ 64) (sym (length_last t.indexes)) (one_more (length t.indexes) (or_first (nat_le 64 (length t.indexes)) _ room));
  orders = all_append (λ r. r.order ≤ 4294967295) t.indexes (rule ∷ []) h.orders (last (greatest_order t.indexes) rule.order order (or_second (nat_le 64 (length t.indexes)) _ room), tt);
}
  where
    same : (r : IndexRule) → AllByRecursion (λ id. column_of_id (with_index rule t).columns id ≡ column_of_id t.columns id) (rule_columns r)
    same r = all_each (λ id. column_of_id (with_index rule t).columns id ≡ column_of_id t.columns id) (λ id. refl) (rule_columns r)

    tested : (n : ℕ) → 1 ≤ n → nat_le 1 n ≡ true
    tested n le = grind (arith, nat_tests)

    one : 1 ≤ 1
    one = omega arith

    sound : is_sound_index t rule ≡ true
    sound =
        and_from ((is_name rule.name && nat_le 1 rule.id.0) && list_all (has_column t) (rule_columns rule)) (is_legal rule (schema_of t))
        (and_from (is_name rule.name && nat_le 1 rule.id.0) (list_all (has_column t) (rule_columns rule))
        (and_from (is_name rule.name) (nat_le 1 rule.id.0) name (tested rule.id.0 (subst (λ n. 1 ≤ n) (sym number) (least_free_above t.indexes t.indexes 1 one)))) new.columns) new.legal

    below : (a g n : ℕ) → n ≡ g + 1 → a ≤ g → a < n
    below a g n e le = omega arith

    last : (g n : ℕ) → n ≡ g + 1 → nat_le 4294967295 g ≡ false → n ≤ 4294967295
    last g n e f = grind (arith, nat_tests)

    length_last : (rules : List IndexRule) → length (rules ++ rule ∷ []) ≡ suc (length rules)
    length_last [] = refl
    length_last (r ∷ rules) = ap suc (length_last rules)

    one_more : (n : ℕ) → nat_le 64 n ≡ false → suc n ≤ 64
    one_more n e = grind (arith, nat_tests)

-- ---- an index goes

without_index_sound : (t : Table) (index : ℕ) → IsSoundTable t → IsSoundTable (without_index index t)
without_index_sound t index h = record {
  name = h.name;
  columns = h.columns;
  column_names = h.column_names;
  indexes = all_filter (λ r. is_sound_index (without_index index t) r ≡ true) (λ made. not (made.id.0 == index)) t.indexes
      (all_weaker (λ r. is_sound_index t r ≡ true) (λ r. is_sound_index (without_index index t) r ≡ true)
      (λ r is. index_same t (without_index index t) r (all_each (λ id. column_of_id (without_index index t).columns id ≡ column_of_id t.columns id) (λ id. refl) (rule_columns r)) is) t.indexes h.indexes);
  indexes_differ = each_two IndexesDiffer (λ made. not (made.id.0 == index)) t.indexes h.indexes_differ;
  most = through _ _ (length-filter (λ made. not (made.id.0 == index)) t.indexes) h.most;
  orders = all_filter (λ r. r.order ≤ 4294967295) (λ made. not (made.id.0 == index)) t.indexes h.orders;
}
  where
    through : (a b : ℕ) → a ≤ b → b ≤ 64 → a ≤ 64
    through a b le h = omega arith

-- ---- schema steps

new_table_sound : (id : ℕ) (name : List ℕ) → is_name name ≡ true → IsSoundTable (new_table id name)
new_table_sound id name h = record { name = h; columns = tt; column_names = tt; indexes = tt; indexes_differ = tt; most = none; orders = tt }
  where
    none : 0 ≤ 64
    none = omega arith

in_range : (t : Table) → has_own_numbers t ≡ true → are_in_range t.greatest ≡ true
in_range t h = and_left (are_in_range t.greatest) (list_all (is_given_number t.greatest) t.columns) (and_left (are_in_range t.greatest && list_all (is_given_number t.greatest) t.columns) (are_distinct (map number_of_column t.columns)) h)

step_sound : (state : DatabaseState) (label : ℕ) (made : SchemaStep) → is_none (schema_refusal state label made) ≡ true → has_next_numbers state made ≡ true → have_own_numbers state.tables ≡ true
    → ((id : ℕ) → IfSome (table_with_id state.tables id) IsSoundTable) → (id : ℕ) → IfSome (table_with_id (tables_after_step state.tables made) id) IsSoundTable
step_sound state label (step.CreateTable table name) free next own h id = with_last IsSoundTable (new_table table.0 name) (new_table_sound table.0 name (and_right (table.0 == (state.greatest_table + 1)) _ next)) state.tables id (h id)
step_sound state label (step.DeleteTable table) free next own h id = without_table IsSoundTable table.0 state.tables id (h id)
step_sound state label (step.AddColumn table column) free next own h id =
    at_table IsSoundTable table.0 (with_column (tagged_if_long column)) (λ t. refl) state.tables
    (λ t found is. let refused = at_found state label (step.AddColumn table column) t free found in
    let numbered = subst (λ (o : Option Table). has_numbers (unwrap_or o (new_table 0 [])) ≡ true) found next in
    with_column_sound t (tagged_if_long column)
    (new_column t column (and_right (column.id.0 == next_column_id t.greatest column.kind column.tagged) _ numbered)
    (in_range t (subst (λ (o : Option Table). IfSome o (λ t. has_own_numbers t ≡ true)) found (all_found has_own_numbers state.tables own table.0)))
    (eqb-true column.id.0 (next_column_id t.greatest column.kind column.tagged) (and_left _ _ numbered)) refused.1.0 refused.1.1.0 (denied _ refused.1.1.1.1.0)) refused.0 is) h id
  where
    has_numbers : Table → Bool
    has_numbers t = (column.id.0 == next_column_id t.greatest column.kind column.tagged) && is_name column.name
step_sound state label (step.DeleteColumn table column) free next own h id =
    at_table IsSoundTable table.0 (without_column column.0) (λ t. refl) state.tables
    (λ t found is. without_column_sound t column.0 (unused_by column t.indexes (at_found state label (step.DeleteColumn table column) t free found).1.0) is) h id
step_sound state label (step.CreateIndex table rule) free next own h id =
    at_table IsSoundTable table.0 (with_index rule) (λ t. refl) state.tables
    (λ t found is. let refused = at_found state label (step.CreateIndex table rule) t free found in
    let numbered = subst (λ (o : Option Table). has_numbers (unwrap_or o (new_table 0 [])) ≡ true) found next in
    let number = eqb-true rule.id.0 (next_index_id t.indexes) (and_left _ _ (and_left _ _ numbered)) in
    with_index_sound t rule (new_index state table rule t refused number) (and_right ((rule.id.0 == next_index_id t.indexes) && (rule.order == (greatest_order t.indexes + 1))) _ numbered) number
    (eqb-true rule.order (greatest_order t.indexes + 1) (and_right (rule.id.0 == next_index_id t.indexes) _ (and_left _ _ numbered))) refused.0 refused.1.0 is) h id
  where
    has_numbers : Table → Bool
    has_numbers t = (rule.id.0 == next_index_id t.indexes) && (rule.order == (greatest_order t.indexes + 1)) && is_name rule.name
step_sound state label (step.DeleteIndex table index) free next own h id = at_table IsSoundTable table.0 (without_index index.0) (λ t. refl) state.tables (λ t found is. without_index_sound t index.0 is) h id

-- ---- names of tables, and how many they are

unnamed : (tables : List Table) (name : List ℕ) → is_some (table_named tables name) ≡ false → AllByRecursion (λ t. bytes_eq t.name name ≡ false) tables
unnamed [] name h = tt
unnamed (t ∷ tables) name h = elim (bytes_eq t.name name) as (λ b. is_some (cond b (Some t) (table_named tables name)) ≡ false → (b ≡ false) × AllByRecursion (λ t. bytes_eq t.name name ≡ false) tables) [
  | true ↦ λ e. impossible (sym e)
  | false ↦ λ e. (refl, unnamed tables name e)
] h

names_changed : (d : ℕ) (change : Table → Table) → ((t : Table) → (change t).name ≡ t.name) → (tables : List Table) → EachTwo TableNamesDiffer tables → EachTwo TableNamesDiffer (with_table d change tables)
names_changed d change same tables h =
    each_map (λ (t : Table). Unit {0}) TableNamesDiffer TableNamesDiffer (λ t. cond (t.id == d) (change t) t)
    (λ one other x y apart. ap (λ (n : List ℕ). bytes_eq n (cond (other.id == d) (change other) other).name) (own one) ∙ ap (bytes_eq one.name) (own other) ∙ apart) tables (all_each (λ (t : Table). Unit {0}) (λ t. tt) tables) h
  where
    own : (t : Table) → (cond (t.id == d) (change t) t).name ≡ t.name
    own t = elim (t.id == d) as (λ b. (cond b (change t) t).name ≡ t.name) [ true ↦ same t | false ↦ refl ]

-- what a new table is refused for
of_new : (state : DatabaseState) (label : ℕ) (table : TableId) (name : List ℕ) → is_none (schema_refusal state label (step.CreateTable table name)) ≡ true
    → (is_some (table_named state.tables name) ≡ false) × ((nat_le 64 (length state.tables) || nat_le 4294967295 state.greatest_table) ≡ false)
unfolding schema_refusal
of_new state label table name h =
    let refused = unrefused
    ((not (levels state label == 0), jet.InTransaction) ∷ (not (makes_table (step.CreateTable table name)) && is_none (table_named state.tables name), jet.ObjectNotFound) ∷ (is_in_use state label (table_named state.tables name), jet.TableInUse)
    ∷ step_refusals state (unwrap_or (table_named state.tables name) (new_table 0 [])) (step.CreateTable table name)) h in
    (refused.1.1.1.0, refused.1.1.1.1.0)

abbrev Limits : List Table → ℕ → Type 0
Limits tables greatest = (length tables ≤ 64) × (greatest ≤ 4294967295) × EachTwo TableNamesDiffer tables

step_limits : (state : DatabaseState) (label : ℕ) (made : SchemaStep) → is_none (schema_refusal state label made) ≡ true → has_next_numbers state made ≡ true → Limits state.tables state.greatest_table
    → Limits (tables_after_step state.tables made) (greatest_table_after state.greatest_table made)
step_limits state label (step.CreateTable table name) free next h =
    let refused = of_new state label table name free in (
      subst (λ n. n ≤ 64) (sym (length_last state.tables)) (one_more (length state.tables) (or_first (nat_le 64 (length state.tables)) _ refused.1)),
      last state.greatest_table table.0 (eqb-true table.0 (state.greatest_table + 1) (and_left _ _ next)) (or_second (nat_le 64 (length state.tables)) _ refused.1),
      each_append TableNamesDiffer state.tables (new_table table.0 name) h.2 (unnamed state.tables name refused.0),
    )
  where
    length_last : (tables : List Table) → length (tables ++ new_table table.0 name ∷ []) ≡ suc (length tables)
    length_last [] = refl
    length_last (t ∷ tables) = ap suc (length_last tables)

    one_more : (n : ℕ) → nat_le 64 n ≡ false → suc n ≤ 64
    one_more n e = grind (arith, nat_tests)

    last : (g n : ℕ) → n ≡ g + 1 → nat_le 4294967295 g ≡ false → n ≤ 4294967295
    last g n e f = grind (arith, nat_tests)
step_limits state label (step.DeleteTable table) free next h = (through _ _ (length-filter (λ t. not (t.id == table.0)) state.tables) h.0, h.1, each_two TableNamesDiffer (λ t. not (t.id == table.0)) state.tables h.2)
  where
    through : (a b : ℕ) → a ≤ b → b ≤ 64 → a ≤ 64
    through a b le h = omega arith
step_limits state label (step.AddColumn table column) free next h = (subst (λ n. n ≤ 64) (sym (length-map state.tables _)) h.0, h.1, names_changed table.0 (with_column (tagged_if_long column)) (λ t. refl) state.tables h.2)
step_limits state label (step.DeleteColumn table column) free next h = (subst (λ n. n ≤ 64) (sym (length-map state.tables _)) h.0, h.1, names_changed table.0 (without_column column.0) (λ t. refl) state.tables h.2)
step_limits state label (step.CreateIndex table rule) free next h = (subst (λ n. n ≤ 64) (sym (length-map state.tables _)) h.0, h.1, names_changed table.0 (with_index rule) (λ t. refl) state.tables h.2)
step_limits state label (step.DeleteIndex table index) free next h = (subst (λ n. n ≤ 64) (sym (length-map state.tables _)) h.0, h.1, names_changed table.0 (without_index index.0) (λ t. refl) state.tables h.2)

-- ---- any entry

-- but for records
same_down : (t : Table) → IsSoundTable t → IsSoundTable (without_rows t)
same_down t h = record { name = h.name; columns = h.columns; column_names = h.column_names; indexes = h.indexes; indexes_differ = h.indexes_differ; most = h.most; orders = h.orders }

same_up : (t : Table) → IsSoundTable (without_rows t) → IsSoundTable t
same_up t h = record { name = h.name; columns = h.columns; column_names = h.column_names; indexes = h.indexes; indexes_differ = h.indexes_differ; most = h.most; orders = h.orders }

greatest_stays : (state : DatabaseState) (label : ℕ) (kind : EntryKind) → is_schema_entry kind ≡ false → (applied label kind (with_next_number state)).greatest_table ≡ state.greatest_table
greatest_stays state label entry.Enter e = refl
greatest_stays state label entry.Leave e = refl
greatest_stays state label (entry.Open table) e = refl
greatest_stays state label (entry.Shut table) e = refl
greatest_stays state label entry.Begin e = refl
greatest_stays state label entry.Save e = refl
greatest_stays state label (entry.Change change) e = refl
greatest_stays state label entry.Release e = refl
greatest_stays state label entry.Undo e = either (nat_lt 1 (levels state label))
  where
    undoing : DatabaseState
    undoing = with_changes_at label (is_at_level (levels state label)) (λ item. record item { status = undone }) (with_next_number state)

    either : (b : Bool) → (cond b (with_levels label (λ n. n - 1) undoing) (with_transaction label None undoing)).greatest_table ≡ state.greatest_table
    either true = refl
    either false = refl
greatest_stays state label entry.UndoAll e = refl
greatest_stays state label entry.Commit e = refl
greatest_stays state label (entry.Schema made) e = impossible (sym e)

abbrev Tables : DatabaseState → Type 0
Tables state = Limits state.tables state.greatest_table × ((id : ℕ) → IfSome (table_with_id state.tables id) IsSoundTable)

tables_by_kind : (state : DatabaseState) (label : ℕ) (kind : EntryKind) → is_lawful_kind state label kind ≡ true → have_own_numbers state.tables ≡ true → Tables state → Tables (applied label kind (with_next_number state))
tables_by_kind state label kind e own h = by (is_schema_entry kind) refl
  where
    of_step : (k : EntryKind) → is_schema_entry k ≡ true → is_lawful_kind state label k ≡ true → Tables (applied label k (with_next_number state))
    of_step (entry.Schema made) f e =
        let free = and_right (is_live state label) _ (and_left _ _ e) in
        let next = and_right (is_live state label && is_none (schema_refusal state label made)) _ e in
        (step_limits state label made free next h.0, step_sound state label made free next own h.1)
    of_step _ f e = impossible f

    by : (b : Bool) → is_schema_entry kind ≡ b → Tables (applied label kind (with_next_number state))
    by true f = of_step kind f e
    by false f =
        let after = applied label kind (with_next_number state) in
        let same : map without_rows state.tables ≡ map without_rows after.tables = sym (definitions_stay state label kind f) in (
          (
            subst (λ n. n ≤ 64) (sym (length-map state.tables without_rows) ∙ ap length same ∙ length-map after.tables without_rows) h.0.0,
            subst (λ n. n ≤ 4294967295) (sym (greatest_stays state label kind f)) h.0.1,
            each_carried TableNamesDiffer (λ t u q. q) (λ t u q. q) state.tables after.tables same h.0.2,
          ),
          λ id. carried IsSoundTable same_down same_up state.tables after.tables same id (h.1 id),
        )

-- ---- the whole

pub catalog_empty : HasSoundCatalog empty_state
catalog_empty = record { indexes = record { order = record { ids = tt; given = tt; rows = tt }; numbers = refl; plain = refl }; most = none 64; greatest = none 4294967295; names = tt; tables = λ id. tt }
  where
    none : (n : ℕ) → 0 ≤ n
    none n = omega arith

tables_kept : (state : DatabaseState) (made : Entry) → have_own_numbers state.tables ≡ true → Tables state → is_lawful state made ≡ true → Tables (state_after state made)
unfolding is_lawful state_after
tables_kept state made own h e = tables_by_kind state made.session.0 made.kind (and_right (has_number state.number made.kind) _ e) own h

pub catalog_kept : (state : DatabaseState) (made : Entry) → HasSoundCatalog state → is_lawful state made ≡ true → HasSoundCatalog (state_after state made)
catalog_kept state made h e = from (state_after state made) (stays_plain state made h.indexes e) (tables_kept state made h.indexes.numbers ((h.most, h.greatest, h.names), h.tables) e)
  where
    from : (after : DatabaseState) → HasPlainIndexes after → Tables after → HasSoundCatalog after
    from after plain tables = record { indexes = plain; most = tables.0.0; greatest = tables.0.1; names = tables.0.2; tables = tables.1 }

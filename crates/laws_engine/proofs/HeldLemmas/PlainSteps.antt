-- Lawful entries keep indexes over columns that are there and are no sums.
use Rattle.std.proofs.Common.{◌≡◌, ℕ, Bool, true, false, not, ◌&&◌, ◌||◌, cond, List, [], ◌∷◌, Option, Some, None, refl, sym, ap, subst, ◌∙◌}
use Rattle.std.specs.Prelude.{◌==◌, filter, is_none, is_some, map, IfSome}
use Rattle.std.specs.List.{AllByRecursion, list_all, list_any}
use Rattle.std.proofs.lemmas.Bool.{and_from, eqb-true, not-true}
use Rattle.common_lemmas.proofs.Lists.{all_each, all_filtered, all_last, all_stronger}
use Rattle.common_lemmas.proofs.Booleans.{and_false, and_left, and_right, impossible}
use Rattle.column_set.specs.declared.columns.Column.{Column}
use Rattle.column_set.specs.RecordValues.{column_of_id, tagged_if_long}
use Rattle.index_derive.specs.declared.rules.IndexRule.{IndexRule}
use Rattle.index_derive.specs.declared.log.Entry.{Entry}
use Rattle.index_derive.specs.declared.log.EntryKind.{EntryKind}
use Rattle.index_derive.specs.declared.log.EntryKind.TheVariants as entry
use Rattle.index_derive.specs.declared.schema_calls.SchemaStep.{SchemaStep}
use Rattle.index_derive.specs.declared.schema_calls.SchemaStep.TheVariants as step
use Rattle.index_derive.specs.Entries.{is_escrow_column}
use Rattle.database_state.specs.Table.{Table, schema_of, table_with_id}
use Rattle.database_state.specs.SchemaChanges.{columns_with, has_column, new_table, rule_columns, schema_refusal, tables_after_step, with_column, with_index, without_column, without_index}
use Rattle.database_state.specs.State.{DatabaseState}
use Rattle.database_state.specs.Step.{applied, state_after}
use Rattle.database_state.specs.Lawful.{has_number, is_lawful, is_lawful_kind, is_live}
use Rattle.database_state.proofs.Columns.{column_of_id-columns_with}
use Rattle.laws_versions.proofs.ChangeLemmas.Tests.{or_first, or_second}
use Rattle.session_local.specs.SessionSide.{are_distinct}
use Rattle.session_local.specs.WellFormed.{number_of_column}
use Rattle.laws_versions.specs.History.{EachTwo}
use Rattle.laws_versions.specs.KeptSteps.{with_next_number}
use Rattle.laws_versions.specs.TableOrder.{IdsRise}
use Rattle.laws_versions.proofs.KeyLemmas.IndexNumbers.{found_in_filter}
use Rattle.laws_versions.proofs.KeyLemmas.OrderedTables.{order_kept}
use Rattle.laws_versions.proofs.KeyLemmas.SchemaKeys.{at_found, at_table, unused_by, with_last, without_table}
use Rattle.laws_engine.specs.ColumnNumbers.{are_in_range, has_own_numbers, have_own_numbers, is_given_number}
use Rattle.laws_engine.proofs.LawfulLemmas.OwnNumbers.{numbers_kept}
use Rattle.laws_engine.proofs.LawfulLemmas.TableTests.{all_found, all_listed, definitions_stay, is_schema_entry, tested_alike}
use Rattle.laws_engine.specs.PlainIndexes.{is_sum_number, read_no_sums, reads_no_sum}
use Rattle.laws_engine.specs.PlainColumns.{HasPlainIndexes, has_plain_indexes, is_plain_column, names_plain_columns}

-- ---- columns that come and go

plain_found : (columns : List Column) (id : ℕ) → is_plain_column columns id ≡ true → is_some (column_of_id columns id) ≡ true
plain_found columns id h = by (column_of_id columns id) h
  where
    by : (found : Option Column) → (elim found [ Some column ↦ not column.escrow | None ↦ false ]) ≡ true → is_some found ≡ true
    by None g = g
    by (Some c) g = refl

plain_by : (one other : List Column) (id : ℕ) → column_of_id other id ≡ column_of_id one id → is_plain_column one id ≡ true → is_plain_column other id ≡ true
plain_by one other id e h = ap (λ (found : Option Column). elim found [ Some column ↦ not column.escrow | None ↦ false ]) e ∙ h

plain_more : (column : Column) (columns : List Column) (rules : List IndexRule) → list_all (names_plain_columns columns) rules ≡ true → list_all (names_plain_columns (columns_with column columns)) rules ≡ true
plain_more column columns rules =
    all_stronger (names_plain_columns columns) (names_plain_columns (columns_with column columns))
    (λ rule. all_stronger (is_plain_column columns) (is_plain_column (columns_with column columns))
    (λ id h. plain_by columns (columns_with column columns) id (column_of_id-columns_with column id columns (plain_found columns id h)) h) (rule_columns rule)) rules

abbrev without : ℕ → List Column → List Column
without column columns = filter (λ c. not (c.id.0 == column)) columns

still_there : (column id : ℕ) (columns : List Column) → (id == column) ≡ false → column_of_id (without column columns) id ≡ column_of_id columns id
still_there column id columns apart =
    found_in_filter (λ (c : Column). c.id.0 == id) (λ c. not (c.id.0 == column)) columns
    (all_each (λ (c : Column). (c.id.0 == id) ≡ true → not (c.id.0 == column) ≡ true) (λ c e. ap not (ap (λ n. n == column) (eqb-true c.id.0 id e) ∙ apart)) columns)

ids_stay : (column : ℕ) (columns : List Column) (ids : List ℕ) → AllByRecursion (λ id. (id == column) ≡ false) ids → list_all (is_plain_column columns) ids ≡ true → list_all (is_plain_column (without column columns)) ids ≡ true
ids_stay column columns [] apart h = refl
ids_stay column columns (id ∷ ids) apart h =
    and_from (is_plain_column (without column columns) id) (list_all (is_plain_column (without column columns)) ids)
    (plain_by columns (without column columns) id (still_there column id columns apart.0) (and_left (is_plain_column columns id) (list_all (is_plain_column columns) ids) h))
    (ids_stay column columns ids apart.1 (and_right (is_plain_column columns id) (list_all (is_plain_column columns) ids) h))

rules_stay : (column : ℕ) (columns : List Column) (rules : List IndexRule) → AllByRecursion (λ rule. AllByRecursion (λ id. (id == column) ≡ false) (rule_columns rule)) rules → list_all (names_plain_columns columns) rules ≡ true
    → list_all (names_plain_columns (without column columns)) rules ≡ true
rules_stay column columns [] apart h = refl
rules_stay column columns (rule ∷ rules) apart h =
    and_from (names_plain_columns (without column columns) rule) (list_all (names_plain_columns (without column columns)) rules)
    (ids_stay column columns (rule_columns rule) apart.0 (and_left (names_plain_columns columns rule) (list_all (names_plain_columns columns) rules) h))
    (rules_stay column columns rules apart.1 (and_right (names_plain_columns columns rule) (list_all (names_plain_columns columns) rules) h))

-- ---- an index that comes

found_plain : (columns : List Column) (id : ℕ) → list_any (λ c. c.id.0 == id) columns ≡ true → (elim (column_of_id columns id) [ Some column ↦ column.escrow | None ↦ false ]) ≡ false → is_plain_column columns id ≡ true
found_plain [] id h e = impossible h
found_plain (c ∷ columns) id h e = by (found_plain columns id) (c.id.0 == id) h e
  where
    by : (list_any (λ c. c.id.0 == id) columns ≡ true → (elim (column_of_id columns id) [ Some column ↦ column.escrow | None ↦ false ]) ≡ false → is_plain_column columns id ≡ true) → (b : Bool)
        → (b || list_any (λ c. c.id.0 == id) columns) ≡ true → (elim (cond b (Some c) (column_of_id columns id)) [ Some column ↦ column.escrow | None ↦ false ]) ≡ false
        → (elim (cond b (Some c) (column_of_id columns id)) [ Some column ↦ not column.escrow | None ↦ false ]) ≡ true
    by rest true g f = ap not f
    by rest false g f = rest g f

new_ids : (table : Table) (ids : List ℕ) → list_any (λ id. not (has_column table id)) ids ≡ false → list_any (is_escrow_column (schema_of table)) ids ≡ false → list_all (is_plain_column table.columns) ids ≡ true
new_ids table [] h e = refl
new_ids table (id ∷ ids) h e =
    and_from (is_plain_column table.columns id) (list_all (is_plain_column table.columns) ids)
    (found_plain table.columns id (there (has_column table id) (or_first (not (has_column table id)) (list_any (λ id. not (has_column table id)) ids) h)) (or_first (is_escrow_column (schema_of table) id) (list_any (is_escrow_column (schema_of table)) ids) e))
    (new_ids table ids (or_second (not (has_column table id)) (list_any (λ id. not (has_column table id)) ids) h) (or_second (is_escrow_column (schema_of table) id) (list_any (is_escrow_column (schema_of table)) ids) e))
  where
    there : (b : Bool) → not b ≡ false → b ≡ true
    there true g = refl
    there false g = sym g

-- ---- schema steps

abbrev IsPlain : Table → Type 0
IsPlain table = has_plain_indexes table ≡ true

plain_step : (state : DatabaseState) (label : ℕ) (made : SchemaStep) → is_none (schema_refusal state label made) ≡ true → ((id : ℕ) → IfSome (table_with_id state.tables id) IsPlain)
    → (id : ℕ) → IfSome (table_with_id (tables_after_step state.tables made) id) IsPlain
plain_step state label (step.CreateTable table name) e h id = with_last IsPlain (new_table table.0 name) refl state.tables id (h id)
plain_step state label (step.DeleteTable table) e h id = without_table IsPlain table.0 state.tables id (h id)
plain_step state label (step.AddColumn table column) e h id =
    at_table IsPlain table.0 (with_column (tagged_if_long column)) (λ t. refl) state.tables (λ t found is. plain_more (tagged_if_long column) t.columns t.indexes is) h id
plain_step state label (step.DeleteColumn table column) e h id =
    at_table IsPlain table.0 (without_column column.0) (λ t. refl) state.tables
    (λ t found is. rules_stay column.0 t.columns t.indexes (unused_by column t.indexes (at_found state label (step.DeleteColumn table column) t e found).1.0) is) h id
plain_step state label (step.CreateIndex table rule) e h id =
    at_table IsPlain table.0 (with_index rule) (λ t. refl) state.tables
    (λ t found is. let refused = at_found state label (step.CreateIndex table rule) t e found in
    all_last (names_plain_columns t.columns) t.indexes rule is (new_ids t (rule_columns rule) refused.1.1.1.1.0 refused.1.1.1.1.1.0)) h id
plain_step state label (step.DeleteIndex table index) e h id =
    at_table IsPlain table.0 (without_index index.0) (λ t. refl) state.tables
    (λ t found is. all_filtered (names_plain_columns t.columns) (λ made. not (made.id.0 == index.0)) t.indexes is) h id

plain_by_kind : (state : DatabaseState) (label : ℕ) (kind : EntryKind) → EachTwo IdsRise (applied label kind (with_next_number state)).tables → is_lawful_kind state label kind ≡ true → list_all has_plain_indexes state.tables ≡ true
    → list_all has_plain_indexes (applied label kind (with_next_number state)).tables ≡ true
plain_by_kind state label kind rise e h = by (is_schema_entry kind) refl
  where
    step_of : (k : EntryKind) → is_schema_entry k ≡ true → EachTwo IdsRise (applied label k (with_next_number state)).tables → is_lawful_kind state label k ≡ true → list_all has_plain_indexes (applied label k (with_next_number state)).tables ≡ true
    step_of (entry.Schema made) f rise e =
        all_listed has_plain_indexes (tables_after_step state.tables made) rise
        (plain_step state label made (and_right (is_live state label) _ (and_left _ _ e)) (all_found has_plain_indexes state.tables h))
    step_of _ f rise e = impossible f

    by : (b : Bool) → is_schema_entry kind ≡ b → list_all has_plain_indexes (applied label kind (with_next_number state)).tables ≡ true
    by true f = step_of kind f rise e
    by false f = tested_alike has_plain_indexes (λ t. refl) (applied label kind (with_next_number state)).tables state.tables (definitions_stay state label kind f) ∙ h

-- the tables after an entry, in order
abbrev is_next : DatabaseState → Entry → DatabaseState
is_next state made = applied made.session.0 made.kind (with_next_number state)

next_is : (state : DatabaseState) (made : Entry) → state_after state made ≡ is_next state made
unfolding state_after
next_is state made = refl

kind_of_lawful : (state : DatabaseState) (made : Entry) → is_lawful state made ≡ true → is_lawful_kind state made.session.0 made.kind ≡ true
unfolding is_lawful
kind_of_lawful state made e = and_right (has_number state.number made.kind) _ e

pub stays_plain : (state : DatabaseState) (made : Entry) → HasPlainIndexes state → is_lawful state made ≡ true → HasPlainIndexes (state_after state made)
stays_plain state made h e =
    let order = order_kept state made h.order e in
    let rise : EachTwo IdsRise (is_next state made).tables = subst (λ (s : DatabaseState). EachTwo IdsRise s.tables) (next_is state made) order.ids in
    let kind = kind_of_lawful state made e in
    record {
      order = order;
      numbers = numbers_kept state made order e h.numbers;
      plain = ap (λ (s : DatabaseState). list_all has_plain_indexes s.tables) (next_is state made) ∙ plain_by_kind state made.session.0 made.kind rise kind h.plain;
    }

-- ---- none reads a sum

no_other : (columns : List Column) (id : ℕ) → list_any (λ other. other == id) (map number_of_column columns) ≡ false → is_sum_number columns id ≡ false
no_other [] id h = refl
no_other (c ∷ columns) id h =
    ap (λ b. (c.escrow && b) || is_sum_number columns id) (or_first (c.id.0 == id) (list_any (λ other. other == id) (map number_of_column columns)) h)
    ∙ ap (λ b. b || is_sum_number columns id) (and_false c.escrow)
    ∙ no_other columns id (or_second (c.id.0 == id) (list_any (λ other. other == id) (map number_of_column columns)) h)

no_sum_there : (columns : List Column) (id : ℕ) → are_distinct (map number_of_column columns) ≡ true → is_plain_column columns id ≡ true → is_sum_number columns id ≡ false
no_sum_there [] id distinct h = refl
no_sum_there (c ∷ columns) id distinct h = by (no_sum_there columns id (and_right (not any) (are_distinct (map number_of_column columns)) distinct)) (c.id.0 == id) refl h
  where
    any : Bool
    any = list_any (λ other. other == c.id.0) (map number_of_column columns)

    by : (is_plain_column columns id ≡ true → is_sum_number columns id ≡ false) → (b : Bool) → (c.id.0 == id) ≡ b → (elim (cond b (Some c) (column_of_id columns id)) [ Some column ↦ not column.escrow | None ↦ false ]) ≡ true
        → ((c.escrow && b) || is_sum_number columns id) ≡ false
    by rest true e g =
        ap (λ b. (b && true) || is_sum_number columns id) (not-true c.escrow g)
        ∙ no_other columns id (ap (λ n. list_any (λ other. other == n) (map number_of_column columns)) (sym (eqb-true c.id.0 id e))
        ∙ not-true (list_any (λ other. other == c.id.0) (map number_of_column columns)) (and_left (not (list_any (λ other. other == c.id.0) (map number_of_column columns))) (are_distinct (map number_of_column columns)) distinct))
    by rest false e g = ap (λ b. b || is_sum_number columns id) (and_false c.escrow) ∙ rest g

none_summed : (columns : List Column) → are_distinct (map number_of_column columns) ≡ true → (ids : List ℕ) → list_all (is_plain_column columns) ids ≡ true → list_any (is_sum_number columns) ids ≡ false
none_summed columns distinct [] h = refl
none_summed columns distinct (id ∷ ids) h =
    ap (λ b. b || list_any (is_sum_number columns) ids) (no_sum_there columns id distinct (and_left (is_plain_column columns id) (list_all (is_plain_column columns) ids) h))
    ∙ none_summed columns distinct ids (and_right (is_plain_column columns id) (list_all (is_plain_column columns) ids) h)

all_plain : (tables : List Table) → have_own_numbers tables ≡ true → list_all has_plain_indexes tables ≡ true → read_no_sums tables ≡ true
all_plain [] numbers h = refl
all_plain (t ∷ tables) numbers h =
    and_from (list_all (reads_no_sum t) t.indexes) (read_no_sums tables)
    (all_stronger (names_plain_columns t.columns) (reads_no_sum t) (λ rule is. ap not (none_summed t.columns distinct (rule_columns rule) is)) t.indexes (and_left (has_plain_indexes t) (list_all has_plain_indexes tables) h))
    (all_plain tables (and_right (has_own_numbers t) (have_own_numbers tables) numbers) (and_right (has_plain_indexes t) (list_all has_plain_indexes tables) h))
  where
    distinct : are_distinct (map number_of_column t.columns) ≡ true
    distinct =
        and_right (are_in_range t.greatest && list_all (is_given_number t.greatest) t.columns) (are_distinct (map number_of_column t.columns)) (and_left (has_own_numbers t) (have_own_numbers tables) numbers)

pub plain_read_no_sums : (state : DatabaseState) → HasPlainIndexes state → read_no_sums state.tables ≡ true
plain_read_no_sums state h = all_plain state.tables h.numbers h.plain

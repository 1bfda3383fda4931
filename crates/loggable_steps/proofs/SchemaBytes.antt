-- A lawful schema step can be written.
use Rattle.std.proofs.Common.{◌≡◌, ℕ, suc, ◌+◌, ◌*◌, ◌^◌, ◌≤◌, Bool, true, false, not, ◌&&◌, ◌||◌, List, [], ◌∷◌, ◌++◌, cond, map, length, Option, Some, None, refl, sym, ap, subst, arith}
use Rattle.std.specs.Prelude.{◌==◌, nat_le, nat_lt, is_none, is_some, unwrap_or}
use Rattle.std.specs.Int.{w16, w32, to_le_bytes}
use Rattle.std.specs.List.{flat_map, list_all, list_any}
use Rattle.std.proofs.lemmas.Bool.{and_from, and_parts, eqb-true, leb-true}
use Rattle.std.proofs.lemmas.Bool.Decides.{nat_tests}
use Rattle.std.proofs.lemmas.List.{length-append}
use Rattle.common_lemmas.proofs.Options.{some_there}
use Rattle.common_lemmas.proofs.Booleans.{and_left, and_right, impossible}
use Rattle.jet_base.specs.declared.ids.TableId.{TableId}
use Rattle.jet_base.specs.declared.replies.Jet.TheVariants as jet
use Rattle.column_set.specs.declared.columns.Column.{Column}
use Rattle.column_set.specs.RecordValues.{column_of_id}
use Rattle.index_derive.specs.declared.log.EntryKind.TheVariants as entry
use Rattle.index_derive.specs.declared.rules.Condition.{Condition}
use Rattle.index_derive.specs.declared.rules.IndexRule.{IndexRule}
use Rattle.index_derive.specs.declared.rules.Segment.{Segment}
use Rattle.index_derive.specs.declared.schema_calls.SchemaStep.{SchemaStep}
use Rattle.index_derive.specs.declared.schema_calls.SchemaStep.TheVariants as step
use Rattle.index_derive.specs.Entries.{condition_columns, key_columns}
use Rattle.database_state.specs.Table.{Table, schema_of, table_with_id}
use Rattle.database_state.specs.State.{DatabaseState, levels}
use Rattle.database_state.specs.SchemaChanges.{greatest_order, has_column, is_in_use, makes_table, new_table, next_column_id, next_index_id, rule_columns, schema_refusal, step_refusals, step_table}
use Rattle.database_state.specs.Lawful.{has_next_numbers, is_name}
use Rattle.laws_versions.proofs.ChangeLemmas.Tests.{and_second}
use Rattle.laws_versions.proofs.KeyLemmas.SchemaKeys.{IsNewIndex, at_found, new_index, unrefused}
use Rattle.session_local.specs.BuiltTables.{is_unnumbered_column, is_built_rule, makes_built}
use Rattle.laws_engine.proofs.EngineLemmas.BuiltColumns.{not_numbered}
use Rattle.log_grammar.specs.EntryBytes.{column_bytes, column_fits, condition_bytes, condition_fits, index_bytes, index_fits, index_flags, name_bytes, name_fits, schema_bytes, schema_fits, segment_bytes, segment_fits}
use Rattle.loggable_steps.specs.Loggable.{schema_fits_types}
use Rattle.loggable_steps.proofs.Bookmarks.{IsLegalRule, legal_rule}
use Rattle.loggable_steps.proofs.ChangeBytes.{IsAsked, columns_of}
use Rattle.loggable_steps.proofs.RecordBytes.{AreNumbered, column_low}

-- a schema step can be written, and is short
pub record IsSpelled (made : SchemaStep) : Type 0 where
  pub fits : schema_fits made ≡ true
  pub short : length (schema_bytes made) ≤ 1000

-- ---- bytes

name_most : (name : List ℕ) → name_fits name ≡ true → length (name_bytes name) ≤ 65
name_most name h = by (length name) (leb-true (length name) 64 (and_parts (nat_le 1 (length name)) (nat_le (length name) 64) h).1)
  where
    by : (n : ℕ) → n ≤ 64 → suc n ≤ 65
    by n h = omega (arith, h)

both_most : (xs ys : List ℕ) (m n : ℕ) → length xs ≤ m → length ys ≤ n → length (xs ++ ys) ≤ m + n
both_most xs ys m n h g = omega (arith, h, g, length-append xs ys)

segments_size : (segments : List Segment) → length (flat_map segment_bytes segments) ≡ 3 * length segments
segments_size [] = refl
segments_size (s ∷ segments) = omega (arith, segments_size segments, length-append (segment_bytes s) (flat_map segment_bytes segments))

conditions_size : (conditions : List Condition) → length (flat_map condition_bytes conditions) ≡ 3 * length conditions
conditions_size [] = refl
conditions_size (c ∷ conditions) = omega (arith, conditions_size conditions, length-append (condition_bytes c) (flat_map condition_bytes conditions))

index_most : (index : IndexRule) → length index.segments ≤ 12 → length index.conditions ≤ 12 → name_fits index.name ≡ true → length (index_bytes index) ≤ 149
unfolding index_bytes
index_most index few few_conditions name =
    let numbers = to_le_bytes w32 0 ++ (to_le_bytes w32 index.order ++ to_le_bytes w16 (index_flags index.flags)) in
    let segments : List ℕ = length index.segments ∷ flat_map segment_bytes index.segments in
    let conditions : List ℕ = length index.conditions ∷ flat_map condition_bytes index.conditions in
    both_most numbers (segments ++ (conditions ++ name_bytes index.name)) 10 (37 + (37 + 65)) (omega arith)
    (both_most segments (conditions ++ name_bytes index.name) 37 (37 + 65) (counted (length (flat_map segment_bytes index.segments)) (length index.segments) (segments_size index.segments) few)
    (both_most conditions (name_bytes index.name) 37 65 (counted (length (flat_map condition_bytes index.conditions)) (length index.conditions) (conditions_size index.conditions) few_conditions) (name_most index.name name)))
  where
    counted : (b n : ℕ) → b ≡ 3 * n → n ≤ 12 → suc b ≤ 37
    counted b n e h = omega (arith, e, h)

-- ---- the table of a step

pub table_there : (state : DatabaseState) (session : ℕ) (made : SchemaStep) → is_none (schema_refusal state session made) ≡ true → makes_table made ≡ false → is_some (step_table state.tables made) ≡ true
unfolding schema_refusal
table_there state session made free other =
    let refused = unrefused
    ((not (levels state session == 0), jet.InTransaction) ∷ (not (makes_table made) && is_none (step_table state.tables made), jet.ObjectNotFound) ∷ (is_in_use state session (step_table state.tables made), jet.TableInUse)
    ∷ step_refusals state (unwrap_or (step_table state.tables made) (new_table 0 [])) made) free in
    some_there (step_table state.tables made) (and_second (not (makes_table made)) (is_none (step_table state.tables made)) (ap not other) refused.1.0)

-- ---- an index

column_found : (columns : List Column) (id : ℕ) → list_any (λ c. c.id.0 == id) columns ≡ true → is_some (column_of_id columns id) ≡ true
column_found [] id h = h
column_found (c ∷ columns) id h = elim (c.id.0 == id) as (λ b. (b || list_any (λ d. d.id.0 == id) columns) ≡ true → is_some (cond b (Some c) (column_of_id columns id)) ≡ true) [
  | true ↦ λ g. refl
  | false ↦ λ g. column_found columns id g
] h

id_low : (table : Table) (id : ℕ) → AreNumbered table.greatest table.columns → has_column table id ≡ true → nat_lt id (2 ^ 16) ≡ true
id_low table id are there = by (column_of_id table.columns id) refl (column_found table.columns id there)
  where
    by : (o : Option Column) → column_of_id table.columns id ≡ o → is_some o ≡ true → nat_lt id (2 ^ 16) ≡ true
    by None e h = impossible h
    by (Some c) e h = column_low table.greatest table.columns id c are e

all_parts : {X : Type 0} (p : X → Bool) (xs ys : List X) → list_all p (xs ++ ys) ≡ true → (list_all p xs ≡ true) × (list_all p ys ≡ true)
all_parts p [] ys h = (refl, h)
all_parts p (x ∷ xs) ys h =
    let both = and_parts (p x) (list_all p (xs ++ ys)) h in
    let rest = all_parts p xs ys both.1 in
    (and_from (p x) (list_all p xs) both.0 rest.0, rest.1)

segments_fit : (table : Table) → AreNumbered table.greatest table.columns → (segments : List Segment) → list_all (has_column table) (map (λ segment. segment.column.0) segments) ≡ true → list_all segment_fits segments ≡ true
segments_fit table are [] h = refl
segments_fit table are (s ∷ segments) h =
    let both = and_parts (has_column table s.column.0) (list_all (has_column table) (map (λ segment. segment.column.0) segments)) h in
    and_from (segment_fits s) (list_all segment_fits segments) (id_low table s.column.0 are both.0) (segments_fit table are segments both.1)

conditions_fit : (table : Table) → AreNumbered table.greatest table.columns → (conditions : List Condition) → list_all (has_column table) (map (λ condition. condition.column.0) conditions) ≡ true → list_all condition_fits conditions ≡ true
conditions_fit table are [] h = refl
conditions_fit table are (c ∷ conditions) h =
    let both = and_parts (has_column table c.column.0) (list_all (has_column table) (map (λ condition. condition.column.0) conditions)) h in
    and_from (condition_fits c) (list_all condition_fits conditions) (id_low table c.column.0 are both.0) (conditions_fit table are conditions both.1)

few_bytes : (n : ℕ) → nat_le n 12 ≡ true → nat_lt n 256 ≡ true
few_bytes n h = grind (arith, nat_tests)

very_most : (n : ℕ) → nat_le 255 n ≡ true → nat_le n 255 ≡ true → (n == 255) ≡ true
very_most n h g = grind (arith, nat_tests)

-- what is known of a new index
record IsNew (table : Table) (index : IndexRule) : Type 0 where
  legal : IsLegalRule index (schema_of table)
  columns : list_all (has_column table) (rule_columns index) ≡ true
  are : AreNumbered table.greatest table.columns
  name : is_name index.name ≡ true
  built : is_built_rule index ≡ true

new_fits : (table : Table) (index : IndexRule) → IsNew table index → nat_lt index.id.0 (2 ^ 16) ≡ true → nat_lt index.order (2 ^ 32) ≡ true → index_fits index ≡ true
new_fits table index new low order =
    let both = all_parts (has_column table) (key_columns index) (condition_columns index) new.columns in
    let segments = nat_lt (length index.segments) 256 && list_all segment_fits index.segments in
    let conditions = nat_lt (length index.conditions) 256 && list_all condition_fits index.conditions in
    let last = name_fits index.name && (index.key_most == 255) in
    and_from (nat_lt index.id.0 (2 ^ 16)) (nat_lt index.order (2 ^ 32) && (segments && (conditions && last))) low
    (and_from (nat_lt index.order (2 ^ 32)) (segments && (conditions && last)) order
    (and_from segments (conditions && last) (and_from (nat_lt (length index.segments) 256) (list_all segment_fits index.segments) (few_bytes (length index.segments) new.legal.few) (segments_fit table new.are index.segments both.0))
    (and_from conditions last (and_from (nat_lt (length index.conditions) 256) (list_all condition_fits index.conditions) (few_bytes (length index.conditions) new.legal.few_conditions) (conditions_fit table new.are index.conditions both.1))
    (and_from (name_fits index.name) (index.key_most == 255) new.name (very_most index.key_most new.legal.least new.built)))))

-- ---- all steps

table_only : (table : TableId) → nat_lt table.0 (2 ^ 32) ≡ true → IsSpelled (step.DeleteTable table)
table_only table low = record { fits = low; short = omega arith }

name_spelled : (table : TableId) (name : List ℕ) → nat_lt table.0 (2 ^ 32) ≡ true → is_name name ≡ true → IsSpelled (step.CreateTable table name)
name_spelled table name low h = record {
  fits = and_from (nat_lt table.0 (2 ^ 32)) (name_fits name) low h;
  short = more (length (to_le_bytes w32 table.0 ++ name_bytes name)) (both_most (to_le_bytes w32 table.0) (name_bytes name) 4 65 (omega arith) (name_most name h));
}
  where
    more : (n : ℕ) → n ≤ 4 + 65 → n ≤ 1000
    more n h = omega (arith, h)

neither : (a b : Bool) → (a || b) ≡ false → (not a && not b) ≡ true
neither true b h = impossible (sym h)
neither false b h = ap not h

column_spelled : (table : TableId) (column : Column) → nat_lt table.0 (2 ^ 32) ≡ true → nat_lt column.id.0 (2 ^ 16) ≡ true → is_name column.name ≡ true → is_unnumbered_column column ≡ true → IsSpelled (step.AddColumn table column)
column_spelled table column low numbered named built =
    let plain : (not column.version && not column.auto) ≡ true = neither column.version column.auto (not_numbered column built) in
    let whole : column_fits column ≡ true = and_from (nat_lt column.id.0 (2 ^ 16)) (name_fits column.name && (not column.version && not column.auto)) numbered (and_from (name_fits column.name) (not column.version && not column.auto) named plain) in
    record {
      fits = and_from (nat_lt table.0 (2 ^ 32)) (column_fits column) low whole;
      short = more (length (to_le_bytes w32 table.0 ++ (to_le_bytes w16 column.id.0 ++ column_bytes column)))
          (both_most (to_le_bytes w32 table.0) (to_le_bytes w16 column.id.0 ++ column_bytes column) 4 (2 + 67) (omega arith) (both_most (to_le_bytes w16 column.id.0) (column_bytes column) 2 67 (omega arith) (two_more (length (name_bytes column.name)) (name_most column.name named))));
    }
  where
    two_more : (n : ℕ) → n ≤ 65 → suc (suc n) ≤ 67
    two_more n h = omega (arith, h)

    more : (n : ℕ) → n ≤ 4 + (2 + 67) → n ≤ 1000
    more n h = omega (arith, h)

index_spelled : (table : TableId) (t : Table) (index : IndexRule) → nat_lt table.0 (2 ^ 32) ≡ true → nat_lt index.id.0 (2 ^ 16) ≡ true → nat_lt index.order (2 ^ 32) ≡ true → IsNew t index → IsSpelled (step.CreateIndex table index)
index_spelled table t index low numbered order new = record {
  fits = and_from (nat_lt table.0 (2 ^ 32)) (index_fits index) low (new_fits t index new numbered order);
  short = more (length (to_le_bytes w32 table.0 ++ (to_le_bytes w16 index.id.0 ++ index_bytes index)))
      (both_most (to_le_bytes w32 table.0) (to_le_bytes w16 index.id.0 ++ index_bytes index) 4 (2 + 149) (omega arith)
      (both_most (to_le_bytes w16 index.id.0) (index_bytes index) 2 149 (omega arith) (index_most index (leb-true (length index.segments) 12 new.legal.few) (leb-true (length index.conditions) 12 new.legal.few_conditions) new.name)));
}
  where
    more : (n : ℕ) → n ≤ 4 + (2 + 149) → n ≤ 1000
    more n h = omega (arith, h)

pub schema_spelled : (state : DatabaseState) → IsAsked state → (session : ℕ) (made : SchemaStep) → is_none (schema_refusal state session made) ≡ true → has_next_numbers state made ≡ true → makes_built (entry.Schema made) ≡ true → schema_fits_types made ≡ true → IsSpelled made
schema_spelled state asked session (step.CreateTable table name) free next built sized = name_spelled table name sized (and_right (table.0 == (state.greatest_table + 1)) (is_name name) next)
schema_spelled state asked session (step.DeleteTable table) free next built sized = table_only table sized
schema_spelled state asked session (step.AddColumn table column) free next built sized =
    let both = and_parts (nat_lt table.0 (2 ^ 32)) (nat_lt column.id.0 (2 ^ 16)) sized in
    column_spelled table column both.0 both.1 (and_right (column.id.0 == next_column_id (unwrap_or (table_with_id state.tables table.0) (new_table 0 [])).greatest column.kind column.tagged) (is_name column.name) next) built
schema_spelled state asked session (step.DeleteColumn table column) free next built sized =
    let both = and_parts (nat_lt table.0 (2 ^ 32)) (nat_lt column.0 (2 ^ 16)) sized in
    record { fits = and_from (nat_lt table.0 (2 ^ 32)) (nat_lt column.0 (2 ^ 16)) both.0 both.1; short = omega arith }
schema_spelled state asked session (step.CreateIndex table rule) free next built sized =
    let both = and_parts (nat_lt table.0 (2 ^ 32) && nat_lt rule.id.0 (2 ^ 16)) (nat_lt rule.order (2 ^ 32)) sized in
    let ids = and_parts (nat_lt table.0 (2 ^ 32)) (nat_lt rule.id.0 (2 ^ 16)) both.0 in
    by (table_with_id state.tables table.0) refl (table_there state session (step.CreateIndex table rule) free refl) ids.0 ids.1 both.1
  where
    has_numbers : Table → Bool
    has_numbers t = (rule.id.0 == next_index_id t.indexes) && (rule.order == (greatest_order t.indexes + 1)) && is_name rule.name

    numbers : (t : Table) → table_with_id state.tables table.0 ≡ Some t → has_numbers t ≡ true
    numbers t found = subst (λ (o : Option Table). has_numbers (unwrap_or o (new_table 0 [])) ≡ true) found next

    new : (t : Table) → table_with_id state.tables table.0 ≡ Some t → IsNew t rule
    new t found =
        let named = numbers t found in
        let is : IsNewIndex t rule = new_index state table rule t (at_found state session (step.CreateIndex table rule) t free found) (eqb-true rule.id.0 (next_index_id t.indexes) (and_left _ _ (and_left _ _ named))) in
        record {
          legal = legal_rule rule (schema_of t) is.legal;
          columns = is.columns;
          are = columns_of asked.base asked.dropped asked.kept state asked.reached table.0 t found;
          name = and_right ((rule.id.0 == next_index_id t.indexes) && (rule.order == (greatest_order t.indexes + 1))) (is_name rule.name) named;
          built = built;
        }

    by : (o : Option Table) → table_with_id state.tables table.0 ≡ o → is_some o ≡ true → nat_lt table.0 (2 ^ 32) ≡ true → nat_lt rule.id.0 (2 ^ 16) ≡ true → nat_lt rule.order (2 ^ 32) ≡ true → IsSpelled (step.CreateIndex table rule)
    by None e h low numbered order = impossible h
    by (Some t) e h low numbered order = index_spelled table t rule low numbered order (new t e)
schema_spelled state asked session (step.DeleteIndex table index) free next built sized =
    let both = and_parts (nat_lt table.0 (2 ^ 32)) (nat_lt index.0 (2 ^ 16)) sized in
    record { fits = and_from (nat_lt table.0 (2 ^ 32)) (nat_lt index.0 (2 ^ 16)) both.0 both.1; short = omega arith }

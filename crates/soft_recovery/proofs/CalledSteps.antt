-- A step that carries the next free numbers is the step of the call that names what it names.
use Rattle.std.proofs.Common.{◌≡◌, ℕ, ◌+◌, Bool, true, false, cond, ◌&&◌, ◌||◌, List, [], ◌∷◌, ◌++◌, map, Option, Some, None, refl, sym, ap, subst, ◌∙◌, option_map, unwrap_or, arith}
use Rattle.std.specs.Prelude.{◌==◌, IfSome, find, not, option_and_then}
use Rattle.std.specs.List.{list_any}
use Rattle.std.proofs.lemmas.Bool.Decides.{nat_tests}
use Rattle.common_lemmas.proofs.Booleans.{and_left, and_right}
use Rattle.common_lemmas.proofs.Found.{found_passes}
use Rattle.jet_base.specs.declared.ids.ColumnId.{ColumnId}
use Rattle.jet_base.specs.declared.ids.IndexId.{IndexId}
use Rattle.jet_base.specs.declared.ids.TableId.{TableId}
use Rattle.jet_base.specs.declared.words.ColType.{ColType}
use Rattle.jet_base.specs.TypeKinds.{is_long_type}
use Rattle.column_set.specs.declared.columns.Column.{Column}
use Rattle.column_set.specs.RecordValues.{column_of_id, tagged_if_long}
use Rattle.index_derive.specs.declared.rules.Condition.{Condition}
use Rattle.index_derive.specs.declared.rules.IndexRule.{IndexRule}
use Rattle.index_derive.specs.declared.rules.Segment.{Segment}
use Rattle.index_derive.specs.declared.schema_calls.NamedCondition.{NamedCondition}
use Rattle.index_derive.specs.declared.schema_calls.NamedSegment.{NamedSegment}
use Rattle.index_derive.specs.declared.schema_calls.SchemaCall.{SchemaCall}
use Rattle.index_derive.specs.declared.schema_calls.SchemaCall.TheVariants as call
use Rattle.index_derive.specs.declared.schema_calls.SchemaStep.{SchemaStep}
use Rattle.index_derive.specs.declared.schema_calls.SchemaStep.TheVariants as step
use Rattle.database_state.specs.Lawful.{has_next_numbers, is_name}
use Rattle.database_state.specs.SchemaChanges.{greatest_order, has_column, new_table, next_column_id, next_index_id}
use Rattle.database_state.specs.SchemaSteps.{asked_column, asked_index, column_id_named, condition_of, index_id_named, segment_of, step_of_call}
use Rattle.database_state.specs.State.{DatabaseState}
use Rattle.database_state.specs.Table.{GreatestColumns, Table, table_named, table_with_id}
use Rattle.laws_versions.specs.History.{EachTwo}
use Rattle.laws_images.specs.SoundStates.{ColumnNamesDiffer}
use Rattle.soft_recovery.specs.LawfulSteps.{HasOwnParts, HaveOwnNames, as_asked, call_of, column_call, column_name, deleted_column_call, deleted_index_call, deleted_table_call, flags_of, index_call, lacks_column, named_condition, named_segment}
use Rattle.soft_recovery.proofs.OwnNames.{found_by_name}

same_number : (a b : ℕ) → (a == b) ≡ true → a ≡ b
same_number a b h = grind (arith, nat_tests)

-- ---- the table

-- the call names the table that has the step's number
pub named_table : (tables : List Table) (id : ℕ) (t : Table) → HaveOwnNames tables → table_with_id tables id ≡ Some t → table_named tables t.name ≡ Some t
named_table tables id t own e = found_by_name (λ (t : Table). t.name) (λ (t : Table). t.id == id) tables t own.names e

pub numbered_table : (tables : List Table) (id : ℕ) (t : Table) → table_with_id tables id ≡ Some t → t.id ≡ id
numbered_table tables id t e = same_number t.id id (found_passes (λ (t : Table). t.id == id) tables t e)

own_parts : (tables : List Table) (id : ℕ) (t : Table) → HaveOwnNames tables → table_with_id tables id ≡ Some t → HasOwnParts t
own_parts tables id t own e = subst (λ (found : Option Table). IfSome found HasOwnParts) e (own.parts id)

-- what a call asks for is asked of the table that the step has by its number
on_table : {X : Type 0} (f : Table → X) (tables : List Table) (id : ℕ) (t : Table) → HaveOwnNames tables → table_with_id tables id ≡ Some t → f (unwrap_or (table_named tables t.name) (new_table 0 [])) ≡ f t
on_table f tables id t own e = ap (λ (found : Option Table). f (unwrap_or found (new_table 0 []))) (named_table tables id t own e)

-- a step with the table's number
with_number : (made : TableId → SchemaStep) (tables : List Table) (table : TableId) (t : Table) → table_with_id tables table.0 ≡ Some t → made (record { 0 = t.id }) ≡ made table
with_number made tables table t e = ap (λ n. made (record { 0 = n })) (numbered_table tables table.0 t e)

-- ---- columns

pub or_again : (a b : Bool) → ((a || b) || b) ≡ (a || b)
or_again true b = refl
or_again false true = refl
or_again false false = refl

-- a long column has the number of a tagged one
pub number-tagged : (greatest : GreatestColumns) (kind : ColType) (tagged : Bool) → next_column_id greatest kind (tagged || is_long_type kind) ≡ next_column_id greatest kind tagged
number-tagged greatest kind true = refl
number-tagged greatest kind false = by (is_long_type kind) refl
  where
    by : (b : Bool) → is_long_type kind ≡ b → next_column_id greatest kind (false || is_long_type kind) ≡ next_column_id greatest kind false
    by true e = rw e refl
    by false e = rw e refl

-- the column that the call asks for, with this number
abbrev column_numbered : Column → ℕ → Column
column_numbered column n = record (tagged_if_long column) { id = record { 0 = n } }

column-again : (t : Table) (column : Column) → (column.id.0 == next_column_id t.greatest column.kind column.tagged) ≡ true → asked_column t column.name column.kind (flags_of column) ≡ tagged_if_long column
column-again t column next =
    ap (column_numbered column) (number-tagged t.greatest column.kind column.tagged ∙ sym (same_number column.id.0 (next_column_id t.greatest column.kind column.tagged) next))

pub none_any : {X : Type 0} (p : X → Bool) (xs : List X) → find p xs ≡ None → list_any p xs ≡ false
none_any p [] e = refl
none_any {X} p (x ∷ xs) e = by (p x) e (none_any p xs)
  where
    by : (b : Bool) → cond b (Some x) (find p xs) ≡ None → (find p xs ≡ None → list_any p xs ≡ false) → (b || list_any p xs) ≡ false
    by true e rest = cc
    by false e rest = rest e

-- a column that is there has the number of its name
named-again : (columns : List Column) (id : ℕ) (c : Column) → EachTwo ColumnNamesDiffer columns → column_of_id columns id ≡ Some c → column_id_named columns c.name ≡ id
named-again columns id c differ e =
    ap (λ (found : Option Column). unwrap_or (option_map (λ (c : Column). c.id.0) found) 0) (found_by_name (λ (c : Column). c.name) (λ (c : Column). c.id.0 == id) columns c differ e)
    ∙ same_number c.id.0 id (found_passes (λ (c : Column). c.id.0 == id) columns c e)

column_id-again : (columns : List Column) (column : ColumnId) → EachTwo ColumnNamesDiffer columns → list_any (λ c. c.id.0 == column.0) columns ≡ true → column_id_named columns (column_name columns column) ≡ column.0
column_id-again columns column differ there = by (column_of_id columns column.0) refl
  where
    by : (found : Option Column) → column_of_id columns column.0 ≡ found → column_id_named columns (column_name columns column) ≡ column.0
    by (Some c) e = ap (λ (found : Option Column). column_id_named columns (unwrap_or (option_map (λ (c : Column). c.name) found) [])) e ∙ named-again columns column.0 c differ e
    by None e = let gone : true ≡ false = sym there ∙ none_any (λ (c : Column). c.id.0 == column.0) columns e in cc

-- ---- key columns and conditions

any_front : {X : Type 0} (p : X → Bool) (xs ys : List X) → list_any p (xs ++ ys) ≡ false → list_any p xs ≡ false
any_front p [] ys e = refl
any_front p (x ∷ xs) ys e = by (p x) e (any_front p xs ys)
  where
    by : (b : Bool) → (b || list_any p (xs ++ ys)) ≡ false → (list_any p (xs ++ ys) ≡ false → list_any p xs ≡ false) → (b || list_any p xs) ≡ false
    by true e rest = e
    by false e rest = rest e

any_back : {X : Type 0} (p : X → Bool) (xs ys : List X) → list_any p (xs ++ ys) ≡ false → list_any p ys ≡ false
any_back p [] ys e = e
any_back p (x ∷ xs) ys e = by (p x) e (any_back p xs ys)
  where
    by : (b : Bool) → (b || list_any p (xs ++ ys)) ≡ false → (list_any p (xs ++ ys) ≡ false → list_any p ys ≡ false) → list_any p ys ≡ false
    by true e rest = cc
    by false e rest = rest e

neither : (a b : Bool) → (not a || b) ≡ false → (a ≡ true) × (b ≡ false)
neither true b e = (refl, e)
neither false b e = cc

segments-again : (t : Table) (segments : List Segment) → EachTwo ColumnNamesDiffer t.columns → list_any (λ id. not (has_column t id)) (map (λ segment. segment.column.0) segments) ≡ false
    → map (segment_of t.columns) (map (named_segment t.columns) segments) ≡ segments
segments-again t [] differ e = refl
segments-again t (s ∷ segments) differ e =
    let there = neither (has_column t s.column.0) (list_any (λ id. not (has_column t id)) (map (λ (segment : Segment). segment.column.0) segments)) e in
    let first : segment_of t.columns (named_segment t.columns s) ≡ s = ap (λ n. record { column = record { 0 = n }; descending = s.descending }) (column_id-again t.columns s.column differ there.0) in
    ap (λ (head : Segment). head ∷ map (segment_of t.columns) (map (named_segment t.columns) segments)) first ∙ ap (λ (rest : List Segment). s ∷ rest) (segments-again t segments differ there.1)

conditions-again : (t : Table) (conditions : List Condition) → EachTwo ColumnNamesDiffer t.columns → list_any (λ id. not (has_column t id)) (map (λ condition. condition.column.0) conditions) ≡ false
    → map (condition_of t.columns) (map (named_condition t.columns) conditions) ≡ conditions
conditions-again t [] differ e = refl
conditions-again t (s ∷ conditions) differ e =
    let there = neither (has_column t s.column.0) (list_any (λ id. not (has_column t id)) (map (λ (condition : Condition). condition.column.0) conditions)) e in
    let first : condition_of t.columns (named_condition t.columns s) ≡ s = ap (λ n. record { column = record { 0 = n }; must_be_null = s.must_be_null }) (column_id-again t.columns s.column differ there.0) in
    ap (λ (head : Condition). head ∷ map (condition_of t.columns) (map (named_condition t.columns) conditions)) first ∙ ap (λ (rest : List Condition). s ∷ rest) (conditions-again t conditions differ there.1)

-- the rule of this number and order, with these key columns and conditions
abbrev rule_by : IndexRule → ℕ → ℕ → List Segment → List Condition → IndexRule
rule_by rule id order segments conditions = record rule { id = record { 0 = id }; order = order; segments = segments; conditions = conditions }

rule-again : (t : Table) (rule : IndexRule) → HasOwnParts t → lacks_column t rule ≡ false → (rule.id.0 == next_index_id t.indexes) ≡ true → (rule.order == (greatest_order t.indexes + 1)) ≡ true
    → asked_index t rule.name rule.flags rule.key_most (map (named_segment t.columns) rule.segments) (map (named_condition t.columns) rule.conditions) ≡ rule
rule-again t rule own there id order =
    let keys : List ℕ = map (λ (segment : Segment). segment.column.0) rule.segments in
    let conditions : List ℕ = map (λ (condition : Condition). condition.column.0) rule.conditions in
    let segments_named : List Segment = map (segment_of t.columns) (map (named_segment t.columns) rule.segments) in
    let conditions_named : List Condition = map (condition_of t.columns) (map (named_condition t.columns) rule.conditions) in
    ap (λ n. rule_by rule n (greatest_order t.indexes + 1) segments_named conditions_named) (sym (same_number rule.id.0 (next_index_id t.indexes) id))
    ∙ ap (λ n. rule_by rule rule.id.0 n segments_named conditions_named) (sym (same_number rule.order (greatest_order t.indexes + 1) order))
    ∙ ap (λ (s : List Segment). rule_by rule rule.id.0 rule.order s conditions_named) (segments-again t rule.segments own.columns (any_front (λ id. not (has_column t id)) keys conditions there))
    ∙ ap (λ (c : List Condition). rule_by rule rule.id.0 rule.order rule.segments c) (conditions-again t rule.conditions own.columns (any_back (λ id. not (has_column t id)) keys conditions there))

-- ---- steps

abbrev IsStepOf : DatabaseState → SchemaStep → Option SchemaCall → Type 0
IsStepOf state made called = IfSome called (λ called. step_of_call state called ≡ as_asked made)

deleted_table-again : (state : DatabaseState) (table : TableId) → HaveOwnNames state.tables → (found : Option Table) → table_with_id state.tables table.0 ≡ found → IsStepOf state (step.DeleteTable table) (option_map deleted_table_call found)
deleted_table-again state table own None e = tt
deleted_table-again state table own (Some t) e =
    on_table (λ t. step.DeleteTable (record { 0 = t.id })) state.tables table.0 t own e ∙ with_number (λ table. step.DeleteTable table) state.tables table t e

added_column-again : (state : DatabaseState) (table : TableId) (column : Column) → HaveOwnNames state.tables → (found : Option Table) → table_with_id state.tables table.0 ≡ found
    → (column.id.0 == next_column_id (unwrap_or found (new_table 0 [])).greatest column.kind column.tagged) ≡ true → IsStepOf state (step.AddColumn table column) (option_map (λ t. column_call t column) found)
added_column-again state table column own None e next = tt
added_column-again state table column own (Some t) e next =
    on_table (λ t. step.AddColumn (record { 0 = t.id }) (asked_column t column.name column.kind (flags_of column))) state.tables table.0 t own e
    ∙ ap (λ (c : Column). step.AddColumn (record { 0 = t.id }) c) (column-again t column next)
    ∙ with_number (λ table. step.AddColumn table (tagged_if_long column)) state.tables table t e

deleted_column-again : (state : DatabaseState) (table : TableId) (column : ColumnId) → HaveOwnNames state.tables → (found : Option Table) → table_with_id state.tables table.0 ≡ found
    → IsStepOf state (step.DeleteColumn table column) (option_and_then (λ t. deleted_column_call t column) found)
deleted_column-again state table column own None e = tt
deleted_column-again state table column own (Some t) e = by (column_of_id t.columns column.0) refl
  where
    by : (part : Option Column) → column_of_id t.columns column.0 ≡ part → IsStepOf state (step.DeleteColumn table column) (option_map (λ (c : Column). call.DeleteColumn t.name c.name) part)
    by None there = tt
    by (Some c) there =
        on_table (λ t. step.DeleteColumn (record { 0 = t.id }) (record { 0 = column_id_named t.columns c.name })) state.tables table.0 t own e
        ∙ ap (λ n. step.DeleteColumn (record { 0 = t.id }) (record { 0 = n })) (named-again t.columns column.0 c (own_parts state.tables table.0 t own e).columns there)
        ∙ with_number (λ table. step.DeleteColumn table column) state.tables table t e

added_index-again : (state : DatabaseState) (table : TableId) (rule : IndexRule) → HaveOwnNames state.tables → (found : Option Table) → table_with_id state.tables table.0 ≡ found
    → (rule.id.0 == next_index_id (unwrap_or found (new_table 0 [])).indexes) ≡ true → (rule.order == (greatest_order (unwrap_or found (new_table 0 [])).indexes + 1)) ≡ true
    → IsStepOf state (step.CreateIndex table rule) (option_and_then (λ t. index_call t rule) found)
added_index-again state table rule own None e id order = tt
added_index-again state table rule own (Some t) e id order = by (lacks_column t rule) refl
  where
    segments : List NamedSegment
    segments = map (named_segment t.columns) rule.segments

    conditions : List NamedCondition
    conditions = map (named_condition t.columns) rule.conditions

    by : (b : Bool) → lacks_column t rule ≡ b → IsStepOf state (step.CreateIndex table rule) (cond b None (Some (call.CreateIndex t.name rule.name rule.flags rule.key_most segments conditions)))
    by true there = tt
    by false there =
        on_table (λ t. step.CreateIndex (record { 0 = t.id }) (asked_index t rule.name rule.flags rule.key_most segments conditions)) state.tables table.0 t own e
        ∙ ap (λ (r : IndexRule). step.CreateIndex (record { 0 = t.id }) r) (rule-again t rule (own_parts state.tables table.0 t own e) there id order)
        ∙ with_number (λ table. step.CreateIndex table rule) state.tables table t e

deleted_index-again : (state : DatabaseState) (table : TableId) (index : IndexId) → HaveOwnNames state.tables → (found : Option Table) → table_with_id state.tables table.0 ≡ found
    → IsStepOf state (step.DeleteIndex table index) (option_and_then (λ t. deleted_index_call t index) found)
deleted_index-again state table index own None e = tt
deleted_index-again state table index own (Some t) e = by (find (λ (r : IndexRule). r.id.0 == index.0) t.indexes) refl
  where
    by : (part : Option IndexRule) → find (λ (r : IndexRule). r.id.0 == index.0) t.indexes ≡ part → IsStepOf state (step.DeleteIndex table index) (option_map (λ (r : IndexRule). call.DeleteIndex t.name r.name) part)
    by None there = tt
    by (Some r) there =
        on_table (λ t. step.DeleteIndex (record { 0 = t.id }) (record { 0 = index_id_named t.indexes r.name })) state.tables table.0 t own e
        ∙ ap (λ (part : Option IndexRule). step.DeleteIndex (record { 0 = t.id }) (record { 0 = unwrap_or (option_map (λ (r : IndexRule). r.id.0) part) 0 }))
        (found_by_name (λ (r : IndexRule). r.name) (λ (r : IndexRule). r.id.0 == index.0) t.indexes r (own_parts state.tables table.0 t own e).indexes there)
        ∙ ap (λ n. step.DeleteIndex (record { 0 = t.id }) (record { 0 = n })) (same_number r.id.0 index.0 (found_passes (λ (r : IndexRule). r.id.0 == index.0) t.indexes r there))
        ∙ with_number (λ table. step.DeleteIndex table index) state.tables table t e

pub step-again : (state : DatabaseState) (made : SchemaStep) → HaveOwnNames state.tables → has_next_numbers state made ≡ true → IsStepOf state made (call_of state.tables made)
step-again state (step.CreateTable table name) own next =
    ap (λ n. step.CreateTable (record { 0 = n }) name) (sym (same_number table.0 (state.greatest_table + 1) (and_left (table.0 == (state.greatest_table + 1)) (is_name name) next)))
step-again state (step.DeleteTable table) own next = deleted_table-again state table own (table_with_id state.tables table.0) refl
step-again state (step.AddColumn table column) own next = added_column-again state table column own (table_with_id state.tables table.0) refl (and_left _ (is_name column.name) next)
step-again state (step.DeleteColumn table column) own next = deleted_column-again state table column own (table_with_id state.tables table.0) refl
step-again state (step.CreateIndex table rule) own next =
    let t : Table = unwrap_or (table_with_id state.tables table.0) (new_table 0 []) in
    let numbers : ((rule.id.0 == next_index_id t.indexes) && (rule.order == (greatest_order t.indexes + 1))) ≡ true = and_left _ (is_name rule.name) next in
    added_index-again state table rule own (table_with_id state.tables table.0) refl (and_left _ _ numbers) (and_right (rule.id.0 == next_index_id t.indexes) _ numbers)
step-again state (step.DeleteIndex table index) own next = deleted_index-again state table index own (table_with_id state.tables table.0) refl

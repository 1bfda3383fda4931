-- A step may come next exactly where the call that names what it names asks for it, and nothing refuses the call.
use Rattle.std.proofs.Common.{◌≡◌, ℕ, ◌+◌, Bool, true, false, cond, ◌&&◌, ◌||◌, List, [], ◌∷◌, ◌++◌, length, map, Option, Some, None, Result, Ok, Err, refl, sym, ap, subst, ◌∙◌, option_map, unwrap_or}
use Rattle.std.specs.Prelude.{◌==◌, ◌↔◌, IfOk, IfSome, IsTrue, bytes_eq, find, is_none, nat_le, not}
use Rattle.std.specs.List.{list_any}
use Rattle.common_lemmas.proofs.Booleans.{and_false, and_left, and_right, same_tests}
use Rattle.common_lemmas.proofs.Options.{none_some, same_some}
use Rattle.jet_base.specs.declared.memory.OutOfMemory.{OutOfMemory}
use Rattle.jet_base.specs.declared.replies.Jet.{Jet}
use Rattle.jet_base.specs.declared.replies.Jet.TheVariants as jet
use Rattle.jet_base.specs.declared.words.ColType.{ColType}
use Rattle.jet_base.specs.declared.words.ColType.TheVariants as kind
use Rattle.jet_base.specs.TypeKinds.{is_long_type}
use Rattle.column_set.specs.declared.columns.Column.{Column}
use Rattle.column_set.specs.RecordValues.{column_of_id, tagged_if_long}
use Rattle.column_set.specs.Refusals.{Refusals, first_refusal}
use Rattle.index_derive.specs.declared.log.EntryKind.TheVariants as entry
use Rattle.index_derive.specs.declared.rules.IndexRule.{IndexRule}
use Rattle.index_derive.specs.declared.schema_calls.SchemaCall.{SchemaCall}
use Rattle.index_derive.specs.declared.schema_calls.SchemaCall.TheVariants as call
use Rattle.index_derive.specs.declared.schema_calls.SchemaStep.{SchemaStep}
use Rattle.index_derive.specs.declared.schema_calls.SchemaStep.TheVariants as step
use Rattle.index_derive.specs.Entries.{column_is_used, is_escrow_column, is_legal}
use Rattle.database_state.specs.Lawful.{has_next_numbers, is_name}
use Rattle.database_state.specs.SchemaChanges.{column_refusals, greatest_order, has_column, has_column_id, has_records, is_in_use, is_type_long, makes_table, new_table, next_column_id, record_refusals, rule_columns, schema_refusal, step_refusals, step_table}
use Rattle.database_state.specs.SchemaSteps.{step_of_call}
use Rattle.database_state.specs.State.{DatabaseState, levels}
use Rattle.database_state.specs.Table.{GreatestColumns, Table, primary_first, schema_of, table_named, table_with_id}
use Rattle.session_local.specs.BuiltTables.{makes_built}
use Rattle.jet_catalog.specs.Catalog.{CatalogState, IsNumbered, catalog_of, without_rows}
use Rattle.jet_catalog.specs.Decisions.{makes_named as makes_named_call, refused_or}
use Rattle.stored_variants.specs.StoredVersions.{StoredVersions}
use Rattle.laws_engine.specs.EngineState.{EngineState}
use Rattle.laws_engine.specs.HoldsState.{HoldsState}
use Rattle.engine_parts.specs.SchemaRequests.{catalog_in, has_built_keys}
use Rattle.soft_recovery.specs.LawfulSteps.{AsksFor, HaveOwnNames, as_asked, call_of, call_on, is_lawful_step, lacks_column, makes_named, named_condition, named_segment}
use Rattle.soft_recovery.proofs.OwnNames.{FindsWithoutRows, names_alike}
use Rattle.soft_recovery.proofs.CalledSteps.{none_any, number-tagged, or_again, step-again}

-- ---- the same call without records

step_table-without_rows : ((tables : List Table) (name : List ℕ) → table_named (map without_rows tables) name ≡ option_map without_rows (table_named tables name))
    → ((tables : List Table) (id : ℕ) → table_with_id (map without_rows tables) id ≡ option_map without_rows (table_with_id tables id))
    → (tables : List Table) (made : SchemaStep) → step_table (map without_rows tables) made ≡ option_map without_rows (step_table tables made)
step_table-without_rows named numbered tables (step.CreateTable table name) = named tables name
step_table-without_rows named numbered tables (step.DeleteTable table) = numbered tables table.0
step_table-without_rows named numbered tables (step.AddColumn table column) = numbered tables table.0
step_table-without_rows named numbered tables (step.DeleteColumn table column) = numbered tables table.0
step_table-without_rows named numbered tables (step.CreateIndex table rule) = numbered tables table.0
step_table-without_rows named numbered tables (step.DeleteIndex table index) = numbered tables table.0

call_on-without_rows : (found : Option Table) (made : SchemaStep) → call_on (option_map without_rows found) made ≡ call_on found made
call_on-without_rows None made = refl
call_on-without_rows (Some t) (step.CreateTable table name) = refl
call_on-without_rows (Some t) (step.DeleteTable table) = refl
call_on-without_rows (Some t) (step.AddColumn table column) = refl
call_on-without_rows (Some t) (step.DeleteColumn table column) = refl
call_on-without_rows (Some t) (step.CreateIndex table rule) = refl
call_on-without_rows (Some t) (step.DeleteIndex table index) = refl

pub call_of-without_rows : ((tables : List Table) (name : List ℕ) → table_named (map without_rows tables) name ≡ option_map without_rows (table_named tables name))
    → ((tables : List Table) (id : ℕ) → table_with_id (map without_rows tables) id ≡ option_map without_rows (table_with_id tables id))
    → (tables : List Table) (made : SchemaStep) → call_of (map without_rows tables) made ≡ call_of tables made
call_of-without_rows named numbered tables made =
    ap (λ (found : Option Table). call_on found made) (step_table-without_rows named numbered tables made) ∙ call_on-without_rows (step_table tables made) made

-- ---- a long column, tagged or not

long_no_sum : (k : ColType) → is_long_type k ≡ true → is_type_long k ≡ false
long_no_sum kind.LongBinary e = refl
long_no_sum kind.LongText e = refl
long_no_sum kind.Long e = cc
long_no_sum _ e = refl

-- whether it can be no sum, by whether its type is that of sums, it is tagged, its type is long, and it has many values
no_sum-tagged : (sum tagged long multi : Bool) → (long ≡ true → sum ≡ false) → (not sum || (tagged || long) || multi) ≡ (not sum || tagged || multi)
no_sum-tagged true true long multi apart = refl
no_sum-tagged true false true multi apart = let e : true ≡ false = apart refl in cc
no_sum-tagged true false false multi apart = refl
no_sum-tagged false tagged long multi apart = refl

-- whether a kind has the next number, by whether it is tagged
abbrev has_next : GreatestColumns → ColType → Bool → Bool
has_next greatest kind tagged = has_column_id kind tagged (next_column_id greatest kind tagged)

has_next-tagged : (greatest : GreatestColumns) (kind : ColType) (tagged : Bool) → has_next greatest kind (tagged || is_long_type kind) ≡ has_next greatest kind tagged
has_next-tagged greatest kind true = refl
has_next-tagged greatest kind false = by (is_long_type kind) refl
  where
    by : (b : Bool) → is_long_type kind ≡ b → has_next greatest kind (false || is_long_type kind) ≡ has_next greatest kind false
    by true e = rw e refl
    by false e = rw e refl

-- the refusals of a column by three of their tests
abbrev refused_by : Bool → Table → Column → (tagged no_sum numbered : Bool) → Refusals
refused_by holds table column tagged no_sum numbered =
    (list_any (λ c. bytes_eq c.name column.name) table.columns, jet.ColumnDuplicate)
    ∷ (column.multi && not tagged, jet.MultiValuedColumnMustBeTagged)
    ∷ (column.escrow && no_sum, jet.InvalidColumnType)
    ∷ (column.escrow && holds, jet.TableNotEmpty)
    ∷ (not numbered, jet.TooManyColumns) ∷ []

column_refusals-tagged : (holds : Bool) (table : Table) (column : Column) → column_refusals holds table (tagged_if_long column) ≡ column_refusals holds table column
column_refusals-tagged holds table column =
    let long : Bool = is_long_type column.kind in
    let no_sum : Bool = not (is_type_long column.kind) || (column.tagged || long) || column.multi in
    let numbered : Bool = has_next table.greatest column.kind (column.tagged || long) in
    ap (λ b. refused_by holds table column b no_sum numbered) (or_again column.tagged long)
    ∙ ap (λ b. refused_by holds table column (column.tagged || long) b numbered) (no_sum-tagged (is_type_long column.kind) column.tagged long column.multi (long_no_sum column.kind))
    ∙ ap (refused_by holds table column (column.tagged || long) (not (is_type_long column.kind) || column.tagged || column.multi)) (has_next-tagged table.greatest column.kind column.tagged)

-- all refusals by those of the step alone
abbrev refusal_by : DatabaseState → ℕ → Option Table → Bool → Refusals → Option Jet
refusal_by state session found absent refusals =
    first_refusal
    ((not (levels state session == 0), jet.InTransaction)
    ∷ (absent, jet.ObjectNotFound)
    ∷ (is_in_use state session found, jet.TableInUse)
    ∷ refusals)

-- the refusals do not depend on it
pub schema_refusal-asked : (state : DatabaseState) (session : ℕ) (made : SchemaStep) → schema_refusal state session (as_asked made) ≡ schema_refusal state session made
unfolding schema_refusal
schema_refusal-asked state session (step.CreateTable table name) = refl
schema_refusal-asked state session (step.DeleteTable table) = refl
schema_refusal-asked state session (step.AddColumn table column) =
    let found : Option Table = table_with_id state.tables table.0 in
    let t : Table = unwrap_or found (new_table 0 []) in
    ap (λ (refusals : Refusals). refusal_by state session found (is_none found) (refusals ++ [])) (column_refusals-tagged (has_records t) t column)
schema_refusal-asked state session (step.DeleteColumn table column) = refl
schema_refusal-asked state session (step.CreateIndex table rule) = refl
schema_refusal-asked state session (step.DeleteIndex table index) = refl

-- nor do the next numbers
pub has_next_numbers-asked : (state : DatabaseState) (made : SchemaStep) → has_next_numbers state (as_asked made) ≡ has_next_numbers state made
has_next_numbers-asked state (step.CreateTable table name) = refl
has_next_numbers-asked state (step.DeleteTable table) = refl
has_next_numbers-asked state (step.AddColumn table column) =
    let t : Table = unwrap_or (table_with_id state.tables table.0) (new_table 0 []) in
    ap (λ n. (column.id.0 == n) && is_name column.name) (number-tagged t.greatest column.kind column.tagged)
has_next_numbers-asked state (step.DeleteColumn table column) = refl
has_next_numbers-asked state (step.CreateIndex table rule) = refl
has_next_numbers-asked state (step.DeleteIndex table index) = refl

-- ---- without a name, or without a call

pub unnamed : (state : DatabaseState) (session : ℕ) (made : SchemaStep) → makes_named made ≡ false → is_lawful_step state session made ≡ false
unnamed state session made e = ap (λ b. is_none (schema_refusal state session made) && b) (numbers made e) ∙ and_false (is_none (schema_refusal state session made))
  where
    last_false : (a b : Bool) → b ≡ false → (a && b) ≡ false
    last_false a b e = ap (λ b. a && b) e ∙ and_false a

    numbers : (made : SchemaStep) → makes_named made ≡ false → has_next_numbers state made ≡ false
    numbers (step.CreateTable table name) e = last_false _ (is_name name) e
    numbers (step.AddColumn table column) e = last_false _ (is_name column.name) e
    numbers (step.CreateIndex table rule) e = last_false _ (is_name rule.name) e
    numbers (step.DeleteTable table) e = cc
    numbers (step.DeleteColumn table column) e = cc
    numbers (step.DeleteIndex table index) e = cc

absent_refused : (inside used : Bool) (refusals : Refusals) → is_none (first_refusal ((inside, jet.InTransaction) ∷ (true, jet.ObjectNotFound) ∷ (used, jet.TableInUse) ∷ refusals)) ≡ false
absent_refused true used refusals = refl
absent_refused false used refusals = refl

later_refused : (inside absent used : Bool) (refusals : Refusals) → is_none (first_refusal refusals) ≡ false → is_none (first_refusal ((inside, jet.InTransaction) ∷ (absent, jet.ObjectNotFound) ∷ (used, jet.TableInUse) ∷ refusals)) ≡ false
later_refused true absent used refusals e = refl
later_refused false true used refusals e = refl
later_refused false false true refusals e = refl
later_refused false false false refusals e = e

head_refused : (test : Bool) (reply : Jet) (refusals : Refusals) → test ≡ true → is_none (first_refusal ((test, reply) ∷ refusals)) ≡ false
head_refused true reply refusals e = refl
head_refused false reply refusals e = cc

-- a column of the rule that is not there is refused, whatever was tried before
column_refused : (double many two filled missing : Bool) (refusals : Refusals) → missing ≡ true
    → is_none (first_refusal ((double, jet.IndexDuplicate) ∷ (many, jet.TooManyIndexes) ∷ (two, jet.IndexHasPrimary) ∷ (filled, jet.TableNotEmpty) ∷ (missing, jet.ColumnNotFound) ∷ refusals)) ≡ false
column_refused true many two filled missing refusals e = refl
column_refused false true two filled missing refusals e = refl
column_refused false false true filled missing refusals e = refl
column_refused false false false true missing refusals e = refl
column_refused false false false false missing refusals e = head_refused missing jet.ColumnNotFound refusals e

-- a part that is not there is refused
part_refused : (state : DatabaseState) (t : Table) (made : SchemaStep) → call_on (Some t) made ≡ None → is_none (first_refusal (step_refusals state t made)) ≡ false
part_refused state t (step.CreateTable table name) e = cc
part_refused state t (step.DeleteTable table) e = cc
part_refused state t (step.AddColumn table column) e = cc
part_refused state t (step.DeleteColumn table column) e =
    head_refused (not (has_column t column.0)) jet.ColumnNotFound ((column_is_used column (primary_first t.indexes), jet.ColumnInUse) ∷ [])
    (ap not (none_any (λ (c : Column). c.id.0 == column.0) t.columns (gone (column_of_id t.columns column.0) e)))
  where
    gone : (found : Option Column) → option_map (λ (c : Column). call.DeleteColumn t.name c.name) found ≡ None → found ≡ None
    gone None e = refl
    gone (Some c) e = cc
part_refused state t (step.CreateIndex table rule) e =
    column_refused (list_any (λ made. bytes_eq made.name rule.name) t.indexes) (nat_le 64 (length t.indexes) || nat_le 4294967295 (greatest_order t.indexes))
    (rule.flags.primary && list_any (λ made. made.flags.primary) t.indexes) (rule.flags.primary && has_records t) (lacks_column t rule)
    ((list_any (is_escrow_column (schema_of t)) (rule_columns rule), jet.CannotIndex) ∷ (not (is_legal rule (schema_of t)), jet.IndexInvalidDef) ∷ record_refusals t (step.CreateIndex table rule))
    (lacking (lacks_column t rule) e)
  where
    asked : SchemaCall
    asked = call.CreateIndex t.name rule.name rule.flags rule.key_most (map (named_segment t.columns) rule.segments) (map (named_condition t.columns) rule.conditions)

    lacking : (b : Bool) → cond b None (Some asked) ≡ None → b ≡ true
    lacking true e = refl
    lacking false e = cc
part_refused state t (step.DeleteIndex table index) e =
    head_refused (not (list_any (λ made. made.id.0 == index.0) t.indexes)) jet.IndexNotFound ((list_any (λ made. (made.id.0 == index.0) && made.flags.primary) t.indexes, jet.IndexMustStay) ∷ [])
    (ap not (none_any (λ (r : IndexRule). r.id.0 == index.0) t.indexes (gone (find (λ (r : IndexRule). r.id.0 == index.0) t.indexes) e)))
  where
    gone : (found : Option IndexRule) → option_map (λ (r : IndexRule). call.DeleteIndex t.name r.name) found ≡ None → found ≡ None
    gone None e = refl
    gone (Some r) e = cc

-- a step without a call is refused
refused_on : (state : DatabaseState) (session : ℕ) (found : Option Table) (made : SchemaStep) → makes_table made ≡ false → call_on found made ≡ None
    → is_none (refusal_by state session found (not (makes_table made) && is_none found) (step_refusals state (unwrap_or found (new_table 0 [])) made)) ≡ false
refused_on state session None made other e =
    let refusals : Refusals = step_refusals state (new_table 0 []) made in
    ap (λ b. is_none (refusal_by state session None (not b && true) refusals)) other ∙ absent_refused (not (levels state session == 0)) (is_in_use state session None) refusals
refused_on state session (Some t) made other e =
    later_refused (not (levels state session == 0)) (not (makes_table made) && false) (is_in_use state session (Some t)) (step_refusals state t made) (part_refused state t made e)

uncalled_refused : (state : DatabaseState) (session : ℕ) (made : SchemaStep) → call_of state.tables made ≡ None → is_none (schema_refusal state session made) ≡ false
unfolding schema_refusal
uncalled_refused state session (step.CreateTable table name) e = cc
uncalled_refused state session (step.DeleteTable table) e = refused_on state session (table_with_id state.tables table.0) (step.DeleteTable table) refl e
uncalled_refused state session (step.AddColumn table column) e = refused_on state session (table_with_id state.tables table.0) (step.AddColumn table column) refl e
uncalled_refused state session (step.DeleteColumn table column) e = refused_on state session (table_with_id state.tables table.0) (step.DeleteColumn table column) refl e
uncalled_refused state session (step.CreateIndex table rule) e = refused_on state session (table_with_id state.tables table.0) (step.CreateIndex table rule) refl e
uncalled_refused state session (step.DeleteIndex table index) e = refused_on state session (table_with_id state.tables table.0) (step.DeleteIndex table index) refl e

pub uncalled : (state : DatabaseState) (session : ℕ) (made : SchemaStep) → call_of state.tables made ≡ None → is_lawful_step state session made ≡ false
uncalled state session made e = ap (λ b. b && has_next_numbers state made) (uncalled_refused state session made e)

-- ---- what its call makes

-- the call makes what is named, with keys of at most 255 bytes, where the step does
record MakesAlike (called : SchemaCall) : Type 0 where
  pub named : makes_named_call called ≡ true
  pub built : has_built_keys called ≡ true

made_alike : (one other : SchemaCall) → Some one ≡ Some other → makes_named_call one ≡ true → has_built_keys one ≡ true → MakesAlike other
made_alike one other e named built = subst MakesAlike (same_some one other e) (record { named = named; built = built })

alike_on : (found : Option Table) (made : SchemaStep) (called : SchemaCall) → call_on found made ≡ Some called → makes_named made ≡ true → makes_built (entry.Schema made) ≡ true → MakesAlike called
alike_on found (step.CreateTable table name) called e named built = made_alike (call.CreateTable name) called e named refl
alike_on None (step.DeleteTable table) called e named built = none_some called e
alike_on (Some t) (step.DeleteTable table) called e named built = made_alike (call.DeleteTable t.name) called e refl refl
alike_on None (step.AddColumn table column) called e named built = none_some called e
alike_on (Some t) (step.AddColumn table column) called e named built = made_alike _ called e named refl
alike_on None (step.DeleteColumn table column) called e named built = none_some called e
alike_on (Some t) (step.DeleteColumn table column) called e named built = by (column_of_id t.columns column.0) e
  where
    by : (part : Option Column) → option_map (λ (c : Column). call.DeleteColumn t.name c.name) part ≡ Some called → MakesAlike called
    by None e = none_some called e
    by (Some c) e = made_alike (call.DeleteColumn t.name c.name) called e refl refl
alike_on None (step.CreateIndex table rule) called e named built = none_some called e
alike_on (Some t) (step.CreateIndex table rule) called e named built = by (lacks_column t rule) _ e named built
  where
    by : (b : Bool) (one : SchemaCall) → cond b None (Some one) ≡ Some called → makes_named_call one ≡ true → has_built_keys one ≡ true → MakesAlike called
    by true one e named built = none_some called e
    by false one e named built = made_alike one called e named built
alike_on None (step.DeleteIndex table index) called e named built = none_some called e
alike_on (Some t) (step.DeleteIndex table index) called e named built = by (find (λ (r : IndexRule). r.id.0 == index.0) t.indexes) e
  where
    by : (part : Option IndexRule) → option_map (λ (r : IndexRule). call.DeleteIndex t.name r.name) part ≡ Some called → MakesAlike called
    by None e = none_some called e
    by (Some r) e = made_alike (call.DeleteIndex t.name r.name) called e refl refl

pub called-built : (tables : List Table) (made : SchemaStep) (called : SchemaCall) → call_of tables made ≡ Some called → makes_named made ≡ true → makes_built (entry.Schema made) ≡ true → has_built_keys called ≡ true
called-built tables made called e named built = (alike_on (step_table tables made) made called e named built).built

-- ---- where it may come next

not_refused : (refusal : Option Jet) → is_none refusal ≡ true → refusal ≡ None
not_refused None e = refl
not_refused (Some reply) e = cc

made_of : (refusal : Option Jet) (asked made : SchemaStep) → refused_or refusal asked ≡ Ok made → (refusal ≡ None) × (asked ≡ made)
made_of None asked made e = (refl, cc)
made_of (Some reply) asked made e = cc

abbrev pub HaveNextNumbers : Type 0
HaveNextNumbers = (state : DatabaseState) (asked : SchemaCall) → IsNumbered (catalog_of state) → IsTrue (makes_named_call asked) → IsTrue (has_next_numbers state (step_of_call state asked))

asked_is_lawful : HaveNextNumbers → (state : DatabaseState) (session : ℕ) (made : SchemaStep) (called : SchemaCall) → IsNumbered (catalog_of state) → makes_named_call called ≡ true → AsksFor state session called made → is_lawful_step state session made ≡ true
asked_is_lawful next state session made called numbered named asks =
    let is = made_of (schema_refusal state session (step_of_call state called)) (step_of_call state called) (as_asked made) asks in
    let free : schema_refusal state session made ≡ None = sym (schema_refusal-asked state session made) ∙ ap (schema_refusal state session) (sym is.1) ∙ is.0 in
    let numbers : has_next_numbers state made ≡ true = sym (has_next_numbers-asked state made) ∙ ap (has_next_numbers state) (sym is.1) ∙ next state called numbered named in
    ap (λ (refusal : Option Jet). is_none refusal && has_next_numbers state made) free ∙ numbers

lawful_is_asked : (state : DatabaseState) (session : ℕ) (made : SchemaStep) (called : SchemaCall) → HaveOwnNames state.tables → call_of state.tables made ≡ Some called → is_lawful_step state session made ≡ true → AsksFor state session called made
lawful_is_asked state session made called own e lawful =
    let free : schema_refusal state session made ≡ None = not_refused (schema_refusal state session made) (and_left _ (has_next_numbers state made) lawful) in
    let again : step_of_call state called ≡ as_asked made =
    subst (λ (c : Option SchemaCall). IfSome c (λ called. step_of_call state called ≡ as_asked made)) e (step-again state made own (and_right (is_none (schema_refusal state session made)) _ lawful)) in
    ap (λ (s : SchemaStep). refused_or (schema_refusal state session s) s) again
    ∙ ap (λ (refusal : Option Jet). refused_or refusal (as_asked made)) (schema_refusal-asked state session made ∙ free)

pub lawful-exactly : HaveNextNumbers → (state : DatabaseState) (session : ℕ) (made : SchemaStep) (called : SchemaCall) → HaveOwnNames state.tables → IsNumbered (catalog_of state) → makes_named made ≡ true → makes_built (entry.Schema made) ≡ true
    → call_of state.tables made ≡ Some called → (asked : Bool) → (IsTrue asked ↔ AsksFor state session called made) → asked ≡ is_lawful_step state session made
lawful-exactly next state session made called own numbered named built e asked told =
    same_tests asked (is_lawful_step state session made)
    (λ is. asked_is_lawful next state session made called numbered (alike_on (step_table state.tables made) made called e named built).named (told.0 is))
    (λ lawful. told.1 (lawful_is_asked state session made called own e lawful))

-- ---- what the code asks

-- the laws that it rests on
pub record StepLaws : Type 0 where
  pub named : (tables : List Table) (name : List ℕ) → table_named (map without_rows tables) name ≡ option_map without_rows (table_named tables name)
  pub finds : FindsWithoutRows
  pub next : HaveNextNumbers
  pub tables : (engine : EngineState) (state : DatabaseState) → HoldsState engine state → map without_rows engine.store.tables ≡ map without_rows state.tables
  pub catalog : (engine : EngineState) (state : DatabaseState) → HoldsState engine state → catalog_of state ≡ catalog_in engine

-- what the tables of the engine show of its catalog
abbrev pub catalog_shown : StoredVersions → CatalogState
catalog_shown stored = record { greatest_table = stored.greatest_table; tables = map without_rows stored.store.tables }

-- the answer in every state that the engine holds
abbrev pub IsLawfulIn : EngineState → ℕ → SchemaStep → Bool → Type 0
IsLawfulIn engine session made lawful = (state : DatabaseState) → HoldsState engine state → lawful ≡ is_lawful_step state session made

abbrev pub IsAskedIn : EngineState → ℕ → SchemaCall → SchemaStep → Bool → Type 0
IsAskedIn engine session called made asked = (state : DatabaseState) → HoldsState engine state → (IsTrue asked ↔ AsksFor state session called made)

call-told : StepLaws → (engine : EngineState) (catalog : CatalogState) (made : SchemaStep) (found : Option SchemaCall) (state : DatabaseState) → HoldsState engine state → catalog ≡ catalog_in engine → found ≡ call_of catalog.tables made → call_of state.tables made ≡ found
call-told laws engine catalog made found state h shown is =
    sym (call_of-without_rows laws.named laws.finds state.tables made)
    ∙ ap (λ (k : CatalogState). call_of k.tables made) (laws.catalog engine state h ∙ sym shown) ∙ sym is

lawful-told : StepLaws → (engine : EngineState) (catalog : CatalogState) (session : ℕ) (made : SchemaStep) (called : SchemaCall) (asked : Bool) → HaveOwnNames engine.store.tables → IsNumbered catalog → makes_named made ≡ true
    → makes_built (entry.Schema made) ≡ true → catalog ≡ catalog_in engine → Some called ≡ call_of catalog.tables made → IsAskedIn engine session called made asked → IsLawfulIn engine session made asked
lawful-told laws engine catalog session made called asked own numbered named built shown is told = λ state h.
    lawful-exactly laws.next state session made called (names_alike laws.finds engine.store.tables state.tables (laws.tables engine state h) own) (subst IsNumbered (shown ∙ sym (laws.catalog engine state h)) numbered) named built
    (call-told laws engine catalog made (Some called) state h shown is) asked (told state h)

pub lawful-decided : StepLaws → (engine : EngineState) (catalog : CatalogState) (session : ℕ) (made : SchemaStep) (called : SchemaCall) (result : Result Bool OutOfMemory) → HaveOwnNames engine.store.tables → IsNumbered catalog
    → makes_named made ≡ true → makes_built (entry.Schema made) ≡ true → catalog ≡ catalog_in engine → Some called ≡ call_of catalog.tables made → IfOk result (IsAskedIn engine session called made) → IfOk result (IsLawfulIn engine session made)
lawful-decided laws engine catalog session made called (Ok asked) own numbered named built shown is told = lawful-told laws engine catalog session made called asked own numbered named built shown is told
lawful-decided laws engine catalog session made called (Err fault) own numbered named built shown is told = tt

pub lawful-uncalled : StepLaws → (engine : EngineState) (catalog : CatalogState) (session : ℕ) (made : SchemaStep) → catalog ≡ catalog_in engine → None ≡ call_of catalog.tables made → IsLawfulIn engine session made false
lawful-uncalled laws engine catalog session made shown is = λ state h. sym (uncalled state session made (call-told laws engine catalog made None state h shown is))

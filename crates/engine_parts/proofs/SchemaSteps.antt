-- What decides the step that a schema call asks for, or why it is refused.
use Rattle.std.proofs.Common.{◌≡◌, ℕ, suc, ◌<◌, Bool, true, false, cond, ◌&&◌, ◌||◌, List, [], ◌∷◌, length, map, Option, Some, None, Result, Ok, Err, refl, sym, ap, subst, ◌∙◌, option_map, unwrap_or, arith, ◌≤◌, ◌++◌}
use Rattle.std.specs.Prelude.{◌==◌, nat_le, nat_lt, not, bytes_eq, is_none, is_some, IfSome}
use Rattle.std.specs.Option.{option_or}
use Rattle.std.proofs.lemmas.Bool.Decides.{nat_tests}
use Rattle.std.proofs.lemmas.Bool.{and_parts, ltb-true}
use Rattle.common_lemmas.proofs.Numbers.{self_equal}
use Rattle.jet_base.specs.declared.replies.Jet.{Jet}
use Rattle.jet_base.specs.declared.replies.Jet.TheVariants as jet
use Rattle.index_derive.specs.declared.entries.Place.TheVariants.{Before}
use Rattle.index_derive.specs.declared.schema_calls.SchemaCall.{SchemaCall}
use Rattle.index_derive.specs.declared.schema_calls.SchemaCall.TheVariants as schema
use Rattle.index_derive.specs.declared.schema_calls.SchemaStep.{SchemaStep}
use Rattle.index_derive.specs.Entries.{own_order, has_double_key, is_escrow_column, is_legal, is_unique}
use Rattle.cursor_nav.specs.Places.{entry_after}
use Rattle.database_state.specs.Table.{Rows, Table, rows_of, table_named, table_with_id, schema_of}
use Rattle.database_state.specs.State.{DatabaseState, levels}
use Rattle.column_set.specs.Refusals.{Refusals, first_refusal}
use Rattle.database_state.specs.SchemaChanges.{has_records, is_in_use, makes_table, new_table, record_refusals, schema_refusal, has_column, index_number_refusals, index_refusals, rule_columns}
use Rattle.database_state.specs.SchemaSteps.{called_name, step_of_call, asked_index}
use Rattle.version_cleanup.specs.Cleaning.{reader_in}
use Rattle.version_cleanup.specs.LiveSessions.{has_other_transaction, levels_in}
use Rattle.laws_engine.specs.VersionedTables.{seen_tables}
use Rattle.jet_catalog.specs.Catalog.{CatalogState, IsNumbered, catalog_of, database_of, ids_rise, without_rows}
use Rattle.jet_catalog.specs.Decisions.{call_refusals, called_table, decided, refused_or, refusal_after, session_refusals, table_or_new, answer}
use Rattle.stored_variants.specs.StoredVersions.{StoredVersions}
use Rattle.laws_engine.specs.EngineState.{EngineState, has_table_open}
use Rattle.laws_engine.specs.HoldsState.{HoldsState}
use Rattle.engine_parts.specs.SchemaRequests.{catalog_in, decided_in, engine_table, has_rows_in, is_missing, is_used, makes_new, rows_for, sessions_in, IsDecided, has_built_keys}
use Rattle.engine_parts.specs.SessionLaws.{levels-told}
use Rattle.std.specs.List.{list_any}
use Rattle.common_lemmas.proofs.Booleans.{and_false}
use Rattle.index_derive.specs.declared.rules.IndexFlags.{IndexFlags}
use Rattle.index_derive.specs.declared.rules.IndexRule.{IndexRule}
use Rattle.index_derive.specs.declared.schema_calls.NamedCondition.{NamedCondition}
use Rattle.index_derive.specs.declared.schema_calls.NamedSegment.{NamedSegment}
use Rattle.index_derive.specs.declared.schema_calls.SchemaStep.TheVariants as step
use Rattle.engine_parts.specs.CreatingIndexes.{HasKeys, step_refusals_in}

-- ---- the laws that they rest on

pub record SchemaLaws : Type 0 where
  pub composed : (state : DatabaseState) (session : ℕ) (asked : SchemaCall) → IsNumbered (catalog_of state)
      → schema_refusal state session (step_of_call state asked) ≡ option_or (first_refusal (session_refusals state session asked)) (refusal_after (decided state (has_records (table_or_new state asked)) asked) (table_or_new state asked))
  pub steps : (state : DatabaseState) (asked : SchemaCall) → step_of_call (database_of (catalog_of state)) asked ≡ step_of_call state asked
  pub decisions : (state : DatabaseState) (holds_records : Bool) (asked : SchemaCall) → decided (database_of (catalog_of state)) holds_records asked ≡ decided state holds_records asked
  pub named : (tables : List Table) (name : List ℕ) → table_named (map without_rows tables) name ≡ option_map without_rows (table_named tables name)
  pub settled : (engine : EngineState) (state : DatabaseState) → HoldsState engine state → (session : ℕ) → (levels state session == 0) ≡ true → has_other_transaction session engine.sessions ≡ false
      → seen_tables (reader_in session engine.sessions) engine.store ≡ state.tables
  pub uses : (engine : EngineState) (state : DatabaseState) → HoldsState engine state → (session : ℕ) (found : Option Table) → is_in_use state session found ≡ is_used engine session found
  pub catalog : (engine : EngineState) (state : DatabaseState) → HoldsState engine state → catalog_of state ≡ catalog_in engine

-- ---- what sessions do

pub found-told : SchemaLaws → (engine : EngineState) (state : DatabaseState) (called : SchemaCall) → HoldsState engine state → engine_table engine called ≡ option_map without_rows (called_table state called)
found-told laws engine state called h = ap (λ (tables : List Table). table_named tables (called_name called)) h.holds.defined ∙ laws.named state.tables (called_name called)

used-told : SchemaLaws → (engine : EngineState) (state : DatabaseState) (session : ℕ) (found : Option Table) → HoldsState engine state → is_in_use state session found ≡ is_used engine session (option_map without_rows found)
used-told laws engine state session None h = laws.uses engine state h session None
used-told laws engine state session (Some t) h = laws.uses engine state h session (Some t)

missing : (found : Option Table) → is_none found ≡ is_none (option_map without_rows found)
missing None = refl
missing (Some t) = refl

makes : (state : DatabaseState) (called : SchemaCall) → makes_table (step_of_call state called) ≡ makes_new called
makes state (schema.CreateTable table) = refl
makes state (schema.DeleteTable table) = refl
makes state (schema.AddColumn table column kind flags) = refl
makes state (schema.DeleteColumn table column) = refl
makes state (schema.CreateIndex table index flags key_most segments conditions) = refl
makes state (schema.DeleteIndex table index) = refl

-- the refusals because of what sessions do, by their tests
abbrev of_sessions : Bool → Bool → Bool → Bool → Refusals
of_sessions outside new absent used = (not outside, jet.InTransaction) ∷ (not new && absent, jet.ObjectNotFound) ∷ (used, jet.TableInUse) ∷ []

sessions-told : SchemaLaws → (engine : EngineState) (state : DatabaseState) (session : ℕ) (called : SchemaCall) → HoldsState engine state → session_refusals state session called ≡ sessions_in engine session called
sessions-told laws engine state session called h =
    let absent : is_none (called_table state called) ≡ is_none (engine_table engine called) = missing (called_table state called) ∙ ap is_none (sym (found-told laws engine state called h)) in
    let used : is_in_use state session (called_table state called) ≡ is_used engine session (engine_table engine called) =
    used-told laws engine state session (called_table state called) h ∙ ap (is_used engine session) (sym (found-told laws engine state called h)) in
    ap (λ n. of_sessions (n == 0) (makes_table (step_of_call state called)) (is_none (called_table state called)) (is_in_use state session (called_table state called))) (levels-told engine state session h)
    ∙ ap (λ b. of_sessions (levels_in session engine.sessions == 0) b (is_none (called_table state called)) (is_in_use state session (called_table state called))) (makes state called)
    ∙ ap (λ b. of_sessions (levels_in session engine.sessions == 0) (makes_new called) b (is_in_use state session (called_table state called))) absent
    ∙ ap (of_sessions (levels_in session engine.sessions == 0) (makes_new called) (is_none (engine_table engine called))) used

-- ---- records of the table

same_some : (x y : Table) → Some x ≡ Some y → x ≡ y
same_some x y e = ap (λ (o : Option Table). unwrap_or o x) e

-- a table that is found by its name lies above
found_above : (low high : ℕ) (tables : List Table) (name : List ℕ) (t : Table) → ids_rise low high tables ≡ true → table_named tables name ≡ Some t → low < t.id
found_above low high [] name t rise e = cc
found_above low high (x ∷ tables) name t rise e =
    let parts : (nat_lt low x.id ≡ true) × (ids_rise x.id high tables ≡ true) = and_parts _ _ rise in
    let first : low < x.id = ltb-true low x.id parts.0 in
    elim (bytes_eq x.name name) as (λ b. cond b (Some x) (table_named tables name) ≡ Some t → low < t.id) [
      | true ↦ λ h. subst (λ (y : Table). low < y.id) (same_some x t h) first
      | false ↦ λ h. let later = found_above x.id high tables name t parts.1 h in omega (arith, first, later)
    ] e

not_itself : (n m : ℕ) → n < m → (n == m) ≡ false
not_itself n m h = grind (arith, nat_tests)

-- its number finds it too
by_number : (low high : ℕ) (tables : List Table) (name : List ℕ) (t : Table) → ids_rise low high tables ≡ true → table_named tables name ≡ Some t → table_with_id tables t.id ≡ Some t
by_number low high [] name t rise e = cc
by_number low high (x ∷ tables) name t rise e =
    let parts : (nat_lt low x.id ≡ true) × (ids_rise x.id high tables ≡ true) = and_parts _ _ rise in
    elim (bytes_eq x.name name) as (λ b. cond b (Some x) (table_named tables name) ≡ Some t → table_with_id (x ∷ tables) t.id ≡ Some t) [
      | true ↦ λ h. subst (λ (y : Table). table_with_id (x ∷ tables) y.id ≡ Some y) (same_some x t h) (ap (λ b. cond b (Some x) (table_with_id tables x.id)) (self_equal x.id))
      | false ↦ λ h. ap (λ b. cond b (Some x) (table_with_id tables t.id)) (not_itself x.id t.id (found_above x.id high tables name t parts.1 h)) ∙ by_number x.id high tables name t parts.1 h
    ] e

-- the same of tables that are numbered without their records
numbered : (low high : ℕ) (tables : List Table) → ids_rise low high (map without_rows tables) ≡ true → ids_rise low high tables ≡ true
numbered low high [] h = h
numbered low high (x ∷ tables) h =
    let parts : (nat_lt low x.id ≡ true) × (ids_rise x.id high (map without_rows tables) ≡ true) = and_parts _ _ h in
    ap (λ b. b && ids_rise x.id high tables) parts.0 ∙ numbered x.id high tables parts.1

any_row : (rows : Rows) → nat_lt 0 (length rows) ≡ is_some (entry_after Before (own_order rows))
any_row [] = refl
any_row (row ∷ rows) = some (length rows)
  where
    some : (n : ℕ) → nat_lt 0 (suc n) ≡ true
    some n = grind (arith, nat_tests)

-- where no session is in a transaction, the records of the table that the call names are those that the session sees
pub rows-told : SchemaLaws → (engine : EngineState) (state : DatabaseState) (session : ℕ) (called : SchemaCall) (t : Table) → HoldsState engine state → IsNumbered (catalog_in engine) → (levels_in session engine.sessions == 0) ≡ true
    → has_other_transaction session engine.sessions ≡ false → called_table state called ≡ Some t → rows_for engine session t.id ≡ t.rows
rows-told laws engine state session called t h rise outside alone e =
    ap (λ (tables : List Table). rows_of (table_with_id tables t.id)) (laws.settled engine state h session (ap (λ n. n == 0) (levels-told engine state session h) ∙ outside) alone)
    ∙ ap rows_of (by_number 0 engine.greatest_table state.tables (called_name called) t rises e)
  where
    rises : ids_rise 0 engine.greatest_table state.tables ≡ true
    rises = numbered 0 engine.greatest_table state.tables (subst (λ (tables : List Table). ids_rise 0 engine.greatest_table tables ≡ true) h.holds.defined rise)

records-told : SchemaLaws → (engine : EngineState) (state : DatabaseState) (session : ℕ) (called : SchemaCall) → HoldsState engine state → IsNumbered (catalog_in engine) → (levels_in session engine.sessions == 0) ≡ true
    → has_other_transaction session engine.sessions ≡ false → has_records (table_or_new state called) ≡ has_rows_in engine session (engine_table engine called)
records-told laws engine state session called h rise outside alone = by (called_table state called) refl ∙ ap (has_rows_in engine session) (sym (found-told laws engine state called h))
  where
    by : (found : Option Table) → called_table state called ≡ found → has_records (unwrap_or found (new_table 0 [])) ≡ has_rows_in engine session (option_map without_rows found)
    by None e = refl
    by (Some t) e = any_row t.rows ∙ ap (λ (r : Rows). is_some (entry_after Before (own_order r))) (sym (rows-told laws engine state session called t h rise outside alone e))

-- ---- what the catalog decides

decided-told : SchemaLaws → (engine : EngineState) (state : DatabaseState) (session : ℕ) (called : SchemaCall) → HoldsState engine state → IsNumbered (catalog_in engine) → (levels_in session engine.sessions == 0) ≡ true
    → has_other_transaction session engine.sessions ≡ false → decided state (has_records (table_or_new state called)) called ≡ decided_in engine session called
decided-told laws engine state session called h rise outside alone =
    ap (λ holds. decided state holds called) (records-told laws engine state session called h rise outside alone)
    ∙ sym (laws.decisions state (has_rows_in engine session (engine_table engine called)) called)
    ∙ ap (λ (c : CatalogState). decided (database_of c) (has_rows_in engine session (engine_table engine called)) called) (laws.catalog engine state h)

-- a step that is decided is the one that is asked for
made_as : {X : Type 0} (refusal : Option Jet) (asked made : X) → refused_or refusal asked ≡ Ok made → asked ≡ made
made_as None asked made e = cc
made_as (Some reply) asked made e = cc

made-decided : (state : DatabaseState) (holds : Bool) (called : SchemaCall) (made : SchemaStep) → decided state holds called ≡ Ok made → step_of_call state called ≡ made
unfolding decided
made-decided state holds called made is = made_as (first_refusal (call_refusals state holds called)) (step_of_call state called) made is

made-told : SchemaLaws → (engine : EngineState) (state : DatabaseState) (session : ℕ) (called : SchemaCall) (made : SchemaStep) → HoldsState engine state → decided_in engine session called ≡ Ok made → step_of_call state called ≡ made
made-told laws engine state session called made h is =
    sym (laws.steps state called) ∙ ap (λ (c : CatalogState). step_of_call (database_of c) called) (laws.catalog engine state h)
    ∙ made-decided (database_of (catalog_in engine)) (has_rows_in engine session (engine_table engine called)) called made is

-- ---- what the records of the table refuse

-- a table without a record refuses nothing
none_refused : (made : SchemaStep) → first_refusal (record_refusals (new_table 0 []) made) ≡ None
unfolding has_double_key
none_refused (step.CreateTable id name) = refl
none_refused (step.DeleteTable id) = refl
none_refused (step.AddColumn id column) = refl
none_refused (step.DeleteColumn id column) = refl
none_refused (step.CreateIndex id rule) = ap (λ b. cond b (Some jet.KeyDuplicate) None) (and_false (is_unique rule))
none_refused (step.DeleteIndex id index) = refl

-- what the records refuse that the session sees, those of the table refuse in any state that the engine holds
pub refusals-told : SchemaLaws → (engine : EngineState) (state : DatabaseState) (session : ℕ) (called : SchemaCall) (made : SchemaStep) → HoldsState engine state → IsNumbered (catalog_in engine) → (levels_in session engine.sessions == 0) ≡ true
    → has_other_transaction session engine.sessions ≡ false → first_refusal (record_refusals (table_or_new state called) made) ≡ first_refusal (step_refusals_in engine session (engine_table engine called) made)
refusals-told laws engine state session called made h rise outside alone =
    by (called_table state called) refl ∙ ap (λ (found : Option Table). first_refusal (step_refusals_in engine session found made)) (sym (found-told laws engine state called h))
  where
    by : (found : Option Table) → called_table state called ≡ found
        → first_refusal (record_refusals (unwrap_or found (new_table 0 [])) made) ≡ first_refusal (step_refusals_in engine session (option_map without_rows found) made)
    by None e = none_refused made
    by (Some t) e = ap (λ (rows : Rows). first_refusal (record_refusals (record t { rows = rows }) made)) (sym (rows-told laws engine state session called t h rise outside alone e))

-- ---- the refusals of a call

pub refusal-told : SchemaLaws → (engine : EngineState) (session : ℕ) (called : SchemaCall) (state : DatabaseState) → HoldsState engine state → IsNumbered (catalog_in engine)
    → schema_refusal state session (step_of_call state called)
    ≡ option_or (first_refusal (sessions_in engine session called)) (refusal_after (decided state (has_records (table_or_new state called)) called) (table_or_new state called))
refusal-told laws engine session called state h rise =
    laws.composed state session called (subst IsNumbered (sym (laws.catalog engine state h)) rise)
    ∙ ap (λ (l : Refusals). option_or (first_refusal l) (refusal_after (decided state (has_records (table_or_new state called)) called) (table_or_new state called))) (sessions-told laws engine state session called h)

-- nothing that sessions do refuses it
pub outside-passed : (engine : EngineState) (session : ℕ) (called : SchemaCall) → first_refusal (sessions_in engine session called) ≡ None → (levels_in session engine.sessions == 0) ≡ true
outside-passed engine session called is = by (levels_in session engine.sessions == 0) is
  where
    by : (b : Bool) → cond (not b) (Some jet.InTransaction) (first_refusal ((is_missing called (engine_table engine called), jet.ObjectNotFound) ∷ (is_used engine session (engine_table engine called), jet.TableInUse) ∷ [])) ≡ None → b ≡ true
    by true e = refl
    by false e = cc

pub alone-passed : (engine : EngineState) (session : ℕ) (called : SchemaCall) → first_refusal (sessions_in engine session called) ≡ None → has_other_transaction session engine.sessions ≡ false
alone-passed engine session called is =
    by (not (levels_in session engine.sessions == 0)) (is_missing called (engine_table engine called)) (has_other_transaction session engine.sessions) (has_table_open engine.sessions (engine_table engine called)) is
  where
    by : (inside missing other open_table : Bool) → first_refusal ((inside, jet.InTransaction) ∷ (missing, jet.ObjectNotFound) ∷ (other || open_table, jet.TableInUse) ∷ []) ≡ None → other ≡ false
    by true missing other open_table e = cc
    by false true other open_table e = cc
    by false false true open_table e = cc
    by false false false open_table e = refl

free-told : SchemaLaws → (engine : EngineState) (session : ℕ) (called : SchemaCall) (state : DatabaseState) → HoldsState engine state → IsNumbered (catalog_in engine) → first_refusal (sessions_in engine session called) ≡ None
    → schema_refusal state session (step_of_call state called) ≡ refusal_after (decided_in engine session called) (table_or_new state called)
free-told laws engine session called state h rise free =
    refusal-told laws engine session called state h rise
    ∙ ap (λ first. option_or first (refusal_after (decided state (has_records (table_or_new state called)) called) (table_or_new state called))) free
    ∙ ap (λ decision. refusal_after decision (table_or_new state called)) (decided-told laws engine state session called h rise (outside-passed engine session called free) (alone-passed engine session called free))

-- what sessions do refuses it
pub step-stopped : SchemaLaws → (engine : EngineState) (session : ℕ) (called : SchemaCall) (reply : Jet) → IsNumbered (catalog_in engine) → first_refusal (sessions_in engine session called) ≡ Some reply → IsDecided engine session called (Err reply)
step-stopped laws engine session called reply rise is = λ state h.
    sym (ap (λ refusal. refused_or refusal (step_of_call state called))
    (refusal-told laws engine session called state h rise
    ∙ ap (λ first. option_or first (refusal_after (decided state (has_records (table_or_new state called)) called) (table_or_new state called))) is))

-- the catalog refuses it
pub step-refused : SchemaLaws → (engine : EngineState) (session : ℕ) (called : SchemaCall) (reply : Jet) → IsNumbered (catalog_in engine) → first_refusal (sessions_in engine session called) ≡ None → decided_in engine session called ≡ Err reply
    → IsDecided engine session called (Err reply)
step-refused laws engine session called reply rise free is = λ state h.
    sym (ap (λ refusal. refused_or refusal (step_of_call state called))
    (free-told laws engine session called state h rise free ∙ ap (λ decision. refusal_after decision (table_or_new state called)) is))

-- the records of the table decide
pub step-allowed : SchemaLaws → (engine : EngineState) (session : ℕ) (called : SchemaCall) (made : SchemaStep) (own : ℕ) (found : Option Table) (refusal : Option Jet) → IsNumbered (catalog_in engine)
    → first_refusal (sessions_in engine session called) ≡ None → decided_in engine session called ≡ Ok made → own ≡ session → found ≡ engine_table engine called → refusal ≡ first_refusal (step_refusals_in engine own found made)
    → IsDecided engine session called (refused_or refusal made)
step-allowed laws engine session called made own found refusal rise free is is_own is_found records = λ state h.
    let refuse : first_refusal (record_refusals (table_or_new state called) made) ≡ refusal =
    refusals-told laws engine state session called made h rise (outside-passed engine session called free) (alone-passed engine session called free)
    ∙ sym (records ∙ ap (λ n. first_refusal (step_refusals_in engine n found made)) is_own ∙ ap (λ (o : Option Table). first_refusal (step_refusals_in engine session o made)) is_found) in
    let whole : schema_refusal state session (step_of_call state called) ≡ refusal =
    free-told laws engine session called state h rise free ∙ ap (λ decision. refusal_after decision (table_or_new state called)) is ∙ refuse in
    sym (ap (λ refusal. refused_or refusal (step_of_call state called)) whole ∙ ap (λ (s : SchemaStep). refused_or refusal s) (made-told laws engine state session called made h is))

-- ---- the rule of the index

not_refused : {X : Type 0} (refusal : Option Jet) (asked made : X) → refused_or refusal asked ≡ Ok made → refusal ≡ None
not_refused None asked made e = refl
not_refused (Some reply) asked made e = cc

last_passes : (front : Refusals) (test : Bool) (reply : Jet) → first_refusal (front ++ (test, reply) ∷ []) ≡ None → test ≡ false
last_passes [] true reply e = cc
last_passes [] false reply e = refl
last_passes (refusal ∷ front) test reply e = by refusal.0 e (last_passes front test reply)
  where
    by : (b : Bool) → cond b (Some refusal.1) (first_refusal (front ++ (test, reply) ∷ [])) ≡ None → (first_refusal (front ++ (test, reply) ∷ []) ≡ None → test ≡ false) → test ≡ false
    by true e rest = cc
    by false e rest = rest e

-- those of the refusals of an index that come before that of its rule
abbrev before_rule : Bool → Table → IndexRule → Refusals
before_rule holds t rule =
    index_number_refusals t rule.name
    ++ (rule.flags.primary && list_any (λ made. made.flags.primary) t.indexes, jet.IndexHasPrimary)
    ∷ (rule.flags.primary && holds, jet.TableNotEmpty)
    ∷ (list_any (λ id. not (has_column t id)) (rule_columns rule), jet.ColumnNotFound)
    ∷ (list_any (is_escrow_column (schema_of t)) (rule_columns rule), jet.CannotIndex) ∷ []

legal_rule : (holds : Bool) (t : Table) (rule : IndexRule) → first_refusal (index_refusals holds t rule) ≡ None → is_legal rule (schema_of t) ≡ true
legal_rule holds t rule e = by (is_legal rule (schema_of t)) (last_passes (before_rule holds t rule) (not (is_legal rule (schema_of t))) jet.IndexInvalidDef e)
  where
    by : (b : Bool) → not b ≡ false → b ≡ true
    by true e = refl
    by false e = cc

at_most : (n : ℕ) → nat_le n 255 ≡ true → n ≤ 255
at_most n e = grind (arith, nat_tests)

-- what is decided of the call, by the table that was found
abbrev index_by : Bool → List ℕ → IndexFlags → ℕ → List NamedSegment → List NamedCondition → Option Table → Result SchemaStep Jet
index_by holds name flags key_most segments conditions found =
    let t = unwrap_or found (new_table 0 []) in
    let rule = asked_index t name flags key_most segments conditions in
    answer ((is_none found, jet.ObjectNotFound) ∷ index_refusals holds t rule) (step.CreateIndex (record { 0 = t.id }) rule)

keys_by : (holds : Bool) (name : List ℕ) (flags : IndexFlags) (key_most : ℕ) (segments : List NamedSegment) (conditions : List NamedCondition) (found : Option Table) (made : SchemaStep) → nat_le key_most 255 ≡ true
    → index_by holds name flags key_most segments conditions found ≡ Ok made → IfSome found (HasKeys made)
keys_by holds name flags key_most segments conditions None made short told = tt
keys_by holds name flags key_most segments conditions (Some t) made short told =
    let rule : IndexRule = asked_index t name flags key_most segments conditions in
    let asked : SchemaStep = step.CreateIndex (record { 0 = t.id }) rule in
    let refusal : Option Jet = first_refusal (index_refusals holds t rule) in
    subst (λ (s : SchemaStep). HasKeys s t) (made_as refusal asked made told) (legal_rule holds t rule (not_refused refusal asked made told), at_most key_most short)

-- a clause that asks nothing of a table
nothing_asked : (P : Table → Type 0) → ((t : Table) → P t) → (found : Option Table) → IfSome found P
nothing_asked P each None = tt
nothing_asked P each (Some t) = each t

-- keys can be derived for what the catalog lets a call make
pub has-keys : (catalog : CatalogState) (holds : Bool) (called : SchemaCall) (made : SchemaStep) → has_built_keys called ≡ true → decided (database_of catalog) holds called ≡ Ok made
    → IfSome (table_named catalog.tables (called_name called)) (HasKeys made)
unfolding decided
has-keys catalog holds (schema.CreateIndex table index flags key_most segments conditions) made built told =
    keys_by holds index flags key_most segments conditions (table_named catalog.tables table) made built told
has-keys catalog holds (schema.CreateTable table) made built told =
    subst (λ (s : SchemaStep). IfSome (table_named catalog.tables table) (HasKeys s)) (made-decided (database_of catalog) holds (schema.CreateTable table) made told) (nothing_asked _ (λ t. tt) (table_named catalog.tables table))
has-keys catalog holds (schema.DeleteTable table) made built told =
    subst (λ (s : SchemaStep). IfSome (table_named catalog.tables table) (HasKeys s)) (made-decided (database_of catalog) holds (schema.DeleteTable table) made told) (nothing_asked _ (λ t. tt) (table_named catalog.tables table))
has-keys catalog holds (schema.AddColumn table column kind flags) made built told =
    subst (λ (s : SchemaStep). IfSome (table_named catalog.tables table) (HasKeys s)) (made-decided (database_of catalog) holds (schema.AddColumn table column kind flags) made told) (nothing_asked _ (λ t. tt) (table_named catalog.tables table))
has-keys catalog holds (schema.DeleteColumn table column) made built told =
    subst (λ (s : SchemaStep). IfSome (table_named catalog.tables table) (HasKeys s)) (made-decided (database_of catalog) holds (schema.DeleteColumn table column) made told) (nothing_asked _ (λ t. tt) (table_named catalog.tables table))
has-keys catalog holds (schema.DeleteIndex table index) made built told =
    subst (λ (s : SchemaStep). IfSome (table_named catalog.tables table) (HasKeys s)) (made-decided (database_of catalog) holds (schema.DeleteIndex table index) made told) (nothing_asked _ (λ t. tt) (table_named catalog.tables table))

-- ---- what the code asks

-- what the tables of the engine show of its catalog
abbrev pub catalog_shown : StoredVersions → CatalogState
catalog_shown stored = record { greatest_table = stored.greatest_table; tables = map without_rows stored.store.tables }

pub decided-as : (engine : EngineState) (session own : ℕ) (called : SchemaCall) (catalog : CatalogState) (found : Option Table) (holds : Bool) (decision : Result SchemaStep Jet) → catalog ≡ catalog_in engine → found ≡ engine_table engine called → own ≡ session
    → holds ≡ has_rows_in engine own found → decision ≡ decided (database_of catalog) holds called → decision ≡ decided_in engine session called
decided-as engine session own called catalog found holds decision same is_found is_own filled is =
    is
    ∙ ap (λ (k : CatalogState). decided (database_of k) holds called) same
    ∙ ap (λ b. decided (database_of (catalog_in engine)) b called) (filled ∙ ap (λ n. has_rows_in engine n found) is_own ∙ ap (has_rows_in engine session) is_found)

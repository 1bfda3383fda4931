-- The parts of an update's decision, one behind the other.
use Rattle.std.proofs.Common.{◌≡◌, ℕ, ◌≤◌, Bool, true, false, [], ◌∷◌, ◌++◌, length, Option, Some, None, Result, Ok, Err, refl, sym, ap, subst, ◌∙◌}
use Rattle.std.specs.Prelude.{IfOk, IfSome, IsSomeAnd, nat_le, nat_lt, slice_get}
use Rattle.jet_base.specs.declared.memory.OutOfMemory.{OutOfMemory}
use Rattle.jet_base.specs.declared.replies.Jet.{Jet}
use Rattle.jet_base.specs.declared.replies.Jet.TheVariants as jet
use Rattle.column_set.specs.declared.changes.Change.{Change}
use Rattle.column_set.specs.RecordValues.{RecordFields, is_missing_a_value}
use Rattle.index_derive.specs.declared.rules.IndexRule.{IndexRule}
use Rattle.index_derive.specs.declared.rules.Schema.{Schema}
use Rattle.index_derive.specs.Entries.{is_legal}
use Rattle.column_set.specs.ChangedRecords.{changed_bookmark}
use Rattle.database_state.specs.Lawful.{log_limit}
use Rattle.database_state.specs.Puts.{null_refusals}
use Rattle.column_set.specs.Refusals.{Refusals, first_refusal}
use Rattle.database_state.specs.Table.{schema_of, table_with_id}
use Rattle.index_derive.specs.Schemas.{rule_with_id}
use Rattle.session_local.specs.Local.{OpenCursor, PreparedUpdate}
use Rattle.session_local.specs.RecordCalls.{is_primary_changed, replaced_by}
use Rattle.laws_engine.specs.VersionedTables.{VersionedTables}
use Rattle.laws_engine.specs.EngineState.{EngineState}
use Rattle.record_decisions.specs.Changing.{room_in, span_with}
use Rattle.record_decisions.specs.Updating.{HasLegalRules, IsMade, IsMadeOf, IsSchemaOf, keys_in, put_by, record_in, span_in, update_in, values_in}
use Rattle.engine_parts.specs.RefusalLaws.{passed-one, refused-front, refused-rest, stopped-one}
use Rattle.record_decisions.proofs.RuleByRule.{both-none}

-- ---- what is prepared on the cursor

pub made-prepared : (engine : EngineState) (session by : ℕ) (labelled : Option OpenCursor) (c : OpenCursor) (p : PreparedUpdate) (result : Result (Result Change Jet) OutOfMemory) → labelled ≡ Some c → c.prepared ≡ Some p → by ≡ session
    → IfOk result (IsMade (update_in engine by c p) (put_by engine by c p)) → IfOk result (λ made. IfSome labelled (λ c. IsMadeOf engine session c c.prepared made))
made-prepared engine session by labelled c p (Err fault) found is same made = tt
made-prepared engine session by labelled c p (Ok made) found is same told =
    subst (λ (o : Option OpenCursor). IfSome o (λ c. IsMadeOf engine session c c.prepared made)) (sym found)
    (subst (λ (o : Option PreparedUpdate). IsMadeOf engine session c o made) (sym is)
    (subst (λ n. IsMade (update_in engine n c p) (put_by engine n c p) made) same told))

pub made-unprepared : (engine : EngineState) (session : ℕ) (labelled : Option OpenCursor) (c : OpenCursor) → labelled ≡ Some c → c.prepared ≡ None → IfSome labelled (λ c. IsMadeOf engine session c c.prepared (Err jet.UpdateNotPrepared))
made-unprepared engine session labelled c found is =
    subst (λ (o : Option OpenCursor). IfSome o (λ c. IsMadeOf engine session c c.prepared (Err jet.UpdateNotPrepared))) (sym found)
    (subst (λ (o : Option PreparedUpdate). IsMadeOf engine session c o (Err jet.UpdateNotPrepared)) (sym is) refl)

-- ---- what the values alone tell, and then the keys

pub values-refused : (engine : EngineState) (session : ℕ) (c : OpenCursor) (p : PreparedUpdate) (schema : Schema) (refusal : Jet) → schema ≡ c.schema → Some refusal ≡ first_refusal (values_in schema p) → Some refusal ≡ first_refusal (record_in engine session c p)
values-refused engine session c p schema refusal same told =
    refused-front (values_in c.schema p) (keys_in engine session c.cursor.table c.schema (replaced_by p.for) p.values) refusal (Some refusal) (told ∙ ap (λ (s : Schema). first_refusal (values_in s p)) same) refl

pub keys-asked : (engine : EngineState) (session : ℕ) (c : OpenCursor) (p : PreparedUpdate) (table : ℕ) (schema : Schema) (found : Option Jet) → table ≡ c.cursor.table → schema ≡ c.schema → None ≡ first_refusal (values_in schema p)
    → found ≡ first_refusal (keys_in engine session table schema (replaced_by p.for) p.values) → found ≡ first_refusal (record_in engine session c p)
keys-asked engine session c p table schema found own same passed told =
    refused-rest (values_in c.schema p) (keys_in engine session c.cursor.table c.schema (replaced_by p.for) p.values) None found (passed ∙ ap (λ (s : Schema). first_refusal (values_in s p)) same) refl
    (told ∙ ap (λ n. first_refusal (keys_in engine session n schema (replaced_by p.for) p.values)) own ∙ ap (λ (s : Schema). first_refusal (keys_in engine session c.cursor.table s (replaced_by p.for) p.values)) same)

-- ---- the record's refusals, and then those of its room

pub put-refused : (record_refusals room : Refusals) (change : Change) (refusal : Jet) → Some refusal ≡ first_refusal record_refusals → IsMade (record_refusals ++ room) change (Err refusal)
put-refused record_refusals room change refusal told = sym (refused-front record_refusals room refusal (Some refusal) told refl)

pub full-refused : (record_refusals : Refusals) (engine : EngineState) (change : Change) (full : Bool) → None ≡ first_refusal record_refusals → full ≡ nat_le log_limit engine.number → full ≡ true
    → IsMade (record_refusals ++ room_in engine change) change (Err jet.LogSequenceEnd)
full-refused record_refusals engine change full passed is on =
    sym (refused-rest record_refusals (room_in engine change) None (Some jet.LogSequenceEnd) passed refl (stopped-one (nat_le log_limit engine.number) jet.LogSequenceEnd (span_in engine change) (sym is ∙ on)))

pub with-room : (record_refusals : Refusals) (engine : EngineState) (change : Change) (full : Bool) (result : Result (Result Change Jet) OutOfMemory) → None ≡ first_refusal record_refusals → full ≡ nat_le log_limit engine.number → full ≡ false
    → IfOk result (IsMade (span_in engine change) change) → IfOk result (IsMade (record_refusals ++ room_in engine change) change)
with-room record_refusals engine change full (Err fault) passed is off told = tt
with-room record_refusals engine change full (Ok (Ok made)) passed is off told =
    (sym (refused-rest record_refusals (room_in engine change) None None passed refl (passed-one (nat_le log_limit engine.number) jet.LogSequenceEnd (span_in engine change) None (sym is ∙ off) (sym told.0))), told.1)
with-room record_refusals engine change full (Ok (Err reply)) passed is off told =
    sym (refused-rest record_refusals (room_in engine change) None (Some reply) passed refl (passed-one (nat_le log_limit engine.number) jet.LogSequenceEnd (span_in engine change) (Some reply) (sym is ∙ off) (sym told)))

pub span-refused : (engine : EngineState) (change made : Change) (lacks : Bool) → made ≡ change → lacks ≡ nat_lt engine.limit (span_with engine made) → lacks ≡ true → IsMade (span_in engine change) change (Err jet.VersionStoreOutOfMemory)
span-refused engine change made lacks same is on =
    sym (stopped-one (nat_lt engine.limit (span_with engine change)) jet.VersionStoreOutOfMemory [] (sym (is ∙ ap (λ (m : Change). nat_lt engine.limit (span_with engine m)) same) ∙ on))

pub span-made : (engine : EngineState) (change made : Change) (lacks : Bool) → made ≡ change → lacks ≡ nat_lt engine.limit (span_with engine made) → lacks ≡ false → IsMade (span_in engine change) change (Ok made)
span-made engine change made lacks same is off =
    (sym (passed-one (nat_lt engine.limit (span_with engine change)) jet.VersionStoreOutOfMemory [] None (sym (is ∙ ap (λ (m : Change). nat_lt engine.limit (span_with engine m)) same) ∙ off) refl), same)

-- ---- the rules of the cursor's schema

-- what the tables tell of their rules
abbrev pub FindsRules : VersionedTables → Type 0
FindsRules store =
    (table : ℕ) (schema : Schema) → IsSomeAnd (table_with_id store.tables table) (λ t. schema ≡ schema_of t) → (place : ℕ) (rule : IndexRule) → slice_get schema.indexes place ≡ Some rule → rule_with_id schema rule.id.0 ≡ Some rule

abbrev pub HasLegalOnes : VersionedTables → Type 0
HasLegalOnes store =
    (table : ℕ) (schema : Schema) → IsSomeAnd (table_with_id store.tables table) (λ t. schema ≡ schema_of t) → (rule : IndexRule) → rule_with_id schema rule.id.0 ≡ Some rule → (is_legal rule schema ≡ true) × (rule.key_most ≤ 255)

pub rules-legal : (engine : EngineState) (store : VersionedTables) (table : ℕ) (schema : Schema) → store ≡ engine.store → FindsRules store → HasLegalOnes store → IsSchemaOf engine table schema → HasLegalRules schema
rules-legal engine store table schema same finds legal named = λ place rule is.
    let there : IsSomeAnd (table_with_id store.tables table) (λ t. schema ≡ schema_of t) = subst (λ (s : VersionedTables). IsSomeAnd (table_with_id s.tables table) (λ t. schema ≡ schema_of t)) (sym same) named in
    let found = finds table schema there place rule is in
    let both = legal table schema there rule found in
    (found, both.0, both.1)

-- ---- what the values alone tell

pub values-missing : (schema : Schema) (p : PreparedUpdate) (values : RecordFields) (one : Bool) → values ≡ p.values → one ≡ is_missing_a_value schema.columns values → one ≡ true → Some jet.NullInvalid ≡ first_refusal (values_in schema p)
values-missing schema p values one same is on =
    stopped-one (is_missing_a_value schema.columns p.values) jet.NullInvalid ((is_primary_changed schema p.for p.values, jet.RecordPrimaryChanged) ∷ null_refusals schema p.values)
    (sym (is ∙ ap (λ (v : RecordFields). is_missing_a_value schema.columns v) same) ∙ on)

pub values-changed : (schema : Schema) (p : PreparedUpdate) (values : RecordFields) (one two : Bool) → values ≡ p.values → one ≡ is_missing_a_value schema.columns values → one ≡ false → two ≡ is_primary_changed schema p.for values → two ≡ true
    → Some jet.RecordPrimaryChanged ≡ first_refusal (values_in schema p)
values-changed schema p values one two same is off is_two on =
    passed-one (is_missing_a_value schema.columns p.values) jet.NullInvalid ((is_primary_changed schema p.for p.values, jet.RecordPrimaryChanged) ∷ null_refusals schema p.values) (Some jet.RecordPrimaryChanged)
    (sym (is ∙ ap (λ (v : RecordFields). is_missing_a_value schema.columns v) same) ∙ off)
    (stopped-one (is_primary_changed schema p.for p.values) jet.RecordPrimaryChanged (null_refusals schema p.values) (sym (is_two ∙ ap (λ (v : RecordFields). is_primary_changed schema p.for v) same) ∙ on))

pub values-passed : (schema : Schema) (p : PreparedUpdate) (values : RecordFields) (one two : Bool) (result : Result (Option Jet) OutOfMemory) → values ≡ p.values
    → one ≡ is_missing_a_value schema.columns values → one ≡ false → two ≡ is_primary_changed schema p.for values → two ≡ false
    → IfOk result (λ found. found ≡ first_refusal (null_refusals schema values)) → IfOk result (λ found. found ≡ first_refusal (values_in schema p))
values-passed schema p values one two (Err fault) same is_one off is_two nor told = tt
values-passed schema p values one two (Ok found) same is_one off is_two nor told =
    passed-one (is_missing_a_value schema.columns p.values) jet.NullInvalid ((is_primary_changed schema p.for p.values, jet.RecordPrimaryChanged) ∷ null_refusals schema p.values) found
    (sym (is_one ∙ ap (λ (v : RecordFields). is_missing_a_value schema.columns v) same) ∙ off)
    (passed-one (is_primary_changed schema p.for p.values) jet.RecordPrimaryChanged (null_refusals schema p.values) found
    (sym (is_two ∙ ap (λ (v : RecordFields). is_primary_changed schema p.for v) same) ∙ nor)
    (told ∙ ap (λ (v : RecordFields). first_refusal (null_refusals schema v)) same))

-- ---- where the values refuse nothing

single-none : (test : Bool) (reply : Jet) (rest : Refusals) → first_refusal ((test, reply) ∷ rest) ≡ None → (test ≡ false) × (first_refusal rest ≡ None)
single-none true reply rest e = cc
single-none false reply rest e = (refl, e)

values-none : (schema : Schema) (p : PreparedUpdate) → first_refusal (values_in schema p) ≡ None → (is_primary_changed schema p.for p.values ≡ false) × (first_refusal (null_refusals schema p.values) ≡ None)
values-none schema p none =
    single-none (is_primary_changed schema p.for p.values) jet.RecordPrimaryChanged (null_refusals schema p.values)
    (single-none (is_missing_a_value schema.columns p.values) jet.NullInvalid ((is_primary_changed schema p.for p.values, jet.RecordPrimaryChanged) ∷ null_refusals schema p.values) none).1

-- no index refuses the record
pub values-taken : (schema : Schema) (p : PreparedUpdate) → None ≡ first_refusal (values_in schema p) → first_refusal (null_refusals schema p.values) ≡ None
values-taken schema p told = (values-none schema p (sym told)).1

-- and a replace keeps its primary key
pub made-keeps : (engine : EngineState) (session : ℕ) (c : OpenCursor) (p : PreparedUpdate) → first_refusal (update_in engine session c p) ≡ None → is_primary_changed c.schema p.for p.values ≡ false
made-keeps engine session c p none =
    let of_record : first_refusal (record_in engine session c p) ≡ None = (both-none (record_in engine session c p) (room_in engine (put_by engine session c p)) none).0 in
    (values-none c.schema p (both-none (values_in c.schema p) (keys_in engine session c.cursor.table c.schema (replaced_by p.for) p.values) of_record).0).0

-- ---- the bookmark of what is made is short

pub made-short : (engine : EngineState) (session : ℕ) (c : OpenCursor) (p : PreparedUpdate) (result : Result (Result Change Jet) OutOfMemory) → IfOk result (IsMade (update_in engine session c p) (put_by engine session c p))
    → (is_primary_changed c.schema p.for p.values ≡ false → length (changed_bookmark (put_by engine session c p)) ≤ 255) → IfOk result (λ made. IfOk made (λ put. length (changed_bookmark put) ≤ 255))
made-short engine session c p (Err fault) told short = tt
made-short engine session c p (Ok (Err reply)) told short = tt
made-short engine session c p (Ok (Ok made)) told short = subst (λ (put : Change). length (changed_bookmark put) ≤ 255) (sym told.1) (short (made-keeps engine session c p told.0))

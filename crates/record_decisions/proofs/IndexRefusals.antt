-- What an index refuses of a record, and what is told where it refuses nothing.
use Rattle.std.proofs.Common.{◌≡◌, ℕ, Bool, true, false, cond, List, [], Option, Some, None, Result, Ok, Err, filter, not, refl, sym, ◌∙◌}
use Rattle.std.specs.Prelude.{IsOk, slice_get}
use Rattle.jet_base.specs.declared.replies.Jet.{Jet}
use Rattle.column_set.specs.RecordValues.{RecordFields}
use Rattle.index_derive.specs.declared.rules.IndexRule.{IndexRule}
use Rattle.index_derive.specs.declared.rules.Schema.{Schema}
use Rattle.index_derive.specs.Entries.{KeyRefusal, KeyValues, NullKeyDisallowed, KeyTruncated, all_key_values, entries, is_unique, is_ignored, keys_of, meets_conditions}
use Rattle.database_state.specs.Puts.{null_refusals}
use Rattle.column_set.specs.Refusals.{first_refusal}
use Rattle.version_store.specs.declared.calls.Reader.{Reader}
use Rattle.version_cleanup.specs.Cleaning.{reader_in}
use Rattle.laws_engine.specs.VersionedTables.{VersionedTables}
use Rattle.table_versions.specs.KeyConflicts.{unique_refusals}
use Rattle.laws_engine.specs.EngineState.{EngineState}
use Rattle.record_decisions.specs.Updating.{entry_refusals, refusals_of_keys, rule_refusals}
use Rattle.record_decisions.proofs.RuleByRule.{asked_where, none-at}

-- ---- an index that disallows nothing

keys-allowed : (rule : IndexRule) (schema : Schema) (all : List KeyValues) → rule.flags.disallownull ≡ false → rule.flags.disallowtruncation ≡ false → first_refusal (refusals_of_keys (keys_of rule schema all)) ≡ None
keys-allowed rule schema all no_null no_cut = rw (no_null, no_cut) refl

pub entries-allowed : (rule : IndexRule) (schema : Schema) (values : RecordFields) → rule.flags.disallownull ≡ false → rule.flags.disallowtruncation ≡ false → None ≡ first_refusal (entry_refusals schema values rule)
unfolding entries
entries-allowed rule schema values no_null no_cut = by (meets_conditions rule values)
  where
    all : List KeyValues
    all = filter (λ (v : KeyValues). not (is_ignored rule.flags v)) (all_key_values rule schema values)

    by : (b : Bool) → None ≡ first_refusal (refusals_of_keys (elim b [ true ↦ keys_of rule schema all | false ↦ Ok [] ]))
    by true = sym (keys-allowed rule schema all no_null no_cut)
    by false = refl

-- ---- where it refuses nothing

some_none : {X A : Type 0} (x : X) → Some x ≡ None → A
some_none {X} {A} x e = cc

is-ok : (keys : Result (List (List ℕ)) KeyRefusal) → first_refusal (refusals_of_keys keys) ≡ None → IsOk keys
is-ok (Ok keys) none = refl
is-ok (Err NullKeyDisallowed) none = some_none _ none
is-ok (Err KeyTruncated) none = some_none _ none

pub rule-taken : (schema : Schema) (values : RecordFields) (place : ℕ) (rule : IndexRule) → first_refusal (null_refusals schema values) ≡ None → slice_get schema.indexes place ≡ Some rule → IsOk (entries rule schema values)
rule-taken schema values place rule none is = is-ok (entries rule schema values) (none-at (entry_refusals schema values) schema.indexes place rule none is)

-- ---- a unique index is asked

pub rule-told : (engine : EngineState) (session table : ℕ) (schema : Schema) (own : Option (List ℕ)) (values : RecordFields) (rule : IndexRule) (reader : Reader) (store : VersionedTables) (found : Option Jet) → reader ≡ reader_in session engine.sessions
    → store ≡ engine.store → found ≡ first_refusal (cond (is_unique rule) (unique_refusals reader store table schema rule own values) [])
    → found ≡ first_refusal (asked_where is_unique (rule_refusals engine session table schema own values) rule)
rule-told engine session table schema own values rule reader store found as_reader as_store told =
    told ∙ (λ i. first_refusal (cond (is_unique rule) (unique_refusals (as_reader i) (as_store i) table schema rule own values) []))

-- What is decided of a put, part by part.
use Rattle.std.proofs.Common.{◌≡◌, ℕ, ◌+◌, ◌≤◌, suc, Bool, true, false, not, ◌&&◌, ◌||◌, cond, List, [], ◌∷◌, Option, Some, None, option_map, refl, sym, ap, subst, ◌∙◌}
use Rattle.std.specs.Prelude.{bytes_eq, find, is_none, is_some, slice_get, IsSomeAnd}
use Rattle.common_lemmas.proofs.Booleans.{impossible}
use Rattle.jet_base.specs.declared.replies.Jet.{Jet}
use Rattle.jet_base.specs.ColumnType.{big_endian}
use Rattle.column_set.specs.RecordValues.{RecordFields}
use Rattle.column_set.specs.Refusals.{first_refusal}
use Rattle.index_derive.specs.declared.rules.IndexRule.{IndexRule}
use Rattle.index_derive.specs.declared.rules.Schema.{Schema}
use Rattle.index_derive.specs.Entries.{is_legal, primary_key}
use Rattle.index_derive.specs.Schemas.{primary_rule, rule_with_id}
use Rattle.database_state.specs.Lawful.{is_bookmark_of, is_indexable}
use Rattle.database_state.specs.Puts.{null_refusals}
use Rattle.database_state.specs.State.{DatabaseState}
use Rattle.database_state.specs.Table.{Rows, row_at, schema_of, table_with_id}
use Rattle.laws_engine.specs.EngineState.{EngineState}
use Rattle.laws_engine.specs.VersionedTables.{VersionedTables}
use Rattle.record_decisions.specs.Updating.{HasLegalRules, IsLegalRule, IsSchemaOf, own_key}
use Rattle.soft_recovery.specs.LawfulEntries.{IsTold, is_lawful_put_in, is_placed_in, is_storable_in, rows_in}
use Rattle.soft_recovery.proofs.HeldTables.{from_some, none_some}

-- ---- the rules of the schema

pub rules_legal : (engine : EngineState) (store : VersionedTables) (table : ℕ) (schema : Schema) → store ≡ engine.store
    → ((table : ℕ) (schema : Schema) → IsSomeAnd (table_with_id store.tables table) (λ t. schema ≡ schema_of t) → (place : ℕ) (rule : IndexRule) → slice_get schema.indexes place ≡ Some rule → rule_with_id schema rule.id.0 ≡ Some rule)
    → ((table : ℕ) (schema : Schema) → IsSomeAnd (table_with_id store.tables table) (λ t. schema ≡ schema_of t) → (rule : IndexRule) → rule_with_id schema rule.id.0 ≡ Some rule → (is_legal rule schema ≡ true) × (rule.key_most ≤ 255))
    → IsSchemaOf engine table schema → HasLegalRules schema
rules_legal engine store table schema same finds legal named = λ place rule is.
    let there : IsSomeAnd (table_with_id store.tables table) (λ t. schema ≡ schema_of t) = subst (λ (s : VersionedTables). IsSomeAnd (table_with_id s.tables table) (λ t. schema ≡ schema_of t)) (sym same) named in
    let found = finds table schema there place rule is in
    let both = legal table schema there rule found in
    (found, both.0, both.1)

has_found : {X : Type 0} (P : X → Type 0) (test : X → Bool) (rules : List X) (rule : X) → ((place : ℕ) (r : X) → slice_get rules place ≡ Some r → P r) → find test rules ≡ Some rule → P rule
has_found P test [] rule each e = none_some rule e
has_found P test (r ∷ rules) rule each e = elim (test r) as (λ b. cond b (Some r) (find test rules) ≡ Some rule → P rule) [
  | true ↦ λ f. each 0 rule f
  | false ↦ λ f. has_found P test rules rule (λ place x is. each (suc place) x is) f
] e

pub primary_short : (schema : Schema) (rule : IndexRule) → HasLegalRules schema → Some rule ≡ primary_rule schema → rule.key_most ≤ 255
primary_short schema rule rules is = (has_found (IsLegalRule schema) (λ (r : IndexRule). r.flags.primary) schema.indexes rule rules (sym is)).2

-- the record's key in the primary index
pub key_made : (schema : Schema) (values : RecordFields) (rule : IndexRule) (key : List ℕ) → Some rule ≡ primary_rule schema → key ≡ primary_key rule schema values → Some key ≡ own_key schema values
key_made schema values rule key first made = ap (λ (k : List ℕ). Some k) made ∙ ap (option_map (λ (r : IndexRule). primary_key r schema values)) first

-- ---- the record alone, and then its indexes

abbrev IsLawfulPut : EngineState → ℕ → ℕ → Schema → List ℕ → Option (List ℕ) → RecordFields → Bool → Type 0
IsLawfulPut engine session table schema bookmark copied values = IsTold engine (λ state. is_lawful_put_in state session table schema bookmark copied values)

pub put_unstorable : (engine : EngineState) (session table : ℕ) (schema : Schema) (bookmark : List ℕ) (copied : Option (List ℕ)) (values : RecordFields) → is_storable_in schema values ≡ false → IsLawfulPut engine session table schema bookmark copied values false
put_unstorable engine session table schema bookmark copied values e = λ state h. sym (ap (λ b. b && (is_indexable schema values && is_placed_in state session table schema bookmark copied values)) e)

pub put_refused : (engine : EngineState) (session table : ℕ) (schema : Schema) (bookmark : List ℕ) (copied : Option (List ℕ)) (values : RecordFields) (refusal : Jet) → is_storable_in schema values ≡ true → Some refusal ≡ first_refusal (null_refusals schema values)
    → IsLawfulPut engine session table schema bookmark copied values false
put_refused engine session table schema bookmark copied values refusal e told = λ state h. sym (λ i. e i && (is_none (sym told i) && is_placed_in state session table schema bookmark copied values))

pub put_placed : (engine : EngineState) (session table : ℕ) (schema : Schema) (bookmark : List ℕ) (copied : Option (List ℕ)) (values : RecordFields) (may : Bool) → is_storable_in schema values ≡ true → None ≡ first_refusal (null_refusals schema values)
    → IsTold engine (λ state. is_placed_in state session table schema bookmark copied values) may → IsLawfulPut engine session table schema bookmark copied values may
put_placed engine session table schema bookmark copied values may e told is = λ state h. is state h ∙ sym (λ i. e i && (is_none (sym told i) && is_placed_in state session table schema bookmark copied values))

-- ---- its keys

pub none_by : (found : Option Jet) (answer : Bool) → is_some found ≡ not answer → answer ≡ is_none found
none_by None true e = refl
none_by None false e = impossible e
none_by (Some refusal) true e = impossible (sym e)
none_by (Some refusal) false e = refl

-- ---- its bookmark

pub own_bookmark : (engine : EngineState) (session table : ℕ) (schema : Schema) (bookmark key : List ℕ) (values : RecordFields) (may : Bool) → Some key ≡ own_key schema values → may ≡ bytes_eq bookmark key
    → IsTold engine (λ state. is_bookmark_of (state.number + 1) schema (rows_in state session table) (primary_rule schema) bookmark values) may
own_bookmark engine session table schema bookmark key values may own is = λ state h. is ∙ by (state.number + 1) (rows_in state session table) (primary_rule schema) own
  where
    by : (number : ℕ) (rows : Rows) (o : Option IndexRule) → Some key ≡ option_map (λ (r : IndexRule). primary_key r schema values) o → bytes_eq bookmark key ≡ is_bookmark_of number schema rows o bookmark values
    by number rows None e = none_some key (sym e)
    by number rows (Some rule) e = ap (bytes_eq bookmark) (from_some key (primary_key rule schema values) e)

pub hidden_bookmark : (engine : EngineState) (session table : ℕ) (schema : Schema) (bookmark : List ℕ) (values : RecordFields) (may : Bool) → None ≡ own_key schema values
    → IsTold engine (λ state. is_some (row_at (rows_in state session table) bookmark) || bytes_eq bookmark (big_endian 8 (state.number + 1))) may
    → IsTold engine (λ state. is_bookmark_of (state.number + 1) schema (rows_in state session table) (primary_rule schema) bookmark values) may
hidden_bookmark engine session table schema bookmark values may own is = λ state h. is state h ∙ by (state.number + 1) (rows_in state session table) (primary_rule schema) own
  where
    by : (number : ℕ) (rows : Rows) (o : Option IndexRule) → None ≡ option_map (λ (r : IndexRule). primary_key r schema values) o → (is_some (row_at rows bookmark) || bytes_eq bookmark (big_endian 8 number)) ≡ is_bookmark_of number schema rows o bookmark values
    by number rows None e = refl
    by number rows (Some rule) e = none_some (primary_key rule schema values) e

pub seen_key : (engine : EngineState) (test : DatabaseState → Bool) (bookmark : List ℕ) → IsTold engine test true → IsTold engine (λ state. test state || bytes_eq bookmark (big_endian 8 (state.number + 1))) true
seen_key engine test bookmark is = λ state h. ap (λ b. b || bytes_eq bookmark (big_endian 8 (state.number + 1))) (is state h)

pub next_key : (engine : EngineState) (test : DatabaseState → Bool) (bookmark : List ℕ) (may : Bool) → IsTold engine test false → may ≡ bytes_eq bookmark (big_endian 8 (engine.number + 1)) → IsTold engine (λ state. test state || bytes_eq bookmark (big_endian 8 (state.number + 1))) may
next_key engine test bookmark may seen is = λ state h.
    is ∙ ap (λ (n : ℕ). bytes_eq bookmark (big_endian 8 (n + 1))) (sym h.number) ∙ ap (λ b. b || bytes_eq bookmark (big_endian 8 (state.number + 1))) (seen state h)

-- ---- its place

-- the tests one behind the other
abbrev pub AllFour : (DatabaseState → Bool) → (DatabaseState → Bool) → (DatabaseState → Bool) → (DatabaseState → Bool) → DatabaseState → Bool
AllFour one two three four state = one state && two state && three state && four state

pub first_fails : (engine : EngineState) (one two three four : DatabaseState → Bool) → IsTold engine one false → IsTold engine (AllFour one two three four) false
first_fails engine one two three four e = λ state h. ap (λ b. b && two state && three state && four state) (e state h)

pub second_fails : (engine : EngineState) (one two three four : DatabaseState → Bool) → IsTold engine one true → IsTold engine two false → IsTold engine (AllFour one two three four) false
second_fails engine one two three four e f = λ state h. (λ i. e state h i && f state h i && three state && four state)

pub third_fails : (engine : EngineState) (one two three four : DatabaseState → Bool) → IsTold engine one true → IsTold engine two true → IsTold engine three false → IsTold engine (AllFour one two three four) false
third_fails engine one two three four e f g = λ state h. (λ i. e state h i && f state h i && g state h i && four state)

pub fourth_tells : (engine : EngineState) (one two three four : DatabaseState → Bool) (may : Bool) → IsTold engine one true → IsTold engine two true → IsTold engine three true → IsTold engine four may → IsTold engine (AllFour one two three four) may
fourth_tells engine one two three four may e f g is = λ state h. is state h ∙ (λ i. e state h i && f state h i && g state h i && four state)

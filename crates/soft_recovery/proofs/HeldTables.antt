-- The committed table of a table that the engine has, and the same table in a session's view.
use Rattle.std.proofs.Common.{◌≡◌, ℕ, true, Option, Some, None, option_map, unwrap_or, refl, sym, ap, ◌∙◌}
use Rattle.std.specs.Prelude.{is_some, IsSomeAnd}
use Rattle.common_lemmas.proofs.Booleans.{impossible}
use Rattle.index_derive.specs.declared.rules.Schema.{Schema}
use Rattle.database_state.specs.State.{DatabaseState}
use Rattle.database_state.specs.Table.{Table, schema_of, table_with_id}
use Rattle.database_state.specs.View.{view}
use Rattle.laws_engine.specs.EngineState.{EngineState}
use Rattle.laws_engine.specs.HoldsState.{HoldsState}
use Rattle.laws_engine.proofs.EngineLemmas.SameTables.{schema_alike}
use Rattle.laws_engine.proofs.TableLemmas.Views.{view_defined}
use Rattle.record_decisions.specs.Updating.{IsSchemaOf}

-- the table that has the schema
abbrev pub HasIt : Option Table → Schema → Type 0
HasIt found schema = (t : Table) × (found ≡ Some t) × (schema ≡ schema_of t)

pub none_some : {X A : Type 0} (x : X) → None ≡ Some x → A
none_some {X} x e = impossible (ap (λ (o : Option X). is_some o) e)

some_none : {X A : Type 0} (x : X) → Some x ≡ None → A
some_none x e = none_some x (sym e)

pub from_some : {X : Type 0} (x y : X) → Some x ≡ Some y → x ≡ y
from_some {X} x y e = ap (λ (o : Option X). unwrap_or o x) e

-- one that is defined alike has the schema too
alike_has : (schema : Schema) (one other : Option Table) → option_map schema_of one ≡ option_map schema_of other → IsSomeAnd one (λ t. schema ≡ schema_of t) → HasIt other schema
alike_has schema None other e has = absurd has
alike_has schema (Some t) None e has = some_none (schema_of t) e
alike_has schema (Some t) (Some u) e has = (u, refl, has ∙ from_some (schema_of t) (schema_of u) e)

pub committed_table : (engine : EngineState) (state : DatabaseState) → HoldsState engine state → (table : ℕ) (schema : Schema) → IsSchemaOf engine table schema → HasIt (table_with_id state.tables table) schema
committed_table engine state h table schema named =
    alike_has schema (table_with_id engine.store.tables table) (table_with_id state.tables table) (schema_alike engine.store.tables state.tables h.holds.defined table) named

pub is_there : (found : Option Table) (schema : Schema) → IsSomeAnd found (λ t. schema ≡ schema_of t) → is_some found ≡ true
is_there None schema has = absurd has
is_there (Some t) schema has = refl

as_one : (found : Option Table) (t : Table) → found ≡ Some t → (schema : Schema) → schema ≡ schema_of t → IsSomeAnd found (λ t. schema ≡ schema_of t)
as_one None t e schema same = none_some t e
as_one (Some u) t e schema same = same ∙ ap schema_of (sym (from_some u t e))

-- it is in each view
pub viewed_table : (engine : EngineState) (state : DatabaseState) → HoldsState engine state → (session table : ℕ) (schema : Schema) → IsSchemaOf engine table schema → HasIt (table_with_id (view state session) table) schema
viewed_table engine state h session table schema named =
    let it = committed_table engine state h table schema named in
    alike_has schema (table_with_id state.tables table) (table_with_id (view state session) table)
    (sym (schema_alike (view state session) state.tables (view_defined h.base h.dropped h.kept engine.store state h.holds session) table))
    (as_one (table_with_id state.tables table) it.0 it.1 schema it.2)

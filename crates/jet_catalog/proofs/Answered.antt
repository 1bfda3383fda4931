-- What is answered where a refusal holds, and where none does.
use Rattle.std.proofs.Common.{◌≡◌, Bool, List, ℕ, Option, Some, None, Result, Ok, Err, refl}
use Rattle.jet_base.specs.declared.replies.Jet.{Jet}
use Rattle.index_derive.specs.declared.schema_calls.SchemaCall.TheVariants as call
use Rattle.index_derive.specs.declared.schema_calls.SchemaStep.TheVariants as step
use Rattle.database_state.specs.Table.{Table, table_named}
use Rattle.database_state.specs.State.{DatabaseState}
use Rattle.column_set.specs.Refusals.{Refusals, first_refusal}
use Rattle.database_state.specs.SchemaChanges.{deleted_column_refusals, deleted_index_refusals}
use Rattle.database_state.specs.SchemaSteps.{index_id_named}
use Rattle.jet_catalog.specs.Decisions.{answer, refused_or, decided, named_column}

refused_both : {X Y : Type 0} (first : Option Jet) (x : X) (y : Y) (refusal : Jet) → refused_or first x ≡ Err refusal → Err refusal ≡ refused_or first y
refused_both (Some other) x y refusal h = cc
refused_both None x y refusal h = cc

-- a refusal is answered whatever would be made
pub answer-refused : {X Y : Type 0} (refusals : Refusals) (x : X) (y : Y) (refusal : Jet) → answer refusals x ≡ Err refusal → Err refusal ≡ answer refusals y
answer-refused refusals x y refusal h = refused_both (first_refusal refusals) x y refusal h

made_both : {X Y : Type 0} (first : Option Jet) (x made : X) (y : Y) → refused_or first x ≡ Ok made → (made ≡ x) × (refused_or first y ≡ Ok y)
made_both (Some other) x made y h = cc
made_both None x made y h = (cc, refl)

-- what is made where nothing is refused
pub answer-made : {X Y : Type 0} (refusals : Refusals) (x made : X) (y : Y) → answer refusals x ≡ Ok made → (made ≡ x) × (answer refusals y ≡ Ok y)
answer-made refusals x made y h = made_both (first_refusal refusals) x made y h

-- calls that delete a part of a table that is there
pub decided-DeleteColumn : (state : DatabaseState) (holds_records : Bool) (name column : List ℕ) (table : Table) → table_named state.tables name ≡ Some table
    → decided state holds_records (call.DeleteColumn name column) ≡ answer (deleted_column_refusals table (named_column table column)) (step.DeleteColumn (record { 0 = table.id }) (named_column table column))
unfolding decided
decided-DeleteColumn state holds_records name column table found = rw found

pub decided-DeleteIndex : (state : DatabaseState) (holds_records : Bool) (name index : List ℕ) (table : Table) → table_named state.tables name ≡ Some table
    → decided state holds_records (call.DeleteIndex name index) ≡ answer (deleted_index_refusals table (index_id_named table.indexes index)) (step.DeleteIndex (record { 0 = table.id }) (record { 0 = index_id_named table.indexes index }))
unfolding decided
decided-DeleteIndex state holds_records name index table found = rw found

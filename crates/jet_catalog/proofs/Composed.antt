-- All refusals of a call: those of sessions, those that are decided, and those of the table's records.
use Rattle.std.proofs.Common.{◌≡◌, ℕ, ◌<◌, ◌≤◌, Bool, true, false, ◌&&◌, cond, List, [], ◌∷◌, ◌++◌, Option, Some, None, Result, refl, sym, ap, ◌∙◌, arith}
use Rattle.std.specs.Prelude.{◌==◌, not, nat_lt, find, unwrap_or, is_none}
use Rattle.std.specs.Option.{option_or}
use Rattle.std.proofs.lemmas.Bool.Decides.{nat_tests}
use Rattle.std.proofs.lemmas.Bool.{ltb-true}
use Rattle.common_lemmas.proofs.Booleans.{and_left, and_right}
use Rattle.common_lemmas.proofs.Numbers.{self_equal}
use Rattle.jet_base.specs.declared.replies.Jet.{Jet}
use Rattle.jet_base.specs.declared.replies.Jet.TheVariants as jet
use Rattle.index_derive.specs.declared.schema_calls.SchemaCall.{SchemaCall}
use Rattle.index_derive.specs.declared.schema_calls.SchemaCall.TheVariants as call
use Rattle.index_derive.specs.declared.schema_calls.SchemaStep.{SchemaStep}
use Rattle.database_state.specs.Table.{Table, table_with_id, table_named}
use Rattle.database_state.specs.State.{DatabaseState, levels}
use Rattle.column_set.specs.Refusals.{Refusals, first_refusal}
use Rattle.database_state.specs.SchemaChanges.{new_table, step_table, schema_refusal, schema_refusals, record_refusals, step_refusals, has_records, makes_table, is_in_use}
use Rattle.database_state.specs.SchemaSteps.{step_of_call}
use Rattle.jet_catalog.specs.Catalog.{ids_rise, IsNumbered, catalog_of}
use Rattle.jet_catalog.specs.Decisions.{answer, decided, called_table, session_refusals, refusal_after, refused_or, table_or_new}
use Rattle.jet_catalog.proofs.RisingIds.{above}
use Rattle.jet_catalog.proofs.WithoutRows.{ids_rise-without_rows}

-- ---- a table's id finds the table

none_below : (id low high : ℕ) (tables : List Table) → id ≤ low → ids_rise low high tables ≡ true → table_with_id tables id ≡ None
none_below id low high [] le rise = refl
none_below id low high (t ∷ tables) le rise =
    let lt : low < t.id = ltb-true low t.id (and_left _ _ rise) in
    rw (above id t.id (omega arith)) (none_below id t.id high tables (omega arith) (and_right _ _ rise))

unequal : (a b : ℕ) → a < b → (a == b) ≡ false
unequal a b lt = grind (arith, nat_tests)

-- the one that passes a test has an id above the first number, and is found by it
found_by_id : (p : Table → Bool) (low high : ℕ) (tables : List Table) (table : Table) → ids_rise low high tables ≡ true → find p tables ≡ Some table → (low < table.id) × (table_with_id tables table.id ≡ Some table)
found_by_id p low high [] table rise h = cc
found_by_id p low high (t ∷ tables) table rise h =
    found_at (p t) h (ltb-true low t.id (and_left _ _ rise)) (found_by_id p t.id high tables table (and_right _ _ rise))
  where
    found_at : (b : Bool) → cond b (Some t) (find p tables) ≡ Some table → low < t.id → (find p tables ≡ Some table → (t.id < table.id) × (table_with_id tables table.id ≡ Some table))
        → (low < table.id) × (cond (t.id == table.id) (Some t) (table_with_id tables table.id) ≡ Some table)
    found_at true h lt rest =
        let same : t ≡ table = cc in
        let e : t.id ≡ table.id = ap (λ t. t.id) same in
        let hit : (t.id == table.id) ≡ true = rw e (self_equal table.id) in
        (omega arith, rw hit h)
    found_at false h lt rest =
        let below = rest h in
        (omega (arith, below.0), rw (unequal t.id table.id below.0) below.1)

by_id : (p : Table → Bool) (high : ℕ) (tables : List Table) (found : Option Table) → ids_rise 0 high tables ≡ true → find p tables ≡ found → table_with_id tables (unwrap_or found (new_table 0 [])).id ≡ found
by_id p high tables (Some table) rise h = (found_by_id p 0 high tables table rise h).1
by_id p high tables None rise h = none_below 0 0 high tables (omega arith) rise

pub step_table-called : (state : DatabaseState) (asked : SchemaCall) → IsNumbered (catalog_of state) → step_table state.tables (step_of_call state asked) ≡ called_table state asked
step_table-called state (call.CreateTable table) numbered = refl
step_table-called state (call.DeleteTable table) numbered = by_id _ state.greatest_table state.tables (table_named state.tables table) (sym (ids_rise-without_rows 0 state.greatest_table state.tables) ∙ numbered) refl
step_table-called state (call.AddColumn table column kind flags) numbered = by_id _ state.greatest_table state.tables (table_named state.tables table) (sym (ids_rise-without_rows 0 state.greatest_table state.tables) ∙ numbered) refl
step_table-called state (call.DeleteColumn table column) numbered = by_id _ state.greatest_table state.tables (table_named state.tables table) (sym (ids_rise-without_rows 0 state.greatest_table state.tables) ∙ numbered) refl
step_table-called state (call.CreateIndex table index flags key_most segments conditions) numbered = by_id _ state.greatest_table state.tables (table_named state.tables table) (sym (ids_rise-without_rows 0 state.greatest_table state.tables) ∙ numbered) refl
step_table-called state (call.DeleteIndex table index) numbered = by_id _ state.greatest_table state.tables (table_named state.tables table) (sym (ids_rise-without_rows 0 state.greatest_table state.tables) ∙ numbered) refl

-- ---- the refusals in their order

then_records : (refusals : Refusals) (made : SchemaStep) (table : Table) → first_refusal (refusals ++ record_refusals table made) ≡ refusal_after (refused_or (first_refusal refusals) made) table
then_records [] made table = refl
then_records (refusal ∷ refusals) made table =
    elim refusal.0 as (λ b. cond b (Some refusal.1) (first_refusal (refusals ++ record_refusals table made)) ≡ refusal_after (refused_or (cond b (Some refusal.1) (first_refusal refusals)) made) table) [
      | true ↦ refl
      | false ↦ then_records refusals made table
    ]

in_order : (a b c : Bool) (refusals : Refusals) (made : SchemaStep) (table : Table)
    → first_refusal ((a, jet.InTransaction) ∷ (b, jet.ObjectNotFound) ∷ (c, jet.TableInUse) ∷ refusals ++ record_refusals table made)
    ≡ option_or (first_refusal ((a, jet.InTransaction) ∷ (b, jet.ObjectNotFound) ∷ (c, jet.TableInUse) ∷ [])) (refusal_after (answer ((b, jet.ObjectNotFound) ∷ refusals) made) table)
in_order true b c refusals made table = refl
in_order false true c refusals made table = refl
in_order false false true refusals made table = refl
in_order false false false refusals made table = then_records refusals made table

-- all refusals, on the table that was found
abbrev refusal_on : DatabaseState → ℕ → SchemaStep → Option Table → Option Jet
refusal_on state session made table =
    first_refusal
    ((not (levels state session == 0), jet.InTransaction)
    ∷ (not (makes_table made) && is_none table, jet.ObjectNotFound)
    ∷ (is_in_use state session table, jet.TableInUse)
    ∷ step_refusals state (unwrap_or table (new_table 0 [])) made)

pub schema_refusal-composed : (state : DatabaseState) (session : ℕ) (asked : SchemaCall) → IsNumbered (catalog_of state)
    → schema_refusal state session (step_of_call state asked)
    ≡ option_or (first_refusal (session_refusals state session asked)) (refusal_after (decided state (has_records (table_or_new state asked)) asked) (table_or_new state asked))
unfolding schema_refusal decided
schema_refusal-composed state session asked numbered =
    ap (refusal_on state session (step_of_call state asked)) (step_table-called state asked numbered)
    ∙ in_order _ _ _ (schema_refusals state (has_records (table_or_new state asked)) (table_or_new state asked) (step_of_call state asked)) (step_of_call state asked) (table_or_new state asked)

-- The tables stay built.
use Rattle.std.proofs.Common.{◌≡◌, ℕ, ◌+◌, Bool, true, false, not, ◌&&◌, ◌||◌, [], Option, Some, refl, sym, ap, subst, ◌∙◌, arith}
use Rattle.std.specs.Prelude.{◌==◌, is_none, nat_le, unwrap_or, IfSome}
use Rattle.std.specs.List.{list_all}
use Rattle.std.proofs.lemmas.Bool.Decides.{nat_tests}
use Rattle.std.proofs.lemmas.Bool.{and_from, eqb-true}
use Rattle.common_lemmas.proofs.Lists.{all_filtered, all_last}
use Rattle.common_lemmas.proofs.Booleans.{and_left, and_right, impossible}
use Rattle.jet_base.specs.declared.words.ColType.{ColType}
use Rattle.jet_base.specs.declared.words.ColType.TheVariants as kind
use Rattle.index_derive.specs.declared.log.Entry.{Entry}
use Rattle.index_derive.specs.declared.log.EntryKind.{EntryKind}
use Rattle.index_derive.specs.declared.log.EntryKind.TheVariants as entry
use Rattle.index_derive.specs.declared.schema_calls.SchemaStep.{SchemaStep}
use Rattle.index_derive.specs.declared.schema_calls.SchemaStep.TheVariants as step
use Rattle.column_set.specs.RecordValues.{tagged_if_long}
use Rattle.database_state.specs.Lawful.{has_next_numbers, has_number, is_lawful, is_lawful_kind, is_live, is_name}
use Rattle.database_state.specs.Table.{GreatestColumns, Table, table_with_id}
use Rattle.database_state.specs.SchemaChanges.{has_column_id, is_type_long, new_table, next_column_id, schema_refusal, tables_after_step, with_column, without_column, with_index, without_index}
use Rattle.database_state.specs.State.{DatabaseState}
use Rattle.database_state.specs.Step.{applied, state_after}
use Rattle.database_state.proofs.Columns.{list_all-columns_with}
use Rattle.laws_versions.specs.History.{EachTwo}
use Rattle.laws_versions.specs.KeptSteps.{with_next_number}
use Rattle.laws_versions.specs.TableOrder.{IdsRise}
use Rattle.laws_versions.proofs.KeyLemmas.SchemaKeys.{at_found, at_table, with_last, without_table}
use Rattle.laws_engine.proofs.LawfulLemmas.TableTests.{all_found, all_listed, definitions_stay, is_schema_entry, tested_alike}
use Rattle.session_local.specs.BuiltTables.{are_built, is_unnumbered_column, is_built_column, is_built_rule, is_built_sum, is_built_table, makes_built}

-- ---- schema steps

abbrev Built : Table → Type 0
Built t = is_built_table t ≡ true

built-parts : (t : Table) → Built t → (list_all is_built_column t.columns ≡ true) × (list_all is_built_rule t.indexes ≡ true)
built-parts t h = (and_left (list_all is_built_column t.columns) (list_all is_built_rule t.indexes) h, and_right (list_all is_built_column t.columns) (list_all is_built_rule t.indexes) h)

above : (n : ℕ) → nat_le 1 (n + 1) ≡ true
above n = grind (arith, nat_tests)

-- an escrow column that is added is a Long with one value and the next number of a fixed column
new_sum : (escrow tagged multi : Bool) (type : ColType) (greatest : GreatestColumns) (id : ℕ) → id ≡ next_column_id greatest type tagged → (escrow && (not (is_type_long type) || tagged || multi)) ≡ false
    → has_column_id type tagged (next_column_id greatest type tagged) ≡ true → (not escrow || (is_type_long type && (not multi && (nat_le 1 id && nat_le id 127)))) ≡ true
new_sum false tagged multi type greatest id next right has = refl
new_sum true false false kind.Long greatest id next right has = subst (λ (n : ℕ). (nat_le 1 n && nat_le n 127) ≡ true) (sym next) (and_from (nat_le 1 (greatest.fixed + 1)) (nat_le (greatest.fixed + 1) 127) (above greatest.fixed) has)
new_sum true true multi kind.Long greatest id next right has = impossible (sym right)
new_sum true false true kind.Long greatest id next right has = impossible (sym right)
new_sum true tagged multi _ greatest id next right has = impossible (sym right)

step_built : (state : DatabaseState) (label : ℕ) (made : SchemaStep) → is_none (schema_refusal state label made) ≡ true → has_next_numbers state made ≡ true → makes_built (entry.Schema made) ≡ true
    → ((id : ℕ) → IfSome (table_with_id state.tables id) Built) → (id : ℕ) → IfSome (table_with_id (tables_after_step state.tables made) id) Built
step_built state label (step.CreateTable table name) free next e h id = with_last Built (new_table table.0 name) refl state.tables id (h id)
step_built state label (step.DeleteTable table) free next e h id = without_table Built table.0 state.tables id (h id)
step_built state label (step.AddColumn table column) free next e h id =
    at_table Built table.0 (with_column (tagged_if_long column)) (λ t. refl) state.tables
    (λ t found b. and_from (list_all is_built_column (with_column (tagged_if_long column) t).columns) (list_all is_built_rule t.indexes) (list_all-columns_with is_built_column (tagged_if_long column) t.columns (built-parts t b).0 (and_from (is_unnumbered_column column) (is_built_sum column) e (its_sum t found))) (built-parts t b).1) h id
  where
    denied : (b : Bool) → not b ≡ false → b ≡ true
    denied true f = refl
    denied false f = sym f

    number : (t : Table) → table_with_id state.tables table.0 ≡ Some t → column.id.0 ≡ next_column_id t.greatest column.kind column.tagged
    number t found =
        eqb-true column.id.0 (next_column_id t.greatest column.kind column.tagged)
        (ap (λ (o : Option Table). column.id.0 == next_column_id (unwrap_or o (new_table 0 [])).greatest column.kind column.tagged) (sym found)
        ∙ and_left (column.id.0 == next_column_id (unwrap_or (table_with_id state.tables table.0) (new_table 0 [])).greatest column.kind column.tagged) (is_name column.name) next)

    its_sum : (t : Table) → table_with_id state.tables table.0 ≡ Some t → is_built_sum column ≡ true
    its_sum t found =
        let refused = at_found state label (step.AddColumn table column) t free found in
        new_sum column.escrow column.tagged column.multi column.kind t.greatest column.id.0 (number t found) refused.1.1.0 (denied (has_column_id column.kind column.tagged (next_column_id t.greatest column.kind column.tagged)) refused.1.1.1.1.0)
step_built state label (step.DeleteColumn table column) free next e h id =
    at_table Built table.0 (without_column column.0) (λ t. refl) state.tables
    (λ t found b. and_from (list_all is_built_column (without_column column.0 t).columns) (list_all is_built_rule t.indexes) (all_filtered is_built_column (λ c. not (c.id.0 == column.0)) t.columns (built-parts t b).0) (built-parts t b).1) h id
step_built state label (step.CreateIndex table rule) free next e h id =
    at_table Built table.0 (with_index rule) (λ t. refl) state.tables
    (λ t found b. and_from (list_all is_built_column t.columns) (list_all is_built_rule (with_index rule t).indexes) (built-parts t b).0 (all_last is_built_rule t.indexes rule (built-parts t b).1 e)) h id
step_built state label (step.DeleteIndex table index) free next e h id =
    at_table Built table.0 (without_index index.0) (λ t. refl) state.tables
    (λ t found b. and_from (list_all is_built_column t.columns) (list_all is_built_rule (without_index index.0 t).indexes) (built-parts t b).0 (all_filtered is_built_rule (λ made. not (made.id.0 == index.0)) t.indexes (built-parts t b).1)) h id

-- ---- any entry

built_stay : (state : DatabaseState) (label : ℕ) (kind : EntryKind) → EachTwo IdsRise (applied label kind (with_next_number state)).tables → is_lawful_kind state label kind ≡ true → makes_built kind ≡ true → are_built state.tables ≡ true → are_built (applied label kind (with_next_number state)).tables ≡ true
built_stay state label kind rise lawful e h = by (is_schema_entry kind) refl
  where
    step_of : (k : EntryKind) → is_schema_entry k ≡ true → EachTwo IdsRise (applied label k (with_next_number state)).tables → is_lawful_kind state label k ≡ true → makes_built k ≡ true → are_built (applied label k (with_next_number state)).tables ≡ true
    step_of (entry.Schema made) f rise lawful e =
        all_listed is_built_table (tables_after_step state.tables made) rise
        (step_built state label made (and_right (is_live state label) _ (and_left _ _ lawful)) (and_right (is_live state label && is_none (schema_refusal state label made)) _ lawful) e (all_found is_built_table state.tables h))
    step_of _ f rise lawful e = impossible f

    by : (b : Bool) → is_schema_entry kind ≡ b → are_built (applied label kind (with_next_number state)).tables ≡ true
    by true f = step_of kind f rise lawful e
    by false f = tested_alike is_built_table (λ t. refl) (applied label kind (with_next_number state)).tables state.tables (definitions_stay state label kind f) ∙ h

pub built_kept : (state : DatabaseState) (made : Entry) → EachTwo IdsRise (state_after state made).tables → is_lawful state made ≡ true → makes_built made.kind ≡ true → are_built state.tables ≡ true → are_built (state_after state made).tables ≡ true
unfolding is_lawful state_after
built_kept state made rise lawful = built_stay state made.session.0 made.kind rise (and_right (has_number state.number made.kind) _ lawful)

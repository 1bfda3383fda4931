-- Refusals none of which is want of memory.
use Rattle.std.proofs.Common.{◌≡◌, ◌≢◌, ℕ, ◌==◌, Bool, true, false, not, cond, ◌&&◌, List, [], ◌∷◌, ◌++◌, filter, Option, Some, is_none, unwrap_or, refl, sym, ap, ◌∙◌}
use Rattle.std.specs.List.{list_any, flat_map}
use Rattle.jet_base.specs.declared.replies.Jet.{Jet}
use Rattle.jet_base.specs.declared.replies.Jet.TheVariants as jet
use Rattle.column_set.specs.RecordValues.{RecordFields}
use Rattle.index_derive.specs.declared.rules.Schema.{Schema}
use Rattle.index_derive.specs.declared.schema_calls.SchemaStep.{SchemaStep}
use Rattle.index_derive.specs.declared.schema_calls.SchemaStep.TheVariants as step
use Rattle.index_derive.specs.Entries.{entries, key_list, is_unique}
use Rattle.column_set.specs.Refusals.{Refusals, first_refusal}
use Rattle.database_state.specs.State.{DatabaseState, levels}
use Rattle.database_state.specs.Table.{Rows, Table}
use Rattle.database_state.specs.Conflicts.{has_key_conflict}
use Rattle.database_state.specs.Puts.{is_null_refusal, is_cut_refusal, new_keys, replaced_record, is_taken, null_refusals, key_refusals, put_refusals}
use Rattle.database_state.specs.SchemaChanges.{new_table, step_table, makes_table, is_in_use, step_refusals, schema_refusal}
use Rattle.session_local.specs.Outcome.{CallInputs, Outcome, refused, unless_refused, unless}

abbrev pub is_memory : Jet → Bool
is_memory jet.OutOfMemory = true
is_memory _ = false

pub not_memory : (reply : Jet) → is_memory reply ≡ false → reply ≢ jet.OutOfMemory
not_memory reply other same = let e : true ≡ false = sym (ap is_memory same) ∙ other in cc

-- whether none of the refusals is want of memory
abbrev pub are_other : Refusals → Bool
are_other [] = true
are_other (refusal ∷ refusals) = not (is_memory refusal.1) && are_other refusals

other_parts : (memory others : Bool) → (not memory && others) ≡ true → (memory ≡ false) × (others ≡ true)
other_parts true others h = cc
other_parts false others h = (refl, h)

-- ---- lists of refusals

pub other-append : (refusals others : Refusals) → are_other refusals ≡ true → are_other others ≡ true → are_other (refusals ++ others) ≡ true
other-append [] others h k = k
other-append (refusal ∷ refusals) others h k =
    let parts = other_parts (is_memory refusal.1) (are_other refusals) h in
    let rest = other-append refusals others parts.1 k in
    ap (λ (m : Bool). not m && are_other (refusals ++ others)) parts.0 ∙ rest

other-flat_map : {X : Type 0} (f : X → Refusals) (xs : List X) → ((x : X) → are_other (f x) ≡ true) → are_other (flat_map f xs) ≡ true
other-flat_map f [] each = refl
other-flat_map f (x ∷ xs) each = other-append (f x) (flat_map f xs) (each x) (other-flat_map f xs each)

-- why a record may not be put
pub other-puts : (state : DatabaseState) (session table : ℕ) (schema : Schema) (rows : Rows) (own : Option (List ℕ)) (values : RecordFields) → are_other (put_refusals state session table schema rows own values) ≡ true
unfolding put_refusals
other-puts state session table schema rows own values =
    other-append (null_refusals schema values) (key_refusals state session table schema rows own values)
    (other-flat_map (λ rule. (is_null_refusal (entries rule schema values), jet.NullKeyDisallowed) ∷ (is_cut_refusal (entries rule schema values), jet.KeyTruncated) ∷ []) schema.indexes (λ rule. refl))
    (other-flat_map (λ rule.
    (list_any (has_key_conflict state session table schema rule) (new_keys rule schema (replaced_record rows own) values), jet.WriteConflict)
    ∷ (list_any (is_taken schema rows rule own) (key_list rule schema values), jet.KeyDuplicate) ∷ [])
    (filter is_unique schema.indexes) (λ rule. refl))

-- why a schema step is refused, once its table is found
other-step : (state : DatabaseState) (table : Table) (made : SchemaStep) → are_other (step_refusals state table made) ≡ true
other-step state table (step.CreateTable id name) = refl
other-step state table (step.DeleteTable id) = refl
other-step state table (step.AddColumn id column) = refl
other-step state table (step.DeleteColumn id column) = refl
other-step state table (step.CreateIndex id rule) = refl
other-step state table (step.DeleteIndex id index) = refl

-- ---- outcomes

-- a fact of what follows, and of every refusal that is not want of memory, is one of a call with such refusals
pub unless-other : (P : Outcome → Type 0) (asked : CallInputs) (refusals : Refusals) (next : Unit {0} → Outcome) → are_other refusals ≡ true → ((reply : Jet) → is_memory reply ≡ false → P (refused asked reply)) → P (next tt) → P (unless asked refusals next)
unless-other P asked [] next other refusal rest = rest
unless-other P asked (refusal ∷ refusals) next other refuse rest =
    let parts = other_parts (is_memory refusal.1) (are_other refusals) other in
    elim refusal.0 as (λ b. P (unless_refused asked (cond b (Some refusal.1) (first_refusal refusals)) next)) [
      | true ↦ refuse refusal.1 parts.0
      | false ↦ unless-other P asked refusals next parts.1 refuse rest
    ]

-- the same of a schema step
pub schema-other : (P : Outcome → Type 0) (asked : CallInputs) (made : SchemaStep) (next : Unit {0} → Outcome) → ((reply : Jet) → is_memory reply ≡ false → P (refused asked reply)) → P (next tt) → P (unless_refused asked (schema_refusal asked.state asked.session made) next)
unfolding schema_refusal
schema-other P asked made next refuse rest =
    let table = step_table asked.state.tables made in
    unless-other P asked
    ((not (levels asked.state asked.session == 0), jet.InTransaction)
    ∷ (not (makes_table made) && is_none table, jet.ObjectNotFound)
    ∷ (is_in_use asked.state asked.session table, jet.TableInUse)
    ∷ step_refusals asked.state (unwrap_or table (new_table 0 [])) made)
    next (other-step asked.state (unwrap_or table (new_table 0 [])) made) refuse rest

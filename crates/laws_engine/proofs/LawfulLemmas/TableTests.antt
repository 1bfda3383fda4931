-- Tests of all tables, of which each is found by its number, and entries that leave what tables are.
use Rattle.std.proofs.Common.{◌≡◌, ℕ, ◌-◌, Bool, true, false, ◌&&◌, cond, List, [], ◌∷◌, map, Option, Some, None, refl, sym, ap, subst, ◌∙◌}
use Rattle.std.specs.Prelude.{◌==◌, nat_lt, IfSome}
use Rattle.std.specs.List.{AllByRecursion, list_all}
use Rattle.std.proofs.lemmas.Bool.{and_from}
use Rattle.common_lemmas.proofs.Booleans.{and_left, and_right, impossible}
use Rattle.index_derive.specs.declared.log.EntryKind.{EntryKind}
use Rattle.index_derive.specs.declared.log.EntryKind.TheVariants as entry
use Rattle.database_state.specs.Table.{Table, table_with_id}
use Rattle.database_state.specs.State.{DatabaseState, levels, open_changes_of, undone}
use Rattle.database_state.specs.Step.{applied, is_at_level, with_changes_at, with_levels, with_transaction}
use Rattle.laws_versions.specs.History.{EachTwo, without_rows}
use Rattle.laws_versions.specs.KeptSteps.{with_next_number}
use Rattle.laws_versions.proofs.HistoryLemmas.EndEntries.{same_definitions}
use Rattle.laws_versions.specs.TableOrder.{IdsRise}
use Rattle.laws_versions.proofs.KeyLemmas.OrderedTables.{found_each}

-- ---- tests of all tables

pub all_found : (p : Table → Bool) (tables : List Table) → list_all p tables ≡ true → (id : ℕ) → IfSome (table_with_id tables id) (λ t. p t ≡ true)
all_found p [] h id = tt
all_found p (t ∷ tables) h id = elim (t.id == id) as (λ b. IfSome (cond b (Some t) (table_with_id tables id)) (λ t. p t ≡ true)) [
  | true ↦ and_left (p t) (list_all p tables) h
  | false ↦ all_found p tables (and_right (p t) (list_all p tables) h) id
]

all_of_found : (p : Table → Bool) (all tables : List Table) → ((id : ℕ) → IfSome (table_with_id all id) (λ t. p t ≡ true)) → AllByRecursion (λ t. table_with_id all t.id ≡ Some t) tables → list_all p tables ≡ true
all_of_found p all [] h found = refl
all_of_found p all (t ∷ tables) h found =
    and_from (p t) (list_all p tables) (subst (λ (o : Option Table). IfSome o (λ t. p t ≡ true)) found.0 (h t.id)) (all_of_found p all tables h found.1)

pub all_listed : (p : Table → Bool) (tables : List Table) → EachTwo IdsRise tables → ((id : ℕ) → IfSome (table_with_id tables id) (λ t. p t ≡ true)) → list_all p tables ≡ true
all_listed p tables rise h = all_of_found p tables tables h (found_each tables rise)

bare_tested : (p : Table → Bool) → ((t : Table) → p (without_rows t) ≡ p t) → (tables : List Table) → list_all p (map without_rows tables) ≡ list_all p tables
bare_tested p bare [] = refl
bare_tested p bare (t ∷ tables) = λ i. bare t i && bare_tested p bare tables i

pub tested_alike : (p : Table → Bool) → ((t : Table) → p (without_rows t) ≡ p t) → (one other : List Table) → map without_rows one ≡ map without_rows other → list_all p one ≡ list_all p other
tested_alike p bare one other e = sym (bare_tested p bare one) ∙ ap (list_all p) e ∙ bare_tested p bare other

-- ---- entries

-- an entry that is no schema step leaves the definitions of the tables
abbrev pub is_schema_entry : EntryKind → Bool
is_schema_entry (entry.Schema made) = true
is_schema_entry _ = false

pub definitions_stay : (state : DatabaseState) (label : ℕ) (kind : EntryKind) → is_schema_entry kind ≡ false → map without_rows (applied label kind (with_next_number state)).tables ≡ map without_rows state.tables
definitions_stay state label entry.Enter e = refl
definitions_stay state label entry.Leave e = refl
definitions_stay state label (entry.Open table) e = refl
definitions_stay state label (entry.Shut table) e = refl
definitions_stay state label entry.Begin e = refl
definitions_stay state label entry.Save e = refl
definitions_stay state label (entry.Change change) e = refl
definitions_stay state label entry.Release e = refl
definitions_stay state label entry.Undo e = either (nat_lt 1 (levels state label))
  where
    undoing : DatabaseState
    undoing = with_changes_at label (is_at_level (levels state label)) (λ item. record item { status = undone }) (with_next_number state)

    either : (b : Bool) → map without_rows (cond b (with_levels label (λ n. n - 1) undoing) (with_transaction label None undoing)).tables ≡ map without_rows state.tables
    either true = refl
    either false = refl
definitions_stay state label entry.UndoAll e = refl
definitions_stay state label entry.Commit e = same_definitions state.tables (open_changes_of label state.past)
definitions_stay state label (entry.Schema made) e = impossible (sym e)

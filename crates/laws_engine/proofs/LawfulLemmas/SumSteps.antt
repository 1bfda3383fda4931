-- The step of a sum of an escrow column.
use Rattle.std.proofs.Common.{◌≡◌, ℕ, Bool, true, false, not, ◌&&◌, ◌||◌, cond, List, [], ◌∷◌, ◌++◌, Option, Some, None, refl, sym, ap, subst, ◌∙◌, bytes_eq}
use Rattle.std.specs.Prelude.{ℤ, ◌==◌, is_some, map, IfSome}
use Rattle.std.specs.List.{list_all, list_any}
use Rattle.std.proofs.lemmas.Bool.{and_from, eqb-true, false_from_ne_true, not-false}
use Rattle.common_lemmas.proofs.Options.{some_there}
use Rattle.common_lemmas.proofs.Booleans.{and_left, and_right, impossible}
use Rattle.common_lemmas.proofs.Numbers.{self_equal}
use Rattle.jet_base.specs.declared.ids.CursorId.{CursorId}
use Rattle.jet_base.specs.declared.replies.Jet.TheVariants as jet
use Rattle.column_set.specs.declared.changes.Change.{Change}
use Rattle.column_set.specs.declared.changes.Change.TheVariants.{Add}
use Rattle.column_set.specs.declared.columns.Column.{Column}
use Rattle.column_set.specs.RecordValues.{column_named, column_of_id}
use Rattle.database_state.specs.Table.{Table, row_at, rows_of, table_with_id}
use Rattle.database_state.specs.State.{PastChange}
use Rattle.database_state.specs.View.{view}
use Rattle.database_state.specs.Lawful.{is_lawful_at}
use Rattle.laws_versions.proofs.IndexLemmas.Adding.{KeysRise}
use Rattle.laws_versions.specs.Records.{Records}
use Rattle.laws_versions.proofs.KeyLemmas.BookmarkKeys.{HasOneEntry}
use Rattle.laws_versions.proofs.KeyLemmas.UniqueKept.{id_of}
use Rattle.session_local.specs.declared.request.Request.TheVariants as call
use Rattle.session_local.specs.Agreement.{Agrees}
use Rattle.session_local.specs.Calls.{answer}
use Rattle.session_local.specs.Local.{OpenCursor}
use Rattle.session_local.specs.Outcome.{CallInputs, number_refusals, rows_seen, span_refusals}
use Rattle.session_local.specs.RecordCalls.{bookmark_at, conflict_refusals, current, escrow_update, on_column, own_refusals, sum_in, transaction_refusals}
use Rattle.session_local.specs.SessionSide.{are_distinct}
use Rattle.session_local.specs.WellFormed.{number_of_column}
use Rattle.laws_engine.specs.ColumnNumbers.{are_in_range, has_own_numbers, have_own_numbers, is_given_number}
use Rattle.laws_engine.specs.LawfulSteps.{HasLawfulStep, IsReached}
use Rattle.laws_engine.proofs.LawfulLemmas.ChangeSteps.{IsAtTable, IsLawfulAtTable, at_its_table, changes_lawful}
use Rattle.laws_engine.proofs.LawfulLemmas.Refusals.{at_found, past, when_begun}
use Rattle.laws_engine.proofs.LawfulLemmas.TableTests.{all_found}

-- ---- a column by its name and by its number

named_among : (columns : List Column) (name : List ℕ) (c : Column) → column_named columns name ≡ Some c → list_any (λ other. other == c.id.0) (map number_of_column columns) ≡ true
named_among [] name c e = absurd (nothing e)
  where
    nothing : None ≡ Some c → ⊥
    nothing e = cc
named_among (x ∷ columns) name c e = elim (bytes_eq x.name name) as (λ b. cond b (Some x) (column_named columns name) ≡ Some c → ((x.id.0 == c.id.0) || list_any (λ other. other == c.id.0) (map number_of_column columns)) ≡ true) [
  | true ↦ λ f. ap (λ b. b || list_any (λ other. other == c.id.0) (map number_of_column columns)) (ap (λ (y : Column). x.id.0 == y.id.0) (sym (same x c f)) ∙ self_equal x.id.0)
  | false ↦ λ f. right (x.id.0 == c.id.0) _ (named_among columns name c f)
] e
  where
    same : (a b : Column) → Some a ≡ Some b → a ≡ b
    same a b e = cc

    right : (a b : Bool) → b ≡ true → (a || b) ≡ true
    right true b e = refl
    right false b e = e

-- where no two columns have one number, the one that a name finds is found by its number
named_numbered : (columns : List Column) (name : List ℕ) (c : Column) → are_distinct (map number_of_column columns) ≡ true → column_named columns name ≡ Some c → column_of_id columns c.id.0 ≡ Some c
named_numbered [] name c apart e = absurd (nothing e)
  where
    nothing : None ≡ Some c → ⊥
    nothing e = cc
named_numbered (x ∷ columns) name c apart e = elim (bytes_eq x.name name) as (λ b. cond b (Some x) (column_named columns name) ≡ Some c → cond (x.id.0 == c.id.0) (Some x) (column_of_id columns c.id.0) ≡ Some c) [
  | true ↦ λ f. ap (λ b. cond b (Some x) (column_of_id columns c.id.0)) (ap (λ (y : Column). x.id.0 == y.id.0) (sym (same x c f)) ∙ self_equal x.id.0) ∙ f
  | false ↦ λ f.
      ap (λ b. cond b (Some x) (column_of_id columns c.id.0)) (false_from_ne_true (x.id.0 == c.id.0) (λ one.
      never (ap not (sym (ap (λ (k : ℕ). list_any (λ other. other == k) (map number_of_column columns)) (eqb-true x.id.0 c.id.0 one) ∙ named_among columns name c f))
      ∙ and_left (not (list_any (λ other. other == x.id.0) (map number_of_column columns))) (are_distinct (map number_of_column columns)) apart)))
      ∙ named_numbered columns name c (and_right (not (list_any (λ other. other == x.id.0) (map number_of_column columns))) (are_distinct (map number_of_column columns)) apart) f
] e
  where
    same : (a b : Column) → Some a ≡ Some b → a ≡ b
    same a b e = cc

    never : false ≡ true → ⊥
    never e = cc

numbers_apart : (tables : List Table) (id : ℕ) (table : Table) → have_own_numbers tables ≡ true → table_with_id tables id ≡ Some table → are_distinct (map number_of_column table.columns) ≡ true
numbers_apart tables id table own found =
    and_right (are_in_range table.greatest && list_all (is_given_number table.greatest) table.columns) (are_distinct (map number_of_column table.columns))
    (subst (λ (o : Option Table). IfSome o (λ t. has_own_numbers t ≡ true)) found (all_found has_own_numbers tables own id))

-- ---- the step

sum_lawful : (asked : CallInputs) (c : OpenCursor) (at : IsAtTable asked c) (name : List ℕ) (column : Column) (amount : ℤ) → are_distinct (map number_of_column at.table.columns) ≡ true → column_named c.schema.columns name ≡ Some column → column.escrow ≡ true
    → is_some (row_at (rows_seen asked c) (bookmark_at c)) ≡ true → IsLawfulAtTable asked.state asked.state asked.session (Add (record { 0 = c.cursor.table }) (bookmark_at c) column.id amount)
sum_lawful asked c at name column amount apart named escrow seen =
    ap (λ o. is_lawful_at asked.state asked.session o (Add (record { 0 = c.cursor.table }) (bookmark_at c) column.id amount)) at.found
    ∙ and_from _ _ (ap (λ k. is_some (row_at (rows_of (table_with_id (view asked.state asked.session) k)) (bookmark_at c))) (id_of asked.state.tables c.cursor.table at.table at.found) ∙ seen)
    (ap (λ (o : Option Column). elim o [ Some found ↦ found.escrow | None ↦ false ])
    (named_numbered at.table.columns name column apart (subst (λ (columns : List Column). column_named columns name ≡ Some column) (ap (λ s. s.columns) at.schema) named)) ∙ escrow)

pub sums : HasOneEntry → KeysRise → (base : Records) (dropped kept : List PastChange) (asked : CallInputs) (cursor : CursorId) (name : List ℕ) (amount : ℤ) → IsReached base dropped kept asked.state → Agrees asked.state asked.session asked.local
    → HasLawfulStep asked.state (answer asked (call.EscrowUpdate cursor name amount))
sums one rise base dropped kept asked cursor name amount reached agrees = when_begun asked (call.EscrowUpdate cursor name amount)
    (λ begun. at_found asked cursor.0 (λ c. escrow_update asked c name amount) (λ c e.
    past asked (transaction_refusals asked ++ current asked c) _ (λ r.
    elim (column_named c.schema.columns name) as (λ o. column_named c.schema.columns name ≡ o → HasLawfulStep asked.state (on_column asked o (sum_in asked c amount))) [
      | None ↦ λ f. tt
      | Some column ↦ λ f.
          let sum : Change = Add (record { 0 = c.cursor.table }) (bookmark_at c) column.id amount in
          let at = at_its_table asked cursor.0 c agrees e in
          past asked ((not column.escrow, jet.InvalidColumnType) ∷ own_refusals asked c ++ conflict_refusals asked sum ++ number_refusals asked ++ span_refusals asked sum) _ (λ s.
          changes_lawful one rise base dropped kept asked sum reached (sym agrees.begun ∙ begun) s.1.1.1.0 s.1.1.0
          (λ inside. sum_lawful asked c at name column amount (numbers_apart asked.state.tables c.cursor.table at.table reached.columns at.found) f (not-false column.escrow s.0)
          (some_there (row_at (rows_seen asked c) (bookmark_at c)) r.1.1.0))
          (λ outside. impossible (sym r.0 ∙ outside)))
    ] refl)))
    (λ e. tt)

-- Sums that are taken out again.
use Rattle.std.proofs.Common.{◌≡◌, ℕ, true, false, cond, Option, Some, None, List, [], ◌∷◌, refl, sym, ap, subst, ◌∙◌}
use Rattle.std.specs.Prelude.{◌==◌, bytes_eq, IfSome, is_some}
use Rattle.std.specs.List.{AllByRecursion}
use Rattle.std.proofs.lemmas.Bool.{eqb-true}
use Rattle.common_lemmas.proofs.Booleans.{and_left, and_right}
use Rattle.common_lemmas.proofs.Numbers.{same_bytes}
use Rattle.column_set.specs.RecordValues.{RecordFields}
use Rattle.column_set.specs.declared.changes.Change.{Change}
use Rattle.column_set.specs.declared.changes.Change.TheVariants.{Put, Drop, Hold, Add}
use Rattle.column_set.specs.ChangedRecords.{changed_table, changed_bookmark}
use Rattle.database_state.specs.State.{DatabaseState, PastChange, Transaction, transaction_of}
use Rattle.database_state.specs.Table.{Table, table_with_id}
use Rattle.laws_engine.specs.EngineState.{EngineState}
use Rattle.laws_engine.specs.HoldsState.{HoldsState}
use Rattle.laws_images.specs.GivenBack.{AllStand, GivesBack, SumsGiveBack}
use Rattle.laws_images.proofs.OpenedLemmas.InTurns.{in_turn}
use Rattle.laws_images.specs.InTurn.{AreInTurn}
use Rattle.laws_images.specs.ShownStates.{tables_before}
use Rattle.laws_versions.specs.Records.{Records, is_change_of, record_after, records_after, records_of}
use Rattle.laws_versions.specs.History.{IsPlaced}
use Rattle.laws_versions.specs.Readers.{is_standing}
use Rattle.laws_versions.proofs.HistoryLemmas.SeenRecords.{newest_records}
use Rattle.laws_versions.proofs.HistoryLemmas.Viewing.{same_there}
use Rattle.laws_engine.proofs.TableLemmas.ExactSums.{Numbers, first_numbers, numbers_back}
use Rattle.laws_engine.proofs.TableLemmas.TakingBack.{GoesBack, TakesBack}

gives_back : (P : RecordFields → Type 0) (change : Change) (before : Option RecordFields) → GoesBack P change → IfSome before P → GivesBack change before
gives_back P (Put t b copied values) before back p = tt
gives_back P (Drop t b) before back p = tt
gives_back P (Hold t b) before back p = tt
gives_back P (Add t b column amount) None back p = refl
gives_back P (Add t b column amount) (Some values) back p = ap (λ (v : RecordFields). Some v) (back values p)

pub sums_back : (P : ℕ → List ℕ → RecordFields → Type 0) (base : Records) (items : List PastChange) → AllByRecursion (TakesBack P) items → ((table : ℕ) (bookmark : List ℕ) → IfSome (base table bookmark) (P table bookmark)) → SumsGiveBack base items
sums_back P base [] back first = tt
sums_back P base (item ∷ items) back first = (
  gives_back (P (changed_table item.change) (changed_bookmark item.change)) item.change (base (changed_table item.change) (changed_bookmark item.change)) back.0.1 (first (changed_table item.change) (changed_bookmark item.change)),
  sums_back P (records_after base item.change) items back.1 left,
)
  where
    left : (table : ℕ) (bookmark : List ℕ) → IfSome (records_after base item.change table bookmark) (P table bookmark)
    left table bookmark = elim (is_change_of table bookmark item.change) as (λ b. is_change_of table bookmark item.change ≡ b → IfSome (cond b (record_after item.change (base table bookmark)) (base table bookmark)) (P table bookmark)) [
      | true ↦ λ e.
          subst (λ (t : ℕ). IfSome (record_after item.change (base t bookmark)) (P t bookmark)) (eqb-true (changed_table item.change) table (and_left (changed_table item.change == table) (bytes_eq (changed_bookmark item.change) bookmark) e))
          (subst (λ (k : List ℕ). IfSome (record_after item.change (base (changed_table item.change) k)) (P (changed_table item.change) k)) (same_bytes (changed_bookmark item.change) bookmark (and_right (changed_table item.change == table) (bytes_eq (changed_bookmark item.change) bookmark) e))
          (back.0.0 (base (changed_table item.change) (changed_bookmark item.change)) (first (changed_table item.change) (changed_bookmark item.change))))
      | false ↦ λ e. first table bookmark
    ] refl

-- ---- an engine that holds a state

stand_in : (number : ℕ) (tables newer : List Table) (transactions : ℕ → Option Transaction) → ((id : ℕ) → is_some (table_with_id newer id) ≡ is_some (table_with_id tables id)) → (items : List PastChange)
    → AllByRecursion (λ item. is_standing item ≡ true) items → AllByRecursion (IsPlaced number tables transactions) items → AllStand newer items
stand_in number tables newer transactions same [] stand placed = tt
stand_in number tables newer transactions same (item ∷ items) stand placed = ((stand.0, same (changed_table item.change) ∙ placed.0.1), stand_in number tables newer transactions same items stand.1 placed.1)

pub held_in_turn : (engine : EngineState) (state : DatabaseState) (h : HoldsState engine state) → AllByRecursion (λ item. is_standing item ≡ true) h.kept
    → AreInTurn engine.store.held engine.store.tables × (records_of (tables_before engine.store.held engine.store.tables) ≡ h.base)
held_in_turn engine state h stand =
    let keeps = h.reached.history.keeps in
    in_turn h.base h.kept engine.store.held engine.store.tables h.holds.held
    (stand_in state.number state.tables engine.store.tables (transaction_of state) (same_there engine.store.tables state.tables h.holds.defined) h.kept stand keeps.placed)
    keeps.befores
    (sums_back (Numbers state) h.base h.kept (numbers_back h.base h.kept state h.reached.numbers keeps.placed) (first_numbers h.base h.kept state h.reached.numbers))
    (sym (newest_records h.base h.dropped h.kept state h.reached.history) ∙ sym h.holds.newest)

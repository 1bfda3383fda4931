-- Of which records the opposite sum gives the very one back.
use Rattle.std.proofs.Common.{◌≡◌, ℕ, true, false, List, [], ◌∷◌, Option, Some, None, sym, subst}
use Rattle.std.specs.Prelude.{is_some, IfSome}
use Rattle.std.specs.List.{AllByRecursion}
use Rattle.common_lemmas.proofs.Booleans.{impossible}
use Rattle.column_set.specs.declared.changes.Change.{Change}
use Rattle.column_set.specs.declared.changes.Change.TheVariants.{Put, Drop, Hold, Add}
use Rattle.column_set.specs.RecordValues.{RecordFields}
use Rattle.database_state.specs.Table.{Table, schema_of, table_with_id}
use Rattle.database_state.specs.Changes.{is_sum}
use Rattle.column_set.specs.ChangedRecords.{changed_bookmark, changed_table}
use Rattle.database_state.specs.State.{DatabaseState, PastChange, transaction_of}
use Rattle.laws_versions.specs.Records.{Records, record_after}
use Rattle.laws_versions.specs.History.{IsPlaced}
use Rattle.laws_versions.specs.Variants.{HasNoSums}
use Rattle.laws_versions.proofs.SumLemmas.VeryRecords.{very_record}
use Rattle.laws_versions.specs.EachRecord.{HasBoth}
use Rattle.laws_versions.specs.RecordNumbers.{AddsToEscrow, HasEscrowNumbers, HoldsNumbers}
use Rattle.laws_versions.proofs.RecordLemmas.EscrowRecords.{sum_keeps}
use Rattle.laws_engine.proofs.TableLemmas.TakingBack.{GoesBack, TakesBack}

-- ---- without sums

pub any : (o : Option RecordFields) → IfSome o (λ values. Unit {0})
any None = tt
any (Some values) = tt

pub plain_back : (kept : List PastChange) → HasNoSums kept → AllByRecursion (TakesBack (λ table bookmark values. Unit {0})) kept
plain_back [] none = tt
plain_back (item ∷ kept) none = (((λ before p. any (record_after item.change before)), by item.change none.0), plain_back kept none.1)
  where
    by : (c : Change) → is_sum c ≡ false → GoesBack (λ values. Unit {0}) c
    by (Put table bookmark copied values) e = tt
    by (Drop table bookmark) e = tt
    by (Hold table bookmark) e = tt
    by (Add table bookmark column amount) e = impossible (sym e)

-- ---- with numbers in escrow columns

-- a record of a table that is there holds numbers
abbrev pub Numbers : DatabaseState → ℕ → List ℕ → RecordFields → Type 0
Numbers state table bookmark values = IfSome (table_with_id state.tables table) (λ t. HoldsNumbers state.number (schema_of t) bookmark values)

turned : (number : ℕ) (bookmark : List ℕ) (found : Option Table) (o : Option RecordFields) → IfSome found (λ t. IfSome o (HoldsNumbers number (schema_of t) bookmark)) → IfSome o (λ values. IfSome found (λ t. HoldsNumbers number (schema_of t) bookmark values))
turned number bookmark None None h = tt
turned number bookmark None (Some values) h = tt
turned number bookmark (Some t) None h = tt
turned number bookmark (Some t) (Some values) h = h

pub first_numbers : (base : Records) (kept : List PastChange) (state : DatabaseState) → HasEscrowNumbers base kept state → (table : ℕ) (bookmark : List ℕ) → IfSome (base table bookmark) (Numbers state table bookmark)
first_numbers base kept state numbers table bookmark = turned state.number bookmark (table_with_id state.tables table) (base table bookmark) (at (table_with_id state.tables table) (numbers.records.at_first table))
  where
    at : (found : Option Table) → IfSome found (λ t. (bookmark : List ℕ) → IfSome (base table bookmark) (HoldsNumbers state.number (schema_of t) bookmark)) → IfSome found (λ t. IfSome (base table bookmark) (HoldsNumbers state.number (schema_of t) bookmark))
    at None h = tt
    at (Some t) h = h bookmark

-- a change of a table that is there
back_at : (number : ℕ) (c : Change) (after before : Option RecordFields) → after ≡ record_after c before → (found : Option Table) → is_some found ≡ true → IfSome found (λ t. IfSome after (HoldsNumbers number (schema_of t) (changed_bookmark c))) → IfSome found (λ t. AddsToEscrow (schema_of t) c)
    → ((o : Option RecordFields) → IfSome o (λ values. IfSome found (λ t. HoldsNumbers number (schema_of t) (changed_bookmark c) values)) → IfSome (record_after c o) (λ values. IfSome found (λ t. HoldsNumbers number (schema_of t) (changed_bookmark c) values)))
    × GoesBack (λ values. IfSome found (λ t. HoldsNumbers number (schema_of t) (changed_bookmark c) values)) c
back_at number c after before e None there h adds = impossible there
back_at number (Put table bookmark copied values) after before e (Some t) there h adds = ((λ o p. subst (λ (x : Option RecordFields). IfSome x (HoldsNumbers number (schema_of t) bookmark)) e h), tt)
back_at number (Drop table bookmark) after before e (Some t) there h adds = ((λ o p. tt), tt)
back_at number (Hold table bookmark) after before e (Some t) there h adds = ((λ o p. p), tt)
back_at number (Add table bookmark column amount) after before e (Some t) there h adds = (
  left,
  λ values had. very_record values column.0 amount adds.1 had.0 (had.1 column.0 adds.0),
)
  where
    left : (o : Option RecordFields) → IfSome o (HoldsNumbers number (schema_of t) bookmark) → IfSome (record_after (Add table bookmark column amount) o) (HoldsNumbers number (schema_of t) bookmark)
    left None p = tt
    left (Some values) p = sum_keeps number (schema_of t) bookmark (Add table bookmark column amount) values p

pub numbers_back : (base : Records) (kept : List PastChange) (state : DatabaseState) → HasEscrowNumbers base kept state → AllByRecursion (IsPlaced state.number state.tables (transaction_of state)) kept → AllByRecursion (TakesBack (Numbers state)) kept
numbers_back base kept state numbers placed = all kept placed numbers.records.changes numbers.sums
  where
    after_of : (c : PastChange) (found : Option Table) → IfSome found (λ t. HasBoth HoldsNumbers state.number (schema_of t) c) → IfSome found (λ t. IfSome c.after (HoldsNumbers state.number (schema_of t) (changed_bookmark c.change)))
    after_of c None h = tt
    after_of c (Some t) h = h.1

    all : (items : List PastChange) → AllByRecursion (IsPlaced state.number state.tables (transaction_of state)) items
        → AllByRecursion (λ item. IfSome (table_with_id state.tables (changed_table item.change)) (λ t. HasBoth HoldsNumbers state.number (schema_of t) item)) items
        → AllByRecursion (λ item. IfSome (table_with_id state.tables (changed_table item.change)) (λ t. AddsToEscrow (schema_of t) item.change)) items → AllByRecursion (TakesBack (Numbers state)) items
    all [] placed both sums = tt
    all (item ∷ items) placed both sums = (
      back_at state.number item.change item.after item.before placed.0.3 (table_with_id state.tables (changed_table item.change)) placed.0.1 (after_of item (table_with_id state.tables (changed_table item.change)) both.0) sums.0,
      all items placed.1 both.1 sums.1,
    )

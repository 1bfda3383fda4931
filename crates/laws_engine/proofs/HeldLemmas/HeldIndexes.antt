-- No index of a state that an engine holds reads a sum.
use Rattle.std.proofs.Common.{◌≡◌, Bool, true, List, [], ◌∷◌, Option, Some, None, refl}
use Rattle.std.specs.Prelude.{IfSome}
use Rattle.std.specs.List.{AllByRecursion, list_all}
use Rattle.std.proofs.lemmas.Bool.{and_from}
use Rattle.index_derive.specs.declared.rules.IndexRule.{IndexRule}
use Rattle.database_state.specs.Table.{Table, table_with_id}
use Rattle.database_state.specs.SchemaChanges.{rule_columns}
use Rattle.database_state.specs.State.{DatabaseState}
use Rattle.laws_versions.specs.KeySums.{IsApartFromSums}
use Rattle.laws_engine.specs.PlainIndexes.{read_no_sums}
use Rattle.laws_engine.proofs.LawfulLemmas.TableTests.{all_listed}
use Rattle.laws_engine.specs.EngineState.{EngineState}
use Rattle.laws_engine.specs.HoldsState.{HoldsState}
use Rattle.laws_engine.specs.PlainColumns.{HasPlainIndexes, has_plain_indexes, is_plain_column, names_plain_columns}
use Rattle.laws_engine.proofs.HeldLemmas.PlainSteps.{plain_read_no_sums}

each_is : {X : Type 0} (test : X → Bool) (xs : List X) → AllByRecursion (λ x. test x ≡ true) xs → list_all test xs ≡ true
each_is test [] h = refl
each_is test (x ∷ xs) h = and_from (test x) (list_all test xs) h.0 (each_is test xs h.1)

held_plain : (engine : EngineState) (state : DatabaseState) → HoldsState engine state → HasPlainIndexes state
held_plain engine state h = record {
  order = h.reached.order;
  numbers = h.reached.columns;
  plain = all_listed has_plain_indexes state.tables h.reached.order.ids (λ id. by (table_with_id state.tables id) (h.reached.sums.tables id));
}
  where
    rules : (table : Table) (indexes : List IndexRule) → AllByRecursion (IsApartFromSums h.base h.kept table) indexes → list_all (names_plain_columns table.columns) indexes ≡ true
    rules table [] apart = refl
    rules table (rule ∷ indexes) apart =
        and_from (names_plain_columns table.columns rule) (list_all (names_plain_columns table.columns) indexes) (each_is (is_plain_column table.columns) (rule_columns rule) apart.0.0) (rules table indexes apart.1)

    by : (o : Option Table) → IfSome o (λ table. AllByRecursion (IsApartFromSums h.base h.kept table) table.indexes) → IfSome o (λ table. has_plain_indexes table ≡ true)
    by None apart = tt
    by (Some table) apart = rules table table.indexes apart

pub held_read_no_sums : (engine : EngineState) (state : DatabaseState) → HoldsState engine state → read_no_sums state.tables ≡ true
held_read_no_sums engine state h = plain_read_no_sums state (held_plain engine state h)

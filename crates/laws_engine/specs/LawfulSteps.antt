-- Steps of which each entry may come in its turn, and the states in which calls are answered.
use Rattle.std.specs.Prelude.{◌≡◌, ℕ, true, List, [], ◌∷◌}
use Rattle.index_derive.specs.declared.log.Entry.{Entry}
use Rattle.index_derive.specs.declared.log.EntryKind.TheVariants as entry
use Rattle.index_derive.specs.Steps.{entries_of_step}
use Rattle.database_state.specs.State.{DatabaseState, PastChange}
use Rattle.database_state.specs.Step.{state_after}
use Rattle.database_state.specs.Lawful.{is_lawful}
use Rattle.laws_versions.specs.Records.{Records}
use Rattle.laws_versions.specs.History.{IsHistory}
use Rattle.laws_versions.specs.KeySums.{HasEscrowSums}
use Rattle.laws_versions.specs.TableOrder.{HasTablesInOrder}
use Rattle.laws_versions.specs.UniqueKeys.{HasUniqueKeys}
use Rattle.laws_versions.specs.Bookmarks.{HasBookmarks}
use Rattle.laws_versions.specs.RecordNumbers.{HasEscrowNumbers}
use Rattle.laws_versions.specs.SumBefores.{HaveSumBefores}
use Rattle.session_local.specs.Outcome.{Outcome}
use Rattle.laws_engine.specs.ColumnNumbers.{have_own_numbers}
use Rattle.laws_engine.specs.UncopiedPast.{AreUncopied}

-- each entry may come after those before it
abbrev pub AreLawful : DatabaseState → List Entry → Type 0
AreLawful state [] = Unit {0}
AreLawful state (made ∷ entries) = (is_lawful state made ≡ true) × AreLawful (state_after state made) entries

-- the entries that the log takes for an answer: none, one, or a begin, a change and a commit
abbrev pub HasLawfulStep : DatabaseState → Outcome → Type 0
HasLawfulStep state outcome = AreLawful state (entries_of_step outcome.step)

-- the begin that comes before a change alone
abbrev pub begin_of : ℕ → Entry
begin_of session = record { session = record { 0 = session }; kind = entry.Begin }

-- What holds of every state that lawful entries, each as its type has it, reach from tables that are in order and unique, whose
-- records have their bookmarks and hold numbers in their escrow columns, whose columns have numbers of their own and whose
-- indexes name no escrow column. No kept change names the record from which a put was copied, and the record before a kept sum
-- is told but for its sums.
pub record IsReached (base : Records) (dropped kept : List PastChange) (state : DatabaseState) : Type 0 where
  pub history : IsHistory base dropped kept state
  pub sums : HasEscrowSums base kept state
  pub unique : HasUniqueKeys base kept state
  pub order : HasTablesInOrder state
  pub bookmarks : HasBookmarks base kept state
  pub numbers : HasEscrowNumbers base kept state
  pub befores : HaveSumBefores base kept state
  pub columns : have_own_numbers state.tables ≡ true
  pub uncopied : AreUncopied kept

-- a state that is reached, with whichever history
pub record IsReachedState (state : DatabaseState) : Type 0 where
  pub base : Records
  pub dropped : List PastChange
  pub kept : List PastChange
  pub is_reached : IsReached base dropped kept state

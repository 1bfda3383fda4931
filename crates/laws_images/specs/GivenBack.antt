-- Past changes that stand and can be taken back.
use Rattle.std.specs.Prelude.{◌≡◌, true, List, [], ◌∷◌, Option, option_map, is_some, neg_ℤ}
use Rattle.std.specs.List.{AllByRecursion}
use Rattle.column_set.specs.RecordValues.{RecordFields}
use Rattle.column_set.specs.declared.changes.Change.{Change}
use Rattle.column_set.specs.declared.changes.Change.TheVariants.{Put, Drop, Hold, Add}
use Rattle.database_state.specs.Changes.{with_sum}
use Rattle.column_set.specs.ChangedRecords.{changed_table, changed_bookmark}
use Rattle.database_state.specs.State.{PastChange}
use Rattle.database_state.specs.Table.{Table, table_with_id}
use Rattle.laws_versions.specs.Records.{Records, records_after}
use Rattle.laws_versions.specs.Readers.{is_standing}

-- a sum that is taken out again gives the record back
abbrev pub GivesBack : Change → Option RecordFields → Type 0
GivesBack (Put table bookmark copied values) before = Unit {0}
GivesBack (Drop table bookmark) before = Unit {0}
GivesBack (Hold table bookmark) before = Unit {0}
GivesBack (Add table bookmark column amount) before =
    option_map (λ values. with_sum values column.0 (neg_ℤ amount)) (option_map (λ values. with_sum values column.0 amount) before) ≡ before

-- each sum does so of the record that it finds
abbrev pub SumsGiveBack : Records → List PastChange → Type 0
SumsGiveBack records [] = Unit {0}
SumsGiveBack records (item ∷ items) = GivesBack item.change (records (changed_table item.change) (changed_bookmark item.change)) × SumsGiveBack (records_after records item.change) items

-- each change stands, and its table is there
abbrev pub AllStand : List Table → List PastChange → Type 0
AllStand tables items = AllByRecursion (λ item. (is_standing item ≡ true) × (is_some (table_with_id tables (changed_table item.change)) ≡ true)) items

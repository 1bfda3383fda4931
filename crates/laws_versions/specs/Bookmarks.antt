-- Under which bookmarks records stand, and that changes find records.
use Rattle.std.specs.Prelude.{◌≡◌, ℕ, ◌==◌, Bool, true, ◌&&◌, ◌||◌, nat_le, length, reverse, List, Option, Some, None, is_some}
use Rattle.std.specs.List.{AllByRecursion}
use Rattle.jet_base.specs.ColumnType.{from_little_endian}
use Rattle.column_set.specs.RecordValues.{RecordFields}
use Rattle.index_derive.specs.declared.rules.IndexRule.{IndexRule}
use Rattle.index_derive.specs.declared.rules.Schema.{Schema}
use Rattle.index_derive.specs.Schemas.{primary_rule}
use Rattle.database_state.specs.State.{DatabaseState, PastChange}
use Rattle.database_state.specs.Conflicts.{yields_key}
use Rattle.laws_versions.specs.Records.{Records}
use Rattle.laws_versions.specs.EachRecord.{EachRecordHas}

-- the number that a bookmark is, big-endian
abbrev pub number_of_bookmark : List ℕ → ℕ
number_of_bookmark bookmark = from_little_endian (reverse bookmark)

-- whether a bookmark is the number of an entry in 8 bytes big-endian: 1 at least, since entries are counted from 1, and this number
-- at most
abbrev pub is_entry_number : ℕ → List ℕ → Bool
is_entry_number number bookmark = (length bookmark == 8) && (nat_le 1 (number_of_bookmark bookmark) && nat_le (number_of_bookmark bookmark) number)

-- Whether a record may stand under a bookmark: with a primary index it has the bookmark as a key there, and without one the
-- bookmark is the number of an entry, that which inserted it.
abbrev pub is_bookmark : ℕ → Schema → Option IndexRule → List ℕ → RecordFields → Bool
is_bookmark number schema None bookmark values = is_entry_number number bookmark
is_bookmark number schema (Some rule) bookmark values = yields_key rule schema bookmark (Some values)

abbrev pub StandsUnder : ℕ → Schema → List ℕ → RecordFields → Type 0
StandsUnder number schema bookmark values = is_bookmark number schema (primary_rule schema) bookmark values ≡ true

-- A change finds a record under its bookmark, or leaves one.
abbrev pub TouchesRecord : PastChange → Type 0
TouchesRecord item = (is_some item.before || is_some item.after) ≡ true

-- Every record stands under a bookmark that is its own, and every kept change touches one.
pub record HasBookmarks (base : Records) (kept : List PastChange) (state : DatabaseState) : Type 0 where
  pub records : EachRecordHas StandsUnder base kept state
  pub touched : AllByRecursion TouchesRecord kept

-- The variants of a record: its newest one, and those before the kept changes.
use Rattle.std.specs.Prelude.{◌≡◌, ℕ, ◌==◌, Bool, true, false, ◌&&◌, ◌||◌, List, [], ◌∷◌, find, filter, Option, IfSome}
use Rattle.std.specs.List.{AllByRecursion, list_any}
use Rattle.column_set.specs.RecordValues.{RecordFields}
use Rattle.cursor_nav.specs.Places.{Pair}
use Rattle.index_derive.specs.declared.rules.IndexRule.{IndexRule}
use Rattle.index_derive.specs.declared.rules.Schema.{Schema}
use Rattle.database_state.specs.Changes.{is_sum}
use Rattle.column_set.specs.ChangedRecords.{changed_table, changed_bookmark}
use Rattle.database_state.specs.State.{PastChange}
use Rattle.database_state.specs.Conflicts.{yields_key}
use Rattle.laws_versions.specs.KeptEntries.{has_entry}
use Rattle.laws_versions.specs.Records.{Records, is_change_of, record_after}
use Rattle.laws_versions.specs.Readers.{before_or, is_rewrite, is_standing}

-- a put or a drop of the record that is not undone
abbrev pub is_standing_rewrite : ℕ → List ℕ → PastChange → Bool
is_standing_rewrite table bookmark item = is_change_of table bookmark item.change && is_rewrite item.change && is_standing item

-- no escrow column was changed
abbrev pub HasNoSums : List PastChange → Type 0
HasNoSums items = AllByRecursion (λ item. is_sum item.change ≡ false) items

-- ---- key conflicts

-- the variant that the changes from here on found: the record before the next put or drop, or the newest one
abbrev pub next_variant : Records → ℕ → List ℕ → List PastChange → Option RecordFields
next_variant newest table bookmark items = before_or (newest table bookmark) (find (is_standing_rewrite table bookmark) items)

-- whether a change of the table that passes has the key in the variant before it or in the one after it
abbrev pub is_key_held : (PastChange → Bool) → Records → ℕ → IndexRule → Schema → List ℕ → List PastChange → Bool
is_key_held test newest table rule schema key [] = false
is_key_held test newest table rule schema key (item ∷ items) =
    (test item && ((changed_table item.change == table)
    && (yields_key rule schema key (next_variant newest (changed_table item.change) (changed_bookmark item.change) (item ∷ items))
    || yields_key rule schema key (next_variant newest (changed_table item.change) (changed_bookmark item.change) items))))
    || is_key_held test newest table rule schema key items

-- ---- the entries that an index's tree holds

-- whether some variant of the record has the key: the newest one, or the one before a put or a drop that is not undone
abbrev pub is_variant_key : Records → List PastChange → IndexRule → Schema → ℕ → List ℕ → List ℕ → Bool
is_variant_key newest kept rule schema table key bookmark =
    yields_key rule schema key (newest table bookmark) || list_any (λ item. is_standing_rewrite table bookmark item && yields_key rule schema key item.before) kept

-- An index's tree holds the keys of all variants.
abbrev pub HoldsVariants : Records → List PastChange → IndexRule → Schema → ℕ → List Pair → Type 0
HoldsVariants newest kept rule schema table entries = (key bookmark : List ℕ) → has_entry key bookmark entries ≡ is_variant_key newest kept rule schema table key bookmark

-- of which a reader walks those that the record which it sees has
abbrev pub shown_entries : Records → IndexRule → Schema → ℕ → List Pair → List Pair
shown_entries seen rule schema table entries = filter (λ entry. yields_key rule schema entry.0 (seen table entry.1)) entries

-- ---- what holds of every variant

-- Each change of the record that passes leaves what has this, where it found what has it.
abbrev pub EachLeaves : (RecordFields → Type 0) → ℕ → List ℕ → List PastChange → Type 0
EachLeaves P table bookmark items =
    AllByRecursion (λ item. is_change_of table bookmark item.change ≡ true → (before : Option RecordFields) → IfSome before P → IfSome (record_after item.change before) P) items

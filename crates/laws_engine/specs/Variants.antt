-- The variants of a record: its newest one, and those before the held changes; and the entries of all of them.
use Rattle.std.specs.Prelude.{◌≡◌, ℕ, Bool, ◌&&◌, ◌||◌, List, Option, filter, is_some}
use Rattle.std.specs.List.{list_any}
use Rattle.column_set.specs.RecordValues.{RecordFields}
use Rattle.cursor_nav.specs.Places.{Pair}
use Rattle.laws_versions.specs.KeptEntries.{has_entry}
use Rattle.index_derive.specs.declared.rules.IndexRule.{IndexRule}
use Rattle.index_derive.specs.declared.rules.Schema.{Schema}
use Rattle.database_state.specs.Conflicts.{yields_key}
use Rattle.database_state.specs.Table.{Rows, row_at}
use Rattle.version_store.specs.declared.calls.Reader.{Reader}
use Rattle.laws_engine.specs.HeldRecords.{HeldRecord, is_standing_rewrite, seen_record}

-- whether some variant of a record has the key: the newest one, or the one before a put or a drop that is not undone
abbrev pub is_variant_key : Option RecordFields → List HeldRecord → IndexRule → Schema → ℕ → List ℕ → List ℕ → Bool
is_variant_key newest held rule schema table key bookmark =
    yields_key rule schema key newest || list_any (λ change. is_standing_rewrite table bookmark change && yields_key rule schema key change.before) held

-- whether some variant of a record is one
abbrev pub has_variant : Option RecordFields → List HeldRecord → ℕ → List ℕ → Bool
has_variant newest held table bookmark = is_some newest || list_any (λ change. is_standing_rewrite table bookmark change && is_some change.before) held

-- The entries of a table's index are the keys of all variants of its records.
abbrev pub HoldsVariants : Rows → List HeldRecord → IndexRule → Schema → ℕ → List Pair → Type 0
HoldsVariants rows held rule schema table entries =
    (key bookmark : List ℕ) → has_entry key bookmark entries ≡ is_variant_key (row_at rows bookmark) held rule schema table key bookmark

-- of which a reader walks those that the record which it sees has
abbrev pub shown_entries : ℕ → Reader → List HeldRecord → Rows → IndexRule → Schema → List Pair → List Pair
shown_entries table reader held rows rule schema entries =
    filter (λ entry. yields_key rule schema entry.0 (seen_record table entry.1 reader (row_at rows entry.1) held)) entries

-- The entries of an index that is kept up record by record.
use Rattle.std.specs.Prelude.{ℕ, Bool, false, not, ◌&&◌, ◌||◌, List, [], ◌∷◌, filter, bytes_eq}
use Rattle.std.specs.List.{list_any}
use Rattle.cursor_nav.specs.Places.{Pair}
use Rattle.index_derive.specs.Entries.{insert_entry}

-- the entries with one for each of the keys, put in their places one after the other
abbrev pub with_entries : List (List ℕ) → List ℕ → List Pair → List Pair
with_entries [] bookmark entries = entries
with_entries (key ∷ keys) bookmark entries = with_entries keys bookmark (insert_entry (key, bookmark) entries)

-- the entries without those of a record
abbrev pub without_entries : List ℕ → List Pair → List Pair
without_entries bookmark entries = filter (λ entry. not (bytes_eq entry.1 bookmark)) entries

-- those of a record alone
abbrev pub entries_with : List ℕ → List Pair → List Pair
entries_with bookmark entries = filter (λ entry. bytes_eq entry.1 bookmark) entries

-- the entries without one of them
abbrev pub without_entry : List ℕ → List ℕ → List Pair → List Pair
without_entry key bookmark entries = filter (λ entry. not (bytes_eq entry.0 key && bytes_eq entry.1 bookmark)) entries

-- the entries without one for each of the keys, taken one after the other
abbrev pub without_each : List (List ℕ) → List ℕ → List Pair → List Pair
without_each [] bookmark entries = entries
without_each (key ∷ keys) bookmark entries = without_each keys bookmark (without_entry key bookmark entries)

-- whether there is this entry
abbrev pub has_entry : List ℕ → List ℕ → List Pair → Bool
has_entry key bookmark entries = list_any (λ entry. bytes_eq entry.0 key && bytes_eq entry.1 bookmark) entries

-- whether some entry has the key
abbrev pub has_key : List ℕ → List Pair → Bool
has_key key entries = list_any (λ entry. bytes_eq entry.0 key) entries

-- whether two entries that follow each other have the same key
abbrev pub has_equal_neighbours : List Pair → Bool
has_equal_neighbours (entry ∷ next ∷ entries) = bytes_eq entry.0 next.0 || has_equal_neighbours (next ∷ entries)
has_equal_neighbours _ = false

-- Bytes that are a short row.
use Rattle.std.proofs.Common.{◌≡◌, ℕ, Bool, true, false, ◌&&◌, List, length, refl, sym, ap, ◌∙◌}
use Rattle.std.specs.Prelude.{◌↔◌, IsTrue, bytes_eq, nat_le}
use Rattle.column_set.specs.RowReading.{row_in}
use Rattle.column_set.specs.Rows.{IsRowBytes, RowFields, is_row, largest_row, row_bytes}
use Rattle.common_lemmas.proofs.Booleans.{and_left, and_right, by_test, impossible}
use Rattle.common_lemmas.proofs.Numbers.{equal_bytes, same_bytes}
use Rattle.image_findings.specs.TableContents.{is_short_row}
use Rattle.image_contents.proofs.ValuesStand.{ReadLaw}

-- bytes that are a row's are one's
pub row_of_bytes : (bytes : List ℕ) → is_row (row_in bytes) ≡ true → bytes_eq bytes (row_bytes (row_in bytes)) ≡ true → IsRowBytes bytes
row_of_bytes bytes formed spelled = (row_in bytes, formed, same_bytes bytes (row_bytes (row_in bytes)) spelled)

pub row_of_short : (bytes : List ℕ) → is_short_row bytes ≡ true → IsRowBytes bytes
row_of_short bytes short =
    let rest = and_right (is_row (row_in bytes)) (bytes_eq bytes (row_bytes (row_in bytes)) && nat_le (length bytes) largest_row) short in
    row_of_bytes bytes (and_left (is_row (row_in bytes)) (bytes_eq bytes (row_bytes (row_in bytes)) && nat_le (length bytes) largest_row) short) (and_left (bytes_eq bytes (row_bytes (row_in bytes))) (nat_le (length bytes) largest_row) rest)

pub short_if_row : ReadLaw → (bytes : List ℕ) → IsRowBytes bytes → nat_le (length bytes) largest_row ≡ is_short_row bytes
short_if_row law bytes is =
    let back : row_in bytes ≡ is.0 = ap row_in is.2 ∙ law is.0 is.1 in
    sym (ap (λ (r : RowFields). is_row r && (bytes_eq bytes (row_bytes r) && nat_le (length bytes) largest_row)) back
    ∙ ap (λ b. b && (bytes_eq bytes (row_bytes is.0) && nat_le (length bytes) largest_row)) is.1
    ∙ ap (λ b. b && nat_le (length bytes) largest_row) (equal_bytes bytes (row_bytes is.0) is.2))

pub no_short : (bytes : List ℕ) → (IsRowBytes bytes → ⊥) → false ≡ is_short_row bytes
no_short bytes none = by_test (is_short_row bytes) (λ t. absurd (none (row_of_short bytes t))) (λ f. sym f)

-- A temporary table that is filled with rising bookmarks has them in their order.
use Rattle.std.proofs.Common.{◌≡◌, ℕ, zero, suc, ◌+◌, ◌≤◌, Bool, true, false, cond, ◌&&◌, List, [], ◌∷◌, ◌++◌, length, map, take, Option, Some, refl, sym, ap, ◌∙◌, nat_lt, arith}
use Rattle.std.specs.List.{AllByRecursion, list_all}
use Rattle.std.specs.List.Sorted.{IsStrictlySortedBy}
use Rattle.std.specs.declared.cmp.Ordering.{Ordering}
use Rattle.std.specs.declared.cmp.Ordering.TheVariants.{Less, Equal, Greater}
use Rattle.std.specs.Ordering.{nat_cmp, is_le, ordering_then}
use Rattle.std.specs.Cmp.Lexicographic.{slice_cmp}
use Rattle.std.proofs.lemmas.Bool.{and_parts}
use Rattle.std.proofs.lemmas.Bool.Decides.{nat_tests}
use Rattle.std.proofs.lemmas.List.{append-nil, append_assoc, take_all}
use Rattle.jet_base.specs.declared.words.ColType.TheVariants.{Binary}
use Rattle.key_normal.specs.KeyBytes.{KeyColumn, cut_key, is_cut, key_bytes}
use Rattle.key_normal.specs.KeyOrder.{are_values, is_value, key_order}
use Rattle.temp_table.specs.TempColumns.{RowValues}
use Rattle.temp_table.specs.TempRows.{TempRows, opened, stays_before, with_row}
use Rattle.session_local.specs.IntersectCalls.{bookmark_columns, table_of_bookmarks, with_bookmarks}
use Rattle.session_local.specs.IntersectLaws.{filled_in_order, row_of_bookmark}

-- what is known of the order of whole keys
abbrev pub OrderOfKeys : Type 0
OrderOfKeys = (columns : List KeyColumn) (nulls_high : Bool) (most : ℕ) (xs ys : List (Option (List ℕ)))
    → are_values columns xs ≡ true → are_values columns ys ≡ true
    → is_cut most (key_bytes columns nulls_high xs) ≡ false → is_cut most (key_bytes columns nulls_high ys) ≡ false
    → slice_cmp nat_cmp (cut_key most (key_bytes columns nulls_high xs)) (cut_key most (key_bytes columns nulls_high ys)) ≡ key_order columns nulls_high xs ys

-- ---- keys that are cut

-- what is not above another is not above it where both are cut
take_le : (n : ℕ) (xs ys : List ℕ) → is_le (slice_cmp nat_cmp xs ys) ≡ true → is_le (slice_cmp nat_cmp (take n xs) (take n ys)) ≡ true
take_le zero xs ys h = refl
take_le (suc n) [] [] h = refl
take_le (suc n) [] (y ∷ ys) h = refl
take_le (suc n) (x ∷ xs) [] h = absurd (cc)
take_le (suc n) (x ∷ xs) (y ∷ ys) h =
    let rest : is_le (slice_cmp nat_cmp xs ys) ≡ true → is_le (slice_cmp nat_cmp (take n xs) (take n ys)) ≡ true = take_le n xs ys in
    elim (nat_cmp x y) as (λ r. is_le (ordering_then r (slice_cmp nat_cmp xs ys)) ≡ true → is_le (ordering_then r (slice_cmp nat_cmp (take n xs) (take n ys))) ≡ true) [
      | Less ↦ λ k. refl
      | Equal ↦ λ k. rest k
      | Greater ↦ λ k. k
    ] h

left_le : (a b : ℕ) → a ≤ a + b
left_le a b = omega arith

right_le : (a b : ℕ) → b ≤ a + b
right_le a b = omega arith

uncut : (most n : ℕ) → n ≤ most → nat_lt most n ≡ false
uncut most n h = grind (arith, nat_tests)

whole_key : List ℕ → List ℕ
whole_key bookmark = key_bytes (record { kind = Binary; descending = false } ∷ []) false (row_of_bookmark bookmark)

are_values-one : (bookmark : List ℕ) → is_value Binary bookmark ≡ true → are_values (record { kind = Binary; descending = false } ∷ []) (row_of_bookmark bookmark) ≡ true
are_values-one bookmark h = ap (λ b. b && true) h

whole_keys : OrderOfKeys → (x y : List ℕ) → is_value Binary x ≡ true → is_value Binary y ≡ true → slice_cmp nat_cmp x y ≡ Less → slice_cmp nat_cmp (whole_key x) (whole_key y) ≡ Less
unfolding whole_key
whole_keys law x y fits others less =
    let most : ℕ = length (whole_key x) + length (whole_key y) in
    let first : length (whole_key x) ≤ most = left_le (length (whole_key x)) (length (whole_key y)) in
    let second : length (whole_key y) ≤ most = right_le (length (whole_key x)) (length (whole_key y)) in
    (λ i. slice_cmp nat_cmp (sym (take_all most (whole_key x) first) i) (sym (take_all most (whole_key y) second) i))
    ∙ law (record { kind = Binary; descending = false } ∷ []) false most (row_of_bookmark x) (row_of_bookmark y) (are_values-one x fits) (are_values-one y others)
    (uncut most (length (whole_key x)) first) (uncut most (length (whole_key y)) second)
    ∙ ap (λ r. ordering_then r Equal) less

-- the row of a bookmark stands before that of one above it
stays-before : OrderOfKeys → (x y : List ℕ) → is_value Binary x ≡ true → is_value Binary y ≡ true → slice_cmp nat_cmp x y ≡ Less → stays_before bookmark_columns (row_of_bookmark y) (row_of_bookmark x) ≡ true
unfolding whole_key
stays-before law x y fits others less = take_le 255 (whole_key x) (whole_key y) (ap is_le (whole_keys law x y fits others less))

-- ---- rows that are put in turn

-- all rows stand before that of the bookmark
abbrev IsAbove : List RowValues → List ℕ → Type 0
IsAbove rows bookmark = AllByRecursion (λ other. stays_before bookmark_columns (row_of_bookmark bookmark) other ≡ true) rows

with_row-last : (row : RowValues) (rows : List RowValues) → AllByRecursion (λ other. stays_before bookmark_columns row other ≡ true) rows → with_row bookmark_columns row rows ≡ rows ++ row ∷ []
with_row-last row [] all = refl
with_row-last row (other ∷ rows) all = ap (λ b. cond b (other ∷ with_row bookmark_columns row rows) (row ∷ other ∷ rows)) all.0 ∙ ap (λ (rs : List RowValues). other ∷ rs) (with_row-last row rows all.1)

all-last : (P : RowValues → Type 0) (rows : List RowValues) (last : RowValues) → AllByRecursion P rows → P last → AllByRecursion P (rows ++ last ∷ [])
all-last P [] last all h = (h, tt)
all-last P (row ∷ rows) last all h = (all.0, all-last P rows last all.1 h)

above-none : (bookmarks : List (List ℕ)) → AllByRecursion (IsAbove []) bookmarks
above-none [] = tt
above-none (bookmark ∷ bookmarks) = (tt, above-none bookmarks)

above-last : OrderOfKeys → (rows : List RowValues) (last : List ℕ) (bookmarks : List (List ℕ)) → is_value Binary last ≡ true → list_all (is_value Binary) bookmarks ≡ true
    → AllByRecursion (IsAbove rows) bookmarks → AllByRecursion (λ bookmark. slice_cmp nat_cmp last bookmark ≡ Less) bookmarks → AllByRecursion (IsAbove (rows ++ row_of_bookmark last ∷ [])) bookmarks
above-last law rows last [] fits others above rising = tt
above-last law rows last (bookmark ∷ bookmarks) fits others above rising =
    let parts : (is_value Binary bookmark ≡ true) × (list_all (is_value Binary) bookmarks ≡ true) = and_parts _ _ others in (
      all-last (λ other. stays_before bookmark_columns (row_of_bookmark bookmark) other ≡ true) rows (row_of_bookmark last) above.0 (stays-before law last bookmark fits parts.0 rising.0),
      above-last law rows last bookmarks fits parts.1 above.1 rising.1,
    )

with_rows : List RowValues → TempRows
with_rows rows = record (opened bookmark_columns false) { rows = rows }

filled : OrderOfKeys → (rows : List RowValues) (bookmarks : List (List ℕ)) → list_all (is_value Binary) bookmarks ≡ true → AllByRecursion (IsAbove rows) bookmarks → IsStrictlySortedBy (slice_cmp nat_cmp) bookmarks
    → with_bookmarks (with_rows rows) bookmarks ≡ with_rows (rows ++ map row_of_bookmark bookmarks)
unfolding IsStrictlySortedBy with_rows
filled law rows [] fits above rising = ap with_rows (sym (append-nil rows))
filled law rows (bookmark ∷ bookmarks) fits above rising =
    let parts : (is_value Binary bookmark ≡ true) × (list_all (is_value Binary) bookmarks ≡ true) = and_parts _ _ fits in
    ap (λ (rs : List RowValues). with_bookmarks (with_rows rs) bookmarks) (with_row-last (row_of_bookmark bookmark) rows above.0)
    ∙ filled law (rows ++ row_of_bookmark bookmark ∷ []) bookmarks parts.1 (above-last law rows bookmark bookmarks parts.0 parts.1 above.1 rising.0) rising.1
    ∙ ap with_rows (append_assoc rows (row_of_bookmark bookmark ∷ []) (map row_of_bookmark bookmarks))

pub table_of_bookmarks-rising : OrderOfKeys → (bookmarks : List (List ℕ)) → IsStrictlySortedBy (slice_cmp nat_cmp) bookmarks → list_all (is_value Binary) bookmarks ≡ true → table_of_bookmarks bookmarks ≡ filled_in_order bookmarks
unfolding with_rows
table_of_bookmarks-rising law bookmarks rising fits = filled law [] bookmarks fits (above-none bookmarks) rising

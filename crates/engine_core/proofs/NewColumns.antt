-- The number of a new column is that of no other.
use Rattle.std.proofs.Common.{◌≡◌, ℕ, ◌+◌, ◌<◌, Bool, true, false, ◌&&◌, ◌||◌, cond, List, [], ◌∷◌, refl, sym, ap, subst, ◌∙◌, arith}
use Rattle.std.specs.Prelude.{◌==◌, nat_le}
use Rattle.std.specs.List.{list_all, list_any}
use Rattle.std.proofs.lemmas.Bool.Decides.{nat_tests}
use Rattle.common_lemmas.proofs.Booleans.{and_left, and_right}
use Rattle.jet_base.specs.declared.words.ColType.{ColType}
use Rattle.column_set.specs.declared.columns.Column.{Column}
use Rattle.database_state.specs.SchemaChanges.{has_column, has_column_id, next_column_id}
use Rattle.jet_base.specs.TypeKinds.{is_long_type, is_variable_type}
use Rattle.database_state.specs.Table.{GreatestColumns, Table}
use Rattle.laws_engine.specs.ColumnNumbers.{are_in_range, is_given_number}

-- ---- numbers

not_next : (m n : ℕ) → nat_le m n ≡ true → (m == (n + 1)) ≡ false
not_next m n h = grind (arith, nat_tests)

below_next : (m bound n : ℕ) → nat_le m bound ≡ true → nat_le bound n ≡ true → (m == (n + 1)) ≡ false
below_next m bound n h g = grind (arith, nat_tests)

over_next : (m bound n : ℕ) → nat_le m bound ≡ false → nat_le (n + 1) bound ≡ true → (m == (n + 1)) ≡ false
over_next m bound n h g = grind (arith, nat_tests)

fewer : (n : ℕ) → nat_le 255 n ≡ true → nat_le 127 n ≡ true
fewer n h = grind (arith, nat_tests)

abbrev given : ℕ → ℕ → ℕ → ℕ → Bool
given fixed variable tagged m = cond (nat_le m 127) (nat_le m fixed) (cond (nat_le m 255) (nat_le m variable) (nat_le m tagged))

-- a number that was given is not the next one, by kind
apart_tagged : (m f v t : ℕ) (low middle : Bool) → nat_le m 127 ≡ low → nat_le m 255 ≡ middle → nat_le 255 t ≡ true → cond low (nat_le m f) (cond middle (nat_le m v) (nat_le m t)) ≡ true → (m == (t + 1)) ≡ false
apart_tagged m f v t true middle l k r h = below_next m 127 t l (fewer t r)
apart_tagged m f v t false true l k r h = below_next m 255 t k r
apart_tagged m f v t false false l k r h = not_next m t h

apart_variable : (m f v t : ℕ) (low middle : Bool) → nat_le m 127 ≡ low → nat_le m 255 ≡ middle → nat_le 127 v ≡ true → nat_le (v + 1) 255 ≡ true → cond low (nat_le m f) (cond middle (nat_le m v) (nat_le m t)) ≡ true → (m == (v + 1)) ≡ false
apart_variable m f v t true middle l k r has h = below_next m 127 v l r
apart_variable m f v t false true l k r has h = not_next m v h
apart_variable m f v t false false l k r has h = over_next m 255 v k has

apart_fixed : (m f v t : ℕ) (low : Bool) → nat_le m 127 ≡ low → nat_le (f + 1) 127 ≡ true → cond low (nat_le m f) (cond (nat_le m 255) (nat_le m v) (nat_le m t)) ≡ true → (m == (f + 1)) ≡ false
apart_fixed m f v t true l has h = not_next m f h
apart_fixed m f v t false l has h = over_next m 127 f l has

-- the next number, by whether the column is tagged, and whether its type is variable
abbrev next_by : GreatestColumns → Bool → Bool → ℕ
next_by g tagged variable = cond tagged (g.tagged + 1) (cond variable (g.variable + 1) (g.fixed + 1))

abbrev has_by : Bool → Bool → ℕ → Bool
has_by tagged variable n = cond tagged (nat_le n 511) (cond variable (nat_le n 255) (nat_le n 127))

apart_by : (g : GreatestColumns) (tagged variable : Bool) (m : ℕ) → nat_le 127 g.variable ≡ true → nat_le 255 g.tagged ≡ true → has_by tagged variable (next_by g tagged variable) ≡ true → given g.fixed g.variable g.tagged m ≡ true → (m == next_by g tagged variable) ≡ false
apart_by g true variable m low high has h = apart_tagged m g.fixed g.variable g.tagged (nat_le m 127) (nat_le m 255) refl refl high h
apart_by g false true m low high has h = apart_variable m g.fixed g.variable g.tagged (nat_le m 127) (nat_le m 255) refl refl low has h
apart_by g false false m low high has h = apart_fixed m g.fixed g.variable g.tagged (nat_le m 127) refl has h

some_by : (g : GreatestColumns) (tagged variable : Bool) → 0 < next_by g tagged variable
some_by g true variable = omega arith
some_by g false true = omega arith
some_by g false false = omega arith

pub next_is_some : (g : GreatestColumns) (kind : ColType) (tagged : Bool) → 0 < next_column_id g kind tagged
next_is_some g kind tagged = some_by g (tagged || is_long_type kind) (is_variable_type kind)

-- ---- columns

none_numbered : (p : Column → Bool) (id : ℕ) → ((c : Column) → p c ≡ true → (c.id.0 == id) ≡ false) → (columns : List Column) → list_all p columns ≡ true → list_any (λ (c : Column). c.id.0 == id) columns ≡ false
none_numbered p id f [] h = refl
none_numbered p id f (c ∷ columns) h =
    ap (λ b. b || list_any (λ (x : Column). x.id.0 == id) columns) (f c (and_left (p c) (list_all p columns) h)) ∙ none_numbered p id f columns (and_right (p c) (list_all p columns) h)

pub column_is_new : (t : Table) (column : Column) → are_in_range t.greatest ≡ true → list_all (is_given_number t.greatest) t.columns ≡ true → column.id.0 ≡ next_column_id t.greatest column.kind column.tagged
    → has_column_id column.kind column.tagged (next_column_id t.greatest column.kind column.tagged) ≡ true → has_column t column.id.0 ≡ false
column_is_new t column range all next has =
    let g = t.greatest in
    let a = nat_le g.fixed 127 in let b = nat_le 127 g.variable in let c = nat_le g.variable 255 in let d = nat_le 255 g.tagged in
    let four = and_left (a && b && c && d) (nat_le g.tagged 511) range in
    let three = and_left (a && b && c) d four in
    subst (λ (n : ℕ). has_column t n ≡ false) (sym next)
    (none_numbered (is_given_number g) (next_column_id g column.kind column.tagged)
    (λ x h. apart_by g (column.tagged || is_long_type column.kind) (is_variable_type column.kind) x.id.0 (and_right a b (and_left (a && b) c three)) (and_right (a && b && c) d four) has h) t.columns all)

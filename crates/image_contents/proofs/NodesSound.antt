-- What is asked of a node, one after another.
use Rattle.std.proofs.Common.{◌≡◌, ◌<◌, ◌≤◌, ◌==◌, ℕ, Bool, true, false, ◌&&◌, ◌||◌, List, [], ◌∷◌, length, Option, Some, None, refl, sym, ap, ◌∙◌, arith, true≢false}
use Rattle.std.specs.Prelude.{IfOk, IfSome, Result, Ok, Err, is_some, nat_le, not}
use Rattle.std.specs.List.{list_any}
use Rattle.std.proofs.lemmas.Bool.{eqb-true}
use Rattle.std.proofs.lemmas.Bool.Decides.{nat_tests}
use Rattle.column_set.specs.Rows.{largest_row}
use Rattle.common_lemmas.proofs.Booleans.{and_false}
use Rattle.image_findings.specs.RowFindings.{has_before, is_newest_row, is_row_under, is_sound_node, lacks_room}
use Rattle.image_findings.specs.TableContents.{TableContents, long_values}
use Rattle.column_set.specs.RowReading.{row_in}
use Rattle.long_rows.specs.WholeRows.{is_whole}
use Rattle.long_value.specs.Values.{Values}
use Rattle.page_image.specs.Page.{Node}
use Rattle.stored_variants.specs.RecordRows.{row_in_node}
use Rattle.version_store.specs.HeldChanges.{HeldChange}

abbrev is_key : Node → Bool
is_key n = nat_le 1 (length n.key) && nat_le (length n.key) 255

abbrev stands : List HeldChange → TableContents → Node → Bool
stands held t n = is_some (row_in_node n.data) || has_before t.table.id n.key held

abbrev crowded : List HeldChange → TableContents → Node → Bool
crowded held t n = list_any (lacks_room n.extent t.table.id n.key) held

abbrev newest : ℕ → TableContents → Node → Bool
newest number t n = is_newest_row number (long_values t) t.table n.key (row_in_node n.data)

pub no_key : (number : ℕ) (held : List HeldChange) (t : TableContents) (n : Node) → is_key n ≡ false → false ≡ is_sound_node number held t n
no_key number held t n e = sym (ap (λ b. b && (stands held t n && ((nat_le n.extent largest_row && not (crowded held t n)) && newest number t n))) e)

too_wide : (extent : ℕ) → 1700 < extent → nat_le extent 1700 ≡ false
too_wide extent lt = grind (arith, nat_tests, lt)

narrow : (extent : ℕ) → extent ≤ 1700 → nat_le extent 1700 ≡ true
narrow extent ge = grind (arith, nat_tests, ge)

all_false : (a b : Bool) → (a && (b && false)) ≡ false
all_false a b = ap (λ c. a && c) (and_false b) ∙ and_false a

pub wide : (number : ℕ) (held : List HeldChange) (t : TableContents) (n : Node) → 1700 < n.extent → false ≡ is_sound_node number held t n
wide number held t n lt =
    sym (ap (λ b. is_key n && (stands held t n && ((b && not (crowded held t n)) && newest number t n))) (too_wide n.extent lt) ∙ all_false (is_key n) (stands held t n))

pub no_room : (number : ℕ) (held : List HeldChange) (t : TableContents) (n : Node) → crowded held t n ≡ true → false ≡ is_sound_node number held t n
no_room number held t n e =
    sym (ap (λ b. is_key n && (stands held t n && ((nat_le n.extent largest_row && not b) && newest number t n))) e ∙ ap (λ b. is_key n && (stands held t n && (b && newest number t n))) (and_false (nat_le n.extent largest_row)) ∙ all_false (is_key n) (stands held t n))

-- what is left once the key, the extent and the room are looked at
left : (number : ℕ) (held : List HeldChange) (t : TableContents) (n : Node) → is_key n ≡ true → n.extent ≤ 1700 → crowded held t n ≡ false → is_sound_node number held t n ≡ (stands held t n && newest number t n)
left number held t n key low room =
    ap (λ b. b && (stands held t n && ((nat_le n.extent largest_row && not (crowded held t n)) && newest number t n))) key
    ∙ ap (λ b. stands held t n && ((b && not (crowded held t n)) && newest number t n)) (narrow n.extent low)
    ∙ ap (λ b. stands held t n && (not b && newest number t n)) room

and_true : (a : Bool) → (a && true) ≡ a
and_true true = refl
and_true false = refl

pub without_row : (number : ℕ) (held : List HeldChange) (t : TableContents) (n : Node) → is_key n ≡ true → n.extent ≤ 1700 → crowded held t n ≡ false → n.data ≡ [] → has_before t.table.id n.key held ≡ is_sound_node number held t n
without_row number held t n key low room empty =
    sym (left number held t n key low room
    ∙ ap (λ (d : List ℕ). (is_some (row_in_node d) || has_before t.table.id n.key held) && is_newest_row number (long_values t) t.table n.key (row_in_node d)) empty
    ∙ and_true (has_before t.table.id n.key held))

pub with_row : (number : ℕ) (held : List HeldChange) (t : TableContents) (n : Node) → is_key n ≡ true → n.extent ≤ 1700 → crowded held t n ≡ false → (n.data ≡ [] → ⊥) → is_row_under number (long_values t) t.table n.key n.data ≡ is_sound_node number held t n
with_row number held t n key low room some = sym (left number held t n key low room ∙ by n.data some)
  where
    by : (d : List ℕ) → (d ≡ [] → ⊥) → ((is_some (row_in_node d) || has_before t.table.id n.key held) && is_newest_row number (long_values t) t.table n.key (row_in_node d)) ≡ is_row_under number (long_values t) t.table n.key d
    by [] some = absurd (some refl)
    by (byte ∷ bytes) some = refl

pub no_bytes : (d : List ℕ) → (length d == 0) ≡ true → d ≡ []
no_bytes [] e = refl
no_bytes (byte ∷ bytes) e = absurd (omega (arith, eqb-true (length (byte ∷ bytes)) 0 e))

pub some_bytes : (d : List ℕ) → (length d == 0) ≡ false → d ≡ [] → ⊥
some_bytes d f e = true≢false (sym (ap (λ (x : List ℕ). length x == 0) e) ∙ f)

pub whole_is : (values : Values) (d : List ℕ) → IfSome (row_in_node d) (λ row. is_whole values (row_in row) ≡ true) → (d ≡ [] → ⊥) → is_whole values (row_in d) ≡ true
whole_is values [] h some = absurd (some refl)
whole_is values (byte ∷ bytes) h some = h

pub with_ok : {E : Type 0} (r : Result Bool E) (x y : Bool) → IfOk r (λ b. b ≡ x) → x ≡ y → IfOk r (λ b. b ≡ y)
with_ok (Ok b) x y h e = h ∙ e
with_ok (Err fault) x y h e = h

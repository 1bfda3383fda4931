-- Records without their sums: a sum leaves them as they are.
use Rattle.std.proofs.Common.{◌≡◌, ℕ, Bool, true, false, not, ◌||◌, cond, List, [], ◌∷◌, Option, Some, None, Less, Equal, Greater, refl, sym, ap, subst, ◌∙◌}
use Rattle.std.specs.Prelude.{ℤ, ◌==◌, filter, fold}
use Rattle.std.specs.List.{list_any}
use Rattle.std.specs.Cmp.{unsigned_tied}
use Rattle.std.specs.Ordering.{is_eq, nat_cmp}
use Rattle.std.specs.FinMap.Entries.{by_order}
use Rattle.std.proofs.lemmas.Bool.{eqb-true}
use Rattle.common_lemmas.proofs.Lists.{filter_swap}
use Rattle.common_lemmas.proofs.Numbers.{self_equal}
use Rattle.common_lemmas.proofs.Booleans.{impossible}
use Rattle.column_set.specs.declared.changes.Change.{Change}
use Rattle.column_set.specs.declared.changes.Change.TheVariants.{Put, Drop, Hold, Add}
use Rattle.column_set.specs.declared.columns.Column.{Column}
use Rattle.column_set.specs.RecordValues.{RecordFields, column_of_id, put_by_number, remove_by_number, with_values}
use Rattle.database_state.specs.Changes.{is_sum, with_sum}
use Rattle.database_state.specs.Equivalence.{without_sums}
use Rattle.laws_versions.specs.Records.{record_after}
use Rattle.laws_versions.specs.SumBefores.{AreSameButForSums}

-- ---- a column that is put and removed

removed_put : (k : ℕ) (v : List (List ℕ)) (fields : RecordFields) → remove_by_number k (put_by_number k v fields) ≡ remove_by_number k fields
removed_put k v [] = ap (λ b. cond (not b) ((k, v) ∷ []) []) (self_equal k)
removed_put k v (e ∷ fields) =
    elim (nat_cmp k e.0) as (λ o. nat_cmp k e.0 ≡ o → remove_by_number k (by_order o ((k, v) ∷ e ∷ fields) ((e.0, v) ∷ fields) (e ∷ put_by_number k v fields)) ≡ remove_by_number k (e ∷ fields)) [
      | Less ↦ λ p. ap (λ b. cond (not b) ((k, v) ∷ remove_by_number k (e ∷ fields)) (remove_by_number k (e ∷ fields))) (self_equal k)
      | Equal ↦ λ p.
          ap (λ b. cond (not b) ((e.0, v) ∷ remove_by_number k fields) (remove_by_number k fields)) (tied p)
          ∙ sym (ap (λ b. cond (not b) (e ∷ remove_by_number k fields) (remove_by_number k fields)) (tied p))
      | Greater ↦ λ p. ap (λ rest. cond (not (e.0 == k)) (e ∷ rest) rest) (removed_put k v fields)
    ] refl
  where
    tied : nat_cmp k e.0 ≡ Equal → (e.0 == k) ≡ true
    tied p = ap (λ (n : ℕ). e.0 == n) (eqb-true k e.0 (sym (unsigned_tied k e.0) ∙ ap is_eq p)) ∙ self_equal e.0

-- ---- columns that are cleared

abbrev cleared : List Column → RecordFields → RecordFields
cleared sums fields = fold (λ left column. with_values left column.id.0 []) fields sums

cleared_alike : (c : ℕ) (sums : List Column) → list_any (λ s. s.id.0 == c) sums ≡ true → (one other : RecordFields) → remove_by_number c one ≡ remove_by_number c other → cleared sums one ≡ cleared sums other
cleared_alike c [] h one other same = impossible h
cleared_alike c (s ∷ sums) h one other same = elim (s.id.0 == c) as (λ b. (s.id.0 == c) ≡ b → (b || list_any (λ s. s.id.0 == c) sums) ≡ true → cleared (s ∷ sums) one ≡ cleared (s ∷ sums) other) [
  | true ↦ λ e g. ap (cleared sums) (subst (λ (k : ℕ). remove_by_number k one ≡ remove_by_number k other) (sym (eqb-true s.id.0 c e)) same)
  | false ↦ λ e g. cleared_alike c sums g (remove_by_number s.id.0 one) (remove_by_number s.id.0 other)
      (filter_swap (λ x. not (x.0 == c)) (λ x. not (x.0 == s.id.0)) one ∙ ap (remove_by_number s.id.0) same ∙ sym (filter_swap (λ x. not (x.0 == c)) (λ x. not (x.0 == s.id.0)) other))
] refl h

-- an escrow column is among those that are
among : (columns : List Column) (id : ℕ) → elim (column_of_id columns id) [ Some column ↦ column.escrow | None ↦ false ] ≡ true → list_any (λ s. s.id.0 == id) (filter (λ c. c.escrow) columns) ≡ true
among [] id h = impossible h
among (k ∷ columns) id h =
    elim (k.id.0 == id) as (λ b. (k.id.0 == id) ≡ b → elim (cond b (Some k) (column_of_id columns id)) [ Some column ↦ column.escrow | None ↦ false ] ≡ true → list_any (λ s. s.id.0 == id) (cond k.escrow (k ∷ filter (λ c. c.escrow) columns) (filter (λ c. c.escrow) columns)) ≡ true) [
      | true ↦ λ e g. ap (λ b. list_any (λ s. s.id.0 == id) (cond b (k ∷ filter (λ c. c.escrow) columns) (filter (λ c. c.escrow) columns))) g ∙ ap (λ b. b || list_any (λ s. s.id.0 == id) (filter (λ c. c.escrow) columns)) e
      | false ↦ λ e g. later k.escrow (among columns id g)
    ] refl h
  where
    later : (b : Bool) → list_any (λ s. s.id.0 == id) (filter (λ c. c.escrow) columns) ≡ true → list_any (λ s. s.id.0 == id) (cond b (k ∷ filter (λ c. c.escrow) columns) (filter (λ c. c.escrow) columns)) ≡ true
    later false g = g
    later true g = right (k.id.0 == id) (list_any (λ s. s.id.0 == id) (filter (λ c. c.escrow) columns)) g
      where
        right : (a b : Bool) → b ≡ true → (a || b) ≡ true
        right true b e = refl
        right false b e = e

-- ---- sums

-- what is a sum is of an escrow column
abbrev pub IsOfEscrow : List Column → Change → Type 0
IsOfEscrow columns (Put table bookmark copied values) = Unit {0}
IsOfEscrow columns (Drop table bookmark) = Unit {0}
IsOfEscrow columns (Hold table bookmark) = Unit {0}
IsOfEscrow columns (Add table bookmark column amount) = elim (column_of_id columns column.0) [ Some found ↦ found.escrow | None ↦ false ] ≡ true

cleared_sum : (columns : List Column) (values : RecordFields) (c : ℕ) (a : ℤ) → elim (column_of_id columns c) [ Some found ↦ found.escrow | None ↦ false ] ≡ true → without_sums columns (with_sum values c a) ≡ without_sums columns values
cleared_sum columns values c a h = cleared_alike c (filter (λ k. k.escrow) columns) (among columns c h) (with_sum values c a) values (removed_put c _ values)

-- a sum leaves its record as it is but for its sums
pub sum_same : (columns : List Column) (c : Change) → IsOfEscrow columns c → is_sum c ≡ true → (r : Option RecordFields) → AreSameButForSums columns (record_after c r) r
sum_same columns (Put t b copied values) h s r = impossible s
sum_same columns (Drop t b) h s r = impossible s
sum_same columns (Hold t b) h s r = impossible s
sum_same columns (Add t b c a) h s None = refl
sum_same columns (Add t b c a) h s (Some values) = ap Some (cleared_sum columns values c.0 a h)

-- a change leaves such records where it found such
pub after_same : (columns : List Column) (c : Change) → IsOfEscrow columns c → (r s : Option RecordFields) → AreSameButForSums columns r s → AreSameButForSums columns (record_after c r) (record_after c s)
after_same columns (Put t b copied values) h r s same = refl
after_same columns (Drop t b) h r s same = refl
after_same columns (Hold t b) h r s same = same
after_same columns (Add t b c a) h r s same = sum_same columns (Add t b c a) h refl r ∙ same ∙ sym (sum_same columns (Add t b c a) h refl s)

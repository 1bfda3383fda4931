-- Changes that do not collide may be made in either order.
use Rattle.std.proofs.Common.{◌≡◌, ℕ, Bool, true, false, not, ◌&&◌, cond, List, Option, Some, None, refl, sym, ap, ◌∙◌}
use Rattle.std.specs.Prelude.{◌==◌, bytes_eq}
use Rattle.std.proofs.lemmas.Bool.{and_from, eqb-true}
use Rattle.common_lemmas.proofs.Booleans.{and_left, and_right}
use Rattle.common_lemmas.proofs.Numbers.{equal_bytes, same_bytes, self_equal}
use Rattle.column_set.specs.declared.changes.Change.{Change}
use Rattle.column_set.specs.declared.changes.Change.TheVariants.{Put, Drop, Hold, Add}
use Rattle.column_set.specs.RecordValues.{RecordFields}
use Rattle.database_state.specs.Changes.{is_sum}
use Rattle.column_set.specs.ChangedRecords.{changed_table, changed_bookmark}
use Rattle.database_state.specs.State.{PastChange}
use Rattle.database_state.specs.Conflicts.{collide}
use Rattle.laws_versions.proofs.ChangeLemmas.Sums.{sums_commute}
use Rattle.laws_versions.specs.Records.{Records, record_after, is_change_of, records_after, after_item}

-- ---- two changes of one record

pub both_touch : (t : ℕ) (b : List ℕ) (p q : Change) → is_change_of t b p ≡ true → is_change_of t b q ≡ true
    → ((changed_table p == changed_table q) && bytes_eq (changed_bookmark p) (changed_bookmark q)) ≡ true
both_touch t b p q hp hq =
    let tp = eqb-true (changed_table p) t (and_left _ _ hp) in
    let tq = eqb-true (changed_table q) t (and_left _ _ hq) in
    let bp = same_bytes (changed_bookmark p) b (and_right (changed_table p == t) _ hp) in
    let bq = same_bytes (changed_bookmark q) b (and_right (changed_table q == t) _ hq) in
    and_from _ _ (ap (λ n. n == changed_table q) (tp ∙ sym tq) ∙ self_equal (changed_table q)) (equal_bytes _ _ (bp ∙ sym bq))

sums_of : (a b : Bool) → a ≡ true → (a && not b) ≡ false → b ≡ true
sums_of a true h g = refl
sums_of true false h g = sym g
sums_of false false h g = cc

-- both are sums where they do not collide
pub are_sums : (t : ℕ) (b : List ℕ) (p q : Change) → is_change_of t b p ≡ true → is_change_of t b q ≡ true → collide p q ≡ false → (is_sum p && is_sum q) ≡ true
are_sums t b p q hp hq h =
    sums_of ((changed_table p == changed_table q) && bytes_eq (changed_bookmark p) (changed_bookmark q)) (is_sum p && is_sum q) (both_touch t b p q hp hq) h

-- ---- sums

sums_of_records_commute : (p q : Change) → (is_sum p && is_sum q) ≡ true → (r : Option RecordFields) → record_after q (record_after p r) ≡ record_after p (record_after q r)
sums_of_records_commute (Add t b c a) (Add u d e f) h (Some values) = ap Some (sums_commute values c.0 e.0 a f)
sums_of_records_commute (Add t b c a) (Add u d e f) h None = refl
sums_of_records_commute (Add t b c a) (Put u d copied values) h r = cc
sums_of_records_commute (Add t b c a) (Drop u d) h r = cc
sums_of_records_commute (Add t b c a) (Hold u d) h r = cc
sums_of_records_commute (Put t b copied values) q h r = cc
sums_of_records_commute (Drop t b) q h r = cc
sums_of_records_commute (Hold t b) q h r = cc

-- ---- on all records

commute_at : (p q : Change) → collide p q ≡ false → (r : Records) (t : ℕ) (b : List ℕ) → records_after (records_after r p) q t b ≡ records_after (records_after r q) p t b
commute_at p q h r t b =
    elim (is_change_of t b p) as (λ x. is_change_of t b p ≡ x
    → cond (is_change_of t b q) (record_after q (cond x (record_after p (r t b)) (r t b))) (cond x (record_after p (r t b)) (r t b))
    ≡ cond x (record_after p (cond (is_change_of t b q) (record_after q (r t b)) (r t b))) (cond (is_change_of t b q) (record_after q (r t b)) (r t b))) [
      | true ↦ λ hp. elim (is_change_of t b q) as (λ y. is_change_of t b q ≡ y
          → cond y (record_after q (record_after p (r t b))) (record_after p (r t b)) ≡ record_after p (cond y (record_after q (r t b)) (r t b))) [
            | true ↦ λ hq. sums_of_records_commute p q (are_sums t b p q hp hq h) (r t b)
            | false ↦ λ hq. refl
          ] refl
      | false ↦ λ hp. refl
    ] refl

pub changes_commute : (p q : Change) → collide p q ≡ false → (r : Records) → records_after (records_after r p) q ≡ records_after (records_after r q) p
changes_commute p q h r = λ i t b. commute_at p q h r t b i

pub commute : (p q : PastChange) → collide p.change q.change ≡ false → (r : Records) → after_item (after_item r p) q ≡ after_item (after_item r q) p
commute p q h r = changes_commute p.change q.change h r

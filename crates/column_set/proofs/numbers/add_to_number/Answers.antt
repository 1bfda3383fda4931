use Rattle.std.proofs.Common.{◌≡◌, ℕ, ◌+◌, ◌-◌, ◌%◌, ◌^◌, ◌++◌, List, length, drop, take, Some, None, refl, sym, ap, ◌∙◌, arith}
use Rattle.std.specs.Int.{w32, from_le_bytes, to_le_bytes}
use Rattle.std.specs.List.{flat_map}
use Rattle.common_lemmas.proofs.Options.{same_some}
use Rattle.column_set.specs.Rows.{value_bytes}
use Rattle.column_set.proofs.AnotherValue.{in_place, lengths, summed}
use Rattle.column_set.proofs.numbers.add_to_number.Goals as goal

never : {X : Type 0} (x : X) → None ≡ Some x → ⊥
never x e = cc

pub returns-then-end-ge-NUMBER_BYTES-clause-sum : goal.returns-then-end-ge-NUMBER_BYTES-clause-sum
returns-then-end-ge-NUMBER_BYTES-clause-sum c = λ fields number formed spelled found long.
    let new = to_le_bytes w32 ((from_le_bytes w32 number + c.args.addend) % 2 ^ 32) in
    let place = in_place fields c.args.column.0 number new c.args.row.now formed spelled found long in
    let behind : c.in-Some.behind ≡ length (flat_map value_bytes place.behind) = same_some _ _ (sym c.in-Some.is ∙ c.bytes_behind.ensures.count _ place.behind refl place.stands) in
    let row = c.args.row.now in
    let at : ℕ → List ℕ = λ count. take (length row - count - 4) row ++ (to_le_bytes w32 ((from_le_bytes w32 (drop (length row - count - 4) row) + c.args.addend) % 2 ^ 32) ++ drop (length row - count - 4 + 4) row) in
    c.put_at.ensures
    ∙ (λ i. take (length row - c.in-Some.behind - 4) row ++ (to_le_bytes w32 ((c.number_at.ensures i + c.args.addend) % 2 ^ 32) ++ drop (length row - c.in-Some.behind - 4 + 4) row))
    ∙ ap at behind
    ∙ summed place.front number (flat_map value_bytes place.behind) row long place.split c.args.addend
    ∙ sym place.then_split

pub returns-else-end-ge-NUMBER_BYTES-clause-sum : goal.returns-else-end-ge-NUMBER_BYTES-clause-sum
returns-else-end-ge-NUMBER_BYTES-clause-sum c = λ fields number formed spelled found long.
    let new = to_le_bytes w32 ((from_le_bytes w32 number + c.args.addend) % 2 ^ 32) in
    let place = in_place fields c.args.column.0 number new c.args.row.now formed spelled found long in
    let behind : c.in-Some.behind ≡ length (flat_map value_bytes place.behind) = same_some _ _ (sym c.in-Some.is ∙ c.bytes_behind.ensures.count _ place.behind refl place.stands) in
    absurd (omega (arith, c.if-end-ge-NUMBER_BYTES.false, behind, lengths place.front number (flat_map value_bytes place.behind) c.args.row.now place.split, long))

pub returns-in-None-clause-sum : goal.returns-in-None-clause-sum
returns-in-None-clause-sum c = λ fields number formed spelled found long.
    let new = to_le_bytes w32 ((from_le_bytes w32 number + c.args.addend) % 2 ^ 32) in
    let place = in_place fields c.args.column.0 number new c.args.row.now formed spelled found long in
    absurd (never _ (sym c.in-None.is ∙ c.bytes_behind.ensures.count _ place.behind refl place.stands))

use Rattle.std.proofs.Common.{ap, ◌≡◌, ◌∙◌, ◌-◌, ◌^◌, min, ℕ, List, length, slice_set, arith}
use Rattle.std.proofs.Math.ListN.{length-set}
use Rattle.column_set.specs.RecordValues.{values_of, size_of_values}
use Rattle.column_set.proofs.Edits.{field_at, written, is_record-changed, values_in_gap}
use Rattle.column_set.proofs.Measures.{measured-changed}
use Rattle.column_set.proofs.field_list.FieldList.set_value.Goals as goal

pub set-requires : goal.set-requires
set-requires c = rw (field_at _ _ c.self.view_is _ _ _ c.index_mut-field.ensures.value c.in-Ok.ensures.found) c.requires

pub returns-in-Ok : goal.returns-in-Ok
returns-in-Ok c = written _ _ c.self.view_is _ _ _ _ (λ values. slice_set values c.args.at c.args.value) c.index_mut-field.ensures.value c.in-Ok.ensures.found c.set.ensures (omega (arith, c.requires, length-set (values_of c.args.self.now c.args.column.0) c.args.at c.args.value))

pub invariant_of-self : goal.invariant_of-self
invariant_of-self c =
    let now = values_of c.args.self.now c.args.column.0 in
    let e = written _ _ c.self.view_is _ _ _ _ (λ values. slice_set values c.args.at c.args.value) c.index_mut-field.ensures.value c.in-Ok.ensures.found c.set.ensures (omega (arith, c.requires, length-set now c.args.at c.args.value)) in
    let held = c.values.ensures ∙ (ap (λ (f : ℕ × List (List ℕ)). f.1) c.set.ensures ∙ ap (λ (f : ℕ × List (List ℕ)). slice_set f.1 c.args.at c.args.value) (field_at _ _ c.self.view_is _ _ _ c.index_mut-field.ensures.value c.in-Ok.ensures.found)) in
    record {
      formed = is_record-changed _ _ c.self.view_is c.args.column.0 c.in-Ok.place c.self.invariant.formed _ _ e;
      measured = measured-changed _ _ c.self.view_is c.args.column.0 c.self.invariant.formed _ (slice_set now c.args.at c.args.value) _ _ _ e c.size_but-others.ensures (c.size_of_values-room.ensures ∙ ap (λ (v : List (List ℕ)). min (size_of_values v) (2 ^ 64 - 1)) held) c.saturating_add-self-inside.ensures;
    }

-- a place that is required is one of a value
pub returns-in_default : goal.returns-in_default
returns-in_default c =
    let none : length (values_of c.args.self.now c.args.column.0) ≡ 0 = ap length (values_in_gap _ _ _ c.in_default.ensures.absent) in
    absurd (omega (arith, c.requires))

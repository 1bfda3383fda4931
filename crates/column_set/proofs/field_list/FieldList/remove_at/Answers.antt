use Rattle.std.proofs.Common.{ap, ◌≡◌, ◌∙◌, ◌-◌, ◌^◌, ◌<◌, min, ℕ, List, length, arith}
use Rattle.std.specs.List.{remove}
use Rattle.std.proofs.lemmas.List.Edits.{length-remove}
use Rattle.column_set.specs.RecordValues.{values_of, size_of_values}
use Rattle.column_set.proofs.Edits.{field_at, written, is_record-changed}
use Rattle.column_set.proofs.Measures.{measured-changed}
use Rattle.column_set.proofs.field_list.FieldList.remove_at.Goals as goal

some_left : (values : List (List ℕ)) (at : ℕ) → at < length values → 1 < length values → 0 < length (remove values at)
some_left values at lt more = omega (arith, length-remove values at lt)

pub remove-requires : goal.remove-requires
remove-requires c =
    let field = field_at _ _ c.self.view_is _ _ _ c.index_mut-field.ensures.value c.requires.place in
    record { place = rw field c.requires.at; several = rw field c.requires.several }

pub returns : goal.returns
returns c = written _ _ c.self.view_is _ _ _ _ (λ values. remove values c.args.at) c.index_mut-field.ensures.value c.requires.place c.remove.ensures (some_left _ _ c.requires.at c.requires.several)

pub invariant_of-self : goal.invariant_of-self
invariant_of-self c =
    let now = values_of c.args.self.now c.args.column.0 in
    let e = written _ _ c.self.view_is _ _ _ _ (λ values. remove values c.args.at) c.index_mut-field.ensures.value c.requires.place c.remove.ensures (some_left _ _ c.requires.at c.requires.several) in
    let held = c.values.ensures ∙ (ap (λ (f : ℕ × List (List ℕ)). f.1) c.remove.ensures ∙ ap (λ (f : ℕ × List (List ℕ)). remove f.1 c.args.at) (field_at _ _ c.self.view_is _ _ _ c.index_mut-field.ensures.value c.requires.place)) in
    record {
      formed = is_record-changed _ _ c.self.view_is c.args.column.0 c.args.place c.self.invariant.formed _ (remove now c.args.at) e;
      measured = measured-changed _ _ c.self.view_is c.args.column.0 c.self.invariant.formed _ (remove now c.args.at) _ _ _ e c.size_but-others.ensures (c.size_of_values-room.ensures ∙ ap (λ (v : List (List ℕ)). min (size_of_values v) (2 ^ 64 - 1)) held) c.saturating_add-self-inside.ensures;
    }

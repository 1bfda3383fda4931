use Rattle.std.proofs.Common.{[], ◌∷◌, arith}
use Rattle.column_set.proofs.Edits.{written, is_record-changed}
use Rattle.column_set.proofs.Measures.{measured-one}
use Rattle.column_set.proofs.field_list.FieldList.set_only_value.Goals as goal

pub returns-in-Ok : goal.returns-in-Ok
returns-in-Ok c = written _ _ c.self.view_is _ _ _ _ (λ values. c.args.value ∷ []) c.index_mut.ensures.value c.in-Ok.ensures.found c.set_only.ensures (omega arith)

pub invariant_of-self : goal.invariant_of-self
invariant_of-self c =
    let e = written _ _ c.self.view_is _ _ _ _ (λ values. c.args.value ∷ []) c.index_mut.ensures.value c.in-Ok.ensures.found c.set_only.ensures (omega arith) in
    record {
      formed = is_record-changed _ _ c.self.view_is c.args.column.0 c.in-Ok.place c.self.invariant.formed _ (c.args.value ∷ []) e;
      measured = measured-one _ _ c.self.view_is c.args.column.0 c.self.invariant.formed _ c.args.value _ _ _ e c.size_but-others.ensures c.size_of_value-room.ensures c.saturating_add-self-inside.ensures;
    }

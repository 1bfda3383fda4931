use Rattle.std.proofs.Common.{◌∙◌, [], ◌∷◌}
use Rattle.column_set.proofs.Edits.{inserted, is_record-changed}
use Rattle.column_set.proofs.Measures.{measured-inserted}
use Rattle.column_set.proofs.field_list.FieldList.insert.Goals as goal

pub returns : goal.returns
returns c = c.in_ok-insert.ensures.items ∙ inserted _ _ c.self.view_is _ _ _ _ c.requires c.new-field.ensures

pub invariant_of-self-2 : goal.invariant_of-self-2
invariant_of-self-2 c =
    let e = c.in_ok-insert.ensures.items ∙ inserted _ _ c.self.view_is _ _ _ _ c.requires c.new-field.ensures in
    record {
      formed = is_record-changed _ _ c.self.view_is c.args.column.0 c.args.place c.self.invariant.formed _ (c.args.value ∷ []) e;
      measured = measured-inserted _ _ c.self.view_is c.args.column.0 c.self.invariant.formed c.args.place c.requires _ c.args.value _ _ _ e c.self.invariant.measured c.size_of_value-room.ensures c.saturating_add-self-inside.ensures;
    }

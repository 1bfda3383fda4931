use Rattle.std.proofs.Common.{true, false, []}
use Rattle.column_set.proofs.Edits.{pushed, is_record-pushed}
use Rattle.column_set.proofs.Measures.{measured-pushed, measured-same}
use Rattle.column_set.proofs.field_list.FieldList.push_at.Goals as goal

pub returns-in-Ok : goal.returns-in-Ok
returns-in-Ok c = pushed _ _ c.self.view_is _ _ true c.args.value _ _ c.index_mut.ensures.value c.requires c.in-Ok.ensures

pub invariant_of-self : goal.invariant_of-self
invariant_of-self c =
    let e = pushed _ _ c.self.view_is _ _ true c.args.value _ _ c.index_mut.ensures.value c.requires c.in-Ok.ensures in
    record {
      formed = is_record-pushed _ _ c.self.view_is c.args.column.0 c.args.place c.self.invariant.formed true _ _ e;
      measured = measured-pushed _ _ c.self.view_is c.args.column.0 c.self.invariant.formed _ c.args.value _ _ _ e c.self.invariant.measured c.size_of_value-room.ensures c.saturating_add-self-inside.ensures;
    }

pub returns-in-Err : goal.returns-in-Err
returns-in-Err c = pushed _ _ c.self.view_is _ _ false c.args.value _ _ c.index_mut.ensures.value c.requires c.in-Err.ensures

pub invariant_of-self-in-Err : goal.invariant_of-self-in-Err
invariant_of-self-in-Err c =
    let e = pushed _ _ c.self.view_is _ _ false c.args.value _ _ c.index_mut.ensures.value c.requires c.in-Err.ensures in
    record {
      formed = is_record-pushed _ _ c.self.view_is c.args.column.0 c.args.place c.self.invariant.formed false _ [] e;
      measured = measured-same _ _ c.self.view_is _ c.self.invariant.measured e;
    }

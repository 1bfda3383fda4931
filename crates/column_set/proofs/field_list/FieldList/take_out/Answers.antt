use Rattle.std.proofs.Common.{ap, sym, [], ◌∙◌, ◌-◌, ◌^◌, min}
use Rattle.column_set.specs.RecordValues.{RecordFields, record_size}
use Rattle.column_set.proofs.Edits.{removed, is_record-changed}
use Rattle.column_set.proofs.field_list.FieldList.take_out.Goals as goal

pub returns : goal.returns
returns c = c.remove.ensures.items ∙ removed _ _ c.self.view_is _ _ c.requires

pub invariant_of-self : goal.invariant_of-self
invariant_of-self c =
    let e = c.remove.ensures.items ∙ removed _ _ c.self.view_is _ _ c.requires in
    record {
      formed = is_record-changed _ _ c.self.view_is c.args.column.0 c.args.place c.self.invariant.formed _ [] e;
      measured = c.size_but-others.ensures ∙ ap (λ (f : RecordFields). min (record_size f) (2 ^ 64 - 1)) (sym e);
    }

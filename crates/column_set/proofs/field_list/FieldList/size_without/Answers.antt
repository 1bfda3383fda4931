use Rattle.std.proofs.Common.{ap, sym, ◌∙◌, ◌-◌, ◌^◌, min, subst, List, ℕ}
use Rattle.std.specs.Prelude.{IsTrue}
use Rattle.column_set.specs.Record.{is_record}
use Rattle.column_set.specs.RecordValues.{RecordFields, record_size}
use Rattle.column_set.proofs.Edits.{record_size-with_values, no_values_in_gap}
use Rattle.column_set.proofs.field_list.FieldList.size_without.Goals as goal

pub returns-in-Ok-clause-room : goal.returns-in-Ok-clause-room
returns-in-Ok-clause-room c values = record_size-with_values c.args.self.now c.args.column.0 values (subst (λ (l : List (ℕ × List (List ℕ))). IsTrue (is_record l)) c.self.view_is c.self.invariant.formed)

pub returns-in-Err-clause-size : goal.returns-in-Err-clause-size
returns-in-Err-clause-size c = c.self.invariant.measured ∙ (ap (λ (f : RecordFields). min (record_size f) (2 ^ 64 - 1)) c.self.view_is ∙ ap (λ (f : RecordFields). min (record_size f) (2 ^ 64 - 1)) (sym (no_values_in_gap _ _ _ c.in-Err.ensures.absent)))

pub returns-in-Err-clause-room : goal.returns-in-Err-clause-room
returns-in-Err-clause-room c values = record_size-with_values c.args.self.now c.args.column.0 values (subst (λ (l : List (ℕ × List (List ℕ))). IsTrue (is_record l)) c.self.view_is c.self.invariant.formed)

use Rattle.std.proofs.Common.{ap, ◌∙◌, ◌-◌, ◌^◌, min, subst, sym, List, ℕ, arith}
use Rattle.column_set.specs.RecordValues.{values_of, size_of_values}
use Rattle.column_set.proofs.Edits.{field_at}
use Rattle.column_set.proofs.Measures.{left, room_within}
use Rattle.column_set.proofs.field_list.FieldList.size_but.Goals as goal

pub overflow_sub-result : goal.overflow_sub-result
overflow_sub-result c =
    let held = c.values.ensures ∙ ap (λ (f : ℕ × List (List ℕ)). f.1) (field_at _ _ c.self.view_is _ _ _ c.index.ensures c.requires) in
    room_within _ _ c.self.view_is c.args.column.0 c.self.invariant.formed _ _ c.self.invariant.measured (c.size_of_values.ensures ∙ ap (λ (v : List (List ℕ)). min (size_of_values v) (2 ^ 64 - 1)) held)

pub returns-then-self-lt18446744073709551615 : goal.returns-then-self-lt18446744073709551615
returns-then-self-lt18446744073709551615 c =
    let held = c.values.ensures ∙ ap (λ (f : ℕ × List (List ℕ)). f.1) (field_at _ _ c.self.view_is _ _ _ c.index.ensures c.requires) in
    left _ _ c.self.view_is c.args.column.0 c.self.invariant.formed _ _ c.self.invariant.measured (omega arith) (c.size_of_values.ensures ∙ ap (λ (v : List (List ℕ)). min (size_of_values v) (2 ^ 64 - 1)) held)

use Rattle.std.proofs.Common.{ap, sym, subst, ◌∙◌, ℕ, List, [], ◌<◌, ◌≤◌, ◌≡◌, length, arith}
use Rattle.column_set.specs.RecordValues.{values_of, with_values}
use Rattle.column_set.proofs.Edits.{field_at, values_in_gap, none_left}
use Rattle.column_set.proofs.field_list.FieldList.remove_value.Goals as goal

-- how many values the column has, from how many were read
many : {seen values : List (List ℕ)} {field : ℕ × List (List ℕ)} {column : ℕ} → 1 < length seen → seen ≡ field.1 → field ≡ (column, values) → 1 < length values
many more read is = subst (λ (l : List (List ℕ)). 1 < length l) (read ∙ ap (λ (f : ℕ × List (List ℕ)). f.1) is) more

one : {seen values : List (List ℕ)} {field : ℕ × List (List ℕ)} {column : ℕ} → length seen ≤ 1 → seen ≡ field.1 → field ≡ (column, values) → length values ≤ 1
one few read is = subst (λ (l : List (List ℕ)). length l ≤ 1) (read ∙ ap (λ (f : ℕ × List (List ℕ)). f.1) is) few

pub remove_at-requires-clause-several : goal.remove_at-requires-clause-several
remove_at-requires-clause-several c = many c.if-values-gt1.true c.values.ensures (field_at _ _ c.self.view_is _ _ _ c.index.ensures c.in-Ok.ensures.found)

pub returns-else-values-gt1 : goal.returns-else-values-gt1
returns-else-values-gt1 c =
    let few = one c.if-values-gt1.false c.values.ensures (field_at _ _ c.self.view_is _ _ _ c.index.ensures c.in-Ok.ensures.found) in
    c.take_out.ensures ∙ ap (with_values c.args.self.now c.args.column.0) (sym (none_left _ _ c.requires few))

pub returns-in_default : goal.returns-in_default
returns-in_default c =
    let none : length (values_of c.args.self.now c.args.column.0) ≡ 0 = ap length (values_in_gap _ _ _ c.in_default.ensures.absent) in
    absurd (omega (arith, c.requires))

use Rattle.std.proofs.Common.{rules}
use Rattle.std.proofs.lemmas.List.Sorted.{answers_always}
use Rattle.column_set.proofs.Places.{searched, rises}
use Rattle.column_set.proofs.field_list.FieldList.search.Goals as goal

-- the closure gives a field's column, and the slice is the record's fields
pub returns : goal.returns
returns c =
    let facts = c.binary_search_by_key.ensures in
    let by_column = facts.position (λ field. field.0) (answers_always _ _ _ (λ f a r g called. search rules)) in
    rw (← c.self.view_is, ← c.deref.ensures.value) (searched _ (rw c.deref.ensures.value (rises _ c.self.invariant.formed)) c.args.column.0 _ facts.bound by_column)

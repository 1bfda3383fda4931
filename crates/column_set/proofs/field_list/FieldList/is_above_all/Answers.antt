use Rattle.std.proofs.Common.{◌≡◌, ◌∙◌, ◌-◌, ℕ, List, Some, None, length, sym, subst, arith}
use Rattle.std.specs.Prelude.{IsTrue, slice_get}
use Rattle.std.proofs.lemmas.Bool.{ltb-true}
use Rattle.column_set.specs.Record.{is_record}
use Rattle.column_set.proofs.Places.{gap_at_end, gap_in_nothing}
use Rattle.column_set.proofs.field_list.FieldList.is_above_all.Goals as goal

pub returns-in-Some : goal.returns-in-Some
returns-in-Some c above =
    let formed = subst (λ (l : List (ℕ × List (List ℕ))). IsTrue (is_record l)) c.self.view_is c.self.invariant.formed in
    let there = subst (λ (l : List (ℕ × List (List ℕ))). slice_get l (length l - 1) ≡ Some c.in-Some.last.now) (c.deref.ensures.value ∙ c.self.view_is) (sym c.in-Some.ensures.value) in
    gap_at_end c.args.self.now c.args.column.0 c.in-Some.last.now formed there (omega (arith, ltb-true _ _ above, c.column.ensures))

pub returns-in-None : goal.returns-in-None
returns-in-None c above =
    let none = subst (λ (l : List (ℕ × List (List ℕ))). slice_get l (length l - 1) ≡ None) (c.deref.ensures.value ∙ c.self.view_is) (sym c.in-None.ensures.value) in
    gap_in_nothing c.args.self.now c.args.column.0 none

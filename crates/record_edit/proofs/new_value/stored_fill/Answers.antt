use Rattle.std.proofs.Common.{◌≡◌, ℕ, List, Result, replicate, rules, ap, sym, subst, ◌∙◌, IfOk}
use Rattle.record_edit.proofs.Stored.{stored_in_bit, stored_as_is}
use Rattle.record_edit.proofs.new_value.stored_fill.Goals as goal
use Rattle.record_edit.proofs.new_value.stored_fill.Goals.{in-Bit, in_default}

made_of : {E : Type 0} (r : Result (List ℕ) E) (items stored : List ℕ) → IfOk r (λ made. made ≡ items) → items ≡ stored → IfOk r (λ made. made ≡ stored)
made_of r items stored made is = subst (λ (bytes : List ℕ). IfOk r (λ made. made ≡ bytes)) is made

pub returns : goal.returns
returns c =
    let items = c.in_ok-from_elem.ensures.items_if_clones_equal (λ y h. search rules) in
    elim c.match-kind.branch [
      | in-Bit w ↦ made_of _ _ _ c.new.ensures (items ∙ ap (replicate c.args.count) (w.stored-is ∙ w.as_bit-stored.ensures) ∙ sym (stored_in_bit _ _ _ w.in-Bit.is))
      | in_default w ↦ made_of _ _ _ c.new.ensures (items ∙ ap (replicate c.args.count) w.stored-is ∙ sym (stored_as_is _ _ w.in_default.not-Bit))
    ]

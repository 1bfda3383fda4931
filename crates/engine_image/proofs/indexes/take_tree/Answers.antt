use Rattle.std.proofs.Common.{ℕ, List, ◌<◌, sym, ap, subst, refl, ◌∙◌}
use Rattle.std.specs.List.{position_from}
use Rattle.engine_image.specs.MadeTables.{has_number}
use Rattle.engine_image.proofs.TakenTrees.{not_there, taken, within}
use Rattle.image_opening.specs.declared.opened.OpenedIndex.{OpenedIndex}
use Rattle.engine_image.proofs.indexes.take_tree.Goals as goal

pub remove-requires : goal.remove-requires
remove-requires c =
    let lt = within (has_number c.args.index.0) c.as_slice.result.now c.in-Some.place (sym c.in-Some.ensures) in
    subst (λ (n : ℕ). c.in-Some.place < n) c.as_slice.ensures.len lt

pub returns-in-Some : goal.returns-in-Some
returns-in-Some c =
    taken c.args.index.0 c.args.indexes.now.items c.remove.new.self.items c.in-Some.place c.remove.result (ap (λ (l : List OpenedIndex). position_from (has_number c.args.index.0) 0 l) (sym c.as_slice.ensures.value) ∙ sym c.in-Some.ensures) c.remove.ensures.value c.remove.ensures.items

pub returns-in-None : goal.returns-in-None
returns-in-None c =
    (not_there (has_number c.args.index.0) c.args.indexes.now.items 0 (ap (λ (l : List OpenedIndex). position_from (has_number c.args.index.0) 0 l) (sym c.as_slice.ensures.value) ∙ sym c.in-None.ensures), refl)

-- The first node is taken out and put in again, with an empty key.
use Rattle.std.proofs.Common.{◌+◌, ◌≤◌, List, [], ap, sym, subst, ◌∙◌, arith}
use Rattle.std.specs.Prelude.{insert}
use Rattle.page_image.specs.Page.{Node, PageContents, IsInsertPlace, no_node, node_size, page_size}
use Rattle.common_lemmas.proofs.Edits.{sum-remove}
use Rattle.btree_inplace.proofs.Cuts.{first_cleared, first_place, when_ok}
use Rattle.btree_inplace.proofs.insert.clear_first_key.Goals as goal

pub insert-requires-clause-place : goal.insert-requires-clause-place
insert-requires-clause-place c = subst (λ (p : PageContents). IsInsertPlace p.nodes _ 0) (sym c.remove.ensures.value) (first_place c.args.page.now.nodes c.len.ensures.page.rising c.requires.some)

pub returns-clause-value : goal.returns-clause-value
returns-clause-value c =
    let nodes = c.args.page.now.nodes in
    let fits : page_size c.remove.new.self.nodes + (6 + 0 + 4) ≤ 4096 = omega (arith, ap (λ (p : PageContents). page_size p.nodes) c.remove.ensures.value, sum-remove node_size nodes 0 no_node c.requires.some, c.requires.extent, c.len.ensures.page.size) in
    when_ok c.insert.result _ (c.insert.ensures.full.1 fits) c.insert.ensures.ok
    ∙ ap (λ (p : PageContents). record p { nodes = insert p.nodes 0 (record { key = []; extent = 4; «data» = c.copy_from_slice.new.self }) }) c.remove.ensures.value
    ∙ ap (λ (ns : List Node). record c.args.page.now { nodes = ns }) (first_cleared nodes c.copy_from_slice.new.self c.requires.some c.requires.extent (c.copy_from_slice.ensures.after ∙ c.data.ensures))

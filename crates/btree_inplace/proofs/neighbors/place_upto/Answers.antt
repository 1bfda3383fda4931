-- The page's own search gives the last node up to the key.
use Rattle.std.proofs.Common.{◌≡◌, ◌≤◌, subst, arith}
use Rattle.page_image.specs.Page.{IsInsertPlace}
use Rattle.btree_inplace.specs.Order.{is_upto}
use Rattle.btree_inplace.proofs.Before.{below_none, below_place, is_upto-passes, upto_found}
use Rattle.btree_inplace.proofs.neighbors.place_upto.Goals as goal

pub returns-in-Ok : goal.returns-in-Ok
returns-in-Ok c = (c.in-Ok.ensures.0, upto_found c.args.page.now.nodes c.args.key.now c.in-Ok.i c.len.ensures.page.rising c.in-Ok.ensures.0 c.in-Ok.ensures.1)

pub returns-in-Err-eq0 : goal.returns-in-Err-eq0
returns-in-Err-eq0 c =
    let first : c.in-Err-eq0.field-0 ≡ 0 = omega (arith, c.in-Err-eq0.field-0-test) in
    below_none (is_upto c.args.key.now) c.args.page.now.nodes c.args.key.now (is_upto-passes c.args.key.now) (subst (λ i. IsInsertPlace c.args.page.now.nodes c.args.key.now i) first c.in-Err-eq0.ensures)

pub returns-in-Err : goal.returns-in-Err
returns-in-Err c =
    let place : IsInsertPlace c.args.page.now.nodes c.args.key.now c.in-Err.i = c.in-Err.ensures in
    let some : 1 ≤ c.in-Err.i = omega (arith, c.in-Err.i-test.1) in
    (omega (arith, place.within), below_place (is_upto c.args.key.now) c.args.page.now.nodes c.args.key.now c.in-Err.i (is_upto-passes c.args.key.now) place some)

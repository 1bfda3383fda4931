-- The page's own search gives the last node below the key.
use Rattle.std.proofs.Common.{◌≡◌, ◌≤◌, ◌<◌, length, subst, arith}
use Rattle.page_image.specs.Page.{IsInsertPlace, node_at}
use Rattle.btree_inplace.specs.Order.{is_under}
use Rattle.btree_inplace.proofs.Before.{below_none, below_place, is_under-passes, under_first, under_found}
use Rattle.btree_inplace.proofs.neighbors.place_under.Goals as goal

pub returns-in-Ok-eq0 : goal.returns-in-Ok-eq0
returns-in-Ok-eq0 c =
    let first : c.in-Ok-eq0.field-0 ≡ 0 = omega (arith, c.in-Ok-eq0.field-0-test) in
    let nodes = c.args.page.now.nodes in
    let here = subst (λ i. (i < length nodes) × ((node_at nodes i).key ≡ c.args.key.now)) first c.in-Ok-eq0.ensures in
    under_first nodes c.args.key.now c.len.ensures.page.rising here.0 here.1

pub returns-in-Ok : goal.returns-in-Ok
returns-in-Ok c =
    let some : 1 ≤ c.in-Ok.i = omega (arith, c.in-Ok.i-test.1) in
    (omega (arith, c.in-Ok.ensures.0), under_found c.args.page.now.nodes c.args.key.now c.in-Ok.i c.len.ensures.page.rising c.in-Ok.ensures.0 some c.in-Ok.ensures.1)

pub returns-in-Err-eq0 : goal.returns-in-Err-eq0
returns-in-Err-eq0 c =
    let first : c.in-Err-eq0.field-0 ≡ 0 = omega (arith, c.in-Err-eq0.field-0-test) in
    below_none (is_under c.args.key.now) c.args.page.now.nodes c.args.key.now (is_under-passes c.args.key.now) (subst (λ i. IsInsertPlace c.args.page.now.nodes c.args.key.now i) first c.in-Err-eq0.ensures)

pub returns-in-Err : goal.returns-in-Err
returns-in-Err c =
    let place : IsInsertPlace c.args.page.now.nodes c.args.key.now c.in-Err.i = c.in-Err.ensures in
    let some : 1 ≤ c.in-Err.i = omega (arith, c.in-Err.i-test.1) in
    (omega (arith, place.within), below_place (is_under c.args.key.now) c.args.page.now.nodes c.args.key.now c.in-Err.i (is_under-passes c.args.key.now) place some)

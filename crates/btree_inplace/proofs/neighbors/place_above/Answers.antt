-- The page's own search gives the first node above the key.
use Rattle.std.proofs.Common.{arith}
use Rattle.btree_inplace.proofs.Below.{above_found, above_last, above_none, above_place, is_above-passes}
use Rattle.btree_inplace.specs.Order.{is_above}
use Rattle.btree_inplace.proofs.neighbors.place_above.Goals as goal

pub returns-in-Ok : goal.returns-in-Ok
returns-in-Ok c = record {
  found = λ h. above_found c.args.page.now.nodes c.args.key.now c.in-Ok.i c.len.ensures.page.rising h c.in-Ok.ensures.1;
  none = λ h. above_last c.args.page.now.nodes c.args.key.now c.in-Ok.i c.len.ensures.page.rising (omega (arith, c.in-Ok.ensures.0)) c.in-Ok.ensures.1;
}

pub returns-in-Err : goal.returns-in-Err
returns-in-Err c = record {
  found = λ h. above_place (is_above c.args.key.now) c.args.page.now.nodes c.args.key.now c.in-Err.i (is_above-passes c.args.key.now) c.in-Err.ensures h;
  none = λ h. above_none (is_above c.args.key.now) c.args.page.now.nodes c.args.key.now c.in-Err.i (is_above-passes c.args.key.now) c.in-Err.ensures h;
}

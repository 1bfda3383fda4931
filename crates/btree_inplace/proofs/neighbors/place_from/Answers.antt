-- The page's own search gives the first node from the key on.
use Rattle.std.proofs.Common.{arith}
use Rattle.btree_inplace.proofs.Below.{above_none, above_place, from_found, is_from-passes}
use Rattle.btree_inplace.specs.Order.{is_from}
use Rattle.btree_inplace.proofs.neighbors.place_from.Goals as goal

pub returns-in-Ok : goal.returns-in-Ok
returns-in-Ok c = record {
  found = λ h. from_found c.args.page.now.nodes c.args.key.now c.in-Ok.i c.len.ensures.page.rising c.in-Ok.ensures.0 c.in-Ok.ensures.1;
  none = λ h. absurd (omega (arith, h, c.in-Ok.ensures.0));
}

pub returns-in-Err : goal.returns-in-Err
returns-in-Err c = record {
  found = λ h. above_place (is_from c.args.key.now) c.args.page.now.nodes c.args.key.now c.in-Err.i (is_from-passes c.args.key.now) c.in-Err.ensures h;
  none = λ h. above_none (is_from c.args.key.now) c.args.page.now.nodes c.args.key.now c.in-Err.i (is_from-passes c.args.key.now) c.in-Err.ensures h;
}

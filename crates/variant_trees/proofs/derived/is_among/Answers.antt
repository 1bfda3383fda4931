use Rattle.std.proofs.Common.{sym}
use Rattle.variant_trees.proofs.KeysLeft.{is_absent, is_found}
use Rattle.variant_trees.proofs.derived.is_among.Goals as goal

pub returns-in-Ok : goal.returns-in-Ok
returns-in-Ok c = sym (is_found c.args.keys.now c.args.key.now _ c.in-Ok.ensures.bound c.in-Ok.ensures.ok)

pub returns-in-Err : goal.returns-in-Err
returns-in-Err c = sym (is_absent c.args.keys.now c.args.key.now _ c.requires c.in-Err.ensures.position)

use Rattle.std.proofs.Common.{arith}
use Rattle.std.specs.Prelude.{is_ok}
use Rattle.column_set.proofs.Grouping.{pushed_in_order, pushed_values}
use Rattle.column_set.proofs.rows.Row.push_numbered.Goals as goal

pub invariant_of-self : goal.invariant_of-self
invariant_of-self c = pushed_in_order c.self.inside.values c.push.new.self (is_ok c.push.result) (c.args.number, c.args.value) c.args.self.now c.push.ensures c.self.view_is (omega arith) c.requires.fits c.self.invariant c.requires.behind

pub returns : goal.returns
returns c = pushed_values c.self.inside.values c.push.new.self (is_ok c.push.result) (c.args.number, c.args.value) c.args.self.now c.push.ensures c.self.view_is

-- A value that is there and has not the greatest count.
use Rattle.std.proofs.Common.{◌≡◌, arith}
use Rattle.long_value.specs.Values.{LongValue}
use Rattle.long_value.specs.Stores.{HoldsValue}
use Rattle.tests_trees.proofs.long_values.share.Goals as goal

pub share-requires : goal.share-requires
share-requires c =
    let found : (value : LongValue) × HoldsValue c.args.space.now c.args.store.now c.args.id value = c.has.ensures.there c.if-not-has.false in
    let count : c.count.result ≡ found.0.count = c.count.ensures found.0 found.1 in
    (found.0, found.1, omega (arith, count, c.if-count-ge4294967295.false))

use Rattle.std.proofs.Common.{◌≡◌, ◌*◌, ◌/◌, ◌^◌, ℕ, ap, arith}
use Rattle.column_set.specs.NameIndex.{bucket}
use Rattle.column_set.proofs.Indexing.{scaled_fits, scaled_within}
use Rattle.column_set.proofs.indexed.bucket_of.Goals as goal

pub overflow_mul-scaled : goal.overflow_mul-scaled
overflow_mul-scaled c = let fits = scaled_fits c.hash.result c.args.count (omega (arith, c.hash.type_inv)) (omega (arith, c.ranges.count)) in omega (arith, fits)

pub returns-clause-value : goal.returns-clause-value
unfolding bucket
returns-clause-value c = ap (λ (h : ℕ). h * c.args.count / 2 ^ 64) c.hash.ensures

pub returns-clause-within : goal.returns-clause-within
returns-clause-within c = scaled_within c.hash.result c.args.count (omega (arith, c.hash.type_inv)) c.requires

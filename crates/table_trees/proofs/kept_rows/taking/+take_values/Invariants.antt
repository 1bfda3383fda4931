use Rattle.std.proofs.Common.{ℕ, ◌+◌, suc, length, List}
use Rattle.std.specs.Prelude.{sum_by}
use Rattle.table_trees.proofs.kept_rows.taking.+take_values.Given as goal

abbrev pub decreases-take_values : goal.decreases-take_values
decreases-take_values l = length l.values.now + sum_by (λ (field : ℕ × List (List ℕ)). suc (length field.1)) l.fields.now

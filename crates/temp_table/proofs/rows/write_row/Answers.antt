use Rattle.std.proofs.Common.{List, ℕ, None}
use Rattle.std.specs.Prelude.{option_copied}
use Rattle.temp_table.proofs.Sizes.{short_at}
use Rattle.temp_table.proofs.rows.write_row.Goals as goal

pub write_value-requires : goal.write_value-requires
write_value-requires c = short_at (option_copied {T = List ℕ}) c.args.values.now c.loop-value.value-index None c.requires c.loop-value-test.true

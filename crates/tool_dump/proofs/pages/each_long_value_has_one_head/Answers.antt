use Rattle.tool_dump.proofs.Heads.{one_head_each}
use Rattle.tool_dump.proofs.pages.each_long_value_has_one_head.Goals as goal

pub returns : goal.returns
returns c = one_head_each

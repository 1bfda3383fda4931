use Rattle.tool_dump.proofs.LogReading.{one_text}
use Rattle.tool_dump.proofs.entries.a_log_has_one_text.Goals as goal

pub returns : goal.returns
returns c = one_text c.streams_are_read_back.ensures

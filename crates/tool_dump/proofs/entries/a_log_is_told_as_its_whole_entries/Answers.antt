use Rattle.std.proofs.Common.{refl}
use Rattle.tool_dump.proofs.entries.a_log_is_told_as_its_whole_entries.Goals as goal

pub returns : goal.returns
returns c number entries rest fits cut = record { entries = entries; rest = rest; holds = (fits, refl, c.cut_bytes_begin_with_no_entry.ensures rest cut); is = refl }

use Rattle.std.proofs.Common.{◌∙◌, sym}
use Rattle.record_edit.proofs.Stored.{length-little_endian}
use Rattle.record_edit.proofs.new_value.NewValue.stored_length.Goals as goal

pub returns-in-Number : goal.returns-in-Number
returns-in-Number c = rw c.in-Number.is (c.largest_value.ensures ∙ sym (length-little_endian _ _))

use Rattle.script_text.specs.Calls.{call_of_cursor}
use Rattle.script_text.specs.CallNames.{cursor_reading}
use Rattle.script_text.proofs.LabelledCalls.{cursor_call-same, cursor_call-none}
use Rattle.script_text.proofs.call_names.labelled_call.Goals as goal

pub returns-in-Some : goal.returns-in-Some
returns-in-Some c = cursor_call-same (call_of_cursor c.args.name.now) (cursor_reading c.in-Some.call) c.in-Some.ensures

pub returns-in-None : goal.returns-in-None
returns-in-None c = cursor_call-none (call_of_cursor c.args.name.now) c.in-None.ensures

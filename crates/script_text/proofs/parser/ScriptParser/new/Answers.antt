use Rattle.script_text.proofs.Scripts.{result_with-none}
use Rattle.script_text.proofs.parser.ScriptParser.new.Goals as goal

pub returns-clause-whole : goal.returns-clause-whole
returns-clause-whole c = λ text. result_with-none c.in_ok-kept.kept.calls text c.in_ok-kept.ensures

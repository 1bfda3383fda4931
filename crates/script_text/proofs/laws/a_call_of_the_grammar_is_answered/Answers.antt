use Rattle.script_text.proofs.Served.{script_lines-served}
use Rattle.script_text.proofs.laws.a_call_of_the_grammar_is_answered.Goals as goal

pub returns : goal.returns
returns c = script_lines-served
